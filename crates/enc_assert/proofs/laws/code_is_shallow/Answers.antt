use Rattle.enc_assert.proofs.ShallowAssertions.{produce_shallow, consume_shallow}
use Rattle.enc_assert.proofs.ForgetCode.{forget_shallow}
use Rattle.enc_assert.proofs.laws.code_is_shallow.Goals as goal

pub returns-clause-produce : goal.returns-clause-produce
returns-clause-produce call = produce_shallow

pub returns-clause-consume : goal.returns-clause-consume
returns-clause-consume call = consume_shallow

pub returns-clause-forget : goal.returns-clause-forget
returns-clause-forget call = forget_shallow
