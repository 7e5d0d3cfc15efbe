use Rattle.enc_assert.proofs.SmallAssertions.{produce_linear, consume_linear}
use Rattle.enc_assert.proofs.ForgetCode.{forget_linear}
use Rattle.enc_assert.proofs.laws.code_is_linear.Goals as goal

pub returns-clause-produce : goal.returns-clause-produce
returns-clause-produce call = produce_linear

pub returns-clause-consume : goal.returns-clause-consume
returns-clause-consume call = consume_linear

pub returns-clause-forget : goal.returns-clause-forget
returns-clause-forget call = forget_linear
