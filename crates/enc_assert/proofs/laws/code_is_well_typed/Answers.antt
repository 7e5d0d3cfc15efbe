use Rattle.enc_assert.proofs.TypedAssertions.{produce_typed, consume_typed}
use Rattle.enc_assert.proofs.ForgetCode.{forget_typed}
use Rattle.enc_assert.proofs.laws.code_is_well_typed.Goals as goal

pub returns-clause-produce : goal.returns-clause-produce
returns-clause-produce call = produce_typed

pub returns-clause-consume : goal.returns-clause-consume
returns-clause-consume call = consume_typed

pub returns-clause-forget : goal.returns-clause-forget
returns-clause-forget call = forget_typed
