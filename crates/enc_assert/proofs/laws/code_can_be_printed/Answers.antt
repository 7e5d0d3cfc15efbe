use Rattle.enc_assert.proofs.LiteralAssertions.{produce_printed, consume_printed, forget_printed}
use Rattle.enc_assert.proofs.laws.code_can_be_printed.Goals as goal

pub returns-clause-produce : goal.returns-clause-produce
returns-clause-produce call = produce_printed

pub returns-clause-consume : goal.returns-clause-consume
returns-clause-consume call = consume_printed

pub returns-clause-forget : goal.returns-clause-forget
returns-clause-forget call = forget_printed
