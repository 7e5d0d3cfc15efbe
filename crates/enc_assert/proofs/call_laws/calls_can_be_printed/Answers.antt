use Rattle.enc_assert.proofs.PrintedCalls.{produce_call_printed, consume_call_printed, forget_call_printed}
use Rattle.enc_assert.proofs.call_laws.calls_can_be_printed.Goals as goal

pub returns-clause-produce : goal.returns-clause-produce
returns-clause-produce call c p scale a ts formed typed h many scales literals = produce_call_printed c p ts formed scale a typed h many scales literals

pub returns-clause-consume : goal.returns-clause-consume
returns-clause-consume call c p left scale a ts formed typed h many held scales literals = consume_call_printed c p ts formed scale a typed h many scales literals left held

pub returns-clause-forget : goal.returns-clause-forget
returns-clause-forget call c p ts formed h many = forget_call_printed c p ts formed h many
