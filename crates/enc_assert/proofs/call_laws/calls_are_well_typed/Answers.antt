use Rattle.enc_assert.proofs.TypedCalls.{produce_call_typed, consume_call_typed, forget_call_typed}
use Rattle.enc_assert.proofs.call_laws.calls_are_well_typed.Goals as goal

pub returns-clause-produce : goal.returns-clause-produce
returns-clause-produce call c p scale a ts formed typed h many scales = produce_call_typed c p ts formed scale a typed h many scales

pub returns-clause-consume : goal.returns-clause-consume
returns-clause-consume call c p left scale a ts formed typed h many held scales = consume_call_typed c p ts formed scale a typed h many scales left held

pub returns-clause-forget : goal.returns-clause-forget
returns-clause-forget call c p ts formed h many = forget_call_typed c p ts formed h many
