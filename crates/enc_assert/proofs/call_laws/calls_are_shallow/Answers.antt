use Rattle.enc_expr.specs.ReadOff.{kinds_at}
use Rattle.enc_assert.proofs.ForgetCode.{forget_shallow}
use Rattle.enc_assert.proofs.ShallowCalls.{produce_call_shallow, consume_call_shallow}
use Rattle.enc_assert.proofs.call_laws.calls_are_shallow.Goals as goal

pub returns-clause-produce : goal.returns-clause-produce
returns-clause-produce call c p scale a ts n formed typed h many = produce_call_shallow c p ts n formed scale a typed h many

pub returns-clause-consume : goal.returns-clause-consume
returns-clause-consume call c p left scale a ts n formed typed h many = consume_call_shallow c p ts n formed scale a typed h many left

pub returns-clause-forget : goal.returns-clause-forget
returns-clause-forget call p ts n = forget_shallow (kinds_at p ts).layout p.now n
