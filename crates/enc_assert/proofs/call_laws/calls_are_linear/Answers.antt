use Rattle.std.specs.Bool.{⊤}
use Rattle.std.proofs.Common.{◌≡◌, ◌+◌, ◌*◌, length, sym, subst}
use Rattle.enc_expr.specs.Code.{Emitting}
use Rattle.enc_expr.specs.Nodes.{written}
use Rattle.enc_assert.proofs.CallLaws.{forget_read}
use Rattle.enc_assert.proofs.ForgetCode.{forget_linear}
use Rattle.enc_assert.proofs.SmallCalls.{produce_call_linear, consume_call_linear}
use Rattle.enc_assert.proofs.call_laws.calls_are_linear.Goals as goal

pub returns-clause-produce : goal.returns-clause-produce
returns-clause-produce call c p scale a ts n formed typed h many = produce_call_linear c p ts n formed scale a typed h many

pub returns-clause-consume : goal.returns-clause-consume
returns-clause-consume call c p left scale a ts n formed typed h many = consume_call_linear c p ts n formed scale a typed h many left

pub returns-clause-forget : goal.returns-clause-forget
returns-clause-forget call c p ts n h many =
    subst (λ (m : Emitting ⊤). written (m n) ≡ 13 * (length c.program.layout.fields + length c.program.layout.keys)) (sym (forget_read c p ts h many)) (forget_linear c.program.layout p.now n)
