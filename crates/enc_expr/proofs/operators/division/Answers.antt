-- The divisor is written twice.
use Rattle.std.proofs.Common.{◌∙◌, ap}
use Rattle.std.proofs.lemmas.Result.{IfOk-weaker}
use Rattle.enc_expr.specs.Emits.{emit_of}
use Rattle.enc_expr.specs.Operators.{quotient_operand}
use Rattle.enc_expr.specs.View.{seen, atom_of, place_in}
use Rattle.enc_expr.proofs.EmittedForms.{valued, division_emits}
use Rattle.enc_expr.proofs.operators.division.Goals as goal

pub returns : goal.returns
returns c =
    IfOk-weaker c.quotient.result _ _ (λ x same. valued (same ∙ ap (quotient_operand c.args.op (seen c.args.left)) c.expr.ensures) (division_emits (place_in c.args.reading) c.args.reading.guard c.args.op c.args.at (seen c.args.left) (seen c.args.right)
    (emit_of c.args.out.now) (emit_of c.tested_divisor.new.out) (atom_of c.in_ok-divisor.divisor) c.in_ok-divisor.ensures)) c.quotient.ensures
