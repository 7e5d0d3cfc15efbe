-- The divisor as an atom, and its test.
use Rattle.std.proofs.Common.{◌∙◌, ap}
use Rattle.boogie_tree.specs.Whole.{stmts_of}
use Rattle.enc_expr.specs.Code.{join}
use Rattle.enc_expr.specs.Emits.{emit_of}
use Rattle.enc_expr.specs.Pieces.{check_divisor}
use Rattle.enc_expr.specs.View.{seen, atom_of, held_of, place_in}
use Rattle.enc_expr.proofs.EmittedForms.{put_as, divisor_emits}
use Rattle.enc_expr.proofs.operators.tested_divisor.Goals as goal

pub returns : goal.returns
returns c =
    divisor_emits (place_in c.args.reading) c.args.reading.guard c.args.at (seen c.args.right)
    (emit_of c.args.out.now) (emit_of c.atomic.new.out) (emit_of c.put.new.self) (held_of c.in_ok-divisor.divisor) c.in_ok-divisor.ensures
    (put_as c.args.reading.guard (c.in_ok-check_divisor.ensures ∙ ap (λ l. join (stmts_of c.in_ok-divisor.divisor.sets.items) (check_divisor l (atom_of c.in_ok-divisor.divisor.atom))) c.label.ensures) c.in_ok-put.ensures)
