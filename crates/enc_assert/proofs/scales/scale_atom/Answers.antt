use Rattle.boogie_tree.specs.Whole.{expr_of}
use Rattle.enc_expr.specs.Emits.{emit_of}
use Rattle.enc_expr.specs.View.{held_of}
use Rattle.enc_assert.proofs.EmittedCalls.{scale_emits}
use Rattle.enc_assert.proofs.scales.scale_atom.Goals as goal

pub returns : goal.returns
returns c =
    scale_emits (expr_of c.args.scale.now) (expr_of c.in_ok-copied.field-0.value) (emit_of c.args.out.now) (emit_of c.atomic.new.out) (emit_of c.put.new.self) (held_of c.in_ok-held.held) c.in_ok-copied.ensures c.in_ok-held.ensures c.in_ok-put.ensures
