-- The guard is a new local, and is set.
use Rattle.std.proofs.Common.{ap}
use Rattle.boogie_tree.specs.Stmt as s
use Rattle.boogie_tree.specs.Whole.{expr_of, stmts_of}
use Rattle.enc_expr.specs.Emits.{emit_of}
use Rattle.enc_expr.proofs.BlockLaws.{added}
use Rattle.enc_expr.proofs.EmittedParts.{guard_set}
use Rattle.enc_expr.proofs.emits.Emit.guard.Goals as goal

pub returns : goal.returns
returns c =
    guard_set c.args.guard (expr_of c.args.condition) (emit_of c.args.self.now) (emit_of c.fresh_scalar.new.self) (stmts_of c.add.new.items.items) c.in_ok-new.new c.in_ok-new.ensures
    (added c.fresh_scalar.new.self.code.items _ c.in_ok-add.ensures (ap (s.Assign c.in_ok-new.new) c.in_ok-value.ensures))
