-- A new local, and its value.
use Rattle.std.proofs.Common.{◌∙◌, None, ap}
use Rattle.boogie_tree.specs.Stmt as s
use Rattle.boogie_tree.specs.Whole.{expr_of, stmts_of}
use Rattle.enc_expr.specs.Emits.{emit_of}
use Rattle.enc_expr.specs.Pieces.{one}
use Rattle.enc_expr.proofs.EmittedForms.{put_as}
use Rattle.enc_block.proofs.calls.fix_one.Goals as goal

pub returns : goal.returns
returns c = record {
  mid = emit_of c.fresh_scalar.new.self;
  declared = c.in_ok-local.ensures;
  set = put_as None (ap stmts_of c.in_ok-block.ensures.items ∙ ap (λ a. one (s.Assign c.in_ok-local.local (expr_of a))) c.into_inner.ensures) c.in_ok-put.ensures;
}
