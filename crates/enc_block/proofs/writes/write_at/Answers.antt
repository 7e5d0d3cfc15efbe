-- The tests, and then the value.
use Rattle.std.proofs.Common.{◌∙◌, None, ap}
use Rattle.std.proofs.lemmas.Result.{on_ok_weaker}
use Rattle.boogie_tree.specs.Expr as t
use Rattle.boogie_tree.specs.Stmt as s
use Rattle.boogie_tree.specs.Whole.{stmts_of}
use Rattle.enc_expr.specs.Code.{join}
use Rattle.enc_expr.specs.Pieces.{one}
use Rattle.enc_expr.specs.Place.{number}
use Rattle.enc_expr.specs.View.{seen, atom_of, place_in}
use Rattle.enc_expr.proofs.BlockLaws.{then_added}
use Rattle.enc_expr.proofs.EmittedForms.{put_as}
use Rattle.enc_block.specs.Encoding.{write_checks}
use Rattle.enc_block.proofs.writes.write_at.Goals as goal

pub returns : goal.returns
returns c =
    let atom = atom_of c.args.receiver.atom in
    on_ok_weaker c.put.result (λ h. put_as None (then_added (stmts_of c.args.receiver.sets.items) (write_checks (place_in c.args.reading) c.args.field c.args.part atom) _ c.in_ok-write_checks.ensures
    (c.in_ok-put_value.ensures ∙ ap (λ m. join (stmts_of c.write_checks.new.block.items) (one (s.Put m (t.more atom t.none) (seen c.args.value).expr))) (c.number-heap.ensures ∙ ap (λ xs. number xs c.args.field) c.deref.ensures.value))) h) c.put.ensures
