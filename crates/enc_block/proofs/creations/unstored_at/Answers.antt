use Rattle.std.proofs.Common.{◌∙◌, ◌∷◌, [], ap, sym}
use Rattle.std.proofs.lemmas.Result.{on_ok_weaker}
use Rattle.boogie_tree.specs.Whole.{stmts_of}
use Rattle.boogie_tree.specs.declared.exprs.BBase.TheVariants as base
use Rattle.boogie_meaning.specs.Patterns.{avoid_code}
use Rattle.enc_expr.specs.Code.{join}
use Rattle.enc_expr.specs.Place.{number, maps_of}
use Rattle.enc_expr.proofs.BlockLaws.{added}
use Rattle.enc_expr.proofs.RunLaws.{join_skip}
use Rattle.enc_block.specs.Encoding.{unstored_at}
use Rattle.enc_block.proofs.EmittedCalls.{not_stored}
use Rattle.enc_block.proofs.creations.unstored_at.Goals as goal

pub returns-in_ok-avoid-in-Ref : goal.returns-in_ok-avoid-in-Ref
returns-in_ok-avoid-in-Ref c =
    let i = c.args.i in
    on_ok_weaker c.add.result (λ h. added c.args.block.now.items _ h (c.in_ok-avoid-in-Ref.ensures
    ∙ (λ j. avoid_code (base.Ref ∷ []) ((c.local_at-held.ensures ∙ ap (λ xs. number xs i) c.deref.ensures.value) j) ((c.local_at-heap.ensures ∙ ap (λ xs. number xs i) c.deref-in-Ref.ensures.value) j) c.args.reference))
    ∙ ap (λ u. join (stmts_of c.args.block.now.items) (unstored_at u (maps_of c.args.now.now) c.args.reference i)) (sym c.in-Ref.is)) c.add.ensures

pub returns-in-Int : goal.returns-in-Int
returns-in-Int c =
    sym (join_skip (stmts_of c.args.block.now.items)) ∙ ap (join (stmts_of c.args.block.now.items)) (sym (not_stored c.args.ty (maps_of c.args.now.now) c.args.reference c.args.i c.in-Int.is))
