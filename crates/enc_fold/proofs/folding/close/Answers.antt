-- The copies, the body, and the content.
use Rattle.std.proofs.Common.{◌∙◌, None, length, ap}
use Rattle.std.proofs.lemmas.Result.{on_ok_weaker}
use Rattle.viper_core.specs.View.{assertion_of}
use Rattle.boogie_tree.specs.Stmt as s
use Rattle.boogie_tree.specs.Whole.{stmts_of}
use Rattle.enc_expr.specs.Code.{join}
use Rattle.enc_expr.specs.Emits.{emit_of}
use Rattle.enc_expr.specs.Encoding.{fill_instance_code}
use Rattle.enc_expr.specs.Kinds.{body_kinds}
use Rattle.enc_expr.specs.Pieces.{index, one_real}
use Rattle.enc_expr.specs.Place.{maps_of, with_now, with_vars}
use Rattle.enc_expr.specs.Plain.{content_expr}
use Rattle.enc_expr.specs.View.{atom_of, kinds_of, place_in}
use Rattle.enc_expr.proofs.EmittedForms.{put_as}
use Rattle.enc_assert.proofs.EmittedRows.{consumed_as}
use Rattle.enc_fold.proofs.EmittedFold.{closing_emits}
use Rattle.enc_fold.proofs.folding.close.Goals as goal

pub returns : goal.returns
returns c =
    let body = assertion_of c.args.body.now in let args = c.args.args.now in let amount = atom_of c.args.amount in
    let start = maps_of c.in_ok-start.start in let now = place_in c.args.reading in
    let kinds = c.in_body-inside.ensures.kinds ∙ ap (λ k. body_kinds k c.args.predicate) (c.with_now.ensures.kinds ∙ c.always.ensures.kinds) in
    let place = c.in_body-inside.ensures.place ∙ ap (with_vars args) (c.with_now.ensures.place ∙ ap (with_now start) c.always.ensures.place) in
    let guard = c.in_body-inside.ensures.guard ∙ c.with_now.ensures.guard ∙ c.always.ensures.guard in
    let fill = fill_instance_code now one_real c.args.predicate (index args) amount c.in_ok-content.content in
    on_ok_weaker c.put.result (λ h. closing_emits (kinds_of c.args.reading.kinds) now c.args.predicate body args amount
    (emit_of c.args.out.now) (emit_of c.save.new.out) (emit_of c.consume.new.out) (emit_of c.fresh_scalar.new.self) (emit_of c.put.new.self) start c.in_ok-content.content c.in_ok-start.ensures
    (consumed_as amount body (length (emit_of c.save.new.out).locals) now.now kinds place guard c.in_ok-consume.ensures) c.in_ok-content.ensures
    (put_as None (c.in_ok-fill_whole.ensures
    ∙ ap (λ xs. join (stmts_of xs) fill) c.in_ok-block.ensures.items
    ∙ ap (λ x. s.first (s.Assign c.in_ok-content.content x) fill) (c.in_ok-value.ensures ∙ (λ i. content_expr (kinds i) (place i) body))) h)) c.put.ensures
