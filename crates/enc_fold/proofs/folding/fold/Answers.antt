-- Arguments and amount, the test, and the rest.
use Rattle.std.proofs.Common.{◌∙◌, None, length, refl, ap}
use Rattle.std.proofs.lemmas.Result.{on_ok_weaker}
use Rattle.viper_core.specs.View.{expr_of as viper, exprs_of, assertion_of, fold_of}
use Rattle.boogie_tree.specs.Whole.{stmts_of}
use Rattle.enc_expr.specs.Code.{join}
use Rattle.enc_expr.specs.Emits.{emit_of}
use Rattle.enc_expr.specs.Pieces.{check_positive}
use Rattle.enc_expr.specs.View.{seen, all_seen, atom_of, held_of, located_of, kinds_of, place_in}
use Rattle.enc_expr.proofs.BlockLaws.{all_added, then_added}
use Rattle.enc_expr.proofs.EmittedForms.{put_as, read_as}
use Rattle.enc_fold.proofs.EmittedFold.{codes_as, closing_as, fold_emits}
use Rattle.enc_fold.proofs.folding.fold.Goals as goal

pub returns : goal.returns
returns c =
    let kinds = kinds_of c.args.reading.kinds in let place = place_in c.args.reading in let f = c.args.f.now in let body = assertion_of c.args.body.now in
    let args = c.in_ok-args.args in let amount = c.in_ok-amount.amount in let atom = atom_of amount.atom in
    on_ok_weaker c.close.result (λ h. fold_emits kinds place (fold_of f) body
    (emit_of c.args.out.now) (emit_of c.check_all.new.out) (emit_of c.check.new.out) (emit_of c.in_locals.new.out) (emit_of c.atomic.new.out) (emit_of c.put.new.self) (emit_of c.close.new.out)
    (all_seen c.in_ok-given.given.items) (seen c.in_ok-asked.asked) (located_of args) (held_of amount)
    (codes_as (length (emit_of c.args.out.now).locals) c.always-plain.ensures.kinds c.always-plain.ensures.place c.always-plain.ensures.guard (ap exprs_of c.deref.ensures.value) c.in_ok-given.ensures)
    (read_as _ _ _ _ _ _ (viper f.amount) (length (emit_of c.check_all.new.out).locals) c.always-plain.ensures.kinds c.always-plain.ensures.place c.always-plain.ensures.guard c.in_ok-asked.ensures)
    c.in_ok-args.ensures c.in_ok-amount.ensures
    (put_as None (then_added (stmts_of args.sets.items) (stmts_of amount.sets.items) _ (all_added args.sets.items amount.sets.items c.in_ok-add_all.ensures refl)
    (c.in_ok-check_positive.ensures ∙ ap (λ l. join (stmts_of c.add_all.new.items.items) (check_positive l atom)) c.label-label.ensures)) c.in_ok-put.ensures)
    (closing_as kinds place f.predicate body atom (length (emit_of c.put.new.self).locals) c.deref-2.ensures.value h)) c.close.ensures
