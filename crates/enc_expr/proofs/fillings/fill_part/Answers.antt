-- Arguments in locals, the amount as an atom, and the block.
use Rattle.std.proofs.Common.{◌∙◌, refl, ap}
use Rattle.std.proofs.lemmas.Result.{on_ok_weaker}
use Rattle.boogie_tree.specs.Whole.{stmts_of}
use Rattle.enc_expr.specs.Code.{join}
use Rattle.enc_expr.specs.Emits.{emit_of}
use Rattle.enc_expr.specs.Encoding.{filled_by, fill_instance_code}
use Rattle.enc_expr.specs.Pieces.{index}
use Rattle.enc_expr.specs.View.{seen, all_seen, atom_of, held_of, located_of, place_in}
use Rattle.enc_expr.proofs.BlockLaws.{all_added, then_added}
use Rattle.enc_expr.proofs.EmittedForms.{put_as, instance_emits}
use Rattle.enc_expr.proofs.fillings.fill_part.Goals as goal

pub returns : goal.returns
returns c =
    let fill = c.in_ok-fill.ensures ∙ ap (λ ls. fill_instance_code (place_in c.args.reading) (atom_of c.args.source.scale) c.args.predicate.number (index ls) (atom_of c.in_ok-amount.amount.atom) c.args.source.content) c.deref.ensures.value in
    on_ok_weaker c.put.result (λ h. instance_emits (place_in c.args.reading) c.args.reading.guard (atom_of c.args.source.scale) c.args.predicate.number c.args.predicate.at c.args.source.content (all_seen c.args.args.items) (seen c.args.amount)
    (emit_of c.args.out.now) (emit_of c.in_locals.new.out) (emit_of c.atomic.new.out) (emit_of c.put.new.self) (located_of c.in_ok-args.args) (held_of c.in_ok-amount.amount) c.in_ok-args.ensures c.in_ok-amount.ensures
    (put_as c.args.reading.guard (then_added (stmts_of c.in_ok-args.args.sets.items) (stmts_of c.in_ok-amount.amount.sets.items) _ (all_added c.in_ok-args.args.sets.items c.in_ok-amount.amount.sets.items c.in_ok-add_all.ensures refl)
    (c.in_ok-fill_by.ensures ∙ (λ i. join (stmts_of c.add_all.new.items.items) (filled_by (c.label-label.ensures i) (atom_of c.in_ok-amount.amount.atom) c.args.source.content (fill i))))) h)) c.put.ensures
