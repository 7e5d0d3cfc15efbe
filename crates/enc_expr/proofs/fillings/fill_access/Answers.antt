-- Receiver and amount as atoms, a local for the value, and the block.
use Rattle.std.proofs.Common.{◌∙◌, refl, ap}
use Rattle.std.proofs.lemmas.Result.{on_ok_weaker}
use Rattle.boogie_tree.specs.Whole.{stmts_of}
use Rattle.boogie_tree.specs.Values.{plain_type}
use Rattle.enc_expr.specs.Code.{join}
use Rattle.enc_expr.specs.Emits.{emit_of}
use Rattle.enc_expr.specs.Encoding.{filled_by}
use Rattle.moves.specs.Scalars.{base_for}
use Rattle.enc_expr.specs.View.{seen, atom_of, held_of, kinds_of, place_in}
use Rattle.enc_expr.proofs.BlockLaws.{all_added, then_added}
use Rattle.enc_expr.proofs.EmittedForms.{put_as, acc_emits}
use Rattle.enc_expr.proofs.EmittedParts.{declared_as}
use Rattle.enc_expr.proofs.fillings.fill_access.Goals as goal

pub returns : goal.returns
returns c =
    on_ok_weaker c.put.result (λ h. acc_emits (kinds_of c.args.reading.kinds) (place_in c.args.reading) c.args.reading.guard (atom_of c.args.source.scale) c.args.field.number c.args.field.at c.args.source.content (seen c.args.receiver) (seen c.args.amount)
    (emit_of c.args.out.now) (emit_of c.atomic.new.out) (emit_of c.atomic-2.new.out) (emit_of c.fresh_scalar.new.self) (emit_of c.put.new.self) (held_of c.in_ok-receiver.receiver) (held_of c.in_ok-amount.amount) c.in_ok-value.value
    c.in_ok-receiver.ensures c.in_ok-amount.ensures (declared_as (ap plain_type (c.base_for.ensures ∙ ap base_for c.field.ensures)) c.in_ok-value.ensures)
    (put_as c.args.reading.guard (then_added (stmts_of c.in_ok-receiver.receiver.sets.items) (stmts_of c.in_ok-amount.amount.sets.items) _ (all_added c.in_ok-receiver.receiver.sets.items c.in_ok-amount.amount.sets.items c.in_ok-add_all.ensures refl)
    (c.in_ok-fill_by.ensures ∙ (λ i. join (stmts_of c.add_all.new.items.items) (filled_by (c.label-label.ensures i) (atom_of c.in_ok-amount.amount.atom) c.args.source.content (c.in_ok-fill.ensures i))))) h)) c.put.ensures
