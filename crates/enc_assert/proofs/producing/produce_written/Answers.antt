use Rattle.std.proofs.Common.{refl}
use Rattle.std.proofs.lemmas.Result.{on_ok_weaker}
use Rattle.boogie_tree.specs.Whole.{stmts_of}
use Rattle.enc_expr.specs.Emits.{emit_of}
use Rattle.enc_expr.specs.View.{atom_of, held_of, place_in}
use Rattle.enc_expr.proofs.BlockLaws.{all_added, then_added}
use Rattle.enc_expr.proofs.EmittedForms.{put_as}
use Rattle.enc_assert.specs.Access.{target_of, access_of}
use Rattle.enc_assert.specs.Encoding.{gives_code}
use Rattle.enc_assert.proofs.EmittedRows.{written_emits}
use Rattle.enc_assert.proofs.producing.produce_written.Goals as goal

pub returns : goal.returns
returns c =
    let sets = c.args.access.sets.items in
    on_ok_weaker c.put.result (λ h. written_emits c.args.reading.guard (access_of c.args.access) (gives_code (place_in c.args.reading) (atom_of c.args.scale) c.args.place (target_of c.args.access.target))
    (emit_of c.args.out.now) (emit_of c.atomic.new.out) (emit_of c.put.new.self) (held_of c.in_ok-amount.amount) c.in_ok-amount.ensures
    (put_as c.args.reading.guard (then_added (stmts_of sets) (stmts_of c.in_ok-amount.amount.sets.items) _ (all_added sets c.in_ok-amount.amount.sets.items c.in_ok-add_all.ensures refl) c.in_ok-give_written.ensures) h)) c.put.ensures
