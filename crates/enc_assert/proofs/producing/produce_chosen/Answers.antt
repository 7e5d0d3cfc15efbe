use Rattle.std.proofs.lemmas.Result.{on_ok_weaker}
use Rattle.enc_expr.specs.Emits.{emit_of}
use Rattle.enc_expr.specs.View.{atom_of, place_in}
use Rattle.enc_expr.proofs.EmittedForms.{put_as}
use Rattle.enc_assert.specs.Access.{target_of, access_of}
use Rattle.enc_assert.specs.Encoding.{gives_some}
use Rattle.enc_assert.proofs.EmittedRows.{chosen_emits}
use Rattle.enc_assert.proofs.producing.produce_chosen.Goals as goal

pub returns : goal.returns
returns c =
    on_ok_weaker c.put.result (λ h. chosen_emits c.args.reading.guard (access_of c.args.access) (gives_some (place_in c.args.reading) (atom_of c.args.scale) (target_of c.args.access.target))
    (emit_of c.args.out.now) (emit_of c.fresh_scalar.new.self) (emit_of c.put.new.self) c.in_ok-amount.amount c.in_ok-amount.ensures (put_as c.args.reading.guard c.in_ok-give_chosen.ensures h)) c.put.ensures
