-- A new state, and its statements.
use Rattle.std.proofs.Common.{None}
use Rattle.enc_expr.specs.Emits.{emit_of}
use Rattle.enc_expr.specs.Place.{maps_of}
use Rattle.enc_expr.proofs.EmittedForms.{put_as}
use Rattle.enc_fold.proofs.EmittedFold.{copying_emits}
use Rattle.enc_fold.proofs.saving.copy.Goals as goal

pub returns : goal.returns
returns c =
    copying_emits c.args.layout.now (maps_of c.args.now.now) (maps_of c.in_ok-own.own) (emit_of c.args.out.now) (emit_of c.fresh_state.new.out) (emit_of c.put.new.self) c.in_ok-own.ensures
    (put_as None c.in_ok-block.ensures c.in_ok-put.ensures)
