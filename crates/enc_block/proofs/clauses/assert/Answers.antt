use Rattle.std.proofs.Common.{length}
use Rattle.std.proofs.lemmas.Result.{on_ok_weaker}
use Rattle.viper_core.specs.View.{assertion_of}
use Rattle.enc_expr.specs.Emits.{emit_of}
use Rattle.enc_expr.specs.Pieces.{one_real}
use Rattle.enc_expr.specs.Place.{maps_of}
use Rattle.enc_expr.specs.View.{kinds_of}
use Rattle.enc_assert.proofs.EmittedRows.{consumed_as}
use Rattle.enc_block.specs.View.{home_of}
use Rattle.enc_block.proofs.EmittedStatements.{one_asserted}
use Rattle.enc_block.proofs.clauses.assert.Goals as goal

pub returns : goal.returns
returns c =
    let left = maps_of c.in_ok-left.left in
    on_ok_weaker c.consume.result (λ h. one_asserted (kinds_of c.args.setting.kinds) (home_of c.args.setting.home.now) c.args.at (emit_of c.args.out.now) (emit_of c.save.new.out) (emit_of c.consume.new.out) left c.in_ok-left.ensures (assertion_of c.args.assertion.now)
    (consumed_as one_real (assertion_of c.args.assertion.now) (length (emit_of c.save.new.out).locals) left c.reading.ensures.kinds c.reading.ensures.place c.reading.ensures.guard h)) c.consume.ensures
