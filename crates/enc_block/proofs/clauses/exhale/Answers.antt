use Rattle.std.proofs.Common.{◌∙◌, length, ap}
use Rattle.std.proofs.lemmas.Result.{on_ok_weaker}
use Rattle.viper_core.specs.View.{assertion_of}
use Rattle.enc_expr.specs.Emits.{emit_of}
use Rattle.enc_expr.specs.Pieces.{one_real}
use Rattle.enc_expr.specs.Place.{maps_of, with_now}
use Rattle.enc_expr.specs.View.{kinds_of}
use Rattle.enc_assert.proofs.EmittedRows.{consumed_as}
use Rattle.enc_block.specs.View.{home_of}
use Rattle.enc_block.proofs.EmittedStatements.{one_given_up}
use Rattle.enc_block.proofs.clauses.exhale.Goals as goal

pub returns : goal.returns
returns c =
    let start = maps_of c.in_ok-start.start in
    on_ok_weaker c.forget.result (λ h. one_given_up (kinds_of c.args.setting.kinds) (home_of c.args.setting.home.now) c.args.at (emit_of c.args.out.now) (emit_of c.save.new.out) (emit_of c.consume.new.out) start c.in_ok-start.ensures
    (assertion_of c.args.assertion.now) (emit_of c.forget.new.out)
    (consumed_as one_real (assertion_of c.args.assertion.now) (length (emit_of c.save.new.out).locals) (maps_of c.args.setting.home.now.now) (c.with_now-reading.ensures.kinds ∙ c.reading.ensures.kinds)
    (c.with_now-reading.ensures.place ∙ ap (with_now start) c.reading.ensures.place) (c.with_now-reading.ensures.guard ∙ c.reading.ensures.guard) c.in_ok-consume.ensures) h) c.forget.ensures
