use Rattle.std.proofs.Common.{◌∙◌, length, ap, sym}
use Rattle.std.proofs.lemmas.Result.{on_ok_weaker}
use Rattle.viper_core.specs.View.{assertion_of, assertions_of}
use Rattle.enc_expr.specs.Emits.{emit_of}
use Rattle.enc_expr.specs.Place.{maps_of, with_now}
use Rattle.enc_expr.specs.View.{kinds_of}
use Rattle.enc_block.specs.View.{home_of}
use Rattle.enc_block.proofs.EmittedStatements.{nothing_left, nothing_mapped, given_up, none_given_up, all_consumed_at}
use Rattle.enc_block.proofs.clauses.exhale_all.Goals as goal

pub returns-then-is_empty : goal.returns-then-is_empty
returns-then-is_empty c =
    on_ok_weaker c.forget.result (λ h. none_given_up (kinds_of c.args.setting.kinds) (home_of c.args.setting.home.now) c.args.at (assertions_of c.args.clauses.now) (length (emit_of c.args.out.now).locals)
    (nothing_mapped assertion_of c.args.clauses.now (sym c.is_empty.ensures ∙ c.if-is_empty.true)) h) c.forget.ensures

pub returns : goal.returns
returns c =
    let start = maps_of c.in_ok-start.start in
    on_ok_weaker c.forget-2.result (λ h. given_up (kinds_of c.args.setting.kinds) (home_of c.args.setting.home.now) c.args.at (emit_of c.args.out.now) (emit_of c.save.new.out) (emit_of c.consume_all.new.out) start c.in_ok-start.ensures
    (assertions_of c.args.clauses.now) (emit_of c.forget-2.new.out) (nothing_left assertion_of c.args.clauses.now (sym c.is_empty.ensures ∙ c.if-is_empty.false))
    (all_consumed_at (maps_of c.args.setting.home.now.now) (assertions_of c.args.clauses.now) (length (emit_of c.save.new.out).locals) (c.with_now-reading.ensures.kinds ∙ c.reading.ensures.kinds) (c.with_now-reading.ensures.place ∙ ap (with_now start) c.reading.ensures.place) c.in_ok-consume_all.ensures) h) c.forget-2.ensures
