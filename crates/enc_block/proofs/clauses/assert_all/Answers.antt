use Rattle.std.proofs.Common.{◌∙◌, length, sym}
use Rattle.std.proofs.lemmas.Result.{on_ok_weaker}
use Rattle.viper_core.specs.View.{assertion_of, assertions_of}
use Rattle.enc_expr.specs.Emits.{emit_of}
use Rattle.enc_expr.specs.Place.{maps_of}
use Rattle.enc_expr.specs.View.{kinds_of}
use Rattle.enc_block.specs.View.{home_of}
use Rattle.enc_block.proofs.EmittedStatements.{nothing_left, nothing_mapped, all_asserted, none_asserted, all_consumed_at}
use Rattle.enc_block.proofs.clauses.assert_all.Goals as goal

pub returns-then-is_empty : goal.returns-then-is_empty
returns-then-is_empty c =
    none_asserted (kinds_of c.args.setting.kinds) (home_of c.args.setting.home.now) c.args.at (assertions_of c.args.clauses.now) (emit_of c.args.out.now)
    (nothing_mapped assertion_of c.args.clauses.now (sym c.is_empty.ensures ∙ c.if-is_empty.true))

pub returns : goal.returns
returns c =
    on_ok_weaker c.consume_all.result (λ h. all_asserted (kinds_of c.args.setting.kinds) (home_of c.args.setting.home.now) c.args.at (emit_of c.args.out.now) (emit_of c.save.new.out) (emit_of c.consume_all.new.out) (maps_of c.in_ok-left.left) c.in_ok-left.ensures
    (assertions_of c.args.clauses.now) (nothing_left assertion_of c.args.clauses.now (sym c.is_empty.ensures ∙ c.if-is_empty.false))
    (all_consumed_at (maps_of c.in_ok-left.left) (assertions_of c.args.clauses.now) (length (emit_of c.save.new.out).locals) c.reading.ensures.kinds c.reading.ensures.place h)) c.consume_all.ensures
