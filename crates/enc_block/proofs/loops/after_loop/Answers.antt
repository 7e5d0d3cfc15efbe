use Rattle.std.proofs.Common.{length, ap}
use Rattle.std.proofs.lemmas.Result.{on_ok_weaker}
use Rattle.viper_core.specs.View.{assertions_of, expr_of as viper}
use Rattle.boogie_tree.specs.Expr as t
use Rattle.enc_expr.specs.Emits.{emit_of}
use Rattle.enc_expr.specs.View.{kinds_of}
use Rattle.enc_block.specs.Encoding.{produce_all_code, guard_code}
use Rattle.enc_block.specs.Home.{place}
use Rattle.enc_block.specs.View.{home_of}
use Rattle.enc_block.proofs.EmittedStatements.{both_emit, all_produced_as}
use Rattle.enc_block.proofs.loops.after_loop.Goals as goal

pub returns : goal.returns
returns c =
    let k = kinds_of c.args.setting.kinds in
    let home = home_of c.args.setting.home.now in
    let w = c.args.w.now in
    on_ok_weaker c.guard_fails.result (λ h. both_emit (produce_all_code k (place home w.at) (assertions_of w.invariants.items)) (guard_code k home w.at (viper w.guard) t.Not) (emit_of c.args.out.now) (emit_of c.produce_all.new.out) (emit_of c.guard_fails.new.out)
    (all_produced_as (length (emit_of c.args.out.now).locals) c.reading.ensures.kinds c.reading.ensures.place (ap assertions_of c.deref.ensures.value) c.in_ok-produce_all.ensures) h) c.guard_fails.ensures
