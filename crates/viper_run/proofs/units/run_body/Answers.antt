use Rattle.std.proofs.Common.{sym, ap, subst}
use Rattle.vb_value.specs.Bound.{Bounded}
use Rattle.viper_core.specs.View.{body_of, method_of, stmts_of}
use Rattle.viper_meaning.specs.StatementLiterals.{AreWithinStmts}
use Rattle.viper_meaning.proofs.ShapeLaws.{run_block_shape}
use Rattle.viper_meaning.proofs.StatementKeptLaws.{run_block_within}
use Rattle.viper_inhale.proofs.DoesLaws.{passed}
use Rattle.viper_run.specs.View.{activation_of, configuration_of}
use Rattle.viper_run.proofs.ReadyLaws.{stays_ready, within_of}
use Rattle.viper_run.proofs.UnitLaws.{block_stops, block_goes}
use Rattle.viper_run.proofs.units.run_body.Goals as goal

pub returns-in_err-run_block : goal.returns-in_err-run_block
returns-in_err-run_block c =
    passed _ _ c.from_residual.ensures.1 (block_stops (activation_of c.args.activation) (method_of c.args.method.now) (body_of c.args.body.now) (configuration_of c.args.configuration.now) (ap stmts_of c.deref.ensures.value) c.in_err-run_block.ensures)

pub end_body-requires-clause-ready : goal.end_body-requires-clause-ready
end_body-requires-clause-ready c =
    let k = activation_of c.args.activation in
    let xs = stmts_of c.deref.result.now in
    let d = configuration_of c.args.configuration.now in
    let r = c.requires.ready in
    stays_ready (run_block_within k r.program r.old xs d (subst (λ ys. AreWithinStmts (stmts_of ys)) (sym c.deref.ensures.value) c.requires.body_within.stmts) (within_of r)) (run_block_shape Bounded k xs d r.state.maps) r c.in_ok-run_block.ensures

pub returns : goal.returns
returns c =
    block_goes (activation_of c.args.activation) (method_of c.args.method.now) (body_of c.args.body.now) (configuration_of c.args.configuration.now) (ap stmts_of c.deref.ensures.value) c.in_ok-run_block.ensures c.end_body.ensures
