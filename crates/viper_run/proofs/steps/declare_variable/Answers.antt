use Rattle.std.proofs.Common.{ap}
use Rattle.std.specs.Option.{option_map}
use Rattle.vb_value.specs.Bound.{Bounded}
use Rattle.viper_core.specs.Stmt as s
use Rattle.viper_core.specs.View.{expr_of}
use Rattle.viper_meaning.specs.Statements as m
use Rattle.viper_inhale.proofs.DoesLaws.{same_run}
use Rattle.viper_run.specs.View.{activation_of, configuration_of}
use Rattle.viper_run.proofs.steps.declare_variable.Goals as goal

pub returns-in-None : goal.returns-in-None
returns-in-None c =
    same_run (ap (λ o. m.run_stmt Bounded (activation_of c.args.activation) (s.Var c.args.at c.args.variable (option_map expr_of o)) (configuration_of c.args.configuration.now)) c.in-None.is) (c.declare.ensures c.args.at)

pub returns-in-Some : goal.returns-in-Some
returns-in-Some c =
    same_run (ap (λ o. m.run_stmt Bounded (activation_of c.args.activation) (s.Var c.args.at c.args.variable (option_map expr_of o)) (configuration_of c.args.configuration.now)) c.in-Some.is) c.assign.ensures
