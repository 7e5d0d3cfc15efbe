-- The first misfit is among the arguments that are left.
use Rattle.std.proofs.Common.{◌≡◌, drop, map}
use Rattle.viper_syntax.specs.View.{terms_of}
use Rattle.viper_scope.specs.Answers.{typing_of}
use Rattle.viper_scope.specs.Arguments.{misfit}
use Rattle.viper_scope.proofs.arguments.misfit.Given as goal

abbrev pub invariant-loop-i : goal.invariant-loop-i
invariant-loop-i l = misfit (terms_of (drop l.i l.args)) (map typing_of (drop l.i l.typed)) (drop l.i l.params) ≡ misfit (terms_of l.args) (map typing_of l.typed) l.params
