-- What was spent so far is what the terms copy that were seen.
use Rattle.std.proofs.Common.{◌≡◌, ◌+◌, drop}
use Rattle.viper_syntax.specs.View.{terms_of}
use Rattle.viper_scope.specs.Answers.{world_of}
use Rattle.viper_types.specs.Answers.{optional_bodies_of}
use Rattle.viper_types.specs.Copied.{copied_all}
use Rattle.viper_types.proofs.copied.+terms.Given as goal

abbrev pub invariant-spend_terms-loop-term : goal.invariant-spend_terms-loop-term
invariant-spend_terms-loop-term l =
    l.left + copied_all (world_of l.world) (optional_bodies_of l.bodies) (terms_of l.terms) ≡ l.fn.budget + copied_all (world_of l.world) (optional_bodies_of l.bodies) (terms_of (drop l.term-index l.terms))
