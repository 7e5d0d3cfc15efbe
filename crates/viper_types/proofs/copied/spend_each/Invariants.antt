-- What was spent so far is what the terms copy that were seen.
use Rattle.std.proofs.Common.{◌≡◌, ◌+◌, drop, map}
use Rattle.viper_syntax.specs.View.{term_of}
use Rattle.viper_scope.specs.Answers.{world_of}
use Rattle.viper_types.specs.Answers.{optional_bodies_of}
use Rattle.viper_types.specs.Copied.{copied_by_terms}
use Rattle.viper_types.proofs.copied.spend_each.Given as goal

abbrev pub invariant-loop-term : goal.invariant-loop-term
invariant-loop-term l =
    l.left + copied_by_terms (world_of l.world) (optional_bodies_of l.bodies) (map term_of l.terms) ≡ l.fn.budget + copied_by_terms (world_of l.world) (optional_bodies_of l.bodies) (map term_of (drop l.term-index l.terms))
