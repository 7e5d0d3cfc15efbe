-- What the choices that are left make of the builder is what all make of the first one.
use Rattle.std.proofs.Common.{◌≡◌, drop}
use Rattle.boogie_wp.specs.View.{begun_of, builder_of}
use Rattle.boogie_wp.proofs.ChangeLaws.{steps_of}
use Rattle.boogie_wp.proofs.builder.ConditionsBuilder.merge.Given as goal

abbrev pub invariant-loop-choice : goal.invariant-loop-choice
invariant-loop-choice l =
    (steps_of l.n l.condition (drop l.choice-index l.choices) (builder_of l.self) ≡ steps_of l.n l.condition l.choices (builder_of l.initial.self))
    × (begun_of l.self ≡ begun_of l.initial.self)
