-- The names that are left follow the place so far.
use Rattle.std.proofs.Common.{◌≡◌, drop}
use Rattle.viper_scope.specs.Answers.{typing_of, world_of}
use Rattle.viper_types.specs.Answers.{place_of}
use Rattle.viper_types.specs.Stepping.{dotted}
use Rattle.viper_types.proofs.PlaceLaws.{dotted_on}
use Rattle.viper_types.proofs.simple.dotted.Given as goal

abbrev pub invariant-loop-field : goal.invariant-loop-field
invariant-loop-field l =
    dotted_on (world_of l.world) (place_of l.place) l.at (drop l.field-index l.rest) ≡ dotted (world_of l.world) (typing_of l.fn.receiver) l.first l.rest
