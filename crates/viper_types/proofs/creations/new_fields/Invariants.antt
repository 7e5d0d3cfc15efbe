-- The names that are left follow the fields so far.
use Rattle.std.proofs.Common.{◌≡◌, [], drop}
use Rattle.viper_scope.specs.Answers.{world_of}
use Rattle.viper_types.specs.Stepping.{new_fields}
use Rattle.viper_types.proofs.creations.new_fields.Given as goal

abbrev pub invariant-loop-name : goal.invariant-loop-name
invariant-loop-name l = new_fields (world_of l.world) l.fields.keys (drop l.name-index l.names) ≡ new_fields (world_of l.world) [] l.names
