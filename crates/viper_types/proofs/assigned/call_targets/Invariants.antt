-- The numbers that were seen are those of the targets so far, which the names that are left follow.
use Rattle.std.proofs.Common.{◌≡◌, [], drop, map}
use Rattle.viper_types.specs.Answers.{target_of}
use Rattle.viper_types.specs.Stepping.{call_targets, numbers_in}
use Rattle.viper_types.proofs.assigned.call_targets.Given as goal

abbrev pub invariant-loop-x : goal.invariant-loop-x
invariant-loop-x l = record {
  seen : l.seen.keys ≡ numbers_in (map target_of l.targets.items);
  rest : call_targets l.scope (map target_of l.targets.items) (drop l.x-index l.names) ≡ call_targets l.scope [] l.names;
}
