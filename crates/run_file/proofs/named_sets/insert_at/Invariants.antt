use Rattle.std.proofs.Common.{◌+◌, ◌-◌, length}
use Rattle.run_file.proofs.NamedSetLaws.{IsAlike}
use Rattle.run_file.proofs.named_sets.insert_at.Given as goal

-- the sets that were added are empty
abbrev pub invariant-loop-alloc : goal.invariant-loop-alloc
invariant-loop-alloc g l = IsAlike g.K.Ord.cmp l.key l.number l.initial.sets.items l.sets.items

abbrev pub decreases-loop-alloc : goal.decreases-loop-alloc
decreases-loop-alloc g l = l.number + 1 - length l.sets.items
