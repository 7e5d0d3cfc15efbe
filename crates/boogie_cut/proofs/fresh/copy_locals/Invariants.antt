-- The locals so far.
use Rattle.std.proofs.Common.{◌≡◌, take}
use Rattle.boogie_tree.specs.Whole.{locals_of}
use Rattle.boogie_cut.proofs.fresh.copy_locals.Given as goal

abbrev pub invariant-loop-local : goal.invariant-loop-local
invariant-loop-local l = locals_of l.copies.items ≡ locals_of (take l.local-index l.locals)
