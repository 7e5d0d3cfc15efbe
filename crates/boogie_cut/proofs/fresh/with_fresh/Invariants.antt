-- The locals so far, and then those of the types that are left.
use Rattle.std.proofs.Common.{◌≡◌, ◌++◌}
use Rattle.boogie_tree.specs.Whole.{locals_of}
use Rattle.boogie_cut.specs.Fresh.{fresh_locals}
use Rattle.boogie_cut.specs.View.{a_names, types_of_all}
use Rattle.boogie_cut.proofs.fresh.with_fresh.Given as goal

abbrev pub invariant-loop-ty : goal.invariant-loop-ty
invariant-loop-ty l =
    locals_of l.locals.items ++ fresh_locals (a_names l.own) l.next (types_of_all l.ty-iterator.rest.items) ≡ locals_of l.own ++ fresh_locals (a_names l.own) 0 (types_of_all l.fn.types.items)
