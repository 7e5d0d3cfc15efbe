-- The number that is looked for is the first from here on.
use Rattle.std.proofs.Common.{◌≡◌, ◌-◌, length}
use Rattle.boogie_cut.specs.Fresh.{free_number}
use Rattle.boogie_cut.specs.View.{a_names}
use Rattle.boogie_cut.proofs.fresh.free_number.Given as goal

abbrev pub invariant-loop : goal.invariant-loop
invariant-loop l =
    free_number (length (a_names l.taken.locals.now) - l.counter) l.number (a_names l.taken.locals.now)
    ≡ free_number (length (a_names l.taken.locals.now)) l.first (a_names l.taken.locals.now)
