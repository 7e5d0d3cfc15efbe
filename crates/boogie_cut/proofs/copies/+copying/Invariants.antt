-- The indices so far, each with the numbers of its variables.
use Rattle.std.proofs.Common.{◌≡◌, map, take}
use Rattle.boogie_tree.specs.Whole.{expr_of}
use Rattle.boogie_meaning.specs.Renamed.{renamed}
use Rattle.boogie_cut.specs.View.{number_by}
use Rattle.boogie_cut.proofs.copies.+copying.Given as goal

abbrev pub invariant-renumbered_all-loop-e : goal.invariant-renumbered_all-loop-e
invariant-renumbered_all-loop-e l = map expr_of l.keys.items ≡ map (λ e. renamed (number_by l.names) (expr_of e)) (take l.e-index l.es)
