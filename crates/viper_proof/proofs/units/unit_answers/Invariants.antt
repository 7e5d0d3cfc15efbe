use Rattle.std.proofs.Common.{◌≡◌, ◌≤◌, length}
use Rattle.viper_core.specs.View.{program_of}
use Rattle.viper_proof.specs.Shown.{AreShown}
use Rattle.viper_proof.proofs.units.unit_answers.Given as goal

abbrev pub invariant-loop-number : goal.invariant-loop-number
invariant-loop-number g l = record {
  as_many : length l.answers.items ≡ l.number;
  shown : AreShown (program_of l.program) l.answers.items;
  later : g.H.Shelf.faults l.initial.shelf ≤ g.H.Shelf.faults l.shelf;
  files : g.H.Shelf.files l.shelf ≡ g.H.Shelf.files l.initial.shelf;
}
