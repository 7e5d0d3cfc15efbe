use Rattle.std.proofs.Common.{◌≡◌, ◌≤◌, length}
use Rattle.boogie_tree.specs.Whole.{program_of}
use Rattle.boogie_proof.specs.Shown.{AreShown}
use Rattle.boogie_proof.proofs.procedures.procedure_answers.Given as goal

abbrev pub invariant-loop-number : goal.invariant-loop-number
invariant-loop-number g l = record {
  as_many : length l.answers.items ≡ l.number;
  shown : AreShown (program_of l.program) l.answers.items;
  later : g.H.Shelf.faults l.initial.shelf ≤ g.H.Shelf.faults l.shelf;
  files : g.H.Shelf.files l.shelf ≡ g.H.Shelf.files l.initial.shelf;
}
