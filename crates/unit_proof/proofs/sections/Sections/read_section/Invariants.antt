use Rattle.std.proofs.Common.{◌≡◌, ◌≤◌}
use Rattle.unit_proof.proofs.sections.Sections.read_section.Given as goal

abbrev pub invariant-loop-piece : goal.invariant-loop-piece
invariant-loop-piece g l = record {
  later : g.H.Shelf.faults l.initial.shelf ≤ g.H.Shelf.faults l.shelf;
  files : g.H.Shelf.files l.shelf ≡ g.H.Shelf.files l.initial.shelf;
}
