-- The names so far have the types so far.
use Rattle.std.proofs.Common.{◌≡◌, map}
use Rattle.boogie_tree.specs.Whole.{type_of}
use Rattle.cert_terms.specs.Lawful.{terms_of, types_of}
use Rattle.cert_terms.specs.Tables.{givens}
use Rattle.cert_terms.proofs.table.TermTable.begin.Given as goal

abbrev pub invariant-loop-ty : goal.invariant-loop-ty
invariant-loop-ty l = record {
  terms : terms_of l.table ≡ givens (map type_of l.yielded);
  types : types_of l.table ≡ map type_of l.yielded;
}
