-- What is left of the keys has what is left of the types.
use Rattle.std.proofs.Common.{◌≡◌, ◌≤◌, drop, length}
use Rattle.boogie_formula.specs.Types.{fbases}
use Rattle.boogie_types.specs.Typed.{are_bases}
use Rattle.cert_terms.specs.Lawful.{types_of}
use Rattle.cert_terms.specs.Terms.{operands}
use Rattle.cert_terms.proofs.table.TermTable.are_of.Given as goal

abbrev pub invariant-loop-key : goal.invariant-loop-key
invariant-loop-key l = record {
  place : l.count ≡ l.key-index;
  within : l.count ≤ length l.wanted;
  same : are_bases (fbases (types_of l.self) (operands l.keys)) l.wanted ≡
      are_bases (fbases (types_of l.self) (operands (drop l.key-index l.keys))) (drop l.count l.wanted);
}
