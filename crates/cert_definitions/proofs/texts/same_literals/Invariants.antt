-- What is left of the one list is the same as what is left of the other.
use Rattle.std.proofs.Common.{◌≡◌, ◌≤◌, drop, length}
use Rattle.cert_definitions.specs.Texts.{same_literals}
use Rattle.cert_definitions.proofs.texts.same_literals.Given as goal

abbrev pub invariant-loop-literal : goal.invariant-loop-literal
invariant-loop-literal l = record {
  place : l.count ≡ l.literal-index;
  within : l.count ≤ length l.right;
  same : same_literals l.left l.right ≡ same_literals (drop l.literal-index l.left) (drop l.count l.right);
}
