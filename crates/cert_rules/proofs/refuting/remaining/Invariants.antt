use Rattle.std.proofs.Common.{◌≡◌, ◌⊎◌, Some, All, take}
use Rattle.cert_rules.specs.Refutes.{IsNoted}
use Rattle.cert_rules.proofs.refuting.remaining.Given as goal

abbrev pub invariant-loop-literal : goal.invariant-loop-literal
invariant-loop-literal l = All (λ m. IsNoted l.known m ⊎ (l.left ≡ Some m)) (take l.literal-index l.step)
