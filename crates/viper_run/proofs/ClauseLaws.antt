-- The clauses of a list, and what is within the bound of them.
use Rattle.std.proofs.Common.{arith, ℕ, zero, suc, ◌<◌, length, get_or, List, [], ◌∷◌, All}
use Rattle.std.proofs.lemmas.List.Elements.{All-head, All-tail}
use Rattle.viper_core.specs.Literals.{IsWithinAssertion}
use Rattle.viper_core.specs.View.{assertion_of, assertions_of}
use Rattle.viper_core.specs.declared.exprs.Assertion as assertion

pub clause_within : (xs : List assertion.Assertion) (i : ℕ) (d : assertion.Assertion) → i < length xs → All IsWithinAssertion (assertions_of xs) → IsWithinAssertion (assertion_of (get_or xs i d))
clause_within [] i d lt h = absurd (omega arith)
clause_within (x ∷ xs) zero d lt h = All-head IsWithinAssertion (assertion_of x) (assertions_of xs) h
clause_within (x ∷ xs) (suc i) d lt h = clause_within xs i d (omega arith) (All-tail IsWithinAssertion (assertion_of x) (assertions_of xs) h)
