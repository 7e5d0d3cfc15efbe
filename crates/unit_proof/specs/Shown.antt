-- What is shown of the units of a program, where it is given what it means that some run of the unit of a number, from 0 on, fails at a
-- label, and which name it has.
use Rattle.std.specs.Prelude.{◌≡◌, ℕ, List, Some, slice_get}
use Rattle.vb_base.specs.declared.labels.Label.{Label}
use Rattle.unit_proof.specs.declared.answers.UnitAnswer.{UnitAnswer}
use Rattle.unit_proof.specs.declared.answers.UnitVerdict.TheVariants as verdict

-- no run of the unit of this number fails, at any label
abbrev pub NeverFails : (ℕ → Label → Type 0) → ℕ → Type 0
NeverFails Fails n = (label : Label) → Fails n label → ⊥

-- the answer is that the unit is proved
abbrev pub IsProved : UnitAnswer → Type 0
IsProved a = a.verdict ≡ verdict.Proved

-- these answers are those of the first units, in order: no run of one that is proved fails, and each has the name of its unit
pub record AreShown (Fails : ℕ → Label → Type 0) (IsName : ℕ → List ℕ → Type 0) (answers : List UnitAnswer) : Type 0 where
  pub proved : (n : ℕ) (a : UnitAnswer) → slice_get answers n ≡ Some a → IsProved a → NeverFails Fails n
  pub named : (n : ℕ) (a : UnitAnswer) → slice_get answers n ≡ Some a → IsName n a.name
