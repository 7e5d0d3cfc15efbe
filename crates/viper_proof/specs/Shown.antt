-- What is shown of a file of Viper and of its units.
use Rattle.std.specs.Prelude.{◌≡◌, ℕ, List, [], length, Option, None, Some, slice_get}
use Rattle.vb_value.specs.Bound.{Bound}
use Rattle.viper_core.specs.Program.{Program, Method, Predicate}
use Rattle.viper_core.specs.declared.programs.Unit.{Unit}
use Rattle.viper_core.specs.declared.programs.Unit.TheVariants as unit
use Rattle.viper_meaning.specs.Units.{ViperFails}
use Rattle.viper_exec_meaning.specs.Frame.{NoExecutionFails}
use Rattle.viper_exec_subset.specs.Unframed.{first_unframed}
use Rattle.viper_file.specs.Accepted.{IsAccepted}
use Rattle.viper_file.specs.Verified.{HasNoFailure}
use Rattle.unit_proof.specs.Shown.{NeverFails}
use Rattle.unit_proof.specs.Shown as any
use Rattle.unit_proof.specs.declared.answers.UnitAnswer.{UnitAnswer}

-- ---- a unit

abbrev name_of_method : Option Method → List ℕ
name_of_method (Some m) = m.name
name_of_method None = []

abbrev name_of_predicate : Option Predicate → List ℕ
name_of_predicate (Some d) = d.name
name_of_predicate None = []

-- the name of a unit in the file
abbrev pub name_of : Program → Unit → List ℕ
name_of p (unit.Method n) = name_of_method (slice_get p.methods n)
name_of p (unit.Predicate n) = name_of_predicate (slice_get p.predicates n)

-- no run of the unit of this number fails, at any label
abbrev pub UnitNeverFails : Program → ℕ → Type 0
UnitNeverFails program n = NeverFails (ViperFails program) n

-- the unit of this number has this name
abbrev pub IsNameOf : Program → ℕ → List ℕ → Type 0
IsNameOf program n name = (u : Unit) → slice_get program.units n ≡ Some u → name ≡ name_of program u

-- ---- the units of a program

-- these answers are those of the first units, in order: no run of one that is proved fails, and each has the name of its unit
abbrev pub AreShown : Program → List UnitAnswer → Type 0
AreShown program answers = any.AreShown (ViperFails program) (IsNameOf program) answers

-- ---- a file

-- the bytes are accepted as a program, and these are the answers of all its units
pub record IsAnswered (source : List ℕ) (answers : List UnitAnswer) : Type 0 where
  pub program : Program
  pub accepted : IsAccepted source program
  pub as_many : length answers ≡ length program.units
  pub shown : AreShown program answers

-- The bytes are accepted as a program. No run of a unit of it fails, and no method does from a state that satisfies its precondition.
-- And where none of the words `wildcard`, `inhale` and `assume` is among the tokens, no execution fails, with the bound or without it.
pub record NothingFails (source : List ℕ) : Type 0 where
  pub program : Program
  pub accepted : IsAccepted source program
  pub units : HasNoFailure program
  pub executions : first_unframed accepted.tokens ≡ None → (b : Bound) → NoExecutionFails b program
