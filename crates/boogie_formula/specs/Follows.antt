-- What a formula says of a procedure and a label, and what conditions say of a procedure and all labels.
use Rattle.std.specs.Prelude.{◌≡◌, ◌↔◌, ℕ, Bool as Truth, false, List, Some, slice_get}
use Rattle.vb_base.specs.declared.labels.Label.{Label}
use Rattle.vb_value.specs.Bound.{Unbounded}
use Rattle.boogie_tree.specs.Program.{Proc}
use Rattle.boogie_tree.specs.Value.{BValue}
use Rattle.boogie_tree.specs.Values.{IsEnvironment}
use Rattle.boogie_meaning.specs.Ends.{Is}
use Rattle.boogie_meaning.specs.Programs.{brun_proc, FailsAt, ProcFails}
use Rattle.boogie_formula.specs.Formula.{Formula, Conditions}
use Rattle.boogie_formula.specs.Value.{formula_value, Valid, truth_named, FailsIn, CanFail}
use Rattle.boogie_formula.specs.declared.formulas.Fail.{Fail}
use Rattle.boogie_formula.specs.Choices.{variables_of, locals_in, choices_in}

-- The goal has a truth value at all values of the variables, and it is false exactly where the procedure fails at the label, from
-- the locals' values and with the choices that the run meets.
pub record Follows (d : Proc) (label : Label) (f : Formula) : Type 0 where
  pub vars : f.vars ≡ variables_of d
  pub is_truth : (values : List BValue) → IsEnvironment f.vars values → (p : Truth) × (formula_value f values ≡ Is p)
  pub falls : (values : List BValue) → IsEnvironment f.vars values →
      (formula_value f values ≡ Is false) ↔ FailsAt label (brun_proc Unbounded d (locals_in d values) (choices_in d values))

-- the formula is valid exactly where no run of the procedure fails at the label
abbrev pub IsExact : Proc → Label → Formula → Type 0
IsExact d label f = Valid f ↔ (ProcFails d label → ⊥)

-- What says that an assertion fails has a truth value at all values of the variables, and one with a label is true exactly where
-- the procedure fails at the label, from the locals' values and with the choices that the run meets.
pub record ConditionsFollow (d : Proc) (x : Conditions) : Type 0 where
  pub vars : x.vars ≡ variables_of d
  pub is_truth : (values : List BValue) → IsEnvironment x.vars values → (n : ℕ) (a : Fail) → slice_get x.fails n ≡ Some a →
      (p : Truth) × (truth_named x values a.name ≡ Is p)
  pub fail : (values : List BValue) → IsEnvironment x.vars values → (label : Label) →
      FailsIn x values label ↔ FailsAt label (brun_proc Unbounded d (locals_in d values) (choices_in d values))

-- some run of the procedure fails at a label exactly where an assertion with the label can fail
abbrev pub AreExact : Proc → Conditions → Type 0
AreExact d x = (label : Label) → ProcFails d label ↔ CanFail x label
