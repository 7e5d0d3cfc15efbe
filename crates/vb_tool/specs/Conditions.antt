-- The verification condition of a procedure and a label, as it is written.
use Rattle.std.specs.Prelude.{◌≡◌, ◌↔◌, ℕ, List}
use Rattle.vb_base.specs.declared.labels.Label.{Label}
use Rattle.boogie_tree.specs.Program.{Proc}
use Rattle.boogie_formula.specs.Follows.{Follows, IsExact}
use Rattle.boogie_formula.specs.Formula.{Formula}
use Rattle.boogie_formula.specs.Types.{IsTypedFormula}
use Rattle.boogie_formula.specs.Value.{Valid}
use Rattle.boogie_meaning.specs.Programs.{BoogieFails}
use Rattle.boogie_wp.specs.Build.{formula_for}
use Rattle.boogie_formula_text.specs.Printed.{formula_text}
use Rattle.boogie_formula_text.specs.Spells.{SpellsFormula}
use Rattle.vb_tool.specs.AcceptedCondition.{AcceptsCondition}

-- the text that is written of it
abbrev pub condition_text : Proc → Label → List ℕ
condition_text d label = formula_text d.name label (formula_for d label)

-- The text spells exactly one formula, as that of this procedure and this label. The goal of the formula is false exactly where a
-- run of the procedure fails at the label, on the choices that the run meets; so the formula is valid exactly where none does.
pub record IsCondition (d : Proc) (label : Label) (text : List ℕ) : Type 0 where
  pub formula : Formula
  pub typed : IsTypedFormula formula
  pub spelled : SpellsFormula text d.name label formula
  pub only : (name : List ℕ) (l : Label) (f : Formula) → SpellsFormula text name l f → (name ≡ d.name) × (l ≡ label) × (f ≡ formula)
  pub follows : Follows d label formula
  pub exact : IsExact d label formula

-- A file of Boogie has this procedure, and the text is its condition for the label. Its formula is valid exactly where no run of the
-- procedure of this name fails at the label: the names of procedures differ, so it is the only one.
pub record IsStatement (Has : List ℕ → List ℕ → Type 0) (file name : List ℕ) (label : Label) (text : List ℕ) : Type 0 where
  pub bytes : List ℕ
  pub is : Has file bytes
  pub procedure : Proc
  pub accepted : AcceptsCondition bytes name procedure
  pub condition : IsCondition procedure label text
  pub decides : Valid condition.formula ↔ (BoogieFails accepted.program name label → ⊥)
