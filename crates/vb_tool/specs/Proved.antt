-- What it means that the conditions of all assertions of a program of Boogie hold. Its labels are finitely many, and at a label that no
-- assertion has no run fails.
use Rattle.std.specs.Prelude.{◌≡◌, ◌++◌, ℕ, List, [], ◌∷◌, Contains, Some, slice_get}
use Rattle.vb_base.specs.declared.labels.Label.{Label}
use Rattle.boogie_tree.specs.Program.{Proc, BProgram}
use Rattle.boogie_tree.specs.Stmt as s
use Rattle.boogie_formula.specs.Value.{Valid}
use Rattle.vb_tool.specs.Conditions.{IsCondition}

-- the labels of the assertions of statements, in their order
abbrev mutual
  pub stmt_labels : s.BStmt → List Label
  stmt_labels (s.Assign i e) = []
  stmt_labels (s.Put i es e) = []
  stmt_labels (s.Havoc i) = []
  stmt_labels (s.Assume e) = []
  stmt_labels (s.Assert l e) = l ∷ []
  stmt_labels (s.If e xs ys) = block_labels xs ++ block_labels ys
  stmt_labels (s.Either xs ys) = block_labels xs ++ block_labels ys

  pub block_labels : s.BStmts → List Label
  block_labels s.skip = []
  block_labels (s.first x xs) = stmt_labels x ++ block_labels xs

-- the labels of the assertions of a procedure
abbrev pub labels_of : Proc → List Label
labels_of d = block_labels d.body

-- for each procedure and each label of its assertions there is a text that is their condition, and the formula that it spells is valid
abbrev pub ConditionsHold : BProgram → Type 0
ConditionsHold boogie = (n : ℕ) (d : Proc) (label : Label) → slice_get boogie.procs n ≡ Some d → Contains (labels_of d) label
    → (text : List ℕ) × (c : IsCondition d label text) × Valid c.formula
