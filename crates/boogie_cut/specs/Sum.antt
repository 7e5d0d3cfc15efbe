-- A procedure that counts up to its parameter, for worked examples.
use Rattle.std.specs.Prelude.{ℕ, pos, List, [], ◌∷◌, Some, codes}
use Rattle.vb_base.specs.declared.labels.Label.{Label}
use Rattle.boogie_tree.specs.Expr as t
use Rattle.boogie_tree.specs.Program.{Proc}
use Rattle.boogie_tree.specs.Value.{BValue, One, Int, BChoice, Value}
use Rattle.boogie_tree.specs.Values.{plain_type}
use Rattle.boogie_tree.specs.declared.exprs.BBase.TheVariants as base
use Rattle.boogie_tree.specs.declared.exprs.BOp.TheVariants as op
use Rattle.boogie_loops.specs.Wide as w
use Rattle.boogie_loops.specs.Wide.{WProc}
use Rattle.boogie_cut.specs.Cut.{cut_proc}

-- the labels of the precondition, the postcondition and the invariant
pub record Labels : Type 0 where
  pub before : Label
  pub after : Label
  pub head : Label

-- the parameter and the return
abbrev pub n : t.BExpr
n = t.Var 0

abbrev pub k : t.BExpr
k = t.Var 1

-- `k := 0; while ((k < n)) { k := (k + 1); }`
abbrev pub body : Labels → t.BExpr → w.WStmts
body labels invariant =
    w.first (w.Assign 1 (t.Int (pos 0)))
    (w.first (w.While (Some (t.Bin op.Lt k n)) (record { label = labels.head; e = invariant } ∷ []) (w.first (w.Assign 1 (t.Bin op.Add k (t.Int (pos 1)))) w.skip))
    w.skip)

-- `procedure sum(n: int) returns (k: int)`, which requires that n is not negative and ensures that k is n, with this invariant
abbrev pub sum : Labels → t.BExpr → WProc
sum labels invariant = record {
  name = codes "sum";
  params = 1;
  returns = 1;
  locals = record { name = codes "n"; ty = plain_type base.Int } ∷ record { name = codes "k"; ty = plain_type base.Int } ∷ [];
  preconditions = record { label = labels.before; e = t.Bin op.Ge n (t.Int (pos 0)) } ∷ [];
  postconditions = record { label = labels.after; e = t.Bin op.Eq k n } ∷ [];
  body = Some (body labels invariant);
}

abbrev pub written : Labels → t.BExpr → Proc
written labels invariant = cut_proc (sum labels invariant ∷ []) (sum labels invariant) (body labels invariant)

-- `(k <= n)`, and `(k <= 7)`
abbrev pub at_most_n : t.BExpr
at_most_n = t.Bin op.Le k n

abbrev pub at_most_seven : t.BExpr
at_most_seven = t.Bin op.Le k (t.Int (pos 7))

-- values of the parameter and the return
abbrev pub values : ℕ → ℕ → List BValue
values a b = One (Int (pos a)) ∷ One (Int (pos b)) ∷ []

-- a choice for the havocked return
abbrev pub choice : ℕ → List BChoice
choice a = Value (Int (pos a)) ∷ []
