-- Whole numbers within the bound. Nothing is said of a fraction or a content, since each of the program is within it.
use Rattle.std.specs.Prelude.{⊤, List, All}
use Rattle.sparse.specs.Map.{Map, values}
use Rattle.vb_value.specs.Bound.{IsWithin}
use Rattle.boogie_tree.specs.Expr as t
use Rattle.boogie_tree.specs.Literals.{ExprHas, IndexHas, StmtHas, BlockHas}
use Rattle.boogie_tree.specs.Stmt as s
use Rattle.boogie_tree.specs.Value.{Key, BScalar, Int, Bool, Ref, Real, Snap, BValue, One, Many, Entry, BChoice, Pick, Value, Entries}
use Rattle.boogie_tree.specs.declared.exprs.BBase.{BBase}
use Rattle.boogie_meaning.specs.Ends.{End, Is, Over, Wrong}
use Rattle.boogie_meaning.specs.Value.{QuantifierScope}

-- ---- values

abbrev pub IsWithinScalar : BScalar → Type 0
IsWithinScalar (Int n) = IsWithin n
IsWithinScalar (Bool p) = ⊤
IsWithinScalar (Ref r) = ⊤
IsWithinScalar (Real q) = ⊤
IsWithinScalar (Snap c) = ⊤

-- a map has such values at all keys
abbrev pub IsWithinValue : BValue → Type 0
IsWithinValue (One v) = IsWithinScalar v
IsWithinValue (Many m) = IsWithinScalar m.default × All IsWithinScalar (values m)

abbrev pub IsWithinEntry : Entry → Type 0
IsWithinEntry e = IsWithinScalar e.value

abbrev pub IsWithinChoice : BChoice → Type 0
IsWithinChoice (Pick p) = ⊤
IsWithinChoice (Value v) = IsWithinScalar v
IsWithinChoice (Entries es) = All IsWithinEntry es

-- ---- the literals of expressions and statements

-- whatever a `forall` binds
abbrev AnyBound : List BBase → Type 0
AnyBound us = ⊤

abbrev pub IsWithinExpr : t.BExpr → Type 0
IsWithinExpr = ExprHas IsWithin AnyBound

abbrev pub AreWithinExprs : t.BExprs → Type 0
AreWithinExprs = IndexHas IsWithin AnyBound

abbrev pub IsWithinStmt : s.BStmt → Type 0
IsWithinStmt = StmtHas IsWithin AnyBound

abbrev pub AreWithinStmts : s.BStmts → Type 0
AreWithinStmts = BlockHas IsWithin AnyBound

-- ---- evaluations

-- where there is a value, it has the property
abbrev pub Gives : {X : Type 0} → (X → Type 0) → End X → Type 0
Gives P (Is x) = P x
Gives P Over = ⊤
Gives P Wrong = ⊤

-- from maps with such values a scope gives such values
pub record IsWithinScope (w : QuantifierScope) : Type 0 where
  pub bound : (m : Map Key BScalar) → IsWithinValue (Many m) → Gives IsWithinScalar (w.bound m)
  pub all : (us : List BBase) (a : t.BExpr) → Gives IsWithinScalar (w.all us a)
