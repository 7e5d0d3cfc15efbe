-- Code as it is written, piece after piece: new locals, statements, and what the piece hands on.
use Rattle.std.specs.Prelude.{⊤, ℕ, ◌+◌, List, [], ◌∷◌, ◌++◌, Option, Some, None, length}
use Rattle.boogie_tree.specs.Expr as t
use Rattle.boogie_tree.specs.Stmt as s
use Rattle.boogie_tree.specs.Program.{BType}
use Rattle.boogie_tree.specs.declared.exprs.BBase.TheVariants as base
use Rattle.boogie_tree.specs.declared.exprs.BOp.TheVariants as op
use Rattle.boogie_tree.specs.Values.{plain_type}

pub record Code (X : Type 0) : Type 0 where
  -- the types of the new locals
  pub locals : List BType
  -- the number of the next local
  pub next : ℕ
  pub stmts : s.BStmts
  pub value : X

-- by the number of the first new local
abbrev pub Emitting : Type 0 → Type 0
Emitting X = ℕ → Code X

-- one block and then another
abbrev pub join : s.BStmts → s.BStmts → s.BStmts
join s.skip ys = ys
join (s.first x xs) ys = s.first x (join xs ys)

-- nothing is written
abbrev pub gives : {X : Type 0} → X → Emitting X
gives x n = record { locals = []; next = n; stmts = s.skip; value = x }

-- one piece, and then another, which may name what the first handed on
abbrev pub then_emit : {X Y : Type 0} → Emitting X → (X → Emitting Y) → Emitting Y
then_emit first go n =
    let a = first n in let c = go a.value a.next in
    record { locals = a.locals ++ c.locals; next = c.next; stmts = join a.stmts c.stmts; value = c.value }

-- a new local
abbrev pub declares : BType → Emitting ℕ
declares u n = record { locals = u ∷ []; next = n + 1; stmts = s.skip; value = n }

-- new locals of these types, the first of which has the number that is handed on
abbrev pub declares_all : List BType → Emitting ℕ
declares_all us n = record { locals = us; next = n + length us; stmts = s.skip; value = n }

-- ---- guards

-- the local that is true where the part counts, if it does not always
abbrev pub Guard : Type 0
Guard = Option ℕ

-- statements that count only under the guard
abbrev pub guarded : Guard → s.BStmts → s.BStmts
guarded None xs = xs
guarded (Some h) s.skip = s.skip
guarded (Some h) (s.first x xs) = s.first (s.If (t.Var h) (s.first x xs) s.skip) s.skip

abbrev pub puts : Guard → s.BStmts → Emitting ⊤
puts g xs n = record { locals = []; next = n; stmts = guarded g xs; value = tt }

-- a condition that is looked at only under the guard, and does not hold elsewhere
abbrev pub under : Guard → t.BExpr → t.BExpr
under None x = x
under (Some h) x = t.Bin op.And (t.Var h) x

-- a new guard, which is true where this one is and the condition holds. Its own statement stands under no guard.
abbrev pub guards : Guard → t.BExpr → Emitting ℕ
guards g x n = record { locals = plain_type base.Bool ∷ []; next = n + 1; stmts = s.first (s.Assign n (under g x)) s.skip; value = n }
