-- Pieces of code that many forms share.
use Rattle.std.specs.Prelude.{ℕ, Option, Some, None, pos, Bool as Truth, true, false, not, List, [], ◌∷◌, ◌++◌, if◌then◌else◌}
use Rattle.std.specs.Ordering.{int_eq}
use Rattle.vb_base.specs.declared.labels.Label.{Label}
use Rattle.vb_base.specs.declared.labels.Kind.{Kind}
use Rattle.vb_base.specs.declared.places.Pos.{Pos}
use Rattle.vb_value.specs.Fraction.{is_below_zero}
use Rattle.boogie_tree.specs.Expr as t
use Rattle.boogie_tree.specs.Stmt as s
use Rattle.boogie_tree.specs.declared.exprs.BBase.{BBase}
use Rattle.boogie_tree.specs.declared.exprs.BOp.TheVariants as op
use Rattle.boogie_tree.specs.Values.{plain_type}
use Rattle.enc_expr.specs.Place.{Place}
use Rattle.enc_expr.specs.Code.{Emitting, join, gives, then_emit, declares}

-- ---- operands

-- an expression of Boogie that has the value of one of Viper, and its type
pub record Operand : Type 0 where
  pub expr : t.BExpr
  pub base : BBase

-- variables and literals, which may be written twice
abbrev pub is_atom : t.BExpr → Truth
is_atom (t.Var i) = true
is_atom (t.Int n) = true
is_atom (t.Real n) = true
is_atom (t.Bool p) = true
is_atom t.Null = true
is_atom _ = false

-- an atom, and the statement that sets it where it is a new local
pub record Atom : Type 0 where
  pub expr : t.BExpr
  pub sets : s.BStmts

abbrev pub in_local : Operand → Emitting Atom
in_local x = then_emit (declares (plain_type x.base)) (λ i. gives (record { expr = t.Var i; sets = s.first (s.Assign i x.expr) s.skip }))

abbrev pub atomic : Operand → Emitting Atom
atomic x n = if is_atom x.expr then gives (record { expr = x.expr; sets = s.skip }) n else in_local x n

-- locals that hold the operands, and the statements that set those that are new
pub record Located : Type 0 where
  pub locals : List ℕ
  pub sets : s.BStmts

-- the local of an expression that is one
abbrev pub variable_in : t.BExpr → Option ℕ
variable_in (t.Var i) = Some i
variable_in _ = None

abbrev pub located_from : Operand → t.BExpr → Emitting Located
located_from x (t.Var i) = gives (record { locals = i ∷ []; sets = s.skip })
located_from x _ = then_emit (declares (plain_type x.base)) (λ i. gives (record { locals = i ∷ []; sets = s.first (s.Assign i x.expr) s.skip }))

-- a literal gets a local too
abbrev pub located : List Operand → Emitting Located
located [] = gives (record { locals = []; sets = s.skip })
located (x ∷ xs) = then_emit (located_from x x.expr) (λ a. then_emit (located xs) (λ rest. gives (record { locals = a.locals ++ rest.locals; sets = join a.sets rest.sets })))

-- the index of the instance with these arguments
abbrev pub variables : List ℕ → t.BExprs
variables [] = t.none
variables (i ∷ is) = t.more (t.Var i) (variables is)

abbrev pub index : List ℕ → t.BExprs
index [] = t.more (t.Int (pos 0)) t.none
index (i ∷ is) = variables (i ∷ is)

-- the map of this number at one index
abbrev pub at_one : ℕ → t.BExpr → t.BExpr
at_one m x = t.At m (t.more x t.none)

-- ---- statements

abbrev pub one : s.BStmt → s.BStmts
one x = s.first x s.skip

abbrev pub label : Place → Pos → Kind → Label
label p part k = record { at = p.at; part = part; kind = k }

abbrev pub zero_real : t.BExpr
zero_real = t.Real (pos 0)

abbrev pub one_real : t.BExpr
one_real = t.Real (pos 1)

abbrev pub is_one : t.BExpr → Truth
is_one (t.Real n) = int_eq n (pos 1)
is_one _ = false

-- a literal that is not negative
abbrev pub is_amount_literal : t.BExpr → Truth
is_amount_literal (t.Real n) = not (is_below_zero n)
is_amount_literal _ = false

-- a literal other than 0
abbrev pub is_divisor_literal : t.BExpr → Truth
is_divisor_literal (t.Int n) = not (int_eq n (pos 0))
is_divisor_literal _ = false

-- these statements, but where they are not needed
abbrev pub unless_known : Truth → s.BStmts → s.BStmts
unless_known true xs = s.skip
unless_known false xs = xs

abbrev pub check_nonnegative : Label → t.BExpr → s.BStmts
check_nonnegative l q = unless_known (is_amount_literal q) (one (s.Assert l (t.Bin op.Ge q zero_real)))

abbrev pub check_positive : Label → t.BExpr → s.BStmts
check_positive l q = unless_known (is_one q) (one (s.Assert l (t.Bin op.Gt q zero_real)))

abbrev pub check_divisor : Label → t.BExpr → s.BStmts
check_divisor l d = unless_known (is_divisor_literal d) (one (s.Assert l (t.Bin op.Ne d (t.Int (pos 0)))))

-- an amount times a scale
abbrev pub scaled : t.BExpr → t.BExpr → t.BExpr
scaled scale q = if is_one scale then q else if is_one q then scale else t.Bin op.Mul scale q

-- the first block where an amount is positive, and else the second
abbrev pub if_positive : t.BExpr → s.BStmts → s.BStmts → s.BStmts
if_positive q xs ys = if is_one q then xs else one (s.If (t.Bin op.Gt q zero_real) xs ys)

-- an int as a real
abbrev pub real : t.BExpr → t.BExpr
real (t.Int n) = t.Real n
real x = t.ToReal x

-- A mask or amount gets so much more at an index. That it is not negative before is no news, and helps a solver.
abbrev pub add_to : ℕ → t.BExprs → t.BExpr → s.BStmts
add_to m k q = s.first (s.Assume (t.Bin op.Ge (t.At m k) zero_real)) (one (s.Put m k (t.Bin op.Add (t.At m k) q)))
