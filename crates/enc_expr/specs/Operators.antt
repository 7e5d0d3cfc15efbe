-- The code of operators.
use Rattle.std.specs.Prelude.{ℕ, Some, if◌then◌else◌}
use Rattle.vb_base.specs.declared.labels.Kind.TheVariants as kind
use Rattle.vb_base.specs.declared.places.Pos.{Pos}
use Rattle.viper_core.specs.declared.exprs.Op.{Op}
use Rattle.viper_core.specs.declared.exprs.Op.TheVariants as o
use Rattle.viper_meaning.specs.Operators.{Class, Lazy, Division, Plain, class_of}
use Rattle.boogie_tree.specs.Expr as t
use Rattle.boogie_tree.specs.declared.exprs.BBase.{BBase}
use Rattle.boogie_tree.specs.declared.exprs.BBase.TheVariants as base
use Rattle.boogie_tree.specs.declared.exprs.BOp.{BOp}
use Rattle.boogie_tree.specs.declared.exprs.BOp.TheVariants as op
use Rattle.boogie_tree.specs.Values.{same_base}
use Rattle.enc_expr.specs.Place.{Place}
use Rattle.enc_expr.specs.Code.{Emitting, join, gives, then_emit, Guard, puts, guards}
use Rattle.enc_expr.specs.Pieces.{Operand, atomic, label, check_divisor, real}

-- the operator of Boogie
abbrev pub op_of : Op → BOp
op_of o.Iff = op.Iff
op_of o.Implies = op.Implies
op_of o.Or = op.Or
op_of o.And = op.And
op_of o.Eq = op.Eq
op_of o.Ne = op.Ne
op_of o.Lt = op.Lt
op_of o.Le = op.Le
op_of o.Gt = op.Gt
op_of o.Ge = op.Ge
op_of o.Add = op.Add
op_of o.Sub = op.Sub
op_of o.Mul = op.Mul
op_of o.Divide = op.Divide
op_of o.IntDiv = op.IntDiv
op_of o.IntMod = op.IntMod

-- ---- plain operators

-- the type of a plain operator's value
abbrev pub plain_base : Op → BBase → BBase
plain_base o.Add u = u
plain_base o.Sub u = u
plain_base o.Mul u = u
plain_base _ u = base.Bool

abbrev pub plain_operand : Op → Operand → Operand → Operand
plain_operand o x y = record { expr = t.Bin (op_of o) x.expr y.expr; base = plain_base o x.base }

-- an operand as a real
abbrev pub as_real : Operand → Operand
as_real x = if same_base x.base base.Int then record { expr = real x.expr; base = base.Real } else x

-- of an Int and a Perm the Int counts as a real
abbrev pub product_operand : Operand → Operand → Operand
product_operand x y = if same_base x.base y.base then plain_operand o.Mul x y else plain_operand o.Mul (as_real x) (as_real y)

abbrev pub operand_of : Op → Operand → Operand → Operand
operand_of o.Mul x y = product_operand x y
operand_of o x y = plain_operand o x y

-- ---- divisions

-- the value of a division by an expression
abbrev pub quotient_operand : Op → Operand → t.BExpr → Operand
quotient_operand o.Divide x d = record { expr = t.Bin op.Divide (as_real x).expr (real d); base = base.Real }
quotient_operand o x d = record { expr = t.Bin (op_of o) x.expr d; base = base.Int }

-- the divisor, which may be written twice and is not 0
abbrev pub divisor : Place → Guard → Pos → Operand → Emitting t.BExpr
divisor p g at y = then_emit (atomic y) (λ d. then_emit (puts g (join d.sets (check_divisor (label p at kind.Div) d.expr))) (λ u. gives d.expr))

-- the divisor is written twice: it is not 0, and it divides
abbrev pub division : Place → Guard → Op → Pos → Operand → Operand → Emitting Operand
division p g o at x y = then_emit (atomic y) (λ d. then_emit (puts g (join d.sets (check_divisor (label p at kind.Div) d.expr))) (λ u. gives (quotient_operand o x d.expr)))

-- ---- lazy operators

-- where the right side counts: for `||` where the left side is false
abbrev pub right_counts : Op → t.BExpr → t.BExpr
right_counts o.Or x = t.Not x
right_counts o x = x

-- The value by the guard of the right side. Of `a || b` the guard is the negation of a, so that it implies b just where one of
-- the two is true.
abbrev pub lazy_op : Op → BOp
lazy_op o.And = op.And
lazy_op o = op.Implies

abbrev pub lazy_operand : Op → ℕ → Operand → Operand
lazy_operand o h y = record { expr = t.Bin (lazy_op o) (t.Var h) y.expr; base = base.Bool }

-- the right side is read under a guard of its own
abbrev pub lazily : Guard → Op → Operand → (Guard → Emitting Operand) → Emitting Operand
lazily g o x right = then_emit (guards g (right_counts o x.expr)) (λ h. then_emit (right (Some h)) (λ y. gives (lazy_operand o h y)))

-- ---- operators of two sides, by their class

abbrev pub in_class_code : Class → Place → Guard → Op → Pos → Emitting Operand → (Guard → Emitting Operand) → Emitting Operand
in_class_code Lazy p g o at left right = then_emit left (λ x. lazily g o x right)
in_class_code Division p g o at left right = then_emit left (λ x. then_emit (right g) (λ y. division p g o at x y))
in_class_code Plain p g o at left right = then_emit left (λ x. then_emit (right g) (λ y. gives (operand_of o x y)))

abbrev pub binary_code : Place → Guard → Op → Pos → Emitting Operand → (Guard → Emitting Operand) → Emitting Operand
binary_code p g o at left right = in_class_code (class_of o) p g o at left right

-- ---- a choice: each side is read under a guard of its own

abbrev pub chosen_operand : ℕ → Operand → Operand → Operand
chosen_operand h x y = record { expr = t.If (t.Var h) x.expr y.expr; base = x.base }

-- The guard of the other side names the guard of the whole too, which it could not do without.
abbrev pub choose_code : {X Y : Type 0} → Guard → t.BExpr → (Guard → Emitting X) → (Guard → Emitting X) → (ℕ → X → X → Y) → Emitting Y
choose_code g x left right both =
    then_emit (guards g x) (λ h. then_emit (guards g (t.Not (t.Var h))) (λ k. then_emit (left (Some h)) (λ v. then_emit (right (Some k)) (λ w. gives (both h v w)))))
