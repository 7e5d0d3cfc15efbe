-- An accessibility predicate whose parts are read: its amount, and what it speaks of.
use Rattle.std.specs.Prelude.{⊤, ℕ}
use Rattle.viper_core.specs.Expr as e
use Rattle.boogie_tree.specs.Expr as t
use Rattle.boogie_tree.specs.Stmt as s
use Rattle.boogie_tree.specs.Values.{plain_type}
use Rattle.boogie_tree.specs.Whole.{stmts_of}
use Rattle.boogie_tree.specs.declared.exprs.BBase.TheVariants as base
use Rattle.enc_expr.specs.Place.{Place}
use Rattle.enc_expr.specs.Kinds.{Kinds}
use Rattle.enc_expr.specs.Code.{Emitting, join, gives, then_emit, declares, Guard, puts}
use Rattle.enc_expr.specs.Pieces.{Operand, atomic}
use Rattle.enc_expr.specs.Encoding.{code, codes, amount_code}
use Rattle.enc_expr.specs.View.{seen, atom_of}
use Rattle.enc_assert.specs.Target.{AccessTarget, Field, Instance, Aimed}
use Rattle.enc_assert.specs.Encoding.{field_target, instance_target}
use Rattle.enc_assert.specs.declared.targets.AccessTarget as target
use Rattle.enc_assert.specs.declared.targets.AccessTarget.TheVariants as variant
use Rattle.enc_assert.specs.declared.targets.Access as access

pub record Access : Type 0 where
  pub amount : Operand
  pub aimed : Aimed

-- of a place: its receiver, its amount, and then the receiver as an atom
abbrev pub place_access : Kinds → Place → Guard → ℕ → e.Expr → e.Amt → Emitting Access
place_access k p g f a m = then_emit (code k p g a) (λ x. then_emit (amount_code k p g m) (λ q. then_emit (field_target f x) (λ y. gives (record { amount = q; aimed = y }))))

-- of an instance: its arguments, its amount, and then the arguments in locals
abbrev pub part_access : Kinds → Place → Guard → ℕ → e.Exprs → e.Amt → Emitting Access
part_access k p g q args m = then_emit (codes k p g args) (λ xs. then_emit (amount_code k p g m) (λ y. then_emit (instance_target q xs) (λ z. gives (record { amount = y; aimed = z }))))

-- an amount that is written is an atom too, and one that is chosen is a new local
abbrev pub puts_written : Guard → Access → (t.BExpr → s.BStmts) → Emitting ⊤
puts_written g x go = then_emit (atomic x.amount) (λ q. puts g (join x.aimed.sets (join q.sets (go q.expr))))

abbrev pub puts_chosen : Guard → Access → (ℕ → s.BStmts) → Emitting ⊤
puts_chosen g x go = then_emit (declares (plain_type base.Real)) (λ w. puts g (join x.aimed.sets (go w)))

-- ---- what contracts see of them

abbrev pub target_of : target.AccessTarget → AccessTarget
target_of (variant.Field f a) = Field f (atom_of a)
target_of (variant.Instance p locals) = Instance p locals.items

abbrev pub access_of : access.Access → Access
access_of x = record { amount = seen x.amount; aimed = record { target = target_of x.target; sets = stmts_of x.sets.items } }
