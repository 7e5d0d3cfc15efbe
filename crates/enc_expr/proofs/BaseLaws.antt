-- An operand says the type of its expression.
use Rattle.std.proofs.Common.{◌≡◌, ℕ, ◌+◌, Bool as Truth, true, false, Some, refl, ap, sym, ◌∙◌}
use Rattle.std.proofs.lemmas.Option.{get_or_from_slice_get}
use Rattle.vb_base.specs.declared.places.Pos.{Pos}
use Rattle.vb_value.specs.declared.values.Ty.{Ty}
use Rattle.vb_value.specs.declared.values.Ty.TheVariants as ty
use Rattle.viper_core.specs.declared.exprs.Op.{Op}
use Rattle.viper_core.specs.declared.exprs.Op.TheVariants as o
use Rattle.viper_core.specs.Expr as e
use Rattle.viper_core.specs.Typing as y
use Rattle.viper_core.specs.Typing.{Context, Opens, type_if, value_type}
use Rattle.viper_meaning.specs.Operators.{Class, Lazy, Division, Plain, class_of}
use Rattle.boogie_tree.specs.Expr as t
use Rattle.enc_expr.specs.Place.{Place, with_now}
use Rattle.moves.specs.Scalars.{base_for}
use Rattle.enc_expr.specs.Kinds.{kinds_in}
use Rattle.enc_expr.specs.Code.{Emitting, Guard}
use Rattle.enc_expr.specs.Pieces.{Operand}
use Rattle.enc_expr.specs.Operators.{operand_of, product_operand, quotient_operand, in_class_code}
use Rattle.enc_expr.specs.Encoding.{code, unfolding_code}

-- ---- the types of operators

-- a test of types that was passed
pub type_passed : (test : Truth) {v u : Ty} → type_if test v ≡ Some u → v ≡ u
type_passed true h = cc
type_passed false h = absurd cc

-- a lazy operator takes truth values
pub lazy_types : (f : Op) (v w u : Ty) → class_of f ≡ Lazy → value_type f v w ≡ Some u → (v ≡ ty.Bool) × (w ≡ ty.Bool) × (u ≡ ty.Bool)
lazy_types o.Implies ty.Bool ty.Bool u lazy typed = (refl, refl, cc)
lazy_types o.Or ty.Bool ty.Bool u lazy typed = (refl, refl, cc)
lazy_types o.And ty.Bool ty.Bool u lazy typed = (refl, refl, cc)
lazy_types f v w u lazy typed = absurd cc

-- a divisor is an Int
pub divisor_type : (f : Op) (v w u : Ty) → class_of f ≡ Division → value_type f v w ≡ Some u → w ≡ ty.Int
divisor_type o.Divide ty.Int ty.Int u division typed = refl
divisor_type o.Divide ty.Perm ty.Int u division typed = refl
divisor_type o.IntDiv ty.Int ty.Int u division typed = refl
divisor_type o.IntMod ty.Int ty.Int u division typed = refl
divisor_type f v w u division typed = absurd cc

pub product_base : (x z : Operand) (v w u : Ty) → value_type o.Mul v w ≡ Some u → x.base ≡ base_for v → z.base ≡ base_for w → (product_operand x z).base ≡ base_for u
product_base x z ty.Int ty.Int u typed h i = let k : ty.Int ≡ u = cc in rw (← k, h, i) refl
product_base x z ty.Int ty.Perm u typed h i = let k : ty.Perm ≡ u = cc in rw (← k, h, i) refl
product_base x z ty.Perm ty.Int u typed h i = let k : ty.Perm ≡ u = cc in rw (← k, h, i) refl
product_base x z ty.Perm ty.Perm u typed h i = let k : ty.Perm ≡ u = cc in rw (← k, h, i) refl
product_base x z v w u typed h i = absurd cc

pub operand_base : (f : Op) (x z : Operand) (v w u : Ty) → class_of f ≡ Plain → value_type f v w ≡ Some u → x.base ≡ base_for v → z.base ≡ base_for w → (operand_of f x z).base ≡ base_for u
operand_base o.Add x z v w u plain typed h i = h ∙ ap base_for (type_passed _ typed)
operand_base o.Sub x z v w u plain typed h i = h ∙ ap base_for (type_passed _ typed)
operand_base o.Mul x z v w u plain typed h i = product_base x z v w u typed h i
operand_base o.Iff x z v w u plain typed h i = ap base_for (type_passed _ typed)
operand_base o.Eq x z v w u plain typed h i = ap base_for (type_passed _ typed)
operand_base o.Ne x z v w u plain typed h i = ap base_for (type_passed _ typed)
operand_base o.Lt x z v w u plain typed h i = ap base_for (type_passed _ typed)
operand_base o.Le x z v w u plain typed h i = ap base_for (type_passed _ typed)
operand_base o.Gt x z v w u plain typed h i = ap base_for (type_passed _ typed)
operand_base o.Ge x z v w u plain typed h i = ap base_for (type_passed _ typed)
operand_base f x z v w u plain typed h i = absurd cc

pub quotient_base : (f : Op) (x : Operand) (d : t.BExpr) (v w u : Ty) → class_of f ≡ Division → value_type f v w ≡ Some u → (quotient_operand f x d).base ≡ base_for u
quotient_base o.Divide x d v w u division typed = ap base_for (type_passed _ typed)
quotient_base o.IntDiv x d v w u division typed = ap base_for (type_passed _ typed)
quotient_base o.IntMod x d v w u division typed = ap base_for (type_passed _ typed)
quotient_base f x d v w u division typed = absurd cc

class_base : (q : Class) (p : Place) (g : Guard) (f : Op) (at : Pos) (left : Emitting Operand) (right : Guard → Emitting Operand) (v w u : Ty) → class_of f ≡ q → value_type f v w ≡ Some u →
    ((n : ℕ) → (left n).value.base ≡ base_for v) → ((h : Guard) (n : ℕ) → (right h n).value.base ≡ base_for w) → (n : ℕ) → (in_class_code q p g f at left right n).value.base ≡ base_for u
class_base Lazy p g f at left right v w u class typed h i n = ap base_for (sym (lazy_types f v w u class typed).2)
class_base Division p g f at left right v w u class typed h i n = quotient_base f (left n).value _ v w u class typed
class_base Plain p g f at left right v w u class typed h i n = operand_base f (left n).value _ v w u class typed (h n) (i g (left n).next)

-- ---- the types of expressions

mutual
  pub code_base : (c : Context) (p : Place) (g : Guard) (a : e.Expr) (u : Ty) → y.HasType c a u → (n : ℕ) → (code (kinds_in c) p g a n).value.base ≡ base_for u
  code_base c p g (e.Var x) u (y.variable visible there) n = ap base_for (get_or_from_slice_get c.vars x u ty.Int there)
  code_base c p g (e.Int z) _ (y.literal l) n = refl
  code_base c p g (e.Bool q) _ y.truth n = refl
  code_base c p g e.Null _ y.null n = refl
  code_base c p g (e.Part q) _ (y.part l) n = refl
  code_base c p g (e.Neg a) u (y.negative i counts) n = code_base c p g a u i n
  code_base c p g (e.Not a) _ (y.negation i) n = refl
  code_base c p g (e.Bin f a d at) u (y.binary {left = v} {right = w} i j typed) n =
      class_base (class_of f) p g f at (code (kinds_in c) p g a) (λ h. code (kinds_in c) p h d) v w u refl typed (λ m. code_base c p g a v i m) (λ h m. code_base c p h d w j m) n
  code_base c p g (e.Choose a d f) u (y.choice i j k) n = let h = (code (kinds_in c) p g a n).next in code_base c p (Some h) d u j (h + 1 + 1)
  code_base c p g (e.Field a f at) u (y.field i there) n = ap base_for (get_or_from_slice_get c.program.layout.fields f u ty.Int there)
  code_base c p g (e.Old a) u (y.old allowed i) n = code_base c (with_now p.old p) g a u i n
  code_base c p g (e.Unfolding q) u (y.unfolded outside i) n = unfolding_base c p g q u i n

  unfolding_base : (c : Context) (p : Place) (g : Guard) (q : e.Opened) (u : Ty) → Opens c q u → (n : ℕ) → (unfolding_code (kinds_in c) p g q n).value.base ≡ base_for u
  unfolding_base c p g (e.opened q args amount body inner at) u (y.opens d there has_body i j k) n = code_base c _ g inner u k _
