-- What is written for an amount is well-typed.
use Rattle.std.proofs.Common.{◌≡◌, ◌≢◌, ℕ, Bool, true, false, List, Some, None, slice_get, All, refl, subst, if◌then◌else◌}
use Rattle.vb_base.specs.declared.labels.Kind.TheVariants as kind
use Rattle.vb_base.specs.declared.places.Pos.{Pos}
use Rattle.vb_value.specs.Layout.{Layout}
use Rattle.vb_value.specs.declared.values.Ty.{Ty}
use Rattle.vb_value.specs.declared.values.Ty.TheVariants as ty
use Rattle.boogie_tree.specs.Expr as t
use Rattle.boogie_tree.specs.Stmt as s
use Rattle.boogie_tree.specs.Program.{BType}
use Rattle.boogie_tree.specs.declared.exprs.BBase.TheVariants as base
use Rattle.boogie_tree.specs.declared.exprs.BOp.TheVariants as op
use Rattle.boogie_tree.specs.Values.{plain_type}
use Rattle.boogie_meaning.specs.Types as b
use Rattle.boogie_meaning.specs.Types.{HasType, IsTyped, IsTypedStmt}
use Rattle.enc_expr.specs.Place.{Maps, Place}
use Rattle.enc_expr.specs.Pieces.{Operand, zero_real, one_real, is_one, label, scaled, add_to}
use Rattle.enc_expr.specs.Typed.{IsOperand, AreOperands}
use Rattle.enc_expr.proofs.TypedPieces.{IsTypedCode, join_typed, one_typed, gives_typed, then_typed, atomic_typed, AreVariables, located_typed, index_typed, at_typed, put_typed}
use Rattle.enc_expr.proofs.TypedForms.{own_type, scaled_typed, check_nonnegative_typed}
use Rattle.enc_assert.specs.Target.{AccessTarget, Field, Instance, Aimed, held_in, key_of}
use Rattle.enc_assert.specs.Encoding.{field_target, instance_target, where_positive, some_amount, more_held, gives_code, gives_some, takes_code, takes_some}
use Rattle.enc_assert.specs.Typed.{HasHeldTypes}

-- the field or predicate exists, and what it is read at has its types
pub data IsTypedTarget (ts : List BType) (layout : Layout) : AccessTarget → Type 0 where
  field : {f : ℕ} {u : Ty} {x : t.BExpr} → slice_get layout.fields f ≡ Some u → HasType ts None x base.Ref → IsTypedTarget ts layout (Field f x)
  instance : {q : ℕ} {us : List Ty} {is : List ℕ} → slice_get layout.keys q ≡ Some us → All (λ u. u ≢ ty.Perm) us → AreVariables ts us is → IsTypedTarget ts layout (Instance q is)

-- and the statements that set it are well-typed
pub record IsTypedAim (ts : List BType) (layout : Layout) (x : Aimed) : Type 0 where
  pub target : IsTypedTarget ts layout x.target
  pub sets : IsTyped ts x.sets

module _ (ts : List BType) (layout : Layout) where
  pub field_typed : (f : ℕ) (u : Ty) (x : Operand) → slice_get layout.fields f ≡ Some u → IsOperand ts ty.Ref x → IsTypedCode ts (IsTypedAim ts layout) (field_target f x)
  field_typed f u x there h = then_typed ts (atomic_typed ts x (own_type ts h)) (λ r a. gives_typed ts (record { target = field there (subst (HasType ts None r.expr) h.base a.typed); sets = a.sets }))

  pub instance_typed : (q : ℕ) (us : List Ty) (xs : List Operand) → slice_get layout.keys q ≡ Some us → All (λ u. u ≢ ty.Perm) us → AreOperands ts us xs → IsTypedCode ts (IsTypedAim ts layout) (instance_target q xs)
  instance_typed q us xs there keys h = then_typed ts (located_typed ts h) (λ l a. gives_typed ts (record { target = instance there keys a.typed; sets = a.sets }))

  -- how much is held of the target
  held_typed : (m : Maps) (x : AccessTarget) → HasHeldTypes layout m ts → IsTypedTarget ts layout x → HasType ts None (t.At (held_in m x) (key_of x)) base.Real
  held_typed m (Field f x) h (field {u = u} there i) = b.at (h.mask f u there) (b.more refl i b.none)
  held_typed m (Instance q is) h (instance {us = us} there keys i) = at_typed ts us (held_in m (Instance q is)) base.Real (key_of (Instance q is)) (h.amount q us there) (index_typed ts us is keys i)

  set_typed : (m : Maps) (x : AccessTarget) (v : t.BExpr) → HasHeldTypes layout m ts → IsTypedTarget ts layout x → HasType ts None v base.Real → IsTypedStmt ts (s.Put (held_in m x) (key_of x) v)
  set_typed m (Field f x) v h (field {u = u} there i) k = b.put (h.mask f u there) (b.more refl i b.none) k
  set_typed m (Instance q is) v h (instance {us = us} there keys i) k = put_typed ts us (held_in m (Instance q is)) base.Real (key_of (Instance q is)) v (h.amount q us there) (index_typed ts us is keys i) k

  add_typed : (m : Maps) (x : AccessTarget) (q : t.BExpr) → HasHeldTypes layout m ts → IsTypedTarget ts layout x → HasType ts None q base.Real → IsTyped ts (add_to (held_in m x) (key_of x) q)
  add_typed m x q h i k = let held = held_typed m x h i in b.first (b.assume_ (b.binary refl held b.real)) (one_typed ts (set_typed m x (t.Bin op.Add (t.At (held_in m x) (key_of x)) q) h i (b.binary refl held k)))

  take_typed : (m : Maps) (x : AccessTarget) (q : t.BExpr) → HasHeldTypes layout m ts → IsTypedTarget ts layout x → HasType ts None q base.Real →
      IsTypedStmt ts (s.Put (held_in m x) (key_of x) (t.Bin op.Sub (t.At (held_in m x) (key_of x)) q))
  take_typed m x q h i k = set_typed m x (t.Bin op.Sub (t.At (held_in m x) (key_of x)) q) h i (b.binary refl (held_typed m x h i) k)

  where_typed : (q x : t.BExpr) → HasType ts None q base.Real → HasType ts None x base.Bool → HasType ts None (where_positive q x) base.Bool
  where_typed q x h i = by_literal (is_one q)
    where
      by_literal : (p : Bool) → HasType ts None (if p then x else t.Bin op.Implies (t.Bin op.Gt q zero_real) x) base.Bool
      by_literal true = i
      by_literal false = b.binary refl (b.binary refl h b.real) i

  some_typed : (w : ℕ) → slice_get ts w ≡ Some (plain_type base.Real) → IsTyped ts (some_amount w)
  some_typed w l = b.first (b.havoc l) (one_typed ts (b.assume_ (b.binary refl (b.var l) b.real)))

  -- ---- produce

  more_typed : (m : Maps) (scale : t.BExpr) (x : AccessTarget) (q : t.BExpr) → HasHeldTypes layout m ts → HasType ts None scale base.Real → IsTypedTarget ts layout x → HasType ts None q base.Real → IsTyped ts (more_held m scale x q)
  more_typed m scale (Field f x) q h k (field there i) l = let aim = field there i in
      b.first (b.assume_ (where_typed q (t.Bin op.Ne x t.Null) l (b.binary refl i b.null))) (join_typed ts (add_typed m (Field f x) (scaled scale q) h aim (scaled_typed ts scale q k l))
      (one_typed ts (b.assume_ (where_typed q (t.Bin op.Le (t.At (held_in m (Field f x)) (key_of (Field f x))) one_real) l (b.binary refl (held_typed m (Field f x) h aim) b.real)))))
  more_typed m scale (Instance p is) q h k i l = add_typed m (Instance p is) (scaled scale q) h i (scaled_typed ts scale q k l)

  pub gives_code_typed : (p : Place) (scale : t.BExpr) (at : Pos) (x : AccessTarget) (q : t.BExpr) → HasHeldTypes layout p.now ts → HasType ts None scale base.Real → IsTypedTarget ts layout x → HasType ts None q base.Real →
      IsTyped ts (gives_code p scale at x q)
  gives_code_typed p scale at x q h k i l = join_typed ts (check_nonnegative_typed ts (label p at kind.Negative) q l) (more_typed p.now scale x q h k i l)

  pub gives_some_typed : (p : Place) (scale : t.BExpr) (x : AccessTarget) (w : ℕ) → HasHeldTypes layout p.now ts → HasType ts None scale base.Real → IsTypedTarget ts layout x → slice_get ts w ≡ Some (plain_type base.Real) →
      IsTyped ts (gives_some p scale x w)
  gives_some_typed p scale x w h k i l = join_typed ts (some_typed w l) (more_typed p.now scale x (t.Var w) h k i (b.var l))

  -- ---- consume

  pub takes_code_typed : (p : Place) (left : Maps) (scale : t.BExpr) (at : Pos) (x : AccessTarget) (q : t.BExpr) → HasHeldTypes layout left ts → HasType ts None scale base.Real → IsTypedTarget ts layout x → HasType ts None q base.Real →
      IsTyped ts (takes_code p left scale at x q)
  takes_code_typed p left scale at x q h k i l = let amount = scaled_typed ts scale q k l in
      join_typed ts (check_nonnegative_typed ts (label p at kind.Negative) q l) (b.first (b.assert_ (b.binary refl (held_typed left x h i) amount)) (one_typed ts (take_typed left x (scaled scale q) h i amount)))

  pub takes_some_typed : (p : Place) (left : Maps) (at : Pos) (x : AccessTarget) (w : ℕ) → HasHeldTypes layout left ts → IsTypedTarget ts layout x → slice_get ts w ≡ Some (plain_type base.Real) → IsTyped ts (takes_some p left at x w)
  takes_some_typed p left at x w h i l = let held = held_typed left x h i in
      b.first (b.assert_ (b.binary refl held b.real)) (join_typed ts (some_typed w l) (b.first (b.assume_ (b.binary refl (b.var l) held)) (one_typed ts (take_typed left x (t.Var w) h i (b.var l)))))
