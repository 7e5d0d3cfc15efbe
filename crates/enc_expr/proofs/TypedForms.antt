-- The code of each form is well-typed where that of its parts is.
use Rattle.std.proofs.Common.{◌≡◌, ℕ, pos, Bool, true, false, List, [], ◌∷◌, Some, None, slice_get, All, ◌≢◌, refl, ap, sym, ◌∙◌, subst, if◌then◌else◌}
use Rattle.std.proofs.lemmas.Option.{get_or_from_slice_get}
use Rattle.vb_base.specs.declared.labels.Label.{Label}
use Rattle.vb_base.specs.declared.labels.Kind.TheVariants as kind
use Rattle.vb_base.specs.declared.places.Pos.{Pos}
use Rattle.vb_value.specs.Layout.{Layout}
use Rattle.vb_value.specs.declared.values.Ty.{Ty}
use Rattle.vb_value.specs.declared.values.Ty.TheVariants as ty
use Rattle.viper_core.specs.declared.exprs.Op.{Op}
use Rattle.viper_core.specs.declared.exprs.Op.TheVariants as o
use Rattle.viper_core.specs.Typing.{Context, value_type}
use Rattle.viper_meaning.specs.Operators.{Class, Lazy, Division, Plain, class_of}
use Rattle.boogie_tree.specs.Expr as t
use Rattle.boogie_tree.specs.Stmt as s
use Rattle.boogie_tree.specs.Stmt.{BStmts}
use Rattle.boogie_tree.specs.Program.{BType}
use Rattle.boogie_tree.specs.declared.exprs.BBase.{BBase}
use Rattle.boogie_tree.specs.declared.exprs.BBase.TheVariants as base
use Rattle.boogie_tree.specs.declared.exprs.BOp.{BOp}
use Rattle.boogie_tree.specs.declared.exprs.BOp.TheVariants as op
use Rattle.boogie_tree.specs.Values.{plain_type}
use Rattle.boogie_meaning.specs.Types as b
use Rattle.boogie_meaning.specs.Types.{HasType, HaveTypes, IsTyped, answer_of}
use Rattle.enc_expr.specs.Place.{Maps, Place, number}
use Rattle.moves.specs.Scalars.{base_for, variable_type}
use Rattle.moves.specs.Maps.{index_types, mask_type, amount_type}
use Rattle.enc_expr.specs.Kinds.{kinds_in, type_at}
use Rattle.enc_expr.specs.Code.{Emitting, join, gives, Guard}
use Rattle.enc_expr.specs.Pieces.{Operand, index, at_one, one, label, zero_real, is_one, unless_known, is_divisor_literal, is_amount_literal, check_nonnegative, check_positive, check_divisor, scaled, if_positive, real, add_to}
use Rattle.enc_expr.specs.Operators.{plain_operand, product_operand, operand_of, quotient_operand, division, right_counts, lazy_op, lazily, in_class_code, binary_code, chosen_operand, choose_code}
use Rattle.enc_expr.specs.Encoding.{read_checks, read_code, is_unit, leaf, same_where_held, fill_place_code, fill_instance_code, fill_by, acc_code, instance_code, pair_code, taking}
use Rattle.enc_expr.specs.Typed.{HasStateTypes, HasGuardType, IsOperand, AreOperands}
use Rattle.enc_expr.proofs.BaseLaws.{lazy_types, divisor_type}
use Rattle.enc_expr.proofs.TypedPieces.{IsTypedCode, Any, join_typed, one_typed, gives_typed, then_typed, declares_typed, puts_typed, guards_typed, atomic_typed, located_typed, index_typed, at_typed, put_typed}

module _ (ts : List BType) where
  -- ---- operators

  pub own_type : {u : Ty} {x : Operand} → IsOperand ts u x → HasType ts None x.expr x.base
  own_type {x = x} h = subst (HasType ts None x.expr) (sym h.base) h.typed

  compared_typed : (f : BOp) (x y : Operand) (v w u : Ty) → answer_of f base.Int ≡ Some base.Bool → answer_of f base.Real ≡ Some base.Bool → value_type o.Lt v w ≡ Some u →
      IsOperand ts v x → IsOperand ts w y → IsOperand ts u (record { expr = t.Bin f x.expr y.expr; base = base.Bool })
  compared_typed f x y ty.Int ty.Int u i r typed h k = let e : ty.Bool ≡ u = cc in subst (λ (a : Ty). IsOperand ts a (record { expr = t.Bin f x.expr y.expr; base = base.Bool })) e (record { typed = b.binary i h.typed k.typed; base = refl })
  compared_typed f x y ty.Perm ty.Perm u i r typed h k = let e : ty.Bool ≡ u = cc in subst (λ (a : Ty). IsOperand ts a (record { expr = t.Bin f x.expr y.expr; base = base.Bool })) e (record { typed = b.binary r h.typed k.typed; base = refl })
  compared_typed f x y v w u i r typed h k = absurd cc

  equal_typed : (f : BOp) (x y : Operand) (v w u : Ty) → ((a : BBase) → answer_of f a ≡ Some base.Bool) → value_type o.Eq v w ≡ Some u →
      IsOperand ts v x → IsOperand ts w y → IsOperand ts u (record { expr = t.Bin f x.expr y.expr; base = base.Bool })
  equal_typed f x y ty.Int ty.Int u i typed h k = let e : ty.Bool ≡ u = cc in subst (λ (a : Ty). IsOperand ts a (record { expr = t.Bin f x.expr y.expr; base = base.Bool })) e (record { typed = b.binary (i _) h.typed k.typed; base = refl })
  equal_typed f x y ty.Bool ty.Bool u i typed h k = let e : ty.Bool ≡ u = cc in subst (λ (a : Ty). IsOperand ts a (record { expr = t.Bin f x.expr y.expr; base = base.Bool })) e (record { typed = b.binary (i _) h.typed k.typed; base = refl })
  equal_typed f x y ty.Ref ty.Ref u i typed h k = let e : ty.Bool ≡ u = cc in subst (λ (a : Ty). IsOperand ts a (record { expr = t.Bin f x.expr y.expr; base = base.Bool })) e (record { typed = b.binary (i _) h.typed k.typed; base = refl })
  equal_typed f x y ty.Perm ty.Perm u i typed h k = let e : ty.Bool ≡ u = cc in subst (λ (a : Ty). IsOperand ts a (record { expr = t.Bin f x.expr y.expr; base = base.Bool })) e (record { typed = b.binary (i _) h.typed k.typed; base = refl })
  equal_typed f x y v w u i typed h k = absurd cc

  iff_typed : (x y : Operand) (v w u : Ty) → value_type o.Iff v w ≡ Some u → IsOperand ts v x → IsOperand ts w y → IsOperand ts u (plain_operand o.Iff x y)
  iff_typed x y ty.Bool ty.Bool u typed h k = let e : ty.Bool ≡ u = cc in subst (λ (a : Ty). IsOperand ts a (plain_operand o.Iff x y)) e (record { typed = b.binary refl h.typed k.typed; base = refl })
  iff_typed x y v w u typed h k = absurd cc

  sum_typed : (f : BOp) (x y : Operand) (v w u : Ty) → answer_of f base.Int ≡ Some base.Int → answer_of f base.Real ≡ Some base.Real → value_type o.Add v w ≡ Some u →
      IsOperand ts v x → IsOperand ts w y → IsOperand ts u (record { expr = t.Bin f x.expr y.expr; base = x.base })
  sum_typed f x y ty.Int ty.Int u i r typed h k = let e : ty.Int ≡ u = cc in subst (λ (a : Ty). IsOperand ts a (record { expr = t.Bin f x.expr y.expr; base = x.base })) e (record { typed = b.binary i h.typed k.typed; base = h.base })
  sum_typed f x y ty.Perm ty.Perm u i r typed h k = let e : ty.Perm ≡ u = cc in subst (λ (a : Ty). IsOperand ts a (record { expr = t.Bin f x.expr y.expr; base = x.base })) e (record { typed = b.binary r h.typed k.typed; base = h.base })
  sum_typed f x y v w u i r typed h k = absurd cc

  pub real_typed : (x : t.BExpr) → HasType ts None x base.Int → HasType ts None (real x) base.Real
  real_typed (t.Int n) h = b.real
  real_typed x h = to_real_typed x h
    where
      to_real_typed : (x : t.BExpr) → HasType ts None x base.Int → HasType ts None (t.ToReal x) base.Real
      to_real_typed x h = b.to_real h

  product_typed : (x y : Operand) (v w u : Ty) → value_type o.Mul v w ≡ Some u → IsOperand ts v x → IsOperand ts w y → IsOperand ts u (product_operand x y)
  product_typed x y ty.Int ty.Int u typed h k = let e : ty.Int ≡ u = cc in rw (← e, h.base, k.base) (record { typed = b.binary refl h.typed k.typed; base = refl })
  product_typed x y ty.Int ty.Perm u typed h k = let e : ty.Perm ≡ u = cc in rw (← e, h.base, k.base) (record { typed = b.binary refl (real_typed x.expr h.typed) k.typed; base = refl })
  product_typed x y ty.Perm ty.Int u typed h k = let e : ty.Perm ≡ u = cc in rw (← e, h.base, k.base) (record { typed = b.binary refl h.typed (real_typed y.expr k.typed); base = refl })
  product_typed x y ty.Perm ty.Perm u typed h k = let e : ty.Perm ≡ u = cc in rw (← e, h.base, k.base) (record { typed = b.binary refl h.typed k.typed; base = refl })
  product_typed x y v w u typed h k = absurd cc

  pub operand_typed : (f : Op) (x y : Operand) (v w u : Ty) → class_of f ≡ Plain → value_type f v w ≡ Some u → IsOperand ts v x → IsOperand ts w y → IsOperand ts u (operand_of f x y)
  operand_typed o.Iff x y v w u plain typed h k = iff_typed x y v w u typed h k
  operand_typed o.Eq x y v w u plain typed h k = equal_typed op.Eq x y v w u (λ a. refl) typed h k
  operand_typed o.Ne x y v w u plain typed h k = equal_typed op.Ne x y v w u (λ a. refl) typed h k
  operand_typed o.Lt x y v w u plain typed h k = compared_typed op.Lt x y v w u refl refl typed h k
  operand_typed o.Le x y v w u plain typed h k = compared_typed op.Le x y v w u refl refl typed h k
  operand_typed o.Gt x y v w u plain typed h k = compared_typed op.Gt x y v w u refl refl typed h k
  operand_typed o.Ge x y v w u plain typed h k = compared_typed op.Ge x y v w u refl refl typed h k
  operand_typed o.Add x y v w u plain typed h k = sum_typed op.Add x y v w u refl refl typed h k
  operand_typed o.Sub x y v w u plain typed h k = sum_typed op.Sub x y v w u refl refl typed h k
  operand_typed o.Mul x y v w u plain typed h k = product_typed x y v w u typed h k
  operand_typed f x y v w u plain typed h k = absurd cc

  pub quotient_typed : (f : Op) (x : Operand) (d : t.BExpr) (v u : Ty) → class_of f ≡ Division → value_type f v ty.Int ≡ Some u → IsOperand ts v x → HasType ts None d base.Int → IsOperand ts u (quotient_operand f x d)
  quotient_typed o.Divide x d ty.Int u division typed h k = let e : ty.Perm ≡ u = cc in rw (← e, h.base) (record { typed = b.binary refl (real_typed x.expr h.typed) (real_typed d k); base = refl })
  quotient_typed o.Divide x d ty.Perm u division typed h k = let e : ty.Perm ≡ u = cc in rw (← e, h.base) (record { typed = b.binary refl h.typed (real_typed d k); base = refl })
  quotient_typed o.IntDiv x d ty.Int u division typed h k = let e : ty.Int ≡ u = cc in rw (← e) (record { typed = b.binary refl h.typed k; base = refl })
  quotient_typed o.IntMod x d ty.Int u division typed h k = let e : ty.Int ≡ u = cc in rw (← e) (record { typed = b.binary refl h.typed k; base = refl })
  quotient_typed f x d v u division typed h k = absurd cc

  pub unless_typed : (known : Bool) (xs : BStmts) → IsTyped ts xs → IsTyped ts (unless_known known xs)
  unless_typed true xs h = b.skip
  unless_typed false xs h = h

  check_divisor_typed : (l : Label) (d : t.BExpr) → HasType ts None d base.Int → IsTyped ts (check_divisor l d)
  check_divisor_typed l d h = unless_typed (is_divisor_literal d) (one (s.Assert l (t.Bin op.Ne d (t.Int (pos 0))))) (one_typed ts (b.assert_ (b.binary refl h b.int)))

  division_typed : (p : Place) (g : Guard) (f : Op) (at : Pos) (x y : Operand) (v u : Ty) → HasGuardType g ts → class_of f ≡ Division → value_type f v ty.Int ≡ Some u → IsOperand ts v x → IsOperand ts ty.Int y →
      IsTypedCode ts (IsOperand ts u) (division p g f at x y)
  division_typed p g f at x y v u guard division typed h k = then_typed ts (atomic_typed ts y (own_type k)) (λ d a.
      let e : HasType ts None d.expr base.Int = subst (HasType ts None d.expr) k.base a.typed in
      then_typed ts {go = λ z. gives (quotient_operand f x d.expr)} (puts_typed ts g (join d.sets (check_divisor (label p at kind.Div) d.expr)) guard (join_typed ts a.sets (check_divisor_typed (label p at kind.Div) d.expr e)))
      (λ z w. gives_typed ts (quotient_typed f x d.expr v u division typed h e)))

  -- what is read under a guard of its own
  lazily_typed : (g : Guard) (f : Op) (x : Operand) (right : Guard → Emitting Operand) → HasGuardType g ts → HasType ts None x.expr base.Bool →
      ((h : Guard) → HasGuardType h ts → IsTypedCode ts (IsOperand ts ty.Bool) (right h)) → IsTypedCode ts (IsOperand ts ty.Bool) (lazily g f x right)
  lazily_typed g f x right guard h go = then_typed ts (guards_typed ts g (right_counts f x.expr) guard (counts f)) (λ i l. then_typed ts (go (Some i) l) (λ y k.
      gives_typed ts (record { typed = b.binary (answers f) (b.var l) k.typed; base = refl })))
    where
      counts : (f : Op) → HasType ts None (right_counts f x.expr) base.Bool
      counts o.Or = b.not_ h
      counts f = h

      answers : (f : Op) → answer_of (lazy_op f) base.Bool ≡ Some base.Bool
      answers o.And = refl
      answers f = refl

  in_class_typed : (k : Class) (p : Place) (g : Guard) (f : Op) (at : Pos) (left : Emitting Operand) (right : Guard → Emitting Operand) (v w u : Ty) → class_of f ≡ k → value_type f v w ≡ Some u → HasGuardType g ts →
      IsTypedCode ts (IsOperand ts v) left → ((h : Guard) → HasGuardType h ts → IsTypedCode ts (IsOperand ts w) (right h)) → IsTypedCode ts (IsOperand ts u) (in_class_code k p g f at left right)
  in_class_typed Lazy p g f at left right v w u class typed guard h go = let e = lazy_types f v w u class typed in
      rw e.2 (then_typed ts h (λ x k. lazily_typed g f x right guard (subst (λ (a : Ty). HasType ts None x.expr (base_for a)) e.0 k.typed) (λ i l. subst (λ (a : Ty). IsTypedCode ts (IsOperand ts a) (right i)) e.1 (go i l))))
  in_class_typed Division p g f at left right v w u class typed guard h go = let e = divisor_type f v w u class typed in
      then_typed ts h (λ x k. then_typed ts (go g guard) (λ y i. division_typed p g f at x y v u guard class (subst (λ (a : Ty). value_type f v a ≡ Some u) e typed) k (subst (λ (a : Ty). IsOperand ts a y) e i)))
  in_class_typed Plain p g f at left right v w u class typed guard h go = then_typed ts h (λ x k. then_typed ts (go g guard) (λ y i. gives_typed ts (operand_typed f x y v w u class typed k i)))

  pub binary_typed : (p : Place) (g : Guard) (f : Op) (at : Pos) (left : Emitting Operand) (right : Guard → Emitting Operand) (v w u : Ty) → value_type f v w ≡ Some u → HasGuardType g ts →
      IsTypedCode ts (IsOperand ts v) left → ((h : Guard) → HasGuardType h ts → IsTypedCode ts (IsOperand ts w) (right h)) → IsTypedCode ts (IsOperand ts u) (binary_code p g f at left right)
  binary_typed p g f at left right v w u typed guard h go = in_class_typed (class_of f) p g f at left right v w u refl typed guard h go

  pub choose_typed : {X Y : Type 0} {P : X → Type 0} {Q : Y → Type 0} (g : Guard) (x : t.BExpr) (left right : Guard → Emitting X) (both : ℕ → X → X → Y) → HasGuardType g ts → HasType ts None x base.Bool →
      ((h : Guard) → HasGuardType h ts → IsTypedCode ts P (left h)) → ((h : Guard) → HasGuardType h ts → IsTypedCode ts P (right h)) →
      ((h : ℕ) (v w : X) → slice_get ts h ≡ Some (plain_type base.Bool) → P v → P w → Q (both h v w)) → IsTypedCode ts Q (choose_code g x left right both)
  choose_typed g x left right both guard h go to all = then_typed ts (guards_typed ts g x guard h) (λ i l. then_typed ts (guards_typed ts g (t.Not (t.Var i)) guard (b.not_ (b.var l))) (λ j k.
      then_typed ts (go (Some i) l) (λ v p. then_typed ts (to (Some j) k) (λ w q. gives_typed ts (all i v w l p q)))))

  pub chosen_typed : (u : Ty) (h : ℕ) (x y : Operand) → slice_get ts h ≡ Some (plain_type base.Bool) → IsOperand ts u x → IsOperand ts u y → IsOperand ts u (chosen_operand h x y)
  chosen_typed u h x y l i k = record { typed = b.choose (b.var l) i.typed k.typed; base = i.base }

  -- ---- reading a field

  pub at_one_typed : (m : ℕ) (w : BBase) (x : t.BExpr) → slice_get ts m ≡ Some (record { keys = base.Ref ∷ []; base = w }) → HasType ts None x base.Ref → HasType ts None (at_one m x) w
  at_one_typed m w x l h = b.at l (b.more refl h b.none)

  read_checks_typed : (layout : Layout) (p : Place) (f : ℕ) (at : Pos) (x : t.BExpr) (u : Ty) → HasStateTypes layout p.now ts → slice_get layout.fields f ≡ Some u → HasType ts None x base.Ref → IsTyped ts (read_checks p f at x)
  read_checks_typed layout p f at x u now there h = b.first (b.assert_ (b.binary refl h b.null)) (one_typed ts (b.assert_ (b.binary refl (at_one_typed (number p.now.mask f) base.Real x (now.mask f u there) h) b.real)))

  pub read_typed : (c : Context) (p : Place) (g : Guard) (f : ℕ) (at : Pos) (x : Operand) (u : Ty) → HasGuardType g ts → HasStateTypes c.program.layout p.now ts → slice_get c.program.layout.fields f ≡ Some u →
      IsOperand ts ty.Ref x → IsTypedCode ts (IsOperand ts u) (read_code (kinds_in c) p g f at x)
  read_typed c p g f at x u guard now there h = then_typed ts (atomic_typed ts x (own_type h)) (λ r a. let e : HasType ts None r.expr base.Ref = subst (HasType ts None r.expr) h.base a.typed in
      then_typed ts {go = λ z. gives (record { expr = at_one (number p.now.heap f) r.expr; base = base_for (type_at c.program.layout.fields f) })}
      (puts_typed ts g (join r.sets (read_checks p f at r.expr)) guard (join_typed ts a.sets (read_checks_typed c.program.layout p f at r.expr u now there e)))
      (λ z w. gives_typed ts (field_typed r.expr e)))
    where
      is_type : type_at c.program.layout.fields f ≡ u
      is_type = get_or_from_slice_get c.program.layout.fields f u ty.Int there

      field_typed : (r : t.BExpr) → HasType ts None r base.Ref → IsOperand ts u (record { expr = at_one (number p.now.heap f) r; base = base_for (type_at c.program.layout.fields f) })
      field_typed r e = record { typed = at_one_typed (number p.now.heap f) (base_for u) r (now.heap f u there) e; base = ap base_for is_type }

  -- ---- amounts

  pub scaled_typed : (x y : t.BExpr) → HasType ts None x base.Real → HasType ts None y base.Real → HasType ts None (scaled x y) base.Real
  scaled_typed x y h k = by_literals (is_one x) (is_one y)
    where
      by_literals : (p q : Bool) → HasType ts None (if p then y else if q then x else t.Bin op.Mul x y) base.Real
      by_literals true q = k
      by_literals false true = h
      by_literals false false = b.binary refl h k

  pub check_nonnegative_typed : (l : Label) (x : t.BExpr) → HasType ts None x base.Real → IsTyped ts (check_nonnegative l x)
  check_nonnegative_typed l x h = unless_typed (is_amount_literal x) (one (s.Assert l (t.Bin op.Ge x zero_real))) (one_typed ts (b.assert_ (b.binary refl h b.real)))

  pub check_positive_typed : (l : Label) (x : t.BExpr) → HasType ts None x base.Real → IsTyped ts (check_positive l x)
  check_positive_typed l x h = unless_typed (is_one x) (one (s.Assert l (t.Bin op.Gt x zero_real))) (one_typed ts (b.assert_ (b.binary refl h b.real)))

  if_positive_typed : (x : t.BExpr) (xs ys : BStmts) → HasType ts None x base.Real → IsTyped ts xs → IsTyped ts ys → IsTyped ts (if_positive x xs ys)
  if_positive_typed x xs ys h i j = by_literal (is_one x)
    where
      by_literal : (p : Bool) → IsTyped ts (if p then xs else one (s.If (t.Bin op.Gt x zero_real) xs ys))
      by_literal true = i
      by_literal false = one_typed ts (b.if_ (b.binary refl h b.real) i j)

  -- a mask or amount gets more
  pub add_to_typed : (us : List Ty) (m : ℕ) (es : t.BExprs) (x : t.BExpr) → slice_get ts m ≡ Some (amount_type us) → HaveTypes ts None es (index_types us) → HasType ts None x base.Real → IsTyped ts (add_to m es x)
  add_to_typed us m es x l h k = let old : HasType ts None (t.At m es) base.Real = at_typed ts us m base.Real es l h in
      b.first (b.assume_ (b.binary refl old b.real)) (one_typed ts (put_typed ts us m base.Real es (t.Bin op.Add (t.At m es) x) l h (b.binary refl old k)))

  add_to_mask_typed : (m : ℕ) (es : t.BExprs) (x : t.BExpr) (u : Ty) → slice_get ts m ≡ Some (mask_type u) → HaveTypes ts None es (base.Ref ∷ []) → HasType ts None x base.Real → IsTyped ts (add_to m es x)
  add_to_mask_typed m es x u l h k = let old : HasType ts None (t.At m es) base.Real = b.at l h in b.first (b.assume_ (b.binary refl old b.real)) (one_typed ts (b.put l h (b.binary refl old k)))

  -- ---- filling from a content

  unit_typed : (from : ℕ) → slice_get ts from ≡ Some (plain_type base.Snap) → HasType ts None (is_unit from) base.Bool
  unit_typed from l = b.binary refl (b.var l) b.unit

  pub only_unit_typed : (from : ℕ) → slice_get ts from ≡ Some (plain_type base.Snap) → IsTyped ts (one (s.Assume (is_unit from)))
  only_unit_typed from l = one_typed ts (b.assume_ (unit_typed from l))

  pub fact_typed : (from : ℕ) (x : t.BExpr) → slice_get ts from ≡ Some (plain_type base.Snap) → HasType ts None x base.Bool → IsTyped ts (s.first (s.Assume (is_unit from)) (one (s.Assume x)))
  fact_typed from x l h = b.first (b.assume_ (unit_typed from l)) (one_typed ts (b.assume_ h))

  pub pair_typed : (from l r : ℕ) → slice_get ts from ≡ Some (plain_type base.Snap) → slice_get ts l ≡ Some (plain_type base.Snap) → slice_get ts r ≡ Some (plain_type base.Snap) → IsTyped ts (pair_code from l r)
  pair_typed from l r h i j = b.first (b.havoc i) (b.first (b.havoc j) (one_typed ts (b.assume_ (b.binary refl (b.var h) (b.pair (b.var i) (b.var j))))))

  pub leaf_typed : (u : Ty) (x : t.BExpr) → HasType ts None x (base_for u) → HasType ts None (leaf u x) base.Snap
  leaf_typed ty.Int x h = b.s_int h
  leaf_typed ty.Bool x h = b.s_bool h
  leaf_typed ty.Ref x h = b.s_ref h
  leaf_typed ty.Perm x h = b.s_perm h

  pub same_typed : (w : BBase) (held old new : t.BExpr) → HasType ts None held base.Real → HasType ts None old w → HasType ts None new w → b.IsTypedStmt ts (same_where_held held old new)
  same_typed w held old new h i j = b.assume_ (b.binary refl (b.binary refl h b.real) (b.binary refl i j))

  fill_by_typed : (p : Place) (at : Pos) (x : t.BExpr) (from : ℕ) (xs : BStmts) → slice_get ts from ≡ Some (plain_type base.Snap) → HasType ts None x base.Real → IsTyped ts xs → IsTyped ts (fill_by p at x from xs)
  fill_by_typed p at x from xs l h i = join_typed ts (check_nonnegative_typed (label p at kind.Negative) x h) (if_positive_typed x xs (one (s.Assume (is_unit from))) h i (only_unit_typed from l))

  fill_place_typed : (layout : Layout) (p : Place) (scale : t.BExpr) (u : Ty) (f : ℕ) (x q : t.BExpr) (v from : ℕ) → HasStateTypes layout p.now ts → slice_get layout.fields f ≡ Some u → HasType ts None scale base.Real →
      HasType ts None x base.Ref → HasType ts None q base.Real → slice_get ts v ≡ Some (variable_type u) → slice_get ts from ≡ Some (plain_type base.Snap) → IsTyped ts (fill_place_code p scale u f x q v from)
  fill_place_typed layout p scale u f x q v from now there s h i l k =
      b.first (b.assume_ (b.binary refl h b.null)) (b.first (b.havoc l) (b.first (b.assume_ (b.binary refl (b.var k) (leaf_typed u (t.Var v) (b.var l)))) (
      b.first (same_typed (base_for u) (at_one mask x) (at_one heap x) (t.Var v) held old (b.var l)) (b.first (b.put (now.heap f u there) key (b.var l)) (
      join_typed ts (add_to_mask_typed mask (t.more x t.none) (scaled scale q) u (now.mask f u there) key (scaled_typed scale q s i)) (one_typed ts (b.assume_ (b.binary refl held b.real))))))))
    where
      heap : ℕ
      heap = number p.now.heap f

      mask : ℕ
      mask = number p.now.mask f

      key : HaveTypes ts None (t.more x t.none) (base.Ref ∷ [])
      key = b.more refl h b.none

      held : HasType ts None (at_one (number p.now.mask f) x) base.Real
      held = at_one_typed (number p.now.mask f) base.Real x (now.mask f u there) h

      old : HasType ts None (at_one (number p.now.heap f) x) (base_for u)
      old = at_one_typed (number p.now.heap f) (base_for u) x (now.heap f u there) h

  pub fill_instance_typed : (layout : Layout) (p : Place) (scale : t.BExpr) (us : List Ty) (q : ℕ) (key : t.BExprs) (amount : t.BExpr) (from : ℕ) → HasStateTypes layout p.now ts → slice_get layout.keys q ≡ Some us → HasType ts None scale base.Real →
      HaveTypes ts None key (index_types us) → HasType ts None amount base.Real → slice_get ts from ≡ Some (plain_type base.Snap) → IsTyped ts (fill_instance_code p scale q key amount from)
  fill_instance_typed layout p scale us q key amount from now there s h i l =
      b.first (same_typed base.Snap (t.At (number p.now.amount q) key) (t.At (number p.now.content q) key) (t.Var from) (at_typed ts us (number p.now.amount q) base.Real key (now.amount q us there) h)
      (at_typed ts us (number p.now.content q) base.Snap key (now.content q us there) h) (b.var l))
      (b.first (put_typed ts us (number p.now.content q) base.Snap key (t.Var from) (now.content q us there) h (b.var l))
      (add_to_typed us (number p.now.amount q) key (scaled scale amount) (now.amount q us there) h (scaled_typed scale amount s i)))

  pub acc_typed : (c : Context) (p : Place) (g : Guard) (scale : t.BExpr) (f : ℕ) (at : Pos) (from : ℕ) (x q : Operand) (u : Ty) → HasGuardType g ts → HasStateTypes c.program.layout p.now ts →
      slice_get c.program.layout.fields f ≡ Some u → HasType ts None scale base.Real → slice_get ts from ≡ Some (plain_type base.Snap) → IsOperand ts ty.Ref x → IsOperand ts ty.Perm q →
      IsTypedCode ts Any (acc_code (kinds_in c) p g scale f at from x q)
  acc_typed c p g scale f at from x q u guard now there s l h i = then_typed ts (atomic_typed ts x (own_type h)) (λ r j. then_typed ts (atomic_typed ts q (own_type i)) (λ a k.
      then_typed ts (declares_typed ts (variable_type (type_at c.program.layout.fields f))) (λ v m.
      puts_typed ts g (join r.sets (join a.sets (fill_by p at a.expr from (fill_place_code p scale (type_at c.program.layout.fields f) f r.expr a.expr v from)))) guard
      (join_typed ts j.sets (join_typed ts k.sets (fill_by_typed p at a.expr from (fill_place_code p scale (type_at c.program.layout.fields f) f r.expr a.expr v from) l (subst (HasType ts None a.expr) i.base k.typed)
      (fill_place_typed c.program.layout p scale (type_at c.program.layout.fields f) f r.expr a.expr v from now it s (subst (HasType ts None r.expr) h.base j.typed) (subst (HasType ts None a.expr) i.base k.typed) m l)))))))
    where
      it : slice_get c.program.layout.fields f ≡ Some (type_at c.program.layout.fields f)
      it = there ∙ ap (λ (a : Ty). Some a) (sym (get_or_from_slice_get c.program.layout.fields f u ty.Int there))

  pub instance_typed : (layout : Layout) (p : Place) (g : Guard) (scale : t.BExpr) (q : ℕ) (at : Pos) (from : ℕ) (xs : List Operand) (m : Operand) (us : List Ty) → HasGuardType g ts → HasStateTypes layout p.now ts →
      slice_get layout.keys q ≡ Some us → All (λ (u : Ty). u ≢ ty.Perm) us → HasType ts None scale base.Real → slice_get ts from ≡ Some (plain_type base.Snap) → AreOperands ts us xs → IsOperand ts ty.Perm m →
      IsTypedCode ts Any (instance_code p g scale q at from xs m)
  instance_typed layout p g scale q at from xs m us guard now there keys s l h i = then_typed ts (located_typed ts h) (λ r j. then_typed ts (atomic_typed ts m (own_type i)) (λ a k.
      puts_typed ts g (join r.sets (join a.sets (fill_by p at a.expr from (fill_instance_code p scale q (index r.locals) a.expr from)))) guard
      (join_typed ts j.sets (join_typed ts k.sets (fill_by_typed p at a.expr from (fill_instance_code p scale q (index r.locals) a.expr from) l (subst (HasType ts None a.expr) i.base k.typed)
      (fill_instance_typed layout p scale us q (index r.locals) a.expr from now there s (index_typed ts us r.locals keys j.typed) (subst (HasType ts None a.expr) i.base k.typed) l))))))

  -- so much is taken out of the maps l, and the content too
  pub taking_typed : (layout : Layout) (p : Place) (l : Maps) (sets : BStmts) (us : List Ty) (q : ℕ) (key : t.BExprs) (amount : t.BExpr) (from : ℕ) (at : Pos) → HasStateTypes layout p.now ts → HasStateTypes layout l ts →
      slice_get layout.keys q ≡ Some us → IsTyped ts sets → HaveTypes ts None key (index_types us) → HasType ts None amount base.Real → slice_get ts from ≡ Some (plain_type base.Snap) →
      IsTyped ts (taking p l sets q key amount from at)
  taking_typed layout p l sets us q key amount from at now own there h i k there_from =
      join_typed ts (check_positive_typed (label p at kind.Amount) amount k) (b.first (b.assert_ (b.binary refl (at_typed ts us (number p.now.amount q) base.Real key (now.amount q us there) i) k)) (
      join_typed ts h (b.first (put_typed ts us (number l.amount q) base.Real key (t.Bin op.Sub (t.At (number l.amount q) key) amount) (own.amount q us there) i
      (b.binary refl (at_typed ts us (number l.amount q) base.Real key (own.amount q us there) i) k)) (
      one_typed ts (b.assign there_from (b.value (at_typed ts us (number l.content q) base.Snap key (own.content q us there) i)))))))
