-- How many brackets the code of folding and unfolding has open at once. Nothing is cut in what an assertion contains: a product or a
-- quotient opens two over an Int, and between two of these there are a comparison and a choice. So there are at most four brackets
-- for three levels.
use Rattle.std.proofs.Common.{◌≡◌, ◌+◌, ◌*◌, ◌≤◌, max, ℕ, Bool as Truth, true, false, List, Some, None, slice_get, if◌then◌else◌, ◌⊎◌, inl, inr, refl, ap, sym, subst, arith}
use Rattle.std.proofs.lemmas.Option.{get_or_from_slice_get}
use Rattle.vb_base.specs.Limits.{max_term_depth}
use Rattle.vb_value.specs.declared.values.Ty.{Ty}
use Rattle.vb_value.specs.declared.values.Ty.TheVariants as ty
use Rattle.viper_core.specs.Depth.{depth, depths, amount_depth, amt_depth, assertion_depth, fold_depth}
use Rattle.viper_core.specs.declared.exprs.Op.{Op}
use Rattle.viper_core.specs.declared.exprs.Op.TheVariants as o
use Rattle.viper_core.specs.Expr as e
use Rattle.viper_core.specs.Formed.{IsFormed, predicate_context}
use Rattle.viper_core.specs.Program.{Predicate}
use Rattle.viper_core.specs.Stmt.{FoldStmt}
use Rattle.viper_core.specs.Typing as y
use Rattle.viper_core.specs.Typing.{Context, IsAmount, IsAssertion, IsFold, value_type, type_if, allows_old, is_outside_predicates}
use Rattle.viper_core.proofs.FormedLaws.{at_some, predicate_of_typed, predicate_body_of_typed}
use Rattle.viper_meaning.specs.Operators.{Class, Lazy, Division, Plain, class_of}
use Rattle.viper_meaning.proofs.TypedLaws.{keys_at}
use Rattle.boogie_tree.specs.Expr as t
use Rattle.boogie_tree.specs.Nested.{expr_depth, exprs_depth, stmts_depth}
use Rattle.boogie_tree.specs.declared.exprs.BBase.TheVariants as base
use Rattle.boogie_tree.specs.declared.exprs.BOp.{BOp}
use Rattle.boogie_tree.specs.declared.exprs.BOp.TheVariants as op
use Rattle.moves.specs.Scalars.{base_for}
use Rattle.enc_expr.specs.Place.{Maps, Place, number, with_now, with_vars}
use Rattle.enc_expr.specs.Kinds.{Kinds, kinds_in, type_at, body_kinds}
use Rattle.enc_expr.specs.Pieces.{Operand, at_one, zero_real, is_one}
use Rattle.enc_expr.specs.Operators.{operand_of, product_operand, quotient_operand}
use Rattle.enc_expr.specs.Encoding.{code, codes, body_code, leaf}
use Rattle.enc_expr.specs.Plain.{plain_by, plain, plain_more, plain_index, plain_amount, contained_by, content_expr}
use Rattle.enc_expr.proofs.BaseLaws.{lazy_types, divisor_type}
use Rattle.enc_expr.proofs.PropertyPieces.{Any, AreAll, IsCode, map_has}
use Rattle.enc_expr.proofs.ShallowCode.{brackets, real_low, amount_few, code_low, codes_low, body_low}
use Rattle.enc_assert.specs.Encoding.{consume_code}
use Rattle.enc_assert.proofs.ShallowAssertions.{consume_shallow}
use Rattle.enc_fold.specs.Encoding.{fold_code, unfold_code}
use Rattle.enc_fold.proofs.ClosingLaws.{kinds_of_body}
use Rattle.enc_fold.proofs.PropertyFold.{fold_has, unfold_has}

-- ---- values without checks

-- what a Bool and a Perm may have more
abbrev room : Ty → ℕ
room ty.Int = 0
room ty.Bool = 1
room ty.Ref = 0
room ty.Perm = 2

-- the operand of an expression of this depth and type
record IsFlat (d : ℕ) (u : Ty) (x : Operand) : Type 0 where
  base : x.base ≡ base_for u
  low : 3 * expr_depth x.expr + 4 ≤ 4 * d + room u

truth_flat : (f : BOp) (x z : Operand) (d k : ℕ) (v w u : Ty) (q : Truth) → type_if q ty.Bool ≡ Some u → IsFlat d v x → IsFlat k w z → IsFlat (1 + max d k) u (record { expr = t.Bin f x.expr z.expr; base = base.Bool })
truth_flat f x z d k v w u true typed h i =
    let is : ty.Bool ≡ u = cc in let a = h.low in let b = i.low in let r = most v in let q = most w in
    subst (λ u. IsFlat (1 + max d k) u (record { expr = t.Bin f x.expr z.expr; base = base.Bool })) is (record { base = refl; low = omega (arith, a, b, r, q) })
  where
    most : (v : Ty) → room v ≤ 2
    most ty.Int = omega arith
    most ty.Bool = omega arith
    most ty.Ref = omega arith
    most ty.Perm = omega arith
truth_flat f x z d k v w u false typed h i = absurd cc

sum_flat : (f : BOp) (x z : Operand) (d k : ℕ) (v w u : Ty) → value_type o.Add v w ≡ Some u → IsFlat d v x → IsFlat k w z → IsFlat (1 + max d k) u (record { expr = t.Bin f x.expr z.expr; base = x.base })
sum_flat f x z d k ty.Int ty.Int u typed h i = let is : ty.Int ≡ u = cc in let a = h.low in let b = i.low in
    subst (λ u. IsFlat (1 + max d k) u (record { expr = t.Bin f x.expr z.expr; base = x.base })) is (record { base = h.base; low = omega (arith, a, b) })
sum_flat f x z d k ty.Perm ty.Perm u typed h i = let is : ty.Perm ≡ u = cc in let a = h.low in let b = i.low in
    subst (λ u. IsFlat (1 + max d k) u (record { expr = t.Bin f x.expr z.expr; base = x.base })) is (record { base = h.base; low = omega (arith, a, b) })
sum_flat f x z d k v w u typed h i = absurd cc

product_flat : (x z : Operand) (d k : ℕ) (v w u : Ty) → value_type o.Mul v w ≡ Some u → IsFlat d v x → IsFlat k w z → IsFlat (1 + max d k) u (product_operand x z)
product_flat x z d k ty.Int ty.Int u typed h i = let is : ty.Int ≡ u = cc in let a = h.low in let b = i.low in rw (← is, h.base, i.base) (record { base = refl; low = omega (arith, a, b) })
product_flat x z d k ty.Int ty.Perm u typed h i = let is : ty.Perm ≡ u = cc in let a = h.low in let b = i.low in let r = real_low x.expr in rw (← is, h.base, i.base) (record { base = refl; low = omega (arith, a, b, r) })
product_flat x z d k ty.Perm ty.Int u typed h i = let is : ty.Perm ≡ u = cc in let a = h.low in let b = i.low in let r = real_low z.expr in rw (← is, h.base, i.base) (record { base = refl; low = omega (arith, a, b, r) })
product_flat x z d k ty.Perm ty.Perm u typed h i = let is : ty.Perm ≡ u = cc in let a = h.low in let b = i.low in rw (← is, h.base, i.base) (record { base = refl; low = omega (arith, a, b) })
product_flat x z d k v w u typed h i = absurd cc

operand_flat : (f : Op) (x z : Operand) (d k : ℕ) (v w u : Ty) → class_of f ≡ Plain → value_type f v w ≡ Some u → IsFlat d v x → IsFlat k w z → IsFlat (1 + max d k) u (operand_of f x z)
operand_flat o.Iff x z d k v w u plain typed h i = truth_flat op.Iff x z d k v w u _ typed h i
operand_flat o.Eq x z d k v w u plain typed h i = truth_flat op.Eq x z d k v w u _ typed h i
operand_flat o.Ne x z d k v w u plain typed h i = truth_flat op.Ne x z d k v w u _ typed h i
operand_flat o.Lt x z d k v w u plain typed h i = truth_flat op.Lt x z d k v w u _ typed h i
operand_flat o.Le x z d k v w u plain typed h i = truth_flat op.Le x z d k v w u _ typed h i
operand_flat o.Gt x z d k v w u plain typed h i = truth_flat op.Gt x z d k v w u _ typed h i
operand_flat o.Ge x z d k v w u plain typed h i = truth_flat op.Ge x z d k v w u _ typed h i
operand_flat o.Add x z d k v w u plain typed h i = sum_flat op.Add x z d k v w u typed h i
operand_flat o.Sub x z d k v w u plain typed h i = sum_flat op.Sub x z d k v w u typed h i
operand_flat o.Mul x z d k v w u plain typed h i = product_flat x z d k v w u typed h i
operand_flat f x z d k v w u plain typed h i = absurd cc

quotient_flat : (f : Op) (x z : Operand) (d k : ℕ) (v u : Ty) → class_of f ≡ Division → value_type f v ty.Int ≡ Some u → IsFlat d v x → IsFlat k ty.Int z → IsFlat (1 + max d k) u (quotient_operand f x z.expr)
quotient_flat o.Divide x z d k ty.Int u division typed h i = let is : ty.Perm ≡ u = cc in let a = h.low in let b = i.low in let r = real_low x.expr in let q = real_low z.expr in
    rw (← is, h.base) (record { base = refl; low = omega (arith, a, b, r, q) })
quotient_flat o.Divide x z d k ty.Perm u division typed h i = let is : ty.Perm ≡ u = cc in let a = h.low in let b = i.low in let q = real_low z.expr in rw (← is, h.base) (record { base = refl; low = omega (arith, a, b, q) })
quotient_flat o.IntDiv x z d k ty.Int u division typed h i = let is : ty.Int ≡ u = cc in let a = h.low in let b = i.low in rw (← is) (record { base = refl; low = omega (arith, a, b) })
quotient_flat o.IntMod x z d k ty.Int u division typed h i = let is : ty.Int ≡ u = cc in let a = h.low in let b = i.low in rw (← is) (record { base = refl; low = omega (arith, a, b) })
quotient_flat f x z d k v u division typed h i = absurd cc

class_flat : (q : Class) (f : Op) (x z : Operand) (d k : ℕ) (v w u : Ty) → class_of f ≡ q → value_type f v w ≡ Some u → IsFlat d v x → IsFlat k w z → IsFlat (1 + max d k) u (plain_by q f x z)
class_flat Lazy f x z d k v w u class typed h i =
    let types = lazy_types f v w u class typed in
    let l : IsFlat d ty.Bool x = subst (λ v. IsFlat d v x) types.0 h in let r : IsFlat k ty.Bool z = subst (λ w. IsFlat k w z) types.1 i in
    let a = l.low in let b = r.low in
    subst (λ u. IsFlat (1 + max d k) u (plain_by Lazy f x z)) (sym types.2) (record { base = refl; low = omega (arith, a, b) })
class_flat Division f x z d k v w u class typed h i =
    let int = divisor_type f v w u class typed in quotient_flat f x z d k v u class (subst (λ w. value_type f v w ≡ Some u) int typed) h (subst (λ w. IsFlat k w z) int i)
class_flat Plain f x z d k v w u class typed h i = operand_flat f x z d k v w u class typed h i

negated_flat : (d : ℕ) (u : Ty) (x : Operand) → IsFlat d u x → IsFlat (1 + d) u (record { expr = t.Neg x.expr; base = x.base })
negated_flat d u x h = let a = h.low in record { base = h.base; low = omega (arith, a) }

chosen_flat : (d k l : ℕ) (u : Ty) (x z w : Operand) → IsFlat d ty.Bool x → IsFlat k u z → IsFlat l u w → IsFlat (1 + max d (max k l)) u (record { expr = t.If x.expr z.expr w.expr; base = z.base })
chosen_flat d k l u x z w h i j = let a = h.low in let b = i.low in let c = j.low in record { base = i.base; low = omega (arith, a, b, c) }

-- an amount that is a literal permission counts nothing
part_flat : (a : e.Expr) → (amount_depth a ≡ depth a) ⊎ ((q : _) × (a ≡ e.Part q))
part_flat (e.Part q) = inr (q, refl)
part_flat (e.Var x) = inl refl
part_flat (e.Int n) = inl refl
part_flat (e.Bool b) = inl refl
part_flat e.Null = inl refl
part_flat (e.Neg a) = inl refl
part_flat (e.Not a) = inl refl
part_flat (e.Bin o a b at) = inl refl
part_flat (e.Choose a b c) = inl refl
part_flat (e.Field a f at) = inl refl
part_flat (e.Old a) = inl refl
part_flat (e.Unfolding o) = inl refl

module _ (c : Context) (p : Place) (inside : allows_old c.site ≡ false) (closed : is_outside_predicates c.site ≡ false) where
  plain_flat : (a : e.Expr) (u : Ty) → y.HasType c a u → IsFlat (depth a) u (plain (kinds_in c) p a)
  plain_flat (e.Var x) u (y.variable visible there) = record { base = ap base_for (get_or_from_slice_get c.vars x u ty.Int there); low = omega arith }
  plain_flat (e.Int n) _ (y.literal l) = record { base = refl; low = omega arith }
  plain_flat (e.Bool q) _ y.truth = record { base = refl; low = omega arith }
  plain_flat e.Null _ y.null = record { base = refl; low = omega arith }
  plain_flat (e.Part q) _ (y.part l) = record { base = refl; low = omega arith }
  plain_flat (e.Neg a) u (y.negative i counts) = negated_flat (depth a) u (plain (kinds_in c) p a) (plain_flat a u i)
  plain_flat (e.Not a) _ (y.negation i) = let h = (plain_flat a ty.Bool i).low in record { base = refl; low = omega (arith, h) }
  plain_flat (e.Bin f a d at) u (y.binary {left = v} {right = w} i j typed) =
      class_flat (class_of f) f (plain (kinds_in c) p a) (plain (kinds_in c) p d) (depth a) (depth d) v w u refl typed (plain_flat a v i) (plain_flat d w j)
  plain_flat (e.Choose a d f) u (y.choice i j k) =
      chosen_flat (depth a) (depth d) (depth f) u (plain (kinds_in c) p a) (plain (kinds_in c) p d) (plain (kinds_in c) p f) (plain_flat a ty.Bool i) (plain_flat d u j) (plain_flat f u k)
  plain_flat (e.Field a f at) u (y.field i there) = let h = (plain_flat a ty.Ref i).low in
      record { base = ap base_for (get_or_from_slice_get c.program.layout.fields f u ty.Int there); low = omega (arith, h) }
  plain_flat (e.Old a) u (y.old allowed i) = absurd cc
  plain_flat (e.Unfolding q) u (y.unfolded outside i) = absurd cc

  most_room : (u : Ty) → room u ≤ 2
  most_room ty.Int = omega arith
  most_room ty.Bool = omega arith
  most_room ty.Ref = omega arith
  most_room ty.Perm = omega arith

  more_flat : (xs : e.Exprs) (us : List Ty) → y.HaveTypes c xs us → 3 * exprs_depth (plain_more (kinds_in c) p xs) ≤ 4 * depths xs
  more_flat e.none _ y.nothing = omega arith
  more_flat (e.more a rest) _ (y.also {u = u} {us = us} i j) = let h = (plain_flat a u i).low in let r = more_flat rest us j in let q = most_room u in omega (arith, h, r, q)

  index_flat : (xs : e.Exprs) (us : List Ty) → y.HaveTypes c xs us → 3 * exprs_depth (plain_index (kinds_in c) p xs) ≤ 4 * depths xs
  index_flat e.none _ y.nothing = omega arith
  index_flat (e.more a rest) us typed = more_flat (e.more a rest) us typed

  amount_flat : (m : e.Amt) → IsAmount c m → 3 * expr_depth (plain_amount (kinds_in c) p m) ≤ 4 * amt_depth m
  amount_flat (e.Is a) (y.amount i) = by_part (part_flat a)
    where
      by_part : (amount_depth a ≡ depth a) ⊎ ((q : _) × (a ≡ e.Part q)) → 3 * expr_depth (plain (kinds_in c) p a).expr ≤ 4 * amount_depth a
      by_part (inl same) = let h = (plain_flat a ty.Perm i).low in omega (arith, h, same)
      by_part (inr is) = subst (λ a. 3 * expr_depth (plain (kinds_in c) p a).expr ≤ 4 * amount_depth a) (sym is.1) (omega arith)
  amount_flat e.Wildcard (y.wildcard outside) = omega arith

  contained_flat : (x z : t.BExpr) (d k : ℕ) → 3 * expr_depth x ≤ 4 * d → 3 * expr_depth z ≤ 4 * k + 3 → 3 * expr_depth (contained_by x z) ≤ 4 * (1 + max k d) + 2
  contained_flat x z d k h i = by_literal (is_one x)
    where
      by_literal : (one : Truth) → 3 * expr_depth (if one then z else t.If (t.Bin op.Gt x zero_real) z t.Unit) ≤ 4 * (1 + max k d) + 2
      by_literal true = omega (arith, h, i)
      by_literal false = omega (arith, h, i)

  leaf_flat : (u : Ty) (x : t.BExpr) → expr_depth (leaf u x) ≡ 1 + expr_depth x
  leaf_flat ty.Int x = refl
  leaf_flat ty.Bool x = refl
  leaf_flat ty.Ref x = refl
  leaf_flat ty.Perm x = refl

  pub content_flat : (a : e.Assertion) → IsAssertion c a → 3 * expr_depth (content_expr (kinds_in c) p a) ≤ 4 * assertion_depth a + 2
  content_flat (e.Fact a at) (y.fact i) = omega arith
  content_flat (e.Acc a f m at) (y.access {u = u} i there j) =
      let h = (plain_flat a ty.Ref i).low in let x = at_one (number p.now.heap f) (plain (kinds_in c) p a).expr in let one = leaf_flat (type_at c.program.layout.fields f) x in
      contained_flat (plain_amount (kinds_in c) p m) (leaf (type_at c.program.layout.fields f) x) (amt_depth m) (depth a) (amount_flat m j) (omega (arith, h, one))
  content_flat (e.Inst q args m at) (y.instance d there i j) =
      let h = index_flat args d.params i in
      contained_flat (plain_amount (kinds_in c) p m) (t.At (number p.now.content q) (plain_index (kinds_in c) p args)) (amt_depth m) (depths args) (amount_flat m j) (omega (arith, h))
  content_flat (e.And a d) (y.both i j) = let h = content_flat a i in let k = content_flat d j in omega (arith, h, k)
  content_flat (e.Implies a d) (y.implied i j) = let h = (plain_flat a ty.Bool i).low in let k = content_flat d j in omega (arith, h, k)
  content_flat (e.ChooseAssertion a d f) (y.chosen i j k) = let h = (plain_flat a ty.Bool i).low in let l = content_flat d j in let n = content_flat f k in omega (arith, h, l, n)

-- ---- folding and unfolding

module _ (c : Context) (p : Place) (formed : IsFormed c.program) (f : FoldStmt) (typed : IsFold c f) where
  abbrev k : Kinds
  k = kinds_in c

  abbrev d : Predicate
  d = typed.predicate

  keys : slice_get c.program.layout.keys f.predicate ≡ Some d.params
  keys = keys_at c formed f.predicate d typed.exists

  body_is : IsAssertion (predicate_context c.program d) typed.body
  body_is = predicate_body_of_typed c.program formed.typed f.predicate d typed.body typed.exists typed.has_body

  nested : assertion_depth typed.body ≤ max_term_depth
  nested = at_some (λ (b : e.Assertion). assertion_depth b ≤ max_term_depth) d.body (predicate_of_typed c.program formed.typed f.predicate d typed.exists).nested typed.body typed.has_body

  -- four brackets for three levels of a term that may be as deep as any
  abbrev top : ℕ
  top = max max_term_depth (fold_depth f) + 342

  abbrev most : ℕ
  most = max (depths f.args) (depth f.amount)

  args_low : IsCode brackets top (AreAll brackets most) (codes k p None f.args)
  args_low = let few = amount_few f.amount in codes_low top (omega arith) c p None f.args d.params most formed typed.args (omega arith) (omega arith)

  amount_low : IsCode brackets top (λ (x : Operand). expr_depth x.expr ≤ most) (code k p None f.amount)
  amount_low = let few = amount_few f.amount in map_has brackets top (code_low top (omega arith) c p None f.amount ty.Perm formed typed.amount (omega (arith, few))) (λ x i. let a = i.low in omega (arith, a))

  few_levels : most ≤ top
  few_levels = let few = amount_few f.amount in omega (arith, few)

  consumed_low : (start : Maps) (is : List ℕ) (q : t.BExpr) → expr_depth q ≤ 0 → IsCode brackets top Any (consume_code (body_kinds k f.predicate) (with_vars is (with_now start p)) p.now None q typed.body)
  consumed_low start is q low = let place = with_vars is (with_now start p) in
      subst (λ o. IsCode brackets top Any (consume_code o place p.now None q typed.body)) (kinds_of_body c f.predicate d keys) (record {
        stmts = λ n. let h = (consume_shallow (predicate_context c.program d) place p.now None q typed.body n formed body_is (omega (arith, low))).stmts in omega (arith, h, nested);
        value = λ n. tt;
      })

  content_low : (start : Maps) (is : List ℕ) → expr_depth (content_expr (body_kinds k f.predicate) (with_vars is (with_now start p)) typed.body) ≤ top
  content_low start is = let place = with_vars is (with_now start p) in
      let flat : 3 * expr_depth (content_expr (body_kinds k f.predicate) place typed.body) ≤ 4 * assertion_depth typed.body + 2 = subst (λ o. 3 * expr_depth (content_expr o place typed.body) ≤ 4 * assertion_depth typed.body + 2) (kinds_of_body c f.predicate d keys)
      (content_flat (predicate_context c.program d) place refl refl typed.body body_is) in omega (arith, flat, nested)

  produced_low : (is : List ℕ) (q : t.BExpr) (from : ℕ) → expr_depth q ≤ 0 → IsCode brackets top Any (body_code (body_kinds k f.predicate) (with_vars is p) None q typed.body from)
  produced_low is q from low = subst (λ o. IsCode brackets top Any (body_code o (with_vars is p) None q typed.body from)) (kinds_of_body c f.predicate d keys)
      (body_low top (omega arith) (predicate_context c.program d) (with_vars is p) None q typed.body from formed body_is low (omega (arith, nested)))

  fold_low : IsCode brackets top Any (fold_code k p f typed.body)
  fold_low = fold_has brackets top k p f typed.body most (omega arith) few_levels args_low amount_low consumed_low content_low

  unfold_low : IsCode brackets top Any (unfold_code k p f typed.body)
  unfold_low = unfold_has brackets top k p f typed.body most (omega arith) few_levels args_low amount_low produced_low

  pub fold_shallow : (n : ℕ) → 3 * stmts_depth (fold_code k p f typed.body n).stmts ≤ 4 * max max_term_depth (fold_depth f) + 2
  fold_shallow n = let h = fold_low.stmts n in omega (arith, h)

  pub unfold_shallow : (n : ℕ) → 3 * stmts_depth (unfold_code k p f typed.body n).stmts ≤ 4 * max max_term_depth (fold_depth f) + 2
  unfold_shallow n = let h = unfold_low.stmts n in omega (arith, h)
