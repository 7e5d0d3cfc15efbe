-- How many brackets the code of an expression or body has open at once: at most one more than the expression or body itself, and
-- its value no more than the expression. So the code of a term of a program has at most 1,025. A value can be made a real, and that
-- of an Int has a bracket to spare for it.
use Rattle.std.proofs.Common.{◌≡◌, ◌+◌, ◌≤◌, max, ℕ, Bool, true, false, List, [], ◌∷◌, Some, refl, ap, sym, subst, arith}
use Rattle.std.specs.Prelude.{⊤}
use Rattle.std.proofs.lemmas.Option.{get_or_from_slice_get}
use Rattle.vb_base.specs.Limits.{max_term_depth}
use Rattle.vb_base.specs.declared.places.Pos.{Pos}
use Rattle.vb_value.specs.declared.values.Ty.{Ty}
use Rattle.vb_value.specs.declared.values.Ty.TheVariants as ty
use Rattle.viper_core.specs.Depth.{depth, depths, amount_depth, amt_depth, assertion_depth}
use Rattle.viper_core.specs.declared.exprs.Op.{Op}
use Rattle.viper_core.specs.declared.exprs.Op.TheVariants as o
use Rattle.viper_core.specs.Expr as e
use Rattle.viper_core.specs.Formed.{IsFormed, predicate_context}
use Rattle.viper_core.specs.Typing as y
use Rattle.viper_core.specs.Typing.{Context, IsAssertion, IsAmount, Opens, value_type, type_if}
use Rattle.viper_core.proofs.FormedLaws.{at_some, predicate_of_typed, predicate_body_of_typed}
use Rattle.viper_meaning.specs.Operators.{Division, Plain, class_of}
use Rattle.viper_meaning.proofs.TypedLaws.{keys_at}
use Rattle.boogie_tree.specs.Expr as t
use Rattle.boogie_tree.specs.Stmt as s
use Rattle.boogie_tree.specs.Stmt.{BStmts}
use Rattle.boogie_tree.specs.Nested.{expr_depth, exprs_depth, stmt_depth, stmts_depth}
use Rattle.boogie_tree.specs.declared.exprs.BBase.TheVariants as base
use Rattle.boogie_tree.specs.declared.exprs.BOp.{BOp}
use Rattle.boogie_tree.specs.declared.exprs.BOp.TheVariants as op
use Rattle.boogie_tree.specs.Values.{plain_type}
use Rattle.enc_expr.specs.Place.{Place, with_now, with_vars}
use Rattle.moves.specs.Scalars.{base_for}
use Rattle.enc_expr.specs.Kinds.{Kinds, kinds_in, type_at, body_kinds}
use Rattle.enc_expr.specs.Code.{Emitting, join, Guard, puts}
use Rattle.enc_expr.specs.Pieces.{Operand, is_atom, one, real}
use Rattle.enc_expr.specs.Operators.{operand_of, product_operand, quotient_operand, binary_code, chosen_operand}
use Rattle.enc_expr.specs.Encoding.{leaf, read_code, is_unit, code, unfolding_code, codes, amount_code, body_code}
use Rattle.enc_expr.specs.Shallow.{reserve, IsShallow, IsShallowExpression}
use Rattle.enc_expr.proofs.BaseLaws.{lazy_types, divisor_type}
use Rattle.enc_expr.proofs.Property.{Property}
use Rattle.enc_expr.proofs.PropertyPieces.{Any, AreAll, IsCode, gives_has, then_has, map_has, declares_has, atomic_has, located_has}
use Rattle.enc_expr.proofs.PropertyForms.{in_class_has, choose_has, read_has, acc_has, instance_has, opening_has, fact_has, unit_has, pair_has}

-- ---- trees

pub join_low : (k : ℕ) (xs ys : BStmts) → stmts_depth xs ≤ k → stmts_depth ys ≤ k → stmts_depth (join xs ys) ≤ k
join_low k s.skip ys h i = i
join_low k (s.first x xs) ys h i = let rest : stmts_depth (join xs ys) ≤ k = join_low k xs ys (omega (arith, h)) i in omega (arith, h, rest)

pub atom_low : (x : t.BExpr) → is_atom x ≡ true → expr_depth x ≤ 0
atom_low (t.Var i) h = omega arith
atom_low (t.Int n) h = omega arith
atom_low (t.Real n) h = omega arith
atom_low (t.Bool q) h = omega arith
atom_low t.Null h = omega arith
atom_low x h = absurd cc

pub leaf_low : (d : ℕ) (u : Ty) (x : t.BExpr) → expr_depth x ≤ d → expr_depth (leaf u x) ≤ 1 + d
leaf_low d ty.Int x h = omega (arith, h)
leaf_low d ty.Bool x h = omega (arith, h)
leaf_low d ty.Ref x h = omega (arith, h)
leaf_low d ty.Perm x h = omega (arith, h)

pub real_low : (x : t.BExpr) → expr_depth (real x) ≤ expr_depth x + 1
real_low (t.Int n) = omega arith
real_low x = other x
  where
    other : (x : t.BExpr) → expr_depth (t.ToReal x) ≤ expr_depth x + 1
    other x = omega arith

-- at most so many brackets are open at once
abbrev pub brackets : Property
brackets = record {
  expr = λ d x. expr_depth x ≤ d;
  exprs = λ d es. exprs_depth es ≤ d;
  stmt = λ d x. stmt_depth x ≤ d;
  block = λ d xs. stmts_depth xs ≤ d;
  keys = λ us. ⊤;
  more_in = λ h few. omega (arith, h, few);
  more_in_block = λ h few. omega (arith, h, few);
  atom = λ {d} {x} is h. atom_low x is;
  var = λ i. omega arith;
  zero = omega arith;
  zero_real = omega arith;
  one_real = omega arith;
  truth = λ q. omega arith;
  null = omega arith;
  unit = omega arith;
  not = λ h. omega (arith, h);
  binary = λ h i. omega (arith, h, i);
  at = λ h. omega (arith, h);
  content = λ {d} {x} u h. leaf_low d u x h;
  pair = λ h i. omega (arith, h, i);
  quantified = λ any h. omega (arith, h);
  at_bound = λ i. omega arith;
  none = omega arith;
  more = λ h i. omega (arith, h, i);
  assign = λ h. h;
  put = λ h i. omega (arith, h, i);
  havoc = λ i. omega arith;
  assume = λ h. h;
  assert = λ h. omega (arith, h);
  branch = λ h i j. omega (arith, h, i, j);
  either = λ i j. omega (arith, i, j);
  skip = omega arith;
  first = λ h i. omega (arith, h, i);
  joined = λ {k} xs ys h i. join_low k xs ys h i;
}

-- The operand of an expression of this depth and type.
pub record IsLow (d : ℕ) (u : Ty) (x : Operand) : Type 0 where
  pub some : 1 ≤ d
  pub base : x.base ≡ base_for u
  pub low : expr_depth x.expr + reserve u ≤ d

low_more : {d f : ℕ} {u : Ty} (x : Operand) → IsLow d u x → d ≤ f → IsLow f u x
low_more x h more = record { some = let a = h.some in omega (arith, a, more); base = h.base; low = let a = h.low in omega (arith, a, more) }

pub plainly : {d : ℕ} {u : Ty} (x : Operand) → IsLow d u x → expr_depth x.expr ≤ d
plainly x h = let a = h.low in omega (arith, a)

-- ---- operators

-- one that says a truth
truth_low : (f : BOp) (x y : Operand) (d k : ℕ) (v w u : Ty) (q : Bool) → type_if q ty.Bool ≡ Some u → IsLow d v x → IsLow k w y → IsLow (1 + max d k) u (record { expr = t.Bin f x.expr y.expr; base = base.Bool })
truth_low f x y d k v w u true typed h i = let e : ty.Bool ≡ u = cc in subst (λ (a : Ty). IsLow (1 + max d k) a (record { expr = t.Bin f x.expr y.expr; base = base.Bool })) e
    (record { some = omega arith; base = refl; low = let a = h.low in let b = i.low in omega (arith, a, b) })
truth_low f x y d k v w u false typed h i = absurd cc

sum_low : (f : BOp) (x y : Operand) (d k : ℕ) (v w u : Ty) → value_type o.Add v w ≡ Some u → IsLow d v x → IsLow k w y → IsLow (1 + max d k) u (record { expr = t.Bin f x.expr y.expr; base = x.base })
sum_low f x y d k ty.Int ty.Int u typed h i = let e : ty.Int ≡ u = cc in subst (λ (a : Ty). IsLow (1 + max d k) a (record { expr = t.Bin f x.expr y.expr; base = x.base })) e
    (record { some = omega arith; base = h.base; low = let a = h.low in let b = i.low in omega (arith, a, b) })
sum_low f x y d k ty.Perm ty.Perm u typed h i = let e : ty.Perm ≡ u = cc in subst (λ (a : Ty). IsLow (1 + max d k) a (record { expr = t.Bin f x.expr y.expr; base = x.base })) e
    (record { some = omega arith; base = h.base; low = let a = h.low in let b = i.low in omega (arith, a, b) })
sum_low f x y d k v w u typed h i = absurd cc

product_low : (x y : Operand) (d k : ℕ) (v w u : Ty) → value_type o.Mul v w ≡ Some u → IsLow d v x → IsLow k w y → IsLow (1 + max d k) u (product_operand x y)
product_low x y d k ty.Int ty.Int u typed h i = let e : ty.Int ≡ u = cc in let a = h.low in let b = i.low in rw (← e, h.base, i.base) (record { some = omega arith; base = refl; low = omega (arith, a, b) })
product_low x y d k ty.Int ty.Perm u typed h i = let e : ty.Perm ≡ u = cc in let a = h.low in let b = i.low in let r = real_low x.expr in rw (← e, h.base, i.base) (record { some = omega arith; base = refl; low = omega (arith, a, b, r) })
product_low x y d k ty.Perm ty.Int u typed h i = let e : ty.Perm ≡ u = cc in let a = h.low in let b = i.low in let r = real_low y.expr in rw (← e, h.base, i.base) (record { some = omega arith; base = refl; low = omega (arith, a, b, r) })
product_low x y d k ty.Perm ty.Perm u typed h i = let e : ty.Perm ≡ u = cc in let a = h.low in let b = i.low in rw (← e, h.base, i.base) (record { some = omega arith; base = refl; low = omega (arith, a, b) })
product_low x y d k v w u typed h i = absurd cc

operand_low : (f : Op) (x y : Operand) (d k : ℕ) (v w u : Ty) → class_of f ≡ Plain → value_type f v w ≡ Some u → IsLow d v x → IsLow k w y → IsLow (1 + max d k) u (operand_of f x y)
operand_low o.Iff x y d k v w u plain typed h i = truth_low op.Iff x y d k v w u _ typed h i
operand_low o.Eq x y d k v w u plain typed h i = truth_low op.Eq x y d k v w u _ typed h i
operand_low o.Ne x y d k v w u plain typed h i = truth_low op.Ne x y d k v w u _ typed h i
operand_low o.Lt x y d k v w u plain typed h i = truth_low op.Lt x y d k v w u _ typed h i
operand_low o.Le x y d k v w u plain typed h i = truth_low op.Le x y d k v w u _ typed h i
operand_low o.Gt x y d k v w u plain typed h i = truth_low op.Gt x y d k v w u _ typed h i
operand_low o.Ge x y d k v w u plain typed h i = truth_low op.Ge x y d k v w u _ typed h i
operand_low o.Add x y d k v w u plain typed h i = sum_low op.Add x y d k v w u typed h i
operand_low o.Sub x y d k v w u plain typed h i = sum_low op.Sub x y d k v w u typed h i
operand_low o.Mul x y d k v w u plain typed h i = product_low x y d k v w u typed h i
operand_low f x y d k v w u plain typed h i = absurd cc

quotient_low : (f : Op) (x : Operand) (c : t.BExpr) (d k : ℕ) (v u : Ty) → class_of f ≡ Division → value_type f v ty.Int ≡ Some u → expr_depth c ≤ 0 → IsLow d v x → IsLow (1 + max d k) u (quotient_operand f x c)
quotient_low o.Divide x c d k ty.Int u division typed low h = let e : ty.Perm ≡ u = cc in let a = h.low in let b = h.some in let r = real_low x.expr in let q = real_low c in
    rw (← e, h.base) (record { some = omega arith; base = refl; low = omega (arith, a, b, r, q, low) })
quotient_low o.Divide x c d k ty.Perm u division typed low h = let e : ty.Perm ≡ u = cc in let a = h.low in let b = h.some in let q = real_low c in
    rw (← e, h.base) (record { some = omega arith; base = refl; low = omega (arith, a, b, q, low) })
quotient_low o.IntDiv x c d k ty.Int u division typed low h = let e : ty.Int ≡ u = cc in let a = h.low in rw (← e) (record { some = omega arith; base = refl; low = omega (arith, a, low) })
quotient_low o.IntMod x c d k ty.Int u division typed low h = let e : ty.Int ≡ u = cc in let a = h.low in rw (← e) (record { some = omega arith; base = refl; low = omega (arith, a, low) })
quotient_low f x c d k v u division typed low h = absurd cc

-- an amount that is a literal counts nothing
pub amount_few : (a : e.Expr) → depth a ≤ max 1 (amount_depth a)
amount_few (e.Part q) = omega arith
amount_few a = omega arith

spare : (v : Ty) → reserve v ≤ 1
spare ty.Int = omega arith
spare ty.Bool = omega arith
spare ty.Ref = omega arith
spare ty.Perm = omega arith

module _ (top : ℕ) where
  in_class_low : (p : Place) (g : Guard) (f : Op) (at : Pos) (left : Emitting Operand) (right : Guard → Emitting Operand) (d k : ℕ) (v w u : Ty) → value_type f v w ≡ Some u → 2 + max d k ≤ top →
      IsCode brackets top (IsLow d v) left → ((h : Guard) → IsCode brackets top (IsLow k w) (right h)) → IsCode brackets top (IsLow (1 + max d k) u) (binary_code p g f at left right)
  in_class_low p g f at left right d k v w u typed few h go = in_class_has brackets top (class_of f) p g f at left right (max d k) refl few h go
      (λ x i. let a = i.low in omega (arith, a)) (λ x i. let a = i.low in omega (arith, a)) (λ is i y j. let e = lazy_types f v w u is typed in let a = j.low in rw e.2 (record { some = omega arith; base = refl; low = omega (arith, a) }))
      (λ is x y c i j low. let e = divisor_type f v w u is typed in quotient_low f x c d k v u is (subst (λ (a : Ty). value_type f v a ≡ Some u) e typed) low i) (λ is x y i j. operand_low f x y d k v w u is typed i j)

  read_low : (k : Kinds) (p : Place) (g : Guard) (f : ℕ) (at : Pos) (x : Operand) (d : ℕ) (u : Ty) → 3 ≤ top → 1 + d ≤ top → type_at k.layout.fields f ≡ u → IsLow d ty.Ref x → IsCode brackets top (IsLow (1 + d) u) (read_code k p g f at x)
  read_low k p g f at x d u three few is h = read_has brackets top k p g f at x d three few (plainly x h) (λ r low.
      record { some = omega arith; base = ap base_for is; low = let a = spare u in let b = h.some in omega (arith, a, b, low) })

  -- ---- the code

  negated : (d : ℕ) (u : Ty) (x : Operand) → IsLow d u x → IsLow (1 + d) u (record { expr = t.Neg x.expr; base = x.base })
  negated d u x h = record { some = omega arith; base = h.base; low = let a = h.low in omega (arith, a) }

  chosen : (d f : ℕ) (u : Ty) (h : ℕ) (x y : Operand) → IsLow d u x → IsLow f u y → IsLow (1 + max d f) u (chosen_operand h x y)
  chosen d f u h x y i j = record { some = omega arith; base = i.base; low = let a = i.low in let b = j.low in omega (arith, a, b) }

  module _ (enough : 1 + max_term_depth ≤ top) where
    mutual
      pub code_low : (c : Context) (p : Place) (g : Guard) (a : e.Expr) (u : Ty) → IsFormed c.program → y.HasType c a u → 1 + depth a ≤ top → IsCode brackets top (IsLow (depth a) u) (code (kinds_in c) p g a)
      code_low c p g (e.Var x) u formed (y.variable visible there) few = gives_has brackets top (record { some = omega arith; base = ap base_for (get_or_from_slice_get c.vars x u ty.Int there); low = let a = spare u in omega (arith, a) })
      code_low c p g (e.Int n) _ formed (y.literal l) few = gives_has brackets top (record { some = omega arith; base = refl; low = omega arith })
      code_low c p g (e.Bool q) _ formed y.truth few = gives_has brackets top (record { some = omega arith; base = refl; low = omega arith })
      code_low c p g e.Null _ formed y.null few = gives_has brackets top (record { some = omega arith; base = refl; low = omega arith })
      code_low c p g (e.Part q) _ formed (y.part l) few = gives_has brackets top (record { some = omega arith; base = refl; low = omega arith })
      code_low c p g (e.Neg a) u formed (y.negative i counts) few = then_has brackets top (code_low c p g a u formed i (omega (arith, few))) (λ x k. gives_has brackets top (negated (depth a) u x k))
      code_low c p g (e.Not a) _ formed (y.negation i) few = then_has brackets top (code_low c p g a ty.Bool formed i (omega (arith, few))) (λ x k. gives_has brackets top {x = record { expr = t.Not x.expr; base = base.Bool }}
          (record { some = omega arith; base = refl; low = let b = k.low in omega (arith, b) }))
      code_low c p g (e.Bin f a d at) u formed (y.binary {left = v} {right = w} i j typed) few = in_class_low p g f at (code (kinds_in c) p g a) (λ k. code (kinds_in c) p k d) (depth a) (depth d) v w u typed (omega (arith, few))
          (code_low c p g a v formed i (omega (arith, few))) (λ k. code_low c p k d w formed j (omega (arith, few)))
      code_low c p g (e.Choose a d f) u formed (y.choice i j k) few = then_has brackets top (code_low c p g a ty.Bool formed i (omega (arith, few))) (λ x l.
          choose_has brackets top g x.expr (λ m. code (kinds_in c) p m d) (λ m. code (kinds_in c) p m f) chosen_operand (depth a) (omega (arith, few)) (omega (arith, enough)) (plainly x l)
          (λ m. code_low c p m d u formed j (omega (arith, few))) (λ m. code_low c p m f u formed k (omega (arith, few)))
          (λ m v w q r. low_more (chosen_operand m v w) (chosen (depth d) (depth f) u m v w q r) (omega arith)))
      code_low c p g (e.Field a f at) u formed (y.field i there) few = then_has brackets top (code_low c p g a ty.Ref formed i (omega (arith, few))) (λ x k.
          read_low (kinds_in c) p g f at x (depth a) u (omega (arith, enough)) (omega (arith, few)) (get_or_from_slice_get c.program.layout.fields f u ty.Int there) k)
      code_low c p g (e.Old a) u formed (y.old allowed i) few = map_has brackets top (code_low c (with_now p.old p) g a u formed i (omega (arith, few))) (λ x k. low_more x k (omega arith))
      code_low c p g (e.Unfolding o) u formed (y.unfolded outside i) few = unfolding_low c p g o u formed i few

      pub unfolding_low : (c : Context) (p : Place) (g : Guard) (o : e.Opened) (u : Ty) → IsFormed c.program → Opens c o u → 1 + depth (e.Unfolding o) ≤ top → IsCode brackets top (IsLow (depth (e.Unfolding o)) u) (unfolding_code (kinds_in c) p g o)
      unfolding_low c p g (e.opened q args amount body inner at) u formed (y.opens d there has_body i j k) few = then_has brackets top (codes_low c p g args d.params (max (depths args) (depth amount)) formed i (omega arith) (omega (arith, few))) (λ xs xs_low.
          then_has brackets top (code_low c p g amount ty.Perm formed j (omega (arith, few))) (λ m m_low. then_has brackets top (located_has brackets top most xs xs_low) (λ l l_low.
          then_has brackets top (atomic_has brackets top most m (let b = plainly m m_low in omega (arith, b))) (λ a a_low.
          opening_has brackets top c.program.layout p g q at l a _ most (omega (arith, enough)) (omega (arith, few)) l_low a_low.sets a_low.expr (λ own from.
          then_has brackets top (subst (λ (o : Kinds). IsCode brackets top Any (body_code o (with_now own (with_vars l.locals p)) g a.expr body from)) same_kinds
          (body_low (predicate_context c.program d) (with_now own (with_vars l.locals p)) g a.expr body from formed (predicate_body_of_typed c.program formed.typed q d body there has_body) a_low.expr (omega (arith, nested, enough)))) (λ z w.
          map_has brackets top (code_low c (with_now own p) g inner u formed k (omega (arith, few))) (λ x b. low_more x b (omega arith))))))))
        where
          most : ℕ
          most = max (depths args) (depth amount)

          nested : assertion_depth body ≤ max_term_depth
          nested = at_some (λ (b : e.Assertion). assertion_depth b ≤ max_term_depth) d.body (predicate_of_typed c.program formed.typed q d there).nested body has_body

          same_kinds : kinds_in (predicate_context c.program d) ≡ body_kinds (kinds_in c) q
          same_kinds = ap (λ (us : List Ty). record { vars = us; layout = c.program.layout }) (sym (get_or_from_slice_get c.program.layout.keys q d.params [] (keys_at c formed q d there)))

      pub codes_low : (c : Context) (p : Place) (g : Guard) (xs : e.Exprs) (us : List Ty) (d : ℕ) → IsFormed c.program → y.HaveTypes c xs us → depths xs ≤ d → 1 + depths xs ≤ top → IsCode brackets top (AreAll brackets d) (codes (kinds_in c) p g xs)
      codes_low c p g e.none _ d formed y.nothing h few = gives_has brackets top tt
      codes_low c p g (e.more a rest) _ d formed (y.also {u = u} {us = us} i j) h few = then_has brackets top (code_low c p g a u formed i (omega (arith, few))) (λ x k.
          then_has brackets top (codes_low c p g rest us d formed j (omega (arith, h)) (omega (arith, few))) (λ xs l. gives_has brackets top {x = x ∷ xs} ((let b = plainly x k in omega (arith, b, h)), l)))

      pub amount_low : (c : Context) (p : Place) (g : Guard) (m : e.Amt) (d : ℕ) → IsFormed c.program → IsAmount c m → max 1 (amt_depth m) ≤ d → 1 + d ≤ top → IsCode brackets top (λ (x : Operand). expr_depth x.expr ≤ d) (amount_code (kinds_in c) p g m)
      amount_low c p g (e.Is a) d formed (y.amount i) h few = let few_more = amount_few a in map_has brackets top (code_low c p g a ty.Perm formed i (omega (arith, few_more, h, few))) (λ x k. let b = plainly x k in omega (arith, b, few_more, h))
      amount_low c p g e.Wildcard d formed (y.wildcard outside) h few = gives_has brackets top (omega arith)

      pub body_low : (c : Context) (p : Place) (g : Guard) (scale : t.BExpr) (a : e.Assertion) (from : ℕ) → IsFormed c.program → IsAssertion c a → expr_depth scale ≤ 0 → 1 + assertion_depth a ≤ top →
          IsCode brackets top Any (body_code (kinds_in c) p g scale a from)
      body_low c p g scale (e.Fact a at) from formed (y.fact i) low few = then_has brackets top (code_low c p g a ty.Bool formed i (omega (arith, few))) (λ x k.
          fact_has brackets top g x.expr from (depth a) (omega (arith, enough)) (omega (arith, few)) (plainly x k))
      body_low c p g scale (e.Acc a f m at) from formed (y.access {u = u} i there j) low few = then_has brackets top (code_low c p g a ty.Ref formed i (omega (arith, few))) (λ x k.
          then_has brackets top (amount_low c p g m (max 1 (max (depth a) (amt_depth m))) formed j (omega arith) (omega (arith, few, enough))) (λ q n. acc_has brackets top (kinds_in c) p g scale f at from x q (max 1 (max (depth a) (amt_depth m)))
          (omega (arith, enough)) (omega (arith, few, enough)) low (let b = plainly x k in omega (arith, b)) n))
      body_low c p g scale (e.Inst q args m at) from formed (y.instance d there i j) low few = then_has brackets top (codes_low c p g args d.params (max 1 (max (depths args) (amt_depth m))) formed i (omega arith) (omega (arith, few))) (λ xs k.
          then_has brackets top (amount_low c p g m (max 1 (max (depths args) (amt_depth m))) formed j (omega arith) (omega (arith, few, enough))) (λ x n. instance_has brackets top p g scale q at from xs x (max 1 (max (depths args) (amt_depth m)))
          (omega (arith, enough)) (omega (arith, few, enough)) low k n))
      body_low c p g scale (e.And a d) from formed (y.both i j) low few = then_has brackets top (declares_has brackets top (plain_type base.Snap)) (λ m k. then_has brackets top (declares_has brackets top (plain_type base.Snap)) (λ r n.
          then_has brackets top (pair_has brackets top g from m r (omega (arith, enough))) (λ z w. then_has brackets top (body_low c p g scale a m formed i low (omega (arith, few))) (λ z w. body_low c p g scale d r formed j low (omega (arith, few))))))
      body_low c p g scale (e.Implies a d) from formed (y.implied i j) low few = then_has brackets top (code_low c p g a ty.Bool formed i (omega (arith, few))) (λ x k.
          choose_has brackets top {P = Any} {Q = Any} g x.expr (λ m. body_code (kinds_in c) p m scale d from) (λ m. puts m (one (s.Assume (is_unit from)))) (λ m v w. tt) (depth a) (omega (arith, few)) (omega (arith, enough)) (plainly x k)
          (λ m. body_low c p m scale d from formed j low (omega (arith, few))) (λ m. unit_has brackets top m from (omega (arith, enough))) (λ m v w q r. tt))
      body_low c p g scale (e.ChooseAssertion a d f) from formed (y.chosen i j k) low few = then_has brackets top (code_low c p g a ty.Bool formed i (omega (arith, few))) (λ x n.
          choose_has brackets top {P = Any} {Q = Any} g x.expr (λ m. body_code (kinds_in c) p m scale d from) (λ m. body_code (kinds_in c) p m scale f from) (λ m v w. tt) (depth a) (omega (arith, few)) (omega (arith, enough)) (plainly x n)
          (λ m. body_low c p m scale d from formed j low (omega (arith, few))) (λ m. body_low c p m scale f from formed k low (omega (arith, few))) (λ m v w q r. tt))

-- ---- what is promised

pub expression_shallow : (c : Context) (p : Place) (g : Guard) (a : e.Expr) (u : Ty) (n : ℕ) → IsFormed c.program → y.HasType c a u → IsShallowExpression (depth a) u (code (kinds_in c) p g a n)
expression_shallow c p g a u n formed typed = let h = code_low (1 + max max_term_depth (depth a)) (omega arith) c p g a u formed typed (omega arith) in
    record { piece = record { stmts = h.stmts n }; value = (h.value n).low }

pub body_shallow : (c : Context) (p : Place) (g : Guard) (scale : t.BExpr) (a : e.Assertion) (from n : ℕ) → IsFormed c.program → IsAssertion c a → expr_depth scale ≡ 0 → IsShallow (assertion_depth a) (body_code (kinds_in c) p g scale a from n)
body_shallow c p g scale a from n formed typed atom = record { stmts = (body_low (1 + max max_term_depth (assertion_depth a)) (omega arith) c p g scale a from formed typed (omega (arith, atom)) (omega arith)).stmts n }
