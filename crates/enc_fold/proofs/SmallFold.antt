-- The code of folding and unfolding is linear in what it weighs.
use Rattle.std.proofs.Common.{◌≡◌, ◌+◌, ◌*◌, ◌≤◌, ℕ, Bool as Truth, true, false, List, Some, None, length, slice_get, if◌then◌else◌, refl, ap, sym, subst, ◌∙◌, arith}
use Rattle.std.proofs.lemmas.List.FromFn.{length-range_with_len}
use Rattle.vb_base.specs.declared.labels.Kind.TheVariants as kind
use Rattle.vb_value.specs.Layout.{Layout}
use Rattle.vb_value.specs.declared.values.Ty.{Ty}
use Rattle.vb_value.specs.declared.values.Ty.TheVariants as ty
use Rattle.viper_core.specs.declared.exprs.Op.{Op}
use Rattle.viper_core.specs.declared.exprs.Op.TheVariants as o
use Rattle.viper_core.specs.Expr as e
use Rattle.viper_core.specs.Formed.{IsFormed, predicate_context}
use Rattle.viper_core.specs.Program.{Predicate}
use Rattle.viper_core.specs.Size.{size, sizes, amount_size, assertion_size}
use Rattle.viper_core.specs.Stmt.{FoldStmt}
use Rattle.viper_core.specs.Typing.{Context, IsFold}
use Rattle.viper_core.specs.Weight.{base_of, fold_weight, predicate_size, optional_assertion_size}
use Rattle.viper_meaning.specs.Operators.{Class, Lazy, Division, Plain, class_of}
use Rattle.viper_meaning.proofs.TypedLaws.{keys_at}
use Rattle.boogie_tree.specs.Expr as t
use Rattle.boogie_tree.specs.Stmt as s
use Rattle.boogie_tree.specs.Values.{plain_type}
use Rattle.boogie_tree.specs.declared.exprs.BBase.TheVariants as base
use Rattle.boogie_tree.specs.declared.exprs.BOp.TheVariants as op
use Rattle.enc_expr.specs.Place.{Maps, Place, number, with_now, with_vars}
use Rattle.enc_expr.specs.Kinds.{Kinds, kinds_in, type_at, body_kinds}
use Rattle.enc_expr.specs.Code.{join, gives}
use Rattle.enc_expr.specs.Pieces.{Operand, index, label, at_one, one, zero_real, one_real, is_one, check_positive}
use Rattle.enc_expr.specs.Operators.{quotient_operand}
use Rattle.enc_expr.specs.Encoding.{copies, held_check, taken_amount, taking, leaf, fill_instance_code}
use Rattle.enc_expr.specs.Nodes.{expr_nodes, exprs_nodes, stmts_nodes, written}
use Rattle.enc_expr.specs.Plain.{plain_by, plain, plain_more, plain_index, plain_amount, contained_by, content_expr}
use Rattle.enc_expr.proofs.SmallCode.{code_small, codes_small, body_small, counted, as_real_nodes, operand_nodes}
use Rattle.enc_expr.proofs.SmallPieces.{join_nodes, index_nodes, real_nodes, parts_of, fill_instance_nodes, Any, nothing, weigh, weigh_all, weigh_atom, weigh_located, IsSmall, gives_small, then_small, more_small, declares_small, declares_all_small, puts_small, atomic_small, located_small, check_positive_nodes, copies_nodes}
use Rattle.enc_assert.specs.Encoding.{consume_code}
use Rattle.enc_assert.proofs.SmallAssertions.{consume_linear}
use Rattle.enc_fold.specs.Saved.{held_types, held_from, copy_held, saving}
use Rattle.enc_fold.specs.Encoding.{closing_code, fold_code, unfold_code}
use Rattle.enc_fold.proofs.ClosingLaws.{kinds_of_body}
use Rattle.enc_fold.proofs.SavedLaws.{held_length}

-- ---- values without checks

quotient_nodes : (f : Op) (x : Operand) (d : t.BExpr) → expr_nodes (quotient_operand f x d).expr ≤ 3 + expr_nodes x.expr + expr_nodes d
quotient_nodes o.Divide x d = let a = as_real_nodes x in let b = real_nodes d in omega (arith, a, b)
quotient_nodes f x d = omega arith

class_nodes : (q : Class) (f : Op) (x y : Operand) → expr_nodes (plain_by q f x y).expr ≤ 3 + expr_nodes x.expr + expr_nodes y.expr
class_nodes Lazy f x y = omega arith
class_nodes Division f x y = quotient_nodes f x y.expr
class_nodes Plain f x y = operand_nodes f x y

-- where an `unfolding` counts at least 1
module _ (least : ℕ) (k : Kinds) where
  mutual
    plain_nodes : (p : Place) (a : e.Expr) → expr_nodes (plain k p a).expr ≤ 3 * size least a
    plain_nodes p (e.Var x) = omega arith
    plain_nodes p (e.Int n) = omega arith
    plain_nodes p (e.Bool b) = omega arith
    plain_nodes p e.Null = omega arith
    plain_nodes p (e.Part q) = omega arith
    plain_nodes p (e.Neg a) = let h = plain_nodes p a in omega (arith, h)
    plain_nodes p (e.Not a) = let h = plain_nodes p a in omega (arith, h)
    plain_nodes p (e.Bin f a b at) = let h = plain_nodes p a in let i = plain_nodes p b in let c = class_nodes (class_of f) f (plain k p a) (plain k p b) in omega (arith, h, i, c)
    plain_nodes p (e.Choose a b c) = let h = plain_nodes p a in let i = plain_nodes p b in let j = plain_nodes p c in omega (arith, h, i, j)
    plain_nodes p (e.Field a f at) = let h = plain_nodes p a in omega (arith, h)
    plain_nodes p (e.Old a) = let h = plain_nodes (with_now p.old p) a in omega (arith, h)
    plain_nodes p (e.Unfolding (e.opened q args amount body inner at)) = let h = plain_nodes p inner in omega (arith, h)

  more_nodes : (p : Place) (xs : e.Exprs) → exprs_nodes (plain_more k p xs) ≤ 3 * sizes least xs
  more_nodes p e.none = omega arith
  more_nodes p (e.more a rest) = let h = plain_nodes p a in let i = more_nodes p rest in omega (arith, h, i)

  index_of_nodes : (p : Place) (xs : e.Exprs) → exprs_nodes (plain_index k p xs) ≤ 1 + 3 * sizes least xs
  index_of_nodes p e.none = omega arith
  index_of_nodes p (e.more a rest) = let h = more_nodes p (e.more a rest) in omega (arith, h)

  amount_nodes : (p : Place) (m : e.Amt) → expr_nodes (plain_amount k p m) ≤ 3 * amount_size least m
  amount_nodes p (e.Is a) = plain_nodes p a
  amount_nodes p e.Wildcard = omega arith

  contained_nodes : (x z : t.BExpr) → expr_nodes (contained_by x z) ≤ 4 + expr_nodes x + expr_nodes z
  contained_nodes x z = either (is_one x)
    where
      either : (q : Truth) → expr_nodes (if q then z else t.If (t.Bin op.Gt x zero_real) z t.Unit) ≤ 4 + expr_nodes x + expr_nodes z
      either true = omega arith
      either false = omega arith

  leaf_nodes : (u : Ty) (x : t.BExpr) → expr_nodes (leaf u x) ≡ 1 + expr_nodes x
  leaf_nodes ty.Int x = refl
  leaf_nodes ty.Bool x = refl
  leaf_nodes ty.Ref x = refl
  leaf_nodes ty.Perm x = refl

  some_size : (a : e.Expr) → 1 ≤ least → 1 ≤ size least a
  some_size (e.Unfolding (e.opened q args amount body inner at)) h = omega (arith, h)
  some_size (e.Var x) h = omega arith
  some_size (e.Int n) h = omega arith
  some_size (e.Bool b) h = omega arith
  some_size e.Null h = omega arith
  some_size (e.Part q) h = omega arith
  some_size (e.Neg a) h = omega arith
  some_size (e.Not a) h = omega arith
  some_size (e.Bin f a b at) h = omega arith
  some_size (e.Choose a b c) h = omega arith
  some_size (e.Field a f at) h = omega arith
  some_size (e.Old a) h = omega arith

  content_nodes : (p : Place) (a : e.Assertion) → 1 ≤ least → expr_nodes (content_expr k p a) ≤ 8 * assertion_size least a
  content_nodes p (e.Fact a at) h = let i = some_size a h in omega (arith, i)
  content_nodes p (e.Acc a f m at) h =
      let x = at_one (number p.now.heap f) (plain k p a).expr in let i = plain_nodes p a in let j = amount_nodes p m in let l = leaf_nodes (type_at k.layout.fields f) x in
      let c = contained_nodes (plain_amount k p m) (leaf (type_at k.layout.fields f) x) in omega (arith, i, j, l, c)
  content_nodes p (e.Inst q args m at) h =
      let i = index_of_nodes p args in let j = amount_nodes p m in let c = contained_nodes (plain_amount k p m) (t.At (number p.now.content q) (plain_index k p args)) in omega (arith, i, j, c)
  content_nodes p (e.And a b) h = let i = content_nodes p a h in let j = content_nodes p b h in omega (arith, i, j)
  content_nodes p (e.Implies a b) h = let i = plain_nodes p a in let j = content_nodes p b h in omega (arith, i, j)
  content_nodes p (e.ChooseAssertion a b c) h = let i = plain_nodes p a in let j = content_nodes p b h in let l = content_nodes p c h in omega (arith, i, j, l)

-- ---- pieces

saving_small : (layout : Layout) (m : Maps) → IsSmall (3 * parts_of layout + 2) Any nothing (saving layout m)
saving_small layout m =
    let fields = length layout.fields in let predicates = length layout.keys in let long = held_length layout in
    then_small (2 * parts_of layout + 2) (omega (arith, long)) (declares_all_small (held_types layout)) (λ n any.
    let own = held_from layout m n in
    let a = join_nodes (copies own.mask m.mask 0) (copies own.amount m.amount 0) in let b = copies_nodes own.mask m.mask 0 in let c = copies_nodes own.amount m.amount 0 in
    let d = length-range_with_len n fields in let f = length-range_with_len (n + fields) predicates in
    then_small {go = λ u. gives own} 0 (omega arith) (puts_small (2 * parts_of layout + 2) None (copy_held own m) (omega (arith, a, b, c, d, f))) (λ u any. gives_small {x = own} tt (omega arith)))

taking_nodes : (p : Place) (q : ℕ) (key : t.BExprs) (amount : t.BExpr) (from : ℕ) (f : FoldStmt) → expr_nodes amount ≤ 1 → stmts_nodes (taking p p.now s.skip q key amount from f.place) ≤ 14 + 4 * exprs_nodes key
taking_nodes p q key amount from f h =
    let check = check_positive (label p f.place kind.Amount) amount in let held = held_check (label p f.place kind.Perm) (number p.now.amount q) key amount in
    let taken = taken_amount (number p.now.amount q) key amount in let last = one (s.Assign from (t.At (number p.now.content q) key)) in
    let a = join_nodes check (join held (join s.skip (join taken last))) in let b = check_positive_nodes (label p f.place kind.Amount) amount h in omega (arith, a, b, h)

-- ---- folding and unfolding

module _ (c : Context) (p : Place) (formed : IsFormed c.program) (f : FoldStmt) (typed : IsFold c f) where
  abbrev k : Kinds
  k = kinds_in c

  abbrev d : Predicate
  d = typed.predicate

  abbrev least : ℕ
  least = base_of c.program

  abbrev asize : ℕ
  asize = assertion_size least typed.body

  keys : slice_get c.program.layout.keys f.predicate ≡ Some d.params
  keys = keys_at c formed f.predicate d typed.exists

  closing_small : (is : List ℕ) (amount : t.BExpr) → expr_nodes amount ≤ 1 → IsSmall (72 * least + 72 * asize + 6 * length is) Any nothing (closing_code k p f.predicate typed.body is amount)
  closing_small is amount few =
      let h = counted c.program formed in
      then_small (70 + 69 * parts_of c.program.layout + 72 * asize + 6 * length is) (omega (arith, h)) (saving_small c.program.layout p.now) (λ start any.
      let place = with_vars is (with_now start p) in
      let consumed : IsSmall (64 * asize) Any nothing (consume_code (body_kinds k f.predicate) place p.now None amount typed.body) =
      subst (λ o. IsSmall (64 * asize) Any nothing (consume_code o place p.now None amount typed.body)) (kinds_of_body c f.predicate d keys)
      (more_small (omega arith) (consumed_small place amount few)) in
      then_small (70 + 69 * parts_of c.program.layout + 8 * asize + 6 * length is) (omega arith) consumed (λ u any.
      then_small (69 + 69 * parts_of c.program.layout + 8 * asize + 6 * length is) (omega arith) (declares_small (plain_type base.Snap)) (λ x any.
      let content = content_nodes least (body_kinds k f.predicate) place typed.body (omega (arith, h)) in
      let fill = fill_instance_nodes p one_real f.predicate (index is) amount x (omega arith) few in let i = index_nodes is in
      puts_small (69 + 69 * parts_of c.program.layout + 8 * asize + 6 * length is + nothing x) None
      (s.first (s.Assign x (content_expr (body_kinds k f.predicate) place typed.body)) (fill_instance_code p one_real f.predicate (index is) amount x)) (omega (arith, content, fill, i)))))
    where
      -- no expression has no node
      exactly : (x : t.BExpr) → expr_nodes x ≤ 1 → expr_nodes x ≡ 1
      exactly x h = let some = at_least x in omega (arith, h, some)
        where
          at_least : (x : t.BExpr) → 1 ≤ expr_nodes x
          at_least (t.Var i) = omega arith
          at_least (t.Int n) = omega arith
          at_least (t.Real n) = omega arith
          at_least (t.Bool b) = omega arith
          at_least t.Null = omega arith
          at_least t.Unit = omega arith
          at_least (t.Neg a) = omega arith
          at_least (t.Not a) = omega arith
          at_least (t.Bin f a b) = omega arith
          at_least (t.If a b c) = omega arith
          at_least (t.Forall us a) = omega arith
          at_least (t.ToReal a) = omega arith
          at_least (t.SInt a) = omega arith
          at_least (t.SBool a) = omega arith
          at_least (t.SRef a) = omega arith
          at_least (t.SPerm a) = omega arith
          at_least (t.Pair a b) = omega arith
          at_least (t.At i es) = omega arith
          at_least (t.AtBound i) = omega arith

      consumed_small : (place : Place) (amount : t.BExpr) → expr_nodes amount ≤ 1 → IsSmall (64 * asize) Any nothing (consume_code (kinds_in (predicate_context c.program d)) place p.now None amount typed.body)
      consumed_small place amount few = record { within = λ n. let h = consume_linear (predicate_context c.program d) place p.now None amount typed.body n formed (exactly amount few) in omega (arith, h); value = λ n. tt }

  fold_small : IsSmall (72 * (least + sizes least f.args + size least f.amount + asize)) Any nothing (fold_code k p f typed.body)
  fold_small =
      let h = counted c.program formed in
      then_small (72 * least + 72 * size least f.amount + 72 * asize) (omega arith) (codes_small least k p None f.args h) (λ xs any.
      then_small (72 * least + 72 * asize + weigh_all xs) (omega arith) (code_small least k p None f.amount h) (λ m any.
      then_small (72 * least + 72 * asize + weigh m) (omega arith) (located_small xs) (λ l any.
      then_small (72 * least + 72 * asize + weigh_located l + 6) (omega arith) (atomic_small m) (λ a i.
      let check = check_positive (label p f.place kind.Amount) a.expr in
      let q = join_nodes l.sets (join a.sets check) in let r = join_nodes a.sets check in let v = check_positive_nodes (label p f.place kind.Amount) a.expr i in
      then_small (72 * least + 72 * asize + 6 * length l.locals) (omega arith) (puts_small (6 + weigh_atom a + stmts_nodes l.sets) None (join l.sets (join a.sets check)) (omega (arith, q, r, v))) (λ u any.
      more_small (omega arith) (closing_small l.locals a.expr i))))))

  unfold_small : IsSmall (72 * (least + sizes least f.args + size least f.amount + asize)) Any nothing (unfold_code k p f typed.body)
  unfold_small =
      let h = counted c.program formed in
      then_small (72 * least + 72 * size least f.amount + 72 * asize) (omega arith) (codes_small least k p None f.args h) (λ xs any.
      then_small (72 * least + 72 * asize + weigh_all xs) (omega arith) (code_small least k p None f.amount h) (λ m any.
      then_small (72 * least + 72 * asize + weigh m) (omega arith) (located_small xs) (λ l any.
      then_small (72 * least + 72 * asize + weigh_located l + 6) (omega arith) (atomic_small m) (λ a i.
      then_small (72 * least + 72 * asize + weigh_located l + 5 + weigh_atom a) (omega arith) (declares_small (plain_type base.Snap)) (λ from any.
      let take = taking p p.now s.skip f.predicate (index l.locals) a.expr from f.place in
      let q = join_nodes l.sets (join a.sets take) in let r = join_nodes a.sets take in let v = taking_nodes p f.predicate (index l.locals) a.expr from f i in let w = index_nodes l.locals in
      then_small (64 * asize) (omega (arith, h)) (puts_small (20 + weigh_atom a + weigh_located l) None (join l.sets (join a.sets take)) (omega (arith, q, r, v, w))) (λ u any.
      more_small (omega arith) (body_small least (body_kinds k f.predicate) (with_vars l.locals p) None a.expr typed.body from h i)))))))

  -- what the statement weighs
  weighs : fold_weight c.program f ≡ least + sizes least f.args + size least f.amount + asize
  weighs = ap (λ w. least + sizes least f.args + size least f.amount + w) (ap (predicate_size least) typed.exists ∙ ap (optional_assertion_size least) typed.has_body)

  pub fold_linear : (n : ℕ) → written (fold_code k p f typed.body n) ≤ 72 * fold_weight c.program f
  fold_linear n = subst (λ w. written (fold_code k p f typed.body n) ≤ 72 * w) (sym weighs) (let h = fold_small.within n in omega (arith, h))

  pub unfold_linear : (n : ℕ) → written (unfold_code k p f typed.body n) ≤ 72 * fold_weight c.program f
  unfold_linear n = subst (λ w. written (unfold_code k p f typed.body n) ≤ 72 * w) (sym weighs) (let h = unfold_small.within n in omega (arith, h))
