-- The code of producing and consuming an assertion, and of forgetting, has what its parts have, with at most so many brackets.
use Rattle.std.specs.Bool.{⊤}
use Rattle.std.proofs.Common.{◌≡◌, ◌+◌, ◌≤◌, max, ℕ, suc, Bool, true, false, List, [], ◌∷◌, Some, slice_get, refl, arith, if◌then◌else◌}
use Rattle.vb_base.specs.declared.labels.Kind.TheVariants as kind
use Rattle.vb_base.specs.declared.places.Pos.{Pos}
use Rattle.vb_value.specs.Layout.{Layout}
use Rattle.vb_value.specs.declared.values.Ty.{Ty}
use Rattle.viper_core.specs.Expr as e
use Rattle.boogie_tree.specs.Expr as t
use Rattle.boogie_tree.specs.Stmt as s
use Rattle.boogie_tree.specs.Program.{BType}
use Rattle.boogie_tree.specs.declared.exprs.BBase.TheVariants as base
use Rattle.boogie_tree.specs.declared.exprs.BOp.TheVariants as op
use Rattle.boogie_tree.specs.Values.{plain_type}
use Rattle.boogie_meaning.specs.Patterns as pattern
use Rattle.moves.specs.Maps.{index_types, heap_type, content_type}
use Rattle.enc_expr.specs.Place.{Maps, Place, number}
use Rattle.enc_expr.specs.Code.{join, gives, Guard}
use Rattle.enc_expr.specs.Pieces.{Operand, at_one, one, zero_real, one_real, is_one, label, check_nonnegative, scaled, add_to}
use Rattle.enc_expr.specs.Encoding.{held_check, taken_amount}
use Rattle.enc_expr.proofs.Property.{Property}
use Rattle.enc_expr.proofs.PropertyPieces.{one_has, index_has, check_nonnegative_has, scaled_has, add_to_has, Any, AreAll, IsCode, gives_has, then_has, declares_has, puts_has, bare_has, atomic_has, located_has}
use Rattle.enc_assert.specs.Calls.{scale_code}
use Rattle.enc_assert.specs.Target.{AccessTarget, Field, Instance, Aimed, held_in, key_of}
use Rattle.enc_assert.specs.Encoding.{field_target, instance_target, where_positive, some_amount, more_held, gives_code, gives_some, takes_code, takes_some, forget_map, forget_heaps, forget_contents, forget_code}
use Rattle.enc_assert.proofs.WalkLaws.{Blocks, amount_walk, produce_blocks, consume_blocks}

module _ (K : Property) where
  -- ---- what an accessibility predicate speaks of

  abbrev pub TargetHas : AccessTarget → Type 0
  TargetHas (Field f x) = K.expr 0 x
  TargetHas (Instance p is) = ⊤

  key_has : (x : AccessTarget) → TargetHas x → K.exprs 0 (key_of x)
  key_has (Field f x) h = K.more h K.none
  key_has (Instance p is) h = index_has K is

  -- ---- amounts

  where_has : (k : ℕ) (q x : t.BExpr) → 1 ≤ k → K.expr 0 q → K.expr k x → K.expr (1 + k) (where_positive q x)
  where_has k q x some h i = by_literal (is_one q)
    where
      by_literal : (p : Bool) → K.expr (1 + k) (if p then x else t.Bin op.Implies (t.Bin op.Gt q zero_real) x)
      by_literal true = K.more_in i (omega arith)
      by_literal false = K.more_in (K.binary (K.binary h K.zero_real) i) (omega (arith, some))

  some_has : (w : ℕ) → K.block 1 (some_amount w)
  some_has w = K.more_in_block (K.first (K.havoc w) (one_has K (K.assume (K.binary (K.var w) K.zero_real)))) (omega arith)

  more_held_has : (m : Maps) (scale : t.BExpr) (x : AccessTarget) (q : t.BExpr) → K.expr 0 scale → TargetHas x → K.expr 0 q → K.block 4 (more_held m scale x q)
  more_held_has m scale (Field f x) q h i j =
      let key : K.exprs 0 (t.more x t.none) = K.more i K.none in
      let add = add_to (number m.mask f) (t.more x t.none) (scaled scale q) in let limit = one (s.Assume (where_positive q (t.Bin op.Le (at_one (number m.mask f) x) one_real))) in
      let rest : K.block 3 (join add limit) = K.joined add limit (K.more_in_block (add_to_has K (number m.mask f) (t.more x t.none) (scaled scale q) key (scaled_has K scale q h j)) (omega arith))
      (one_has K (K.assume (where_has 2 q (t.Bin op.Le (at_one (number m.mask f) x) one_real) (omega arith) j (K.binary (K.at key) K.one_real)))) in
      K.more_in_block (K.first (K.assume (where_has 1 q (t.Bin op.Ne x t.Null) (omega arith) j (K.binary i K.null))) rest) (omega arith)
  more_held_has m scale (Instance p is) q h i j = K.more_in_block (add_to_has K (number m.amount p) (key_of (Instance p is)) (scaled scale q) (index_has K is) (scaled_has K scale q h j)) (omega arith)

  -- ---- produce

  gives_code_has : (p : Place) (scale : t.BExpr) (part : Pos) (x : AccessTarget) (q : t.BExpr) → K.expr 0 scale → TargetHas x → K.expr 0 q → K.block 4 (gives_code p scale part x q)
  gives_code_has p scale part x q h i j = K.joined (check_nonnegative (label p part kind.Negative) q) (more_held p.now scale x q) (K.more_in_block (check_nonnegative_has K (label p part kind.Negative) q j) (omega arith))
      (more_held_has p.now scale x q h i j)

  gives_some_has : (p : Place) (scale : t.BExpr) (x : AccessTarget) (w : ℕ) → K.expr 0 scale → TargetHas x → K.block 4 (gives_some p scale x w)
  gives_some_has p scale x w h i = K.joined (some_amount w) (more_held p.now scale x (t.Var w)) (K.more_in_block (some_has w) (omega arith)) (more_held_has p.now scale x (t.Var w) h i (K.var w))

  -- ---- consume

  takes_code_has : (p : Place) (left : Maps) (scale : t.BExpr) (part : Pos) (x : AccessTarget) (q : t.BExpr) → K.expr 0 scale → TargetHas x → K.expr 0 q → K.block 4 (takes_code p left scale part x q)
  takes_code_has p left scale part x q h i j =
      let amount = scaled_has K scale q h j in let key = key_has x i in
      let check = held_check (label p part kind.Perm) (held_in left x) (key_of x) (scaled scale q) in let take = taken_amount (held_in left x) (key_of x) (scaled scale q) in
      K.joined (check_nonnegative (label p part kind.Negative) q) (join check take) (K.more_in_block (check_nonnegative_has K (label p part kind.Negative) q j) (omega arith))
      (K.more_in_block (K.first (K.assert (K.binary (K.at key) amount)) (one_has K (K.put key (K.binary (K.at key) amount)))) (omega arith))

  takes_some_has : (p : Place) (left : Maps) (part : Pos) (x : AccessTarget) (w : ℕ) → TargetHas x → K.block 4 (takes_some p left part x w)
  takes_some_has p left part x w i =
      let key = key_has x i in let take = taken_amount (held_in left x) (key_of x) (t.Var w) in let less = s.Assume (t.Bin op.Lt (t.Var w) (t.At (held_in left x) (key_of x))) in
      let rest : K.block 2 (join (some_amount w) (s.first less take)) = K.joined (some_amount w) (s.first less take) (K.more_in_block (some_has w) (omega arith))
      (K.more_in_block (K.first (K.assume (K.binary (K.var w) (K.at key))) (one_has K (K.put key (K.binary (K.at key) (K.var w))))) (omega arith)) in
      K.more_in_block (K.first (K.assert (K.binary (K.at key) K.zero_real)) rest) (omega arith)

  -- ---- the blocks of a walk

  pub record BlocksHave (w : Blocks) : Type 0 where
    pub fact : (d : ℕ) (part : Pos) (x : t.BExpr) → 1 ≤ d → K.expr d x → K.block d (w.fact part x)
    pub written : (part : Pos) (x : AccessTarget) (q : t.BExpr) → TargetHas x → K.expr 0 q → K.block 4 (w.written part x q)
    pub chosen : (part : Pos) (x : AccessTarget) (i : ℕ) → TargetHas x → K.block 4 (w.chosen part x i)

  pub produce_blocks_have : (p : Place) (scale : t.BExpr) → K.expr 0 scale → BlocksHave (produce_blocks p scale)
  produce_blocks_have p scale h = record {
    fact = λ d part x some i. one_has K (K.assume i);
    written = λ part x q i j. gives_code_has p scale part x q h i j;
    chosen = λ part x w i. gives_some_has p scale x w h i;
  }

  pub consume_blocks_have : (p : Place) (left : Maps) (scale : t.BExpr) → K.expr 0 scale → BlocksHave (consume_blocks p left scale)
  consume_blocks_have p left scale h = record {
    fact = λ d part x some i. K.more_in_block (one_has K (K.assert i)) (omega (arith, some));
    written = λ part x q i j. takes_code_has p left scale part x q h i j;
    chosen = λ part x w i. takes_some_has p left part x w i;
  }

  -- the target, and the statements that set what it names
  pub record AimHas (d : ℕ) (x : Aimed) : Type 0 where
    pub target : TargetHas x.target
    pub sets : K.block d x.sets

  module _ (top : ℕ) where
    pub field_has : (d f : ℕ) (x : Operand) → K.expr d x.expr → IsCode K top (AimHas d) (field_target f x)
    field_has d f x h = then_has K top (atomic_has K top d x h) (λ r a. gives_has K top {x = record { target = Field f r.expr; sets = r.sets }} (record { target = a.expr; sets = a.sets }))

    pub instance_has : (d q : ℕ) (xs : List Operand) → AreAll K d xs → IsCode K top (AimHas d) (instance_target q xs)
    instance_has d q xs h = then_has K top (located_has K top d xs h) (λ l a. gives_has K top {x = record { target = Instance q l.locals; sets = l.sets }} (record { target = tt; sets = a }))

    pub amount_walk_has : (w : Blocks) (d : ℕ) (g : Guard) (part : Pos) (m : e.Amt) (y : Operand) (x : Aimed) → BlocksHave w → 5 ≤ top → 1 + d ≤ top → K.expr d y.expr → AimHas d x → IsCode K top Any (amount_walk w g part m y x)
    amount_walk_has w d g part (e.Is a) y x blocks five few h i = then_has K top (atomic_has K top d y h) (λ q j. let code = w.written part x.target q.expr in
        puts_has K top (max 4 d) g (join x.sets (join q.sets code)) (K.joined x.sets (join q.sets code) (K.more_in_block i.sets (omega arith)) (K.joined q.sets code (K.more_in_block j.sets (omega arith))
        (K.more_in_block (blocks.written part x.target q.expr i.target j.expr) (omega arith)))) (omega (arith, few, five)))
    amount_walk_has w d g part e.Wildcard y x blocks five few h i = then_has K top (declares_has K top (plain_type base.Real)) (λ l any. let code = w.chosen part x.target l in
        puts_has K top (max 4 d) g (join x.sets code) (K.joined x.sets code (K.more_in_block i.sets (omega arith)) (K.more_in_block (blocks.chosen part x.target l i.target) (omega arith))) (omega (arith, few, five)))

    -- ---- a scale

    pub scale_has : (d : ℕ) (x : t.BExpr) → d ≤ top → K.expr d x → IsCode K top (K.expr 0) (scale_code x)
    scale_has d x few h = then_has K top (atomic_has K top d (record { expr = x; base = base.Real }) h)
        (λ a l. then_has K top {go = λ u. gives a.expr} (bare_has K top a.sets (K.more_in_block l.sets few)) (λ u any. gives_has K top l.expr))

  -- ---- forgetting

  -- what the maps of heaps and contents have as keys
  pub record KeysHave (keys : List (List Ty)) : Type 0 where
    pub heap : K.keys (base.Ref ∷ [])
    pub contents : (q : ℕ) (us : List Ty) → slice_get keys q ≡ Some us → K.keys (index_types us)

  map_has : (u : BType) (held old : ℕ) → K.keys u.keys → IsCode K 4 Any (forget_map u held old)
  map_has u held old keys = then_has K 4 (declares_has K 4 u) (λ new any. bare_has K 4 (pattern.forget_code u.keys held old new)
      (K.more_in_block (K.first (K.havoc new) (K.first (K.assume (K.quantified keys (K.binary (K.binary (K.at_bound held) K.zero_real) (K.binary (K.at_bound old) (K.at_bound new))))) (one_has K (K.assign (K.var new))))) (omega arith)))

  heaps_have : (m : Maps) (us : List Ty) (i : ℕ) → K.keys (base.Ref ∷ []) → IsCode K 4 Any (forget_heaps m us i)
  heaps_have m [] i heap = gives_has K 4 tt
  heaps_have m (u ∷ us) i heap = then_has K 4 (map_has (heap_type u) (number m.mask i) (number m.heap i) heap) (λ x any. heaps_have m us (i + 1) heap)

  contents_have : (m : Maps) (keys : List (List Ty)) (i : ℕ) → ((q : ℕ) (us : List Ty) → slice_get keys q ≡ Some us → K.keys (index_types us)) → IsCode K 4 Any (forget_contents m keys i)
  contents_have m [] i fit = gives_has K 4 tt
  contents_have m (us ∷ keys) i fit =
      then_has K 4 (map_has (content_type us) (number m.amount i) (number m.content i) (fit 0 us refl)) (λ x any. contents_have m keys (i + 1) (λ q ws there. fit (suc q) ws there))

  pub forget_has : (layout : Layout) (m : Maps) → KeysHave layout.keys → IsCode K 4 Any (forget_code layout m)
  forget_has layout m fit = then_has K 4 (heaps_have m layout.fields 0 fit.heap) (λ x any. contents_have m layout.keys 0 fit.contents)
