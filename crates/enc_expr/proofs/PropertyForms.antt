-- The code of each form has what that of its parts has, with at most so many brackets.
use Rattle.std.proofs.Common.{◌≡◌, ◌+◌, ◌≤◌, max, ℕ, List, Some, arith}
use Rattle.vb_base.specs.declared.labels.Kind.TheVariants as kind
use Rattle.vb_base.specs.declared.places.Pos.{Pos}
use Rattle.vb_value.specs.Layout.{Layout}
use Rattle.viper_core.specs.declared.exprs.Op.{Op}
use Rattle.viper_core.specs.declared.exprs.Op.TheVariants as o
use Rattle.viper_meaning.specs.Operators.{Class, Lazy, Division, Plain, class_of}
use Rattle.boogie_tree.specs.Expr as t
use Rattle.boogie_tree.specs.Stmt as s
use Rattle.boogie_tree.specs.Stmt.{BStmts}
use Rattle.boogie_tree.specs.declared.exprs.BBase.TheVariants as base
use Rattle.boogie_tree.specs.Values.{plain_type}
use Rattle.enc_expr.specs.Place.{Maps, Place, number}
use Rattle.moves.specs.Scalars.{base_for, variable_type}
use Rattle.moves.specs.Maps.{state_types}
use Rattle.enc_expr.specs.Kinds.{Kinds, type_at}
use Rattle.enc_expr.specs.Code.{Emitting, join, gives, Guard, puts}
use Rattle.enc_expr.specs.Pieces.{Operand, Atom, Located, at_one, one, label, index, check_divisor}
use Rattle.enc_expr.specs.Operators.{operand_of, quotient_operand, division, right_counts, lazy_operand, lazily, in_class_code, choose_code}
use Rattle.enc_expr.specs.Encoding.{read_checks, read_code, maps_from, copy_state, taking, is_unit, fill_place_code, fill_instance_code, fill_by, acc_code, instance_code, pair_code, opening_code}
use Rattle.enc_expr.proofs.Property.{Property}
use Rattle.enc_expr.proofs.PropertyPieces.{index_has, check_divisor_has, read_checks_have, copy_state_has, taking_has, fill_place_has, fill_instance_has, only_unit_has, fill_by_has, pair_code_has, one_has, Any, AreAll, IsCode, gives_has, then_has, declares_has, declares_all_has, puts_has, guards_has, atomic_has, located_has}

module _ (K : Property) where
  -- the right side counts where the left one, or its negation, holds
  counts_has : (d : ℕ) (f : Op) (x : t.BExpr) → K.expr d x → K.expr (1 + d) (right_counts f x)
  counts_has d o.Or x h = K.not h
  counts_has d f x h = K.more_in h (omega arith)

  module _ (top : ℕ) where
    -- ---- operators

    division_has : {Q : Operand → Type 0} (p : Place) (g : Guard) (f : Op) (part : Pos) (x y : Operand) (d : ℕ) → 2 + d ≤ top → K.expr d y.expr → ((c : t.BExpr) → K.expr 0 c → Q (quotient_operand f x c)) →
        IsCode K top Q (division p g f part x y)
    division_has p g f part x y d few h all = then_has K top (atomic_has K top d y h) (λ c a. let check = check_divisor (label p part kind.Div) c.expr in
        then_has K top {go = λ z. gives (quotient_operand f x c.expr)} (puts_has K top (max 1 d) g (join c.sets check) (K.joined c.sets check (K.more_in_block a.sets (omega arith))
        (K.more_in_block (check_divisor_has K (label p part kind.Div) c.expr a.expr) (omega arith))) (omega (arith, few))) (λ z any. gives_has K top (all c.expr a.expr)))

    -- what is read under a guard of its own
    lazily_has : {R Q : Operand → Type 0} (g : Guard) (f : Op) (x : Operand) (right : Guard → Emitting Operand) (d : ℕ) → 2 + d ≤ top → K.expr d x.expr → ((h : Guard) → IsCode K top R (right h)) →
        ((i : ℕ) (y : Operand) → R y → Q (lazy_operand f i y)) → IsCode K top Q (lazily g f x right)
    lazily_has g f x right d few h go all =
        then_has K top (guards_has K top (1 + d) g (right_counts f x.expr) (counts_has d f x.expr h) (omega (arith, few))) (λ i any. then_has K top (go (Some i)) (λ y j. gives_has K top {x = lazy_operand f i y} (all i y j)))

    pub in_class_has : {P R Q : Operand → Type 0} (class : Class) (p : Place) (g : Guard) (f : Op) (part : Pos) (left : Emitting Operand) (right : Guard → Emitting Operand) (d : ℕ) → class_of f ≡ class → 2 + d ≤ top →
        IsCode K top P left → ((h : Guard) → IsCode K top R (right h)) → ((x : Operand) → P x → K.expr d x.expr) → ((x : Operand) → R x → K.expr d x.expr) →
        (class_of f ≡ Lazy → (i : ℕ) (y : Operand) → R y → Q (lazy_operand f i y)) → (class_of f ≡ Division → (x y : Operand) (c : t.BExpr) → P x → R y → K.expr 0 c → Q (quotient_operand f x c)) →
        (class_of f ≡ Plain → (x y : Operand) → P x → R y → Q (operand_of f x y)) → IsCode K top Q (in_class_code class p g f part left right)
    in_class_has Lazy p g f part left right d is few h go low lower lazy divided plain = then_has K top h (λ x i. lazily_has g f x right d few (low x i) go (lazy is))
    in_class_has Division p g f part left right d is few h go low lower lazy divided plain =
        then_has K top h (λ x i. then_has K top (go g) (λ y j. division_has p g f part x y d few (lower y j) (λ c k. divided is x y c i j k)))
    in_class_has Plain p g f part left right d is few h go low lower lazy divided plain = then_has K top h (λ x i. then_has K top (go g) (λ y j. gives_has K top {x = operand_of f x y} (plain is x y i j)))

    pub choose_has : {X Y : Type 0} {P Q : X → Type 0} {R : Y → Type 0} (g : Guard) (x : t.BExpr) (left right : Guard → Emitting X) (both : ℕ → X → X → Y) (d : ℕ) → 1 + d ≤ top → 2 ≤ top → K.expr d x →
        ((h : Guard) → IsCode K top P (left h)) → ((h : Guard) → IsCode K top Q (right h)) → ((h : ℕ) (v w : X) → P v → Q w → R (both h v w)) → IsCode K top R (choose_code g x left right both)
    choose_has g x left right both d few two h go to all = then_has K top (guards_has K top d g x h few) (λ i any. then_has K top (guards_has K top 1 g (t.Not (t.Var i)) (K.not (K.var i)) two) (λ j any.
        then_has K top (go (Some i)) (λ v p. then_has K top (to (Some j)) (λ w q. gives_has K top (all i v w p q)))))

    -- ---- places and instances

    pub read_has : {Q : Operand → Type 0} (k : Kinds) (p : Place) (g : Guard) (f : ℕ) (part : Pos) (x : Operand) (d : ℕ) → 3 ≤ top → 1 + d ≤ top → K.expr d x.expr →
        ((r : t.BExpr) → K.expr 0 r → Q (record { expr = at_one (number p.now.heap f) r; base = base_for (type_at k.layout.fields f) })) → IsCode K top Q (read_code k p g f part x)
    read_has k p g f part x d three few h all = then_has K top (atomic_has K top d x h) (λ r a. let checks = read_checks p f part r.expr in
        then_has K top {go = λ z. gives (record { expr = at_one (number p.now.heap f) r.expr; base = base_for (type_at k.layout.fields f) })}
        (puts_has K top (max 2 d) g (join r.sets checks) (K.joined r.sets checks (K.more_in_block a.sets (omega arith)) (K.more_in_block (read_checks_have K p f part r.expr a.expr) (omega arith))) (omega (arith, three, few)))
        (λ z any. gives_has K top (all r.expr a.expr)))

    pub acc_has : (k : Kinds) (p : Place) (g : Guard) (scale : t.BExpr) (f : ℕ) (part : Pos) (from : ℕ) (x q : Operand) (d : ℕ) → 5 ≤ top → 1 + d ≤ top → K.expr 0 scale → K.expr d x.expr → K.expr d q.expr →
        IsCode K top Any (acc_code k p g scale f part from x q)
    acc_has k p g scale f part from x q d five few s h i = then_has K top (atomic_has K top d x h) (λ r j. then_has K top (atomic_has K top d q i) (λ a l. then_has K top (declares_has K top (variable_type (type_at k.layout.fields f))) (λ v any.
        let filled = fill_place_code p scale (type_at k.layout.fields f) f r.expr a.expr v from in let fill = fill_by p part a.expr from filled in
        puts_has K top (max 4 d) g (join r.sets (join a.sets fill)) (K.joined r.sets (join a.sets fill) (K.more_in_block j.sets (omega arith)) (K.joined a.sets fill (K.more_in_block l.sets (omega arith))
        (K.more_in_block (fill_by_has K p part a.expr from filled l.expr (fill_place_has K p scale (type_at k.layout.fields f) f r.expr a.expr v from s j.expr l.expr)) (omega arith)))) (omega (arith, five, few)))))

    pub instance_has : (p : Place) (g : Guard) (scale : t.BExpr) (q : ℕ) (part : Pos) (from : ℕ) (xs : List Operand) (m : Operand) (d : ℕ) → 5 ≤ top → 1 + d ≤ top → K.expr 0 scale → AreAll K d xs → K.expr d m.expr →
        IsCode K top Any (instance_code p g scale q part from xs m)
    instance_has p g scale q part from xs m d five few s h i = then_has K top (located_has K top d xs h) (λ l j. then_has K top (atomic_has K top d m i) (λ a k.
        let filled = fill_instance_code p scale q (index l.locals) a.expr from in let fill = fill_by p part a.expr from filled in
        puts_has K top (max 4 d) g (join l.sets (join a.sets fill)) (K.joined l.sets (join a.sets fill) (K.more_in_block j (omega arith)) (K.joined a.sets fill (K.more_in_block k.sets (omega arith))
        (K.more_in_block (fill_by_has K p part a.expr from filled k.expr (fill_instance_has K p scale q (index l.locals) a.expr from s (index_has K l.locals) k.expr)) (omega arith)))) (omega (arith, five, few))))

    -- ---- opening

    pub opening_has : {X : Type 0} {Q : X → Type 0} (layout : Layout) (p : Place) (g : Guard) (q : ℕ) (part : Pos) (l : Located) (a : Atom) (go : Maps → ℕ → Emitting X) (d : ℕ) → 3 ≤ top → 1 + d ≤ top →
        K.block d l.sets → K.block d a.sets → K.expr 0 a.expr → ((m : Maps) (from : ℕ) → IsCode K top Q (go m from)) → IsCode K top Q (opening_code layout p g q part l a go)
    opening_has layout p g q part l a go d three few h i j to = then_has K top (declares_all_has K top (state_types layout)) (λ n any. then_has K top (declares_has K top (plain_type base.Snap)) (λ from any.
        let own = maps_from layout n in let copies = copy_state own p.now in let take = taking p own copies q (index l.locals) a.expr from part in
        then_has K top {go = λ u. go own from} (puts_has K top (max 2 d) g (join l.sets (join a.sets take)) (K.joined l.sets (join a.sets take) (K.more_in_block h (omega arith)) (K.joined a.sets take (K.more_in_block i (omega arith))
        (K.more_in_block (taking_has K p own copies q (index l.locals) a.expr from part (copy_state_has K own p.now) (index_has K l.locals) j) (omega arith)))) (omega (arith, three, few))) (λ u any. to own from)))

    -- ---- producing from a content

    pub fact_has : (g : Guard) (x : t.BExpr) (from d : ℕ) → 2 ≤ top → 1 + d ≤ top → K.expr d x → IsCode K top Any (puts g (s.first (s.Assume (is_unit from)) (one (s.Assume x))))
    fact_has g x from d two few h = puts_has K top (max 1 d) g (s.first (s.Assume (is_unit from)) (one (s.Assume x))) (K.first (K.assume (K.binary (K.var from) K.unit)) (one_has K (K.assume h))) (omega (arith, two, few))

    pub unit_has : (g : Guard) (from : ℕ) → 2 ≤ top → IsCode K top Any (puts g (one (s.Assume (is_unit from))))
    unit_has g from two = puts_has K top 1 g (one (s.Assume (is_unit from))) (only_unit_has K from) two

    pub pair_has : (g : Guard) (from l r : ℕ) → 3 ≤ top → IsCode K top Any (puts g (pair_code from l r))
    pair_has g from l r three = puts_has K top 2 g (pair_code from l r) (pair_code_has K from l r) three
