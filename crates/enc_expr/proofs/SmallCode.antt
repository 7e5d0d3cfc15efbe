-- How many nodes the code of an expression or body has: at most 64 times its size.
use Rattle.std.proofs.Common.{◌≡◌, ◌+◌, ◌*◌, ◌≤◌, ℕ, Bool, true, false, List, [], ◌∷◌, Some, length, ap, arith, if◌then◌else◌}
use Rattle.std.proofs.lemmas.List.{length-map}
use Rattle.vb_base.specs.declared.labels.Kind.TheVariants as kind
use Rattle.vb_base.specs.declared.places.Pos.{Pos}
use Rattle.viper_core.specs.declared.exprs.Op.{Op}
use Rattle.viper_core.specs.declared.exprs.Op.TheVariants as o
use Rattle.viper_core.specs.Expr as e
use Rattle.viper_core.specs.Formed.{IsFormed}
use Rattle.viper_core.specs.Program.{Program, Predicate}
use Rattle.viper_core.specs.Size.{size, sizes, amount_size, assertion_size}
use Rattle.viper_core.specs.Typing.{Context}
use Rattle.viper_core.specs.Weight.{base_of}
use Rattle.viper_meaning.specs.Operators.{Class, Lazy, Division, Plain, class_of}
use Rattle.boogie_tree.specs.Expr as t
use Rattle.boogie_tree.specs.Stmt as s
use Rattle.boogie_tree.specs.declared.exprs.BBase.TheVariants as base
use Rattle.boogie_tree.specs.Values.{plain_type, same_base}
use Rattle.enc_expr.specs.Place.{Place, number, with_now, with_vars}
use Rattle.moves.specs.Scalars.{base_for, variable_type}
use Rattle.moves.specs.Maps.{state_types}
use Rattle.enc_expr.specs.Kinds.{Kinds, kinds_in, type_at, body_kinds}
use Rattle.enc_expr.specs.Code.{Emitting, join, gives, Guard, puts}
use Rattle.enc_expr.specs.Pieces.{Operand, at_one, one, label, index, zero_real, check_divisor, real}
use Rattle.enc_expr.specs.Operators.{plain_operand, operand_of, as_real, product_operand, quotient_operand, division, right_counts, lazy_operand, lazily, in_class_code, chosen_operand, choose_code}
use Rattle.enc_expr.specs.Encoding.{read_checks, read_code, maps_from, copy_state, taking, is_unit, fill_place_code, fill_instance_code, fill_by, acc_code, instance_code, pair_code, code, unfolding_code, codes, amount_code, body_code}
use Rattle.enc_expr.specs.Nodes.{expr_nodes, written}
use Rattle.enc_expr.proofs.SmallPieces.{join_nodes, index_nodes, real_nodes, check_divisor_nodes, read_checks_nodes, parts_of, taking_nodes, state_types_length, fill_place_nodes, fill_instance_nodes, fill_by_nodes, Any, nothing, weigh, weigh_all, weigh_atom, weigh_located, IsSmall, gives_small, then_small, more_small, declares_small, declares_all_small, puts_small, guards_small, atomic_small, located_small}

-- ---- operators

pub as_real_nodes : (x : Operand) → expr_nodes (as_real x).expr ≤ 1 + expr_nodes x.expr
as_real_nodes x = either (same_base x.base base.Int)
  where
    either : (q : Bool) → expr_nodes (if q then record { expr = real x.expr; base = base.Real } else x).expr ≤ 1 + expr_nodes x.expr
    either true = real_nodes x.expr
    either false = omega arith

product_nodes : (x y : Operand) → expr_nodes (product_operand x y).expr ≤ 3 + expr_nodes x.expr + expr_nodes y.expr
product_nodes x y = either (same_base x.base y.base)
  where
    either : (q : Bool) → expr_nodes (if q then plain_operand o.Mul x y else plain_operand o.Mul (as_real x) (as_real y)).expr ≤ 3 + expr_nodes x.expr + expr_nodes y.expr
    either true = omega arith
    either false = let a = as_real_nodes x in let b = as_real_nodes y in omega (arith, a, b)

pub operand_nodes : (f : Op) (x y : Operand) → expr_nodes (operand_of f x y).expr ≤ 3 + expr_nodes x.expr + expr_nodes y.expr
operand_nodes o.Mul x y = product_nodes x y
operand_nodes f x y = omega arith

quotient_nodes : (f : Op) (x : Operand) (d : t.BExpr) → expr_nodes d ≤ 1 → expr_nodes (quotient_operand f x d).expr ≤ 4 + expr_nodes x.expr
quotient_nodes o.Divide x d h = let a = as_real_nodes x in let b = real_nodes d in omega (arith, a, b, h)
quotient_nodes f x d h = omega (arith, h)

counts_nodes : (f : Op) (x : t.BExpr) → expr_nodes (right_counts f x) ≤ 1 + expr_nodes x
counts_nodes o.Or x = omega arith
counts_nodes f x = omega arith

division_small : (p : Place) (g : Guard) (f : Op) (at : Pos) (x y : Operand) → IsSmall (64 + weigh x + weigh y) Any weigh (division p g f at x y)
division_small p g f at x y = then_small (64 + weigh x + 6) (omega arith) (atomic_small y) (λ d h. let a = join_nodes d.sets (check_divisor (label p at kind.Div) d.expr) in let b = check_divisor_nodes (label p at kind.Div) d.expr h in
    then_small {go = λ u. gives (quotient_operand f x d.expr)} (64 + weigh x) (omega arith) (puts_small (6 + weigh_atom d) g (join d.sets (check_divisor (label p at kind.Div) d.expr)) (omega (arith, a, b)))
    (λ u any. gives_small {x = quotient_operand f x d.expr} tt (let c = quotient_nodes f x d.expr h in omega (arith, c))))

lazily_small : (k : ℕ) (g : Guard) (f : Op) (x : Operand) (right : Guard → Emitting Operand) → ((h : Guard) → IsSmall k Any weigh (right h)) → IsSmall (64 + k + weigh x) Any weigh (lazily g f x right)
lazily_small k g f x right go = then_small (32 + k) (let a = counts_nodes f x.expr in omega (arith, a)) (guards_small g (right_counts f x.expr)) (λ h any. then_small 32 (omega arith) (go (Some h)) (λ y any.
    gives_small {x = lazy_operand f h y} tt (omega arith)))

in_class_small : (class : Class) (j k : ℕ) (p : Place) (g : Guard) (f : Op) (at : Pos) (left : Emitting Operand) (right : Guard → Emitting Operand) → IsSmall j Any weigh left → ((h : Guard) → IsSmall k Any weigh (right h)) →
    IsSmall (64 + j + k) Any weigh (in_class_code class p g f at left right)
in_class_small Lazy j k p g f at left right h go = then_small (64 + k) (omega arith) h (λ x any. lazily_small k g f x right go)
in_class_small Division j k p g f at left right h go = then_small (64 + k) (omega arith) h (λ x any. then_small (64 + weigh x) (omega arith) (go g) (λ y any. division_small p g f at x y))
in_class_small Plain j k p g f at left right h go = then_small (64 + k) (omega arith) h (λ x any. then_small (64 + weigh x) (omega arith) (go g) (λ y any.
    gives_small {x = operand_of f x y} tt (let a = operand_nodes f x y in omega (arith, a))))

pub choose_small : {X Y : Type 0} {measure : X → ℕ} {most : Y → ℕ} (j k total : ℕ) (g : Guard) (x : t.BExpr) (left right : Guard → Emitting X) (both : ℕ → X → X → Y) → 10 + expr_nodes x + j + k ≤ total →
    ((h : Guard) → IsSmall j Any measure (left h)) → ((h : Guard) → IsSmall k Any measure (right h)) → ((h : ℕ) (v w : X) → most (both h v w) ≤ measure v + measure w) → IsSmall total Any most (choose_code g x left right both)
choose_small {measure = measure} j k total g x left right both enough go to all = then_small (6 + j + k) (omega (arith, enough)) (guards_small g x) (λ h any. then_small (j + k) (omega arith) (guards_small g (t.Not (t.Var h))) (λ i any.
    then_small k (omega arith) (go (Some h)) (λ v any. then_small (measure v) (omega arith) (to (Some i)) (λ w any. gives_small {x = both h v w} tt (all h v w)))))

-- ---- places and instances

read_small : (k : Kinds) (p : Place) (g : Guard) (f : ℕ) (at : Pos) (x : Operand) → IsSmall (64 + weigh x) Any weigh (read_code k p g f at x)
read_small k p g f at x = then_small 70 (omega arith) (atomic_small x) (λ r h. let a = join_nodes r.sets (read_checks p f at r.expr) in let b = read_checks_nodes p f at r.expr h in
    then_small {go = λ u. gives (record { expr = at_one (number p.now.heap f) r.expr; base = base_for (type_at k.layout.fields f) })} 40 (omega arith)
    (puts_small (11 + weigh_atom r) g (join r.sets (read_checks p f at r.expr)) (omega (arith, a, b)))
    (λ u any. gives_small {x = record { expr = at_one (number p.now.heap f) r.expr; base = base_for (type_at k.layout.fields f) }} tt (omega (arith, h))))

acc_small : (k : Kinds) (p : Place) (g : Guard) (scale : t.BExpr) (f : ℕ) (at : Pos) (from : ℕ) (x q : Operand) → expr_nodes scale ≤ 1 → IsSmall (64 + weigh x + weigh q) Any nothing (acc_code k p g scale f at from x q)
acc_small k p g scale f at from x q few = then_small (70 + weigh q) (omega arith) (atomic_small x) (λ r h. then_small (76 + weigh_atom r) (omega arith) (atomic_small q) (λ a i.
    then_small (75 + weigh_atom r + weigh_atom a) (omega arith) (declares_small (variable_type (type_at k.layout.fields f))) (λ v any.
    let filled = fill_place_code p scale (type_at k.layout.fields f) f r.expr a.expr v from in
    let b = join_nodes r.sets (join a.sets (fill_by p at a.expr from filled)) in let c = join_nodes a.sets (fill_by p at a.expr from filled) in
    let d = fill_by_nodes p at a.expr from filled i in let m = fill_place_nodes p scale (type_at k.layout.fields f) f r.expr a.expr v from few h i in
    puts_small (75 + weigh_atom r + weigh_atom a + nothing v) g (join r.sets (join a.sets (fill_by p at a.expr from filled))) (omega (arith, b, c, d, m)))))

instance_small : (p : Place) (g : Guard) (scale : t.BExpr) (q : ℕ) (at : Pos) (from : ℕ) (xs : List Operand) (m : Operand) → expr_nodes scale ≤ 1 → IsSmall (64 + weigh_all xs + weigh m) Any nothing (instance_code p g scale q at from xs m)
instance_small p g scale q at from xs m few = then_small (64 + weigh m) (omega arith) (located_small xs) (λ l any. then_small (70 + weigh_located l) (omega arith) (atomic_small m) (λ a i.
    let filled = fill_instance_code p scale q (index l.locals) a.expr from in
    let b = join_nodes l.sets (join a.sets (fill_by p at a.expr from filled)) in let c = join_nodes a.sets (fill_by p at a.expr from filled) in
    let d = fill_by_nodes p at a.expr from filled i in let n = fill_instance_nodes p scale q (index l.locals) a.expr from few i in let k = index_nodes l.locals in
    puts_small (70 + weigh_located l + weigh_atom a) g (join l.sets (join a.sets (fill_by p at a.expr from filled))) (omega (arith, b, c, d, n, k))))

-- ---- the code

-- where each part counts at least so much
module _ (least : ℕ) where
  mutual
    pub code_small : (k : Kinds) (p : Place) (g : Guard) (a : e.Expr) → 1 + parts_of k.layout ≤ least → IsSmall (64 * size least a) Any weigh (code k p g a)
    code_small k p g (e.Var x) h = gives_small {x = record { expr = t.Var (number p.vars x); base = base_for (type_at k.vars x) }} tt (omega arith)
    code_small k p g (e.Int n) h = gives_small {x = record { expr = t.Int n; base = base.Int }} tt (omega arith)
    code_small k p g (e.Bool b) h = gives_small {x = record { expr = t.Bool b; base = base.Bool }} tt (omega arith)
    code_small k p g e.Null h = gives_small {x = record { expr = t.Null; base = base.Ref }} tt (omega arith)
    code_small k p g (e.Part q) h = gives_small {x = record { expr = t.Real q.num; base = base.Real }} tt (omega arith)
    code_small k p g (e.Neg a) h = then_small 64 (omega arith) (code_small k p g a h) (λ x any. gives_small {x = record { expr = t.Neg x.expr; base = x.base }} tt (omega arith))
    code_small k p g (e.Not a) h = then_small 64 (omega arith) (code_small k p g a h) (λ x any. gives_small {x = record { expr = t.Not x.expr; base = base.Bool }} tt (omega arith))
    code_small k p g (e.Bin f a b at) h = more_small (omega arith) (in_class_small (class_of f) (64 * size least a) (64 * size least b) p g f at (code k p g a) (λ m. code k p m b) (code_small k p g a h) (λ m. code_small k p m b h))
    code_small k p g (e.Choose c a b) h = then_small (64 + 64 * size least a + 64 * size least b) (omega arith) (code_small k p g c h) (λ x any.
        choose_small {measure = weigh} {most = weigh} (64 * size least a) (64 * size least b) (64 + 64 * size least a + 64 * size least b + weigh x) g x.expr (λ m. code k p m a) (λ m. code k p m b) chosen_operand (omega arith)
        (λ m. code_small k p m a h) (λ m. code_small k p m b h) (λ m v w. omega arith))
    code_small k p g (e.Field a f at) h = then_small 64 (omega arith) (code_small k p g a h) (λ x any. read_small k p g f at x)
    code_small k p g (e.Old a) h = more_small (omega arith) (code_small k (with_now p.old p) g a h)
    code_small k p g (e.Unfolding u) h = unfolding_small k p g u h

    pub unfolding_small : (k : Kinds) (p : Place) (g : Guard) (u : e.Opened) → 1 + parts_of k.layout ≤ least → IsSmall (64 * size least (e.Unfolding u)) Any weigh (unfolding_code k p g u)
    unfolding_small k p g (e.opened q args amount body inner at) h =
        then_small (64 * least + 64 * size least amount + 64 * assertion_size least body + 64 * size least inner) (omega arith) (codes_small k p g args h) (λ xs any.
        then_small (64 * least + 64 * assertion_size least body + 64 * size least inner + weigh_all xs) (omega arith) (code_small k p g amount h) (λ m any.
        then_small (64 * least + 64 * assertion_size least body + 64 * size least inner + weigh m) (omega arith) (located_small xs) (λ l any.
        then_small (64 * least + 64 * assertion_size least body + 64 * size least inner + 6 + weigh_located l) (omega arith) (atomic_small m) (λ a i.
        then_small (64 + 62 * parts_of k.layout + 64 * assertion_size least body + 64 * size least inner + weigh_located l + weigh_atom a) (let b = state_types_length k.layout in omega (arith, h, b)) (declares_all_small (state_types k.layout)) (λ n any.
        then_small (63 + 62 * parts_of k.layout + 64 * assertion_size least body + 64 * size least inner + weigh_located l + weigh_atom a) (omega arith) (declares_small (plain_type base.Snap)) (λ from any.
        let takes = taking p (maps_from k.layout n) (copy_state (maps_from k.layout n) p.now) q (index l.locals) a.expr from at in
        let b = join_nodes l.sets (join a.sets takes) in let c = join_nodes a.sets takes in let d = taking_nodes k.layout p n q (index l.locals) a.expr from at i in let w = index_nodes l.locals in
        then_small (64 * assertion_size least body + 64 * size least inner) (omega arith) (puts_small (63 + 62 * parts_of k.layout + weigh_located l + weigh_atom a) g (join l.sets (join a.sets takes)) (omega (arith, b, c, d, w))) (λ u any.
        then_small (64 * size least inner) (omega arith) (body_small (body_kinds k q) (with_now (maps_from k.layout n) (with_vars l.locals p)) g a.expr body from h i) (λ u any.
        more_small (omega arith) (code_small k (with_now (maps_from k.layout n) p) g inner h)))))))))

    pub codes_small : (k : Kinds) (p : Place) (g : Guard) (xs : e.Exprs) → 1 + parts_of k.layout ≤ least → IsSmall (64 * sizes least xs) Any weigh_all (codes k p g xs)
    codes_small k p g e.none h = gives_small {x = []} tt (omega arith)
    codes_small k p g (e.more a rest) h = then_small (64 * sizes least rest) (omega arith) (code_small k p g a h) (λ x any. then_small (weigh x) (omega arith) (codes_small k p g rest h) (λ xs any. gives_small {x = x ∷ xs} tt (omega arith)))

    pub amount_small : (k : Kinds) (p : Place) (g : Guard) (m : e.Amt) → 1 + parts_of k.layout ≤ least → IsSmall (64 * amount_size least m) Any weigh (amount_code k p g m)
    amount_small k p g (e.Is a) h = code_small k p g a h
    amount_small k p g e.Wildcard h = gives_small {x = record { expr = zero_real; base = base.Real }} tt (omega arith)

    pub body_small : (k : Kinds) (p : Place) (g : Guard) (scale : t.BExpr) (a : e.Assertion) (from : ℕ) → 1 + parts_of k.layout ≤ least → expr_nodes scale ≤ 1 → IsSmall (64 * assertion_size least a) Any nothing (body_code k p g scale a from)
    body_small k p g scale (e.Fact a at) from h few = then_small 0 (omega arith) (code_small k p g a h) (λ x any. puts_small (0 + weigh x) g (s.first (s.Assume (is_unit from)) (one (s.Assume x.expr))) (omega arith))
    body_small k p g scale (e.Acc a f m at) from h few = then_small (64 + 64 * amount_size least m) (omega arith) (code_small k p g a h) (λ x any. then_small (64 + weigh x) (omega arith) (amount_small k p g m h) (λ q any.
        acc_small k p g scale f at from x q few))
    body_small k p g scale (e.Inst q args m at) from h few = then_small (64 + 64 * amount_size least m) (omega arith) (codes_small k p g args h) (λ xs any. then_small (64 + weigh_all xs) (omega arith) (amount_small k p g m h) (λ x any.
        instance_small p g scale q at from xs x few))
    body_small k p g scale (e.And a b) from h few = then_small (63 + 64 * assertion_size least a + 64 * assertion_size least b) (omega arith) (declares_small (plain_type base.Snap)) (λ l any.
        then_small (62 + 64 * assertion_size least a + 64 * assertion_size least b) (omega arith) (declares_small (plain_type base.Snap)) (λ r any.
        then_small (64 * assertion_size least a + 64 * assertion_size least b) (omega arith) (puts_small 62 g (pair_code from l r) (omega arith)) (λ u any.
        then_small (64 * assertion_size least b) (omega arith) (body_small k p g scale a l h few) (λ u any. more_small (omega arith) (body_small k p g scale b r h few)))))
    body_small k p g scale (e.Implies c a) from h few = then_small (64 + 64 * assertion_size least a) (omega arith) (code_small k p g c h) (λ x any.
        choose_small {measure = nothing} {most = nothing} (64 * assertion_size least a) 6 (64 + 64 * assertion_size least a + weigh x) g x.expr (λ m. body_code k p m scale a from) (λ m. puts m (one (s.Assume (is_unit from)))) (λ m v w. tt)
        (omega arith) (λ m. body_small k p m scale a from h few) (λ m. puts_small 6 m (one (s.Assume (is_unit from))) (omega arith)) (λ m v w. omega arith))
    body_small k p g scale (e.ChooseAssertion c a b) from h few = then_small (64 + 64 * assertion_size least a + 64 * assertion_size least b) (omega arith) (code_small k p g c h) (λ x any.
        choose_small {measure = nothing} {most = nothing} (64 * assertion_size least a) (64 * assertion_size least b) (64 + 64 * assertion_size least a + 64 * assertion_size least b + weigh x) g x.expr
        (λ m. body_code k p m scale a from) (λ m. body_code k p m scale b from) (λ m v w. tt) (omega arith) (λ m. body_small k p m scale a from h few) (λ m. body_small k p m scale b from h few) (λ m v w. omega arith))

-- ---- what is promised

-- each part counts its own node, the fields and the predicates
pub counted : (p : Program) → IsFormed p → 1 + parts_of p.layout ≤ base_of p
counted p h = let kept = h.typed.layout in let keys = ap length kept.keys in omega (arith, kept.fields, keys, length-map p.predicates (λ (d : Predicate). d.params))

pub expression_linear : (c : Context) (p : Place) (g : Guard) (a : e.Expr) (n : ℕ) → IsFormed c.program →
    written (code (kinds_in c) p g a n) + expr_nodes (code (kinds_in c) p g a n).value.expr ≤ 64 * size (base_of c.program) a
expression_linear c p g a n formed = let h = (code_small (base_of c.program) (kinds_in c) p g a (counted c.program formed)).within n in omega (arith, h)

pub body_linear : (c : Context) (p : Place) (g : Guard) (scale : t.BExpr) (a : e.Assertion) (from n : ℕ) → IsFormed c.program → expr_nodes scale ≡ 1 →
    written (body_code (kinds_in c) p g scale a from n) ≤ 64 * assertion_size (base_of c.program) a
body_linear c p g scale a from n formed atom = let h = (body_small (base_of c.program) (kinds_in c) p g scale a from (counted c.program formed) (omega (arith, atom))).within n in omega (arith, h)
