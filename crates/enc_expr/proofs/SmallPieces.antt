-- How many nodes pieces of code have.
use Rattle.std.proofs.Common.{◌≡◌, ◌+◌, ◌*◌, ◌≤◌, ℕ, Bool, true, false, List, [], ◌∷◌, ◌++◌, Some, None, map, length, length-append, refl, arith, if◌then◌else◌}
use Rattle.std.proofs.lemmas.List.{length-map}
use Rattle.std.proofs.lemmas.List.FromFn.{length-range_with_len}
use Rattle.std.specs.Prelude.{⊤, pos}
use Rattle.vb_base.specs.declared.labels.Label.{Label}
use Rattle.vb_base.specs.declared.labels.Kind.TheVariants as kind
use Rattle.vb_base.specs.declared.places.Pos.{Pos}
use Rattle.vb_value.specs.Layout.{Layout}
use Rattle.vb_value.specs.declared.values.Ty.{Ty}
use Rattle.vb_value.specs.declared.values.Ty.TheVariants as ty
use Rattle.boogie_tree.specs.Expr as t
use Rattle.boogie_tree.specs.Stmt as s
use Rattle.boogie_tree.specs.Stmt.{BStmts}
use Rattle.boogie_tree.specs.Program.{BType}
use Rattle.boogie_tree.specs.declared.exprs.BOp.TheVariants as op
use Rattle.boogie_tree.specs.Values.{plain_type}
use Rattle.enc_expr.specs.Place.{Maps, Place, number}
use Rattle.moves.specs.Maps.{heap_type, mask_type, amount_type, content_type, state_types}
use Rattle.enc_expr.specs.Code.{Emitting, join, gives, then_emit, declares, declares_all, Guard, guarded, under, puts, guards}
use Rattle.enc_expr.specs.Pieces.{Operand, Atom, Located, is_atom, in_local, atomic, located_from, located, variables, index, one, label, zero_real, one_real, is_one, is_amount_literal, is_divisor_literal, unless_known, check_nonnegative, check_positive, check_divisor, scaled, if_positive, real, add_to}
use Rattle.enc_expr.specs.Encoding.{read_checks, maps_from, copies, copy_state, held_check, taken_amount, taking, is_unit, leaf, take_value, set_value, fill_place_code, fill_instance_code, fill_by}
use Rattle.enc_expr.specs.Nodes.{expr_nodes, exprs_nodes, stmts_nodes, written}

-- ---- statements

pub join_nodes : (xs ys : BStmts) → stmts_nodes (join xs ys) ≡ stmts_nodes xs + stmts_nodes ys
join_nodes s.skip ys = omega arith
join_nodes (s.first x xs) ys = let rest = join_nodes xs ys in omega (arith, rest)

guarded_nodes : (g : Guard) (xs : BStmts) → stmts_nodes (guarded g xs) ≤ 2 + stmts_nodes xs
guarded_nodes None xs = omega arith
guarded_nodes (Some g) s.skip = omega arith
guarded_nodes (Some g) (s.first x xs) = omega arith

unless_nodes : (k : ℕ) (known : Bool) (xs : BStmts) → stmts_nodes xs ≤ k → stmts_nodes (unless_known known xs) ≤ k
unless_nodes k true xs h = omega arith
unless_nodes k false xs h = h

-- ---- atoms

atom_nodes : (x : t.BExpr) → is_atom x ≡ true → expr_nodes x ≤ 1
atom_nodes (t.Var i) h = omega arith
atom_nodes (t.Int n) h = omega arith
atom_nodes (t.Real n) h = omega arith
atom_nodes (t.Bool q) h = omega arith
atom_nodes t.Null h = omega arith
atom_nodes x h = absurd cc

variables_nodes : (is : List ℕ) → exprs_nodes (variables is) ≡ length is
variables_nodes [] = refl
variables_nodes (i ∷ is) = let rest = variables_nodes is in omega (arith, rest)

pub index_nodes : (is : List ℕ) → exprs_nodes (index is) ≤ 1 + length is
index_nodes [] = omega arith
index_nodes (i ∷ is) = let rest = variables_nodes (i ∷ is) in omega (arith, rest)

pub real_nodes : (x : t.BExpr) → expr_nodes (real x) ≤ 1 + expr_nodes x
real_nodes (t.Int n) = omega arith
real_nodes x = other x
  where
    other : (x : t.BExpr) → expr_nodes (t.ToReal x) ≤ 1 + expr_nodes x
    other x = omega arith

-- ---- what is checked

pub check_divisor_nodes : (l : Label) (d : t.BExpr) → expr_nodes d ≤ 1 → stmts_nodes (check_divisor l d) ≤ 4
check_divisor_nodes l d h = unless_nodes 4 (is_divisor_literal d) (one (s.Assert l (t.Bin op.Ne d (t.Int (pos 0))))) (omega (arith, h))

pub check_positive_nodes : (l : Label) (q : t.BExpr) → expr_nodes q ≤ 1 → stmts_nodes (check_positive l q) ≤ 4
check_positive_nodes l q h = unless_nodes 4 (is_one q) (one (s.Assert l (t.Bin op.Gt q zero_real))) (omega (arith, h))

pub check_nonnegative_nodes : (l : Label) (q : t.BExpr) → expr_nodes q ≤ 1 → stmts_nodes (check_nonnegative l q) ≤ 4
check_nonnegative_nodes l q h = unless_nodes 4 (is_amount_literal q) (one (s.Assert l (t.Bin op.Ge q zero_real))) (omega (arith, h))

pub read_checks_nodes : (p : Place) (f : ℕ) (at : Pos) (x : t.BExpr) → expr_nodes x ≤ 1 → stmts_nodes (read_checks p f at x) ≤ 9
read_checks_nodes p f at x h = omega (arith, h)

-- ---- maps of a state of their own

pub copies_nodes : (xs ys : List ℕ) (i : ℕ) → stmts_nodes (copies xs ys i) ≡ 2 * length xs
copies_nodes [] ys i = refl
copies_nodes (x ∷ xs) ys i = let rest = copies_nodes xs ys (i + 1) in omega (arith, rest)

-- how many fields and predicates there are
abbrev pub parts_of : Layout → ℕ
parts_of layout = length layout.fields + length layout.keys

copy_state_nodes : (layout : Layout) (n : ℕ) (l : Maps) → stmts_nodes (copy_state (maps_from layout n) l) ≤ 4 * parts_of layout
copy_state_nodes layout n l = let m = maps_from layout n in
    let a = join_nodes (copies m.heap l.heap 0) (join (copies m.mask l.mask 0) (join (copies m.amount l.amount 0) (copies m.content l.content 0))) in
    let b = join_nodes (copies m.mask l.mask 0) (join (copies m.amount l.amount 0) (copies m.content l.content 0)) in
    let c = join_nodes (copies m.amount l.amount 0) (copies m.content l.content 0) in
    let fields = length layout.fields in let predicates = length layout.keys in
    omega (
      arith,
      a,
      b,
      c,
      copies_nodes m.heap l.heap 0,
      copies_nodes m.mask l.mask 0,
      copies_nodes m.amount l.amount 0,
      copies_nodes m.content l.content 0,
      length-range_with_len n fields,
      length-range_with_len (n + fields) fields,
      length-range_with_len (n + fields + fields) predicates,
      length-range_with_len (n + fields + fields + predicates) predicates,
    )

pub taking_nodes : (layout : Layout) (p : Place) (n q : ℕ) (key : t.BExprs) (amount : t.BExpr) (from : ℕ) (at : Pos) → expr_nodes amount ≤ 1 →
    stmts_nodes (taking p (maps_from layout n) (copy_state (maps_from layout n) p.now) q key amount from at) ≤ 14 + 4 * exprs_nodes key + 4 * parts_of layout
taking_nodes layout p n q key amount from at h =
    let m = maps_from layout n in
    let last = one (s.Assign from (t.At (number m.content q) key)) in
    let a = join_nodes (check_positive (label p at kind.Amount) amount) (join (held_check (label p at kind.Perm) (number p.now.amount q) key amount) (join (copy_state m p.now) (join (taken_amount (number m.amount q) key amount) last))) in
    let b = join_nodes (held_check (label p at kind.Perm) (number p.now.amount q) key amount) (join (copy_state m p.now) (join (taken_amount (number m.amount q) key amount) last)) in
    let c = join_nodes (copy_state m p.now) (join (taken_amount (number m.amount q) key amount) last) in
    let d = join_nodes (taken_amount (number m.amount q) key amount) last in
    let e : stmts_nodes (held_check (label p at kind.Perm) (number p.now.amount q) key amount) ≤ 4 + exprs_nodes key = omega (arith, h) in
    let f : stmts_nodes (taken_amount (number m.amount q) key amount) ≤ 4 + 2 * exprs_nodes key = omega (arith, h) in
    let g : stmts_nodes last ≤ 2 + exprs_nodes key = omega arith in
    omega (arith, a, b, c, d, e, f, g, copy_state_nodes layout n p.now, check_positive_nodes (label p at kind.Amount) amount h)

pub state_types_length : (layout : Layout) → length (state_types layout) ≡ 2 * parts_of layout
state_types_length layout = omega (
  arith,
  length-append (map heap_type layout.fields ++ map mask_type layout.fields ++ map amount_type layout.keys) (map content_type layout.keys),
  length-append (map heap_type layout.fields ++ map mask_type layout.fields) (map amount_type layout.keys),
  length-append (map heap_type layout.fields) (map mask_type layout.fields),
  length-map layout.fields heap_type,
  length-map layout.fields mask_type,
  length-map layout.keys amount_type,
  length-map layout.keys content_type,
)

-- ---- filling

pub scaled_nodes : (scale q : t.BExpr) → expr_nodes scale ≤ 1 → expr_nodes q ≤ 1 → expr_nodes (scaled scale q) ≤ 3
scaled_nodes scale q h i = by_literals (is_one scale) (is_one q)
  where
    by_literals : (p r : Bool) → expr_nodes (if p then q else if r then scale else t.Bin op.Mul scale q) ≤ 3
    by_literals true r = omega (arith, i)
    by_literals false true = omega (arith, h)
    by_literals false false = omega (arith, h, i)

if_positive_nodes : (q : t.BExpr) (xs ys : BStmts) → expr_nodes q ≤ 1 → stmts_nodes (if_positive q xs ys) ≤ 4 + stmts_nodes xs + stmts_nodes ys
if_positive_nodes q xs ys h = by_literal (is_one q)
  where
    by_literal : (p : Bool) → stmts_nodes (if p then xs else one (s.If (t.Bin op.Gt q zero_real) xs ys)) ≤ 4 + stmts_nodes xs + stmts_nodes ys
    by_literal true = omega arith
    by_literal false = omega (arith, h)

pub add_to_nodes : (m : ℕ) (k : t.BExprs) (q : t.BExpr) → expr_nodes q ≤ 3 → stmts_nodes (add_to m k q) ≤ 10 + 3 * exprs_nodes k
add_to_nodes m k q h = omega (arith, h)

set_value_nodes : (held m : ℕ) (k : t.BExprs) (v : ℕ) → stmts_nodes (set_value held m k v) ≤ 10 + 3 * exprs_nodes k
set_value_nodes held m k v = omega arith

leaf_nodes : (u : Ty) (v : ℕ) → expr_nodes (leaf u (t.Var v)) ≤ 2
leaf_nodes ty.Int v = omega arith
leaf_nodes ty.Bool v = omega arith
leaf_nodes ty.Ref v = omega arith
leaf_nodes ty.Perm v = omega arith

take_value_nodes : (u : Ty) (x : t.BExpr) (v from : ℕ) → expr_nodes x ≤ 1 → stmts_nodes (take_value u x v from) ≤ 10
take_value_nodes u x v from h = let l = leaf_nodes u v in omega (arith, h, l)

pub fill_place_nodes : (p : Place) (scale : t.BExpr) (u : Ty) (f : ℕ) (x q : t.BExpr) (v from : ℕ) → expr_nodes scale ≤ 1 → expr_nodes x ≤ 1 → expr_nodes q ≤ 1 → stmts_nodes (fill_place_code p scale u f x q v from) ≤ 41
fill_place_nodes p scale u f x q v from h i j =
    let heap = number p.now.heap f in let mask = number p.now.mask f in let key = t.more x t.none in
    let last = one (s.Assume (t.Bin op.Le (t.At mask key) one_real)) in
    let a = join_nodes (take_value u x v from) (join (set_value mask heap key v) (join (add_to mask key (scaled scale q)) last)) in
    let b = join_nodes (set_value mask heap key v) (join (add_to mask key (scaled scale q)) last) in
    let c = join_nodes (add_to mask key (scaled scale q)) last in
    let d : stmts_nodes last ≤ 5 = omega (arith, i) in
    let e : exprs_nodes key ≤ 1 = omega (arith, i) in
    omega (arith, a, b, c, d, e, take_value_nodes u x v from i, set_value_nodes mask heap key v, add_to_nodes mask key (scaled scale q) (scaled_nodes scale q h j))

pub fill_instance_nodes : (p : Place) (scale : t.BExpr) (q : ℕ) (key : t.BExprs) (amount : t.BExpr) (from : ℕ) → expr_nodes scale ≤ 1 → expr_nodes amount ≤ 1 → stmts_nodes (fill_instance_code p scale q key amount from) ≤ 20 + 6 * exprs_nodes key
fill_instance_nodes p scale q key amount from h j = let a = join_nodes (set_value (number p.now.amount q) (number p.now.content q) key from) (add_to (number p.now.amount q) key (scaled scale amount)) in
    omega (arith, a, set_value_nodes (number p.now.amount q) (number p.now.content q) key from, add_to_nodes (number p.now.amount q) key (scaled scale amount) (scaled_nodes scale amount h j))

pub fill_by_nodes : (p : Place) (at : Pos) (q : t.BExpr) (from : ℕ) (xs : BStmts) → expr_nodes q ≤ 1 → stmts_nodes (fill_by p at q from xs) ≤ 12 + stmts_nodes xs
fill_by_nodes p at q from xs h = let a = join_nodes (check_nonnegative (label p at kind.Negative) q) (if_positive q xs (one (s.Assume (is_unit from)))) in
    omega (arith, a, check_nonnegative_nodes (label p at kind.Negative) q h, if_positive_nodes q xs (one (s.Assume (is_unit from))) h)

-- ---- by the ways of writing

abbrev pub Any : {X : Type 0} → X → Type 0
Any x = ⊤

-- What code hands on counts too. An operand counts 8 more than its nodes, for what is written where it is an argument.
abbrev pub nothing : {X : Type 0} → X → ℕ
nothing x = 0

abbrev pub weigh : Operand → ℕ
weigh x = 8 + expr_nodes x.expr

abbrev pub weigh_all : List Operand → ℕ
weigh_all [] = 0
weigh_all (x ∷ xs) = weigh x + weigh_all xs

abbrev pub weigh_atom : Atom → ℕ
weigh_atom a = stmts_nodes a.sets

abbrev pub weigh_located : Located → ℕ
weigh_located l = stmts_nodes l.sets + 6 * length l.locals

abbrev pub IsSmallAtom : Atom → Type 0
IsSmallAtom a = expr_nodes a.expr ≤ 1

-- what is written and handed on counts at most so much, and what is handed on has the property
pub record IsSmall (k : ℕ) {X : Type 0} (P : X → Type 0) (measure : X → ℕ) (m : Emitting X) : Type 0 where
  pub within : (n : ℕ) → written (m n) + measure (m n).value ≤ k
  pub value : (n : ℕ) → P (m n).value

pub gives_small : {k : ℕ} {X : Type 0} {P : X → Type 0} {measure : X → ℕ} {x : X} → P x → measure x ≤ k → IsSmall k P measure (gives x)
gives_small h i = record { within = λ n. omega (arith, i); value = λ n. h }

pub then_small : {k total : ℕ} {X Y : Type 0} {P : X → Type 0} {Q : Y → Type 0} {measure : X → ℕ} {size : Y → ℕ} {m : Emitting X} {go : X → Emitting Y} (j : ℕ) → k + j ≤ total → IsSmall k P measure m →
    ((x : X) → P x → IsSmall (j + measure x) Q size (go x)) → IsSmall total Q size (then_emit m go)
then_small {m = m} {go = go} j enough h g = record {
  within = λ n. let a = h.within n in let b = (g (m n).value (h.value n)).within (m n).next in
      let c = join_nodes (m n).stmts (go (m n).value (m n).next).stmts in let d = length-append (m n).locals (go (m n).value (m n).next).locals in omega (arith, a, b, c, d, enough);
  value = λ n. (g (m n).value (h.value n)).value (m n).next;
}

pub more_small : {k j : ℕ} {X : Type 0} {P : X → Type 0} {measure : X → ℕ} {m : Emitting X} → k ≤ j → IsSmall k P measure m → IsSmall j P measure m
more_small more h = record { within = λ n. let a = h.within n in omega (arith, a, more); value = h.value }

pub declares_small : (u : BType) → IsSmall 1 Any nothing (declares u)
declares_small u = record { within = λ n. omega arith; value = λ n. tt }

pub declares_all_small : (us : List BType) → IsSmall (length us) Any nothing (declares_all us)
declares_all_small us = record { within = λ n. omega arith; value = λ n. tt }

pub puts_small : (k : ℕ) (g : Guard) (xs : BStmts) → 2 + stmts_nodes xs ≤ k → IsSmall k Any nothing (puts g xs)
puts_small k g xs h = record { within = λ n. let a = guarded_nodes g xs in omega (arith, a, h); value = λ n. tt }

under_nodes : (g : Guard) (x : t.BExpr) → expr_nodes (under g x) ≤ 2 + expr_nodes x
under_nodes None x = omega arith
under_nodes (Some g) x = omega arith

pub guards_small : (g : Guard) (x : t.BExpr) → IsSmall (4 + expr_nodes x) Any nothing (guards g x)
guards_small g x = record { within = λ n. let a = under_nodes g x in omega (arith, a); value = λ n. tt }

in_local_small : (x : Operand) → IsSmall (2 + expr_nodes x.expr) IsSmallAtom weigh_atom (in_local x)
in_local_small x = then_small (1 + expr_nodes x.expr) (omega arith) (declares_small (plain_type x.base)) (λ i l. gives_small (omega arith) (omega arith))

pub atomic_small : (x : Operand) → IsSmall (2 + expr_nodes x.expr) IsSmallAtom weigh_atom (atomic x)
atomic_small x = either (is_atom x.expr) refl
  where
    either : (q : Bool) → is_atom x.expr ≡ q → IsSmall (2 + expr_nodes x.expr) IsSmallAtom weigh_atom (λ n. if q then gives (record { expr = x.expr; sets = s.skip }) n else in_local x n)
    either true is = gives_small {x = record { expr = x.expr; sets = s.skip }} (atom_nodes x.expr is) (omega arith)
    either false is = in_local_small x

located_from_small : (x : Operand) (a : t.BExpr) → IsSmall (weigh x) Any weigh_located (located_from x a)
located_from_small x (t.Var i) = gives_small {x = record { locals = i ∷ []; sets = s.skip }} tt (omega arith)
located_from_small x a = new_local x
  where
    new_local : (x : Operand) → IsSmall (weigh x) Any weigh_located (then_emit (declares (plain_type x.base)) (λ i. gives (record { locals = i ∷ []; sets = s.first (s.Assign i x.expr) s.skip })))
    new_local x = then_small (7 + expr_nodes x.expr) (omega arith) (declares_small (plain_type x.base)) (λ i l. gives_small {x = record { locals = i ∷ []; sets = s.first (s.Assign i x.expr) s.skip }} tt (omega arith))

pub located_small : (xs : List Operand) → IsSmall (weigh_all xs) Any weigh_located (located xs)
located_small [] = gives_small {x = record { locals = []; sets = s.skip }} tt (omega arith)
located_small (x ∷ xs) = then_small (weigh_all xs) (omega arith) (located_from_small x x.expr) (λ a k. then_small (weigh_located a) (omega arith) (located_small xs) (λ l i.
    gives_small {x = record { locals = a.locals ++ l.locals; sets = join a.sets l.sets }} tt (let b = join_nodes a.sets l.sets in let c = length-append a.locals l.locals in omega (arith, b, c))))
