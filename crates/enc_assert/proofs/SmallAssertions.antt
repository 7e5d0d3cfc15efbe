-- How many nodes the code of producing and consuming an assertion has: at most 64 times its size.
use Rattle.std.specs.Bool.{⊤}
use Rattle.std.proofs.Common.{◌≡◌, ◌+◌, ◌*◌, ◌≤◌, ℕ, Bool, true, false, List, Some, sym, subst, arith, if◌then◌else◌}
use Rattle.vb_base.specs.declared.labels.Kind.TheVariants as kind
use Rattle.vb_base.specs.declared.places.Pos.{Pos}
use Rattle.viper_core.specs.Expr as e
use Rattle.viper_core.specs.Formed.{IsFormed}
use Rattle.viper_core.specs.Size.{amount_size, assertion_size}
use Rattle.viper_core.specs.Typing.{Context}
use Rattle.viper_core.specs.Weight.{base_of}
use Rattle.boogie_tree.specs.Expr as t
use Rattle.boogie_tree.specs.Stmt as s
use Rattle.boogie_tree.specs.declared.exprs.BBase.TheVariants as base
use Rattle.boogie_tree.specs.declared.exprs.BOp.TheVariants as op
use Rattle.boogie_tree.specs.Values.{plain_type}
use Rattle.enc_expr.specs.Place.{Maps, Place, number}
use Rattle.enc_expr.specs.Kinds.{Kinds, kinds_in}
use Rattle.enc_expr.specs.Code.{Emitting, join, Guard}
use Rattle.enc_expr.specs.Pieces.{Operand, at_one, one, one_real, zero_real, is_one, label, check_nonnegative, scaled, add_to}
use Rattle.enc_expr.specs.Encoding.{held_check, taken_amount}
use Rattle.enc_expr.specs.Nodes.{expr_nodes, exprs_nodes, stmts_nodes, written}
use Rattle.enc_expr.proofs.SmallPieces.{join_nodes, index_nodes, parts_of, Any, nothing, weigh, weigh_all, weigh_atom, IsSmall, gives_small, then_small, more_small, declares_small, puts_small, guards_small, atomic_small, located_small, check_nonnegative_nodes, scaled_nodes, add_to_nodes}
use Rattle.enc_expr.proofs.SmallCode.{code_small, codes_small, amount_small, choose_small, counted}
use Rattle.enc_assert.specs.Target.{AccessTarget, Field, Instance, Aimed, held_in, key_of}
use Rattle.enc_assert.specs.Encoding.{field_target, instance_target, where_positive, some_amount, more_held, gives_code, gives_some, produce_code, takes_code, takes_some, consume_code}
use Rattle.enc_assert.proofs.WalkLaws.{Blocks, amount_walk, walk, produce_blocks, consume_blocks, produce_walks, consume_walks}

-- ---- amounts

where_nodes : (q x : t.BExpr) → expr_nodes q ≤ 1 → expr_nodes (where_positive q x) ≤ 4 + expr_nodes x
where_nodes q x h = by_literal (is_one q)
  where
    by_literal : (p : Bool) → expr_nodes (if p then x else t.Bin op.Implies (t.Bin op.Gt q zero_real) x) ≤ 4 + expr_nodes x
    by_literal true = omega arith
    by_literal false = omega (arith, h)

-- ---- produce

more_nodes : (m : Maps) (scale : t.BExpr) (x : AccessTarget) (q : t.BExpr) → expr_nodes scale ≤ 1 → expr_nodes q ≤ 1 → stmts_nodes (more_held m scale x q) ≤ 26 + 5 * exprs_nodes (key_of x)
more_nodes m scale (Field f x) q h j =
    let held = at_one (number m.mask f) x in
    let first = where_nodes q (t.Bin op.Ne x t.Null) j in let last = where_nodes q (t.Bin op.Le held one_real) j in
    let add = add_to (number m.mask f) (t.more x t.none) (scaled scale q) in
    let added = add_to_nodes (number m.mask f) (t.more x t.none) (scaled scale q) (scaled_nodes scale q h j) in
    let whole = join_nodes add (one (s.Assume (where_positive q (t.Bin op.Le held one_real)))) in
    omega (arith, first, last, added, whole)
more_nodes m scale (Instance p is) q h j = let added = add_to_nodes (number m.amount p) (key_of (Instance p is)) (scaled scale q) (scaled_nodes scale q h j) in omega (arith, added)

gives_code_nodes : (p : Place) (scale : t.BExpr) (at : Pos) (x : AccessTarget) (q : t.BExpr) → expr_nodes scale ≤ 1 → expr_nodes q ≤ 1 → stmts_nodes (gives_code p scale at x q) ≤ 30 + 5 * exprs_nodes (key_of x)
gives_code_nodes p scale at x q h j = let whole = join_nodes (check_nonnegative (label p at kind.Negative) q) (more_held p.now scale x q) in
    omega (arith, whole, check_nonnegative_nodes (label p at kind.Negative) q j, more_nodes p.now scale x q h j)

gives_some_nodes : (p : Place) (scale : t.BExpr) (x : AccessTarget) (w : ℕ) → expr_nodes scale ≤ 1 → stmts_nodes (gives_some p scale x w) ≤ 31 + 5 * exprs_nodes (key_of x)
gives_some_nodes p scale x w h = let whole = join_nodes (some_amount w) (more_held p.now scale x (t.Var w)) in omega (arith, whole, more_nodes p.now scale x (t.Var w) h (omega arith))

-- ---- consume

takes_code_nodes : (p : Place) (left : Maps) (scale : t.BExpr) (at : Pos) (x : AccessTarget) (q : t.BExpr) → expr_nodes scale ≤ 1 → expr_nodes q ≤ 1 → stmts_nodes (takes_code p left scale at x q) ≤ 30 + 5 * exprs_nodes (key_of x)
takes_code_nodes p left scale at x q h j =
    let check = held_check (label p at kind.Perm) (held_in left x) (key_of x) (scaled scale q) in let take = taken_amount (held_in left x) (key_of x) (scaled scale q) in
    let amount = scaled_nodes scale q h j in let whole = join_nodes (check_nonnegative (label p at kind.Negative) q) (join check take) in let rest = join_nodes check take in
    omega (arith, whole, rest, amount, check_nonnegative_nodes (label p at kind.Negative) q j)

takes_some_nodes : (p : Place) (left : Maps) (at : Pos) (x : AccessTarget) (w : ℕ) → stmts_nodes (takes_some p left at x w) ≤ 31 + 5 * exprs_nodes (key_of x)
takes_some_nodes p left at x w = omega arith

-- ---- the code

pub record AreSmallBlocks (w : Blocks) : Type 0 where
  pub fact : (at : Pos) (x : t.BExpr) → stmts_nodes (w.fact at x) ≤ 1 + expr_nodes x
  pub written : (at : Pos) (x : AccessTarget) (q : t.BExpr) → expr_nodes q ≤ 1 → stmts_nodes (w.written at x q) ≤ 31 + 5 * exprs_nodes (key_of x)
  pub chosen : (at : Pos) (x : AccessTarget) (i : ℕ) → stmts_nodes (w.chosen at x i) ≤ 31 + 5 * exprs_nodes (key_of x)

pub produce_blocks_small : (p : Place) (scale : t.BExpr) → expr_nodes scale ≤ 1 → AreSmallBlocks (produce_blocks p scale)
produce_blocks_small p scale few = record {
  fact = λ at x. omega arith;
  written = λ at x q h. let a = gives_code_nodes p scale at x q few h in omega (arith, a);
  chosen = λ at x w. gives_some_nodes p scale x w few;
}

pub consume_blocks_small : (p : Place) (left : Maps) (scale : t.BExpr) → expr_nodes scale ≤ 1 → AreSmallBlocks (consume_blocks p left scale)
consume_blocks_small p left scale few = record {
  fact = λ at x. omega arith;
  written = λ at x q h. let a = takes_code_nodes p left scale at x q few h in omega (arith, a);
  chosen = λ at x w. takes_some_nodes p left at x w;
}

-- the index counts for what is written with it
abbrev weigh_aim : Aimed → ℕ
weigh_aim x = stmts_nodes x.sets + 6 * exprs_nodes (key_of x.target)

field_small : (f : ℕ) (x : Operand) → IsSmall (weigh x) Any weigh_aim (field_target f x)
field_small f x = then_small 6 (omega arith) (atomic_small x) (λ r h. gives_small {x = record { target = Field f r.expr; sets = r.sets }} tt (omega (arith, h)))

instance_small : (q : ℕ) (xs : List Operand) → IsSmall (6 + weigh_all xs) Any weigh_aim (instance_target q xs)
instance_small q xs = then_small 6 (omega arith) (located_small xs) (λ l any. gives_small {x = record { target = Instance q l.locals; sets = l.sets }} tt (let a = index_nodes l.locals in omega (arith, a)))

amount_walk_small : (w : Blocks) (g : Guard) (at : Pos) (m : e.Amt) (y : Operand) (x : Aimed) → AreSmallBlocks w → IsSmall (40 + weigh y + weigh_aim x) Any nothing (amount_walk w g at m y x)
amount_walk_small w g at (e.Is a) y x blocks = then_small (40 + weigh_aim x) (omega arith) (atomic_small y) (λ q h. let code = w.written at x.target q.expr in
    let whole = join_nodes x.sets (join q.sets code) in let rest = join_nodes q.sets code in let size = blocks.written at x.target q.expr h in
    puts_small (40 + weigh_aim x + weigh_atom q) g (join x.sets (join q.sets code)) (omega (arith, whole, rest, size)))
amount_walk_small w g at e.Wildcard y x blocks = then_small (39 + weigh_aim x) (omega arith) (declares_small (plain_type base.Real)) (λ i any. let code = w.chosen at x.target i in
    let whole = join_nodes x.sets code in let size = blocks.chosen at x.target i in puts_small (39 + weigh_aim x + nothing i) g (join x.sets code) (omega (arith, whole, size)))

-- where each part counts at least so much
module _ (least : ℕ) (k : Kinds) (p : Place) (w : Blocks) (h : 1 + parts_of k.layout ≤ least) (blocks : AreSmallBlocks w) where
  walk_small : (g : Guard) (a : e.Assertion) → IsSmall (64 * assertion_size least a) Any nothing (walk k p w g a)
  walk_small g (e.Fact a at) = then_small 0 (omega arith) (code_small least k p g a h) (λ x any. puts_small (0 + weigh x) g (w.fact at x.expr) (let b = blocks.fact at x.expr in omega (arith, b)))
  walk_small g (e.Acc a f m at) = then_small (64 + 64 * amount_size least m) (omega arith) (code_small least k p g a h) (λ x any. then_small (64 + weigh x) (omega arith) (amount_small least k p g m h) (λ y any.
      then_small (64 + weigh y) (omega arith) (field_small f x) (λ o any. more_small (omega arith) (amount_walk_small w g at m y o blocks))))
  walk_small g (e.Inst q args m at) = then_small (64 + 64 * amount_size least m) (omega arith) (codes_small least k p g args h) (λ xs any. then_small (64 + weigh_all xs) (omega arith) (amount_small least k p g m h) (λ y any.
      then_small (58 + weigh y) (omega arith) (instance_small q xs) (λ o any. more_small (omega arith) (amount_walk_small w g at m y o blocks))))
  walk_small g (e.And a d) = then_small (64 * assertion_size least d) (omega arith) (walk_small g a) (λ u any. more_small (omega arith) (walk_small g d))
  walk_small g (e.Implies a d) = then_small (64 + 64 * assertion_size least d) (omega arith) (code_small least k p g a h) (λ x any.
      then_small (64 * assertion_size least d) (omega arith) (guards_small g x.expr) (λ m any. more_small (omega arith) (walk_small (Some m) d)))
  walk_small g (e.ChooseAssertion a d f) = then_small (64 + 64 * assertion_size least d + 64 * assertion_size least f) (omega arith) (code_small least k p g a h) (λ x any.
      choose_small {measure = nothing} {most = nothing} (64 * assertion_size least d) (64 * assertion_size least f) (64 + 64 * assertion_size least d + 64 * assertion_size least f + weigh x) g x.expr
      (λ m. walk k p w m d) (λ m. walk k p w m f) (λ m u v. tt) (omega arith) (λ m. walk_small m d) (λ m. walk_small m f) (λ m u v. omega arith))

pub walk_linear : (c : Context) (p : Place) (w : Blocks) (g : Guard) (a : e.Assertion) (n : ℕ) → IsFormed c.program → AreSmallBlocks w → written (walk (kinds_in c) p w g a n) ≤ 64 * assertion_size (base_of c.program) a
walk_linear c p w g a n formed blocks = let h = (walk_small (base_of c.program) (kinds_in c) p w (counted c.program formed) blocks g a).within n in omega (arith, h)

-- ---- what is promised

pub produce_linear : (c : Context) (p : Place) (g : Guard) (scale : t.BExpr) (a : e.Assertion) (n : ℕ) → IsFormed c.program → expr_nodes scale ≡ 1 →
    written (produce_code (kinds_in c) p g scale a n) ≤ 64 * assertion_size (base_of c.program) a
produce_linear c p g scale a n formed atom = subst (λ (m : Emitting ⊤). written (m n) ≤ 64 * assertion_size (base_of c.program) a) (sym (produce_walks (kinds_in c) p scale g a))
    (walk_linear c p (produce_blocks p scale) g a n formed (produce_blocks_small p scale (omega (arith, atom))))

pub consume_linear : (c : Context) (p : Place) (left : Maps) (g : Guard) (scale : t.BExpr) (a : e.Assertion) (n : ℕ) → IsFormed c.program → expr_nodes scale ≡ 1 →
    written (consume_code (kinds_in c) p left g scale a n) ≤ 64 * assertion_size (base_of c.program) a
consume_linear c p left g scale a n formed atom = subst (λ (m : Emitting ⊤). written (m n) ≤ 64 * assertion_size (base_of c.program) a) (sym (consume_walks (kinds_in c) p scale left g a))
    (walk_linear c p (consume_blocks p left scale) g a n formed (consume_blocks_small p left scale (omega (arith, atom))))
