-- How many nodes the code of statements has: at most 256 times their weight and the targets of their calls.
use Rattle.std.specs.Bool.{⊤}
use Rattle.std.specs.List.{range_with_len}
use Rattle.std.proofs.Common.{◌≡◌, ◌+◌, ◌*◌, ◌≤◌, ◌++◌, false, ℕ, List, [], ◌∷◌, Option, Some, None, length, map, take, slice_get, length-append, refl, sym, subst, arith}
use Rattle.std.proofs.lemmas.List.{length-map}
use Rattle.vb_base.specs.declared.places.Pos.{Pos}
use Rattle.vb_value.specs.Layout.{Layout}
use Rattle.vb_value.specs.declared.values.Ty.{Ty}
use Rattle.vb_value.specs.declared.values.Ty.TheVariants as ty
use Rattle.viper_core.specs.Expr as e
use Rattle.viper_core.specs.Formed.{IsFormed}
use Rattle.viper_core.specs.Program.{Program, Method}
use Rattle.viper_core.specs.Size.{size, sizes, assertion_size, assertion_sizes}
use Rattle.viper_core.specs.Scope.{Scope}
use Rattle.viper_core.specs.Stmt as v
use Rattle.viper_core.specs.Typing as y
use Rattle.viper_core.specs.Typing.{Context, Elsewhere, MethodContext, inside, IsStmt, AreStmts}
use Rattle.viper_core.specs.Weight.{base_of, clauses_size, callee_size, fold_weight, stmt_weight, stmts_weight}
use Rattle.boogie_tree.specs.Expr as t
use Rattle.boogie_tree.specs.Stmt as s
use Rattle.boogie_tree.specs.Values.{plain_type}
use Rattle.boogie_tree.specs.declared.exprs.BBase.TheVariants as base
use Rattle.moves.specs.Maps.{mask_type, amount_type, state_types}
use Rattle.moves.specs.Scalars.{variable_type}
use Rattle.enc_expr.specs.Place.{Maps, Place, number, with_now, HasSizes}
use Rattle.enc_expr.specs.Kinds.{Kinds, type_at}
use Rattle.enc_expr.specs.Code.{Emitting, join}
use Rattle.enc_expr.specs.Encoding.{copies, copy_state, maps_from}
use Rattle.enc_expr.specs.Nodes.{expr_nodes, stmt_nodes, stmts_nodes}
use Rattle.enc_expr.specs.Pieces.{Operand, one, one_real}
use Rattle.enc_expr.proofs.SmallCode.{code_small, codes_small, counted}
use Rattle.enc_expr.proofs.SmallPieces.{join_nodes, Any, nothing, weigh, weigh_all, weigh_atom, IsSmall, gives_small, then_small, more_small, declares_small, declares_all_small, puts_small, atomic_small, state_types_length, copies_nodes}
use Rattle.enc_assert.specs.Encoding.{produce_code, consume_code, forget_code}
use Rattle.enc_assert.proofs.ForgetCode.{forget_linear}
use Rattle.enc_assert.proofs.SmallAssertions.{produce_linear, consume_linear}
use Rattle.enc_fold.specs.Encoding.{fold_code, unfold_code}
use Rattle.enc_fold.specs.Saved.{held_types, held_from, copy_held, saving, copying}
use Rattle.enc_fold.proofs.SmallFold.{fold_linear, unfold_linear}
use Rattle.viper_meaning.proofs.FoldLaws.{body_found}
use Rattle.enc_block.specs.Home.{Home, place}
use Rattle.enc_block.specs.Encoding.{produce_all_code, consume_all_code, exhale_code, assert_code, branching, stop, havoc_code, any_state_code, write_checks, write_code, unnamed_code, unheld_code, unstored_at, unstored_code, fresh_tests, created_field, created_code, new_code, fixed, called_code, call_code, guard_code, turn_code, after_code, loop_code, assign_code, with_body, with_method, stmt_code, block_code}
use Rattle.enc_block.specs.Sizes.{results_of, results_in}

-- ---- statements in rows

range_nodes : {X : Type 0} (xs : List X) (a : ℕ) (ys : List ℕ) (i : ℕ) → stmts_nodes (copies (range_with_len a (length xs)) ys i) ≡ 2 * length xs
range_nodes [] a ys i = refl
range_nodes (x ∷ xs) a ys i = let rest = range_nodes xs (a + 1) ys (i + 1) in omega (arith, rest)

havoc_nodes : (h : Home) (xs : List ℕ) → stmts_nodes (havoc_code h xs) ≡ length xs
havoc_nodes h [] = refl
havoc_nodes h (x ∷ xs) = let rest = havoc_nodes h xs in omega (arith, rest)

unnamed_nodes : (h : Home) (r : ℕ) (xs : List ℕ) → stmts_nodes (unnamed_code h r xs) ≡ 4 * length xs
unnamed_nodes h r [] = refl
unnamed_nodes h r (x ∷ xs) = let rest = unnamed_nodes h r xs in omega (arith, rest)

unheld_nodes : (m : Maps) (r : ℕ) (us : List Ty) (i : ℕ) → stmts_nodes (unheld_code m r us i) ≡ 5 * length us
unheld_nodes m r [] i = refl
unheld_nodes m r (u ∷ us) i = let rest = unheld_nodes m r us (i + 1) in omega (arith, rest)

unstored_nodes : (m : Maps) (r : ℕ) (us : List Ty) (i : ℕ) → stmts_nodes (unstored_code m r us i) ≤ 9 * length us
unstored_nodes m r [] i = omega arith
unstored_nodes m r (u ∷ us) i = let rest = unstored_nodes m r us (i + 1) in let first = by_type u in let both = join_nodes (unstored_at u m r i) (unstored_code m r us (i + 1)) in omega (arith, rest, first, both)
  where
    by_type : (u : Ty) → stmts_nodes (unstored_at u m r i) ≤ 9
    by_type ty.Ref = omega arith
    by_type ty.Int = omega arith
    by_type ty.Bool = omega arith
    by_type ty.Perm = omega arith

fresh_nodes : (layout : Layout) (h : Home) (r : ℕ) (refs : List ℕ) → stmts_nodes (fresh_tests layout h r refs) ≤ 4 + 4 * length refs + 14 * length layout.fields
fresh_nodes layout h r refs =
    let held = unheld_code h.now r layout.fields 0 in let stored = unstored_code h.now r layout.fields 0 in
    let one_join = join_nodes (unnamed_code h r refs) (join held stored) in let two_join = join_nodes held stored in
    let a = unnamed_nodes h r refs in let b = unheld_nodes h.now r layout.fields 0 in let d = unstored_nodes h.now r layout.fields 0 in
    omega (arith, one_join, two_join, a, b, d)

fixed_small : (xs : List Operand) → IsSmall (weigh_all xs) Any nothing (fixed xs)
fixed_small [] = gives_small tt (omega arith)
fixed_small (x ∷ xs) =
    then_small (7 + expr_nodes x.expr + weigh_all xs) (omega arith) (declares_small (plain_type x.base)) (λ i any. then_small (weigh_all xs) (omega arith) (puts_small (7 + expr_nodes x.expr) None (one (s.Assign i x.expr)) (omega arith)) (λ u any.
    then_small 0 (omega arith) (fixed_small xs) (λ is any. gives_small {x = i ∷ is} tt (omega arith))))

pub branching_small : (few j k : ℕ) (kind : s.BStmts → s.BStmts → s.BStmt) (m o : Emitting ⊤) → ((xs ys : s.BStmts) → stmt_nodes (kind xs ys) ≤ few + stmts_nodes xs + stmts_nodes ys) → IsSmall j Any nothing m → IsSmall k Any nothing o →
    IsSmall (few + j + k) Any nothing (branching kind m o)
branching_small few j k kind m o both first second = record {
  within = λ n. let a = first.within n in let c = second.within (m n).next in let d = both (m n).stmts (o (m n).next).stmts in let ls = length-append (m n).locals (o (m n).next).locals in omega (arith, a, c, d, ls);
  value = λ n. tt;
}

pub stop_small : IsSmall 4 Any nothing stop
stop_small = puts_small 4 None (one (s.Assume (t.Bool false))) (omega arith)

-- ---- in a formed program

module _ (p : Program) (formed : IsFormed p) where
  abbrev least : ℕ
  least = base_of p

  abbrev layout : Layout
  layout = p.layout

  enough : 1 + (length layout.fields + length layout.keys) ≤ least
  enough = counted p formed

  saving_small : (m : Maps) → IsSmall (4 * least) Any nothing (saving layout m)
  saving_small m =
      let many : length (held_types layout) ≡ length layout.fields + length layout.keys = omega (arith, length-append (map mask_type layout.fields) (map amount_type layout.keys), length-map layout.fields mask_type, length-map layout.keys amount_type) in
      let a = many in let more = enough in
      then_small (2 * least) (omega (arith, a, more)) (more_small {j = least} (omega (arith, a, more)) (declares_all_small (held_types layout))) (λ n any.
      then_small 0 (omega arith) (puts_small (2 * least) None (copy_held (held_from layout m n) m) (nodes n)) (λ u any. gives_small {x = held_from layout m n} tt (omega arith)))
    where
      nodes : (n : ℕ) → 2 + stmts_nodes (copy_held (held_from layout m n) m) ≤ 2 * least
      nodes n =
          let masks = range_nodes layout.fields n m.mask 0 in let amounts = range_nodes layout.keys (n + length layout.fields) m.amount 0 in
          let both = join_nodes (copies (range_with_len n (length layout.fields)) m.mask 0) (copies (range_with_len (n + length layout.fields) (length layout.keys)) m.amount 0) in let more = enough in
          omega (arith, masks, amounts, both, more)

  forget_small : (m : Maps) → IsSmall (13 * least) Any nothing (forget_code layout m)
  forget_small m = record { within = λ n. let all = forget_linear layout m n in let more = enough in omega (arith, all, more); value = λ n. tt }

  module _ (vars : List Ty) (q : Place) where
    -- of the scope nothing counts here
    abbrev there : Context
    there = record { program = p; vars = vars; visible = []; site = Elsewhere }

    abbrev k : Kinds
    k = record { vars = vars; layout = layout }

    pub produced_small : (a : e.Assertion) → IsSmall (64 * assertion_size least a) Any nothing (produce_code k q None one_real a)
    produced_small a = record { within = λ n. let all = produce_linear there q None one_real a n formed refl in omega (arith, all); value = λ n. tt }

    pub all_produced_small : (xs : List e.Assertion) → IsSmall (64 * assertion_sizes least xs) Any nothing (produce_all_code k q xs)
    all_produced_small [] = gives_small tt (omega arith)
    all_produced_small (a ∷ rest) = then_small (64 * assertion_sizes least rest) (omega arith) (produced_small a) (λ u any. more_small (omega arith) (all_produced_small rest))

    consumed_small : (left : Maps) (a : e.Assertion) → IsSmall (64 * assertion_size least a) Any nothing (consume_code k q left None one_real a)
    consumed_small left a = record { within = λ n. let all = consume_linear there q left None one_real a n formed refl in omega (arith, all); value = λ n. tt }

    all_consumed_small : (left : Maps) (xs : List e.Assertion) → IsSmall (64 * assertion_sizes least xs) Any nothing (consume_all_code k q left xs)
    all_consumed_small left [] = gives_small tt (omega arith)
    all_consumed_small left (a ∷ rest) = then_small (64 * assertion_sizes least rest) (omega arith) (consumed_small left a) (λ u any. more_small (omega arith) (all_consumed_small left rest))

  -- ---- at a home

  module _ (vars : List Ty) (h : Home) where
    abbrev kinds : Kinds
    kinds = record { vars = vars; layout = layout }

    exhaled_small : (at : Pos) (xs : List e.Assertion) → IsSmall (17 * least + 64 * assertion_sizes least xs) Any nothing (exhale_code kinds h at xs)
    exhaled_small at [] = more_small (omega arith) (forget_small h.now)
    exhaled_small at (a ∷ rest) =
        then_small (13 * least + 64 * assertion_sizes least (a ∷ rest)) (omega arith) (saving_small h.now) (λ start any.
        then_small (13 * least) (omega arith) (all_consumed_small vars (with_now start (place h at)) h.now (a ∷ rest)) (λ u any. more_small (omega arith) (forget_small h.now)))

    pub asserted_small : (at : Pos) (xs : List e.Assertion) → IsSmall (4 * least + 64 * assertion_sizes least xs) Any nothing (assert_code kinds h at xs)
    asserted_small at [] = gives_small tt (omega arith)
    asserted_small at (a ∷ rest) = then_small (64 * assertion_sizes least (a ∷ rest)) (omega arith) (saving_small h.now) (λ left any. more_small (omega arith) (all_consumed_small vars (place h at) left (a ∷ rest)))

    pub emptied_small : HasSizes layout h.now → IsSmall (15 * least) Any nothing (any_state_code layout h)
    emptied_small fits =
        let masks = copies_nodes h.now.mask h.nothing.mask 0 in let amounts = copies_nodes h.now.amount h.nothing.amount 0 in
        let both = join_nodes (copies h.now.mask h.nothing.mask 0) (copies h.now.amount h.nothing.amount 0) in let more = enough in let m = fits.mask in let a = fits.amount in
        then_small (13 * least) (omega arith) (puts_small (2 * least) None (copy_held h.now h.nothing) (omega (arith, masks, amounts, both, more, m, a))) (λ u any. more_small (omega arith) (forget_small h.now))

    assigned_small : (at : Pos) (x : ℕ) (a : e.Expr) → IsSmall (64 * size least a) Any nothing (assign_code kinds h at x a)
    assigned_small at x a = then_small 0 (omega arith) (code_small least kinds (place h at) None a enough) (λ z any. puts_small (0 + weigh z) None (one (s.Assign (number h.vars x) z.expr)) (omega arith))

    written_small : (at : Pos) (a : e.Expr) (f : ℕ) (name : Pos) (d : e.Expr) → IsSmall (64 + 64 * size least a + 64 * size least d) Any nothing (write_code kinds (place h at) a f name d)
    written_small at a f name d =
        then_small (64 + 64 * size least d) (omega arith) (code_small least kinds (place h at) None a enough) (λ x any. then_small (64 + weigh x) (omega arith) (code_small least kinds (place h at) None d enough) (λ z any.
        then_small (64 + weigh z) (omega arith) (atomic_small x) (λ r few.
        let put = one (s.Put (number h.now.heap f) (t.more r.expr t.none) z.expr) in let checks = write_checks (place h at) f name r.expr in
        let whole = join_nodes r.sets (join checks put) in let rest = join_nodes checks put in puts_small (64 + weigh z + weigh_atom r) None (join r.sets (join checks put)) (omega (arith, whole, rest, few)))))

    created_small : (r : ℕ) (fs : List ℕ) → IsSmall (16 * length fs) Any nothing (created_code layout h r fs)
    created_small r [] = gives_small tt (omega arith)
    created_small r (f ∷ fs) =
        then_small (15 + 16 * length fs) (omega arith) (declares_small (variable_type (type_at layout.fields f))) (λ value any. then_small (16 * length fs) (omega arith) (puts_small 15 None (created_field h r f value) (omega arith)) (λ u any.
        more_small (omega arith) (created_small r fs)))

    new_small : (x : ℕ) (fields refs : List ℕ) → IsSmall (14 * least + 16 + 4 * length refs + 16 * length fields) Any nothing (new_code kinds h x fields refs)
    new_small x fields refs =
        let more = enough in
        then_small (14 * least + 15 + 4 * length refs + 16 * length fields) (omega arith) (declares_small (plain_type base.Ref)) (λ r any.
        then_small (5 + 16 * length fields) (omega arith) (puts_small (14 * least + 10 + 4 * length refs) None (s.first (s.Havoc r) (fresh_tests layout h r refs)) (let all = fresh_nodes layout h r refs in omega (arith, all, more))) (λ u any.
        then_small 5 (omega arith) (created_small r fields) (λ u any. puts_small (5 + 0) None (one (s.Assign (number h.vars x) (t.Var r))) (omega arith))))

    copying_small : (m : Maps) → IsSmall (7 * least) Any nothing (copying layout m)
    copying_small m =
        let many = state_types_length layout in let more = enough in
        then_small (5 * least) (omega (arith, many, more)) (more_small {j = 2 * least} (omega (arith, many, more)) (declares_all_small (state_types layout))) (λ n any.
        then_small 0 (omega arith) (puts_small (5 * least) None (copy_state (maps_from layout n) m) (nodes n)) (λ u any. gives_small {x = maps_from layout n} tt (omega arith)))
      where
        nodes : (n : ℕ) → 2 + stmts_nodes (copy_state (maps_from layout n) m) ≤ 5 * least
        nodes n =
            let fields = length layout.fields in let l = maps_from layout n in
            let heaps = range_nodes layout.fields n m.heap 0 in let masks = range_nodes layout.fields (n + fields) m.mask 0 in
            let amounts = range_nodes layout.keys (n + fields + fields) m.amount 0 in let contents = range_nodes layout.keys (n + fields + fields + length layout.keys) m.content 0 in
            let a = join_nodes (copies l.heap m.heap 0) (join (copies l.mask m.mask 0) (join (copies l.amount m.amount 0) (copies l.content m.content 0))) in
            let b = join_nodes (copies l.mask m.mask 0) (join (copies l.amount m.amount 0) (copies l.content m.content 0)) in let d = join_nodes (copies l.amount m.amount 0) (copies l.content m.content 0) in let more = enough in
            omega (arith, heaps, masks, amounts, contents, a, b, d, more)

    called_small : (at : Pos) (targets : List ℕ) (callee : Method) (args : List ℕ) (before : Maps) → IsSmall (16 * least + length targets + 64 * clauses_size least callee) Any nothing (called_code layout h at targets callee args before)
    called_small at targets callee args before =
        let many = havoc_nodes h targets in let more = enough in
        then_small (16 * least + length targets + 64 * assertion_sizes least callee.postconditions) (omega arith)
        (all_consumed_small (take callee.params callee.vars) (record { vars = args; now = before; old = h.old; at = at }) h.now callee.preconditions) (λ u any.
        then_small (3 * least + length targets + 64 * assertion_sizes least callee.postconditions) (omega arith) (forget_small h.now) (λ u any.
        then_small (64 * assertion_sizes least callee.postconditions) (omega arith) (puts_small (3 * least + length targets) None (havoc_code h targets) (omega (arith, many, more))) (λ u any.
        more_small (omega arith) (all_produced_small (take (callee.params + callee.returns) callee.vars) (record { vars = args ++ map (number h.vars) targets; now = h.now; old = before; at = at }) callee.postconditions))))

    call_small : (at : Pos) (targets : List ℕ) (callee : Method) (args : e.Exprs) → IsSmall (23 * least + length targets + 64 * sizes least args + 64 * clauses_size least callee) Any nothing (call_code kinds h at targets callee args)
    call_small at targets callee args =
        let rest = 16 * least + length targets + 64 * clauses_size least callee in
        then_small (7 * least + rest) (omega arith) (codes_small least kinds (place h at) None args enough) (λ xs any. then_small (7 * least + rest) (omega arith) (fixed_small xs) (λ given any.
        then_small rest (omega arith) (copying_small h.now) (λ before any. more_small (omega arith) (called_small at targets callee given before))))

    method_small : (few : ℕ) (o : Option Method) (go : Method → Emitting ⊤) → ((m : Method) → IsSmall (few + 64 * clauses_size least m) Any nothing (go m)) → IsSmall (few + 64 * callee_size least o) Any nothing (with_method o go)
    method_small few None go each = gives_small tt (omega arith)
    method_small few (Some m) go each = each m

    body_small : (few : ℕ) (o : Option e.Assertion) (go : e.Assertion → Emitting ⊤) → ((a : e.Assertion) → o ≡ Some a → IsSmall few Any nothing (go a)) → IsSmall few Any nothing (with_body o go)
    body_small few None go each = gives_small tt (omega arith)
    body_small few (Some a) go each = each a refl

    guarded_small : (at : Pos) (guard : e.Expr) (side : t.BExpr → t.BExpr) → ((x : t.BExpr) → expr_nodes (side x) ≤ 1 + expr_nodes x) → IsSmall (64 * size least guard) Any nothing (guard_code kinds h at guard side)
    guarded_small at guard side few = then_small 0 (omega arith) (code_small least kinds (place h at) None guard enough) (λ x any. puts_small (0 + weigh x) None (one (s.Assume (side x.expr))) (let a = few x.expr in omega (arith, a)))

    loop_small : (j : ℕ) (at : Pos) (guard : e.Expr) (invariants : List e.Assertion) (body : Emitting ⊤) (turn : Pos) (targets : List ℕ) → HasSizes layout h.now → IsSmall j Any nothing body →
        IsSmall (44 * least + 256 * assertion_sizes least invariants + 128 * size least guard + length targets + j) Any nothing (loop_code kinds h at guard invariants body turn targets)
    loop_small j at guard invariants body turn targets fits inner =
        let is = assertion_sizes least invariants in let g = size least guard in let many = havoc_nodes h targets in let more = enough in
        let given = all_produced_small vars (place h at) invariants in
        then_small (27 * least + 192 * is + 128 * g + length targets + j) (omega arith) (exhaled_small at invariants) (λ u any.
        then_small (25 * least + 192 * is + 128 * g + j) (omega arith) (puts_small (2 * least + length targets) None (havoc_code h targets) (omega (arith, many, more))) (λ u any.
        more_small {k = 1 + (19 * least + 128 * is + 64 * g + j + 4) + (64 * is + 64 * g)} (omega (arith, more))
        (branching_small 1 (19 * least + 128 * is + 64 * g + j + 4) (64 * is + 64 * g) s.Either (turn_code kinds h at guard invariants body turn) (after_code kinds h at guard invariants) (λ xs ys. omega arith)
        (then_small (4 * least + 128 * is + 64 * g + j + 4) (omega arith) (emptied_small fits) (λ u any. then_small (4 * least + 64 * is + 64 * g + j + 4) (omega arith) given (λ u any.
        then_small (4 * least + 64 * is + j + 4) (omega arith) (guarded_small at guard (λ x. x) (λ x. omega arith)) (λ u any. then_small (4 * least + 64 * is + 4) (omega arith) inner (λ u any.
        then_small 4 (omega arith) (asserted_small turn invariants) (λ u any. more_small (omega arith) stop_small))))))
        (then_small (64 * g) (omega arith) given (λ u any. more_small (omega arith) (guarded_small at guard t.Not (λ x. omega arith)))))))

    -- ---- statements

    module _ (params : ℕ) (fits : HasSizes layout h.now) where
      abbrev frame : MethodContext
      frame = record { program = p; vars = vars; params = params }

      mutual
        pub stmt_small : {sc : Scope} (a : v.Stmt) → IsStmt frame sc a → IsSmall (256 * (stmt_weight p a + results_of a)) Any nothing (stmt_code p kinds h a)
        stmt_small (v.Var at x None) typed = puts_small (256 * (stmt_weight p (v.Var at x None) + 0)) None (one (s.Havoc (number h.vars x))) (omega arith)
        stmt_small (v.Var at x (Some a)) typed = more_small (omega arith) (assigned_small at x a)
        stmt_small (v.Assign at x a) typed = more_small (omega arith) (assigned_small at x a)
        stmt_small (v.Write at a f name d) typed = more_small (omega arith) (written_small at a f name d)
        stmt_small (v.New at x fields refs) typed = more_small (omega arith) (new_small x fields refs)
        stmt_small (v.Call at xs n args) typed =
            more_small (omega arith) (method_small (23 * least + length xs + 64 * sizes least args) (slice_get p.methods n) (λ callee. call_code kinds h at xs callee args) (λ callee. call_small at xs callee args))
        stmt_small (v.Inhale at a) typed = more_small (omega arith) (produced_small vars (place h at) a)
        stmt_small (v.Exhale at a) typed = more_small (omega arith) (exhaled_small at (a ∷ []))
        stmt_small (v.Assert at a) typed = more_small (omega arith) (asserted_small at (a ∷ []))
        stmt_small {sc} (v.Fold f) (y.folds i) =
            subst (λ o. IsSmall (256 * (fold_weight p f + 0)) Any nothing (with_body o (fold_code kinds (place h f.at) f))) (sym (body_found (inside frame sc) f i))
            (record { within = λ n. let few = fold_linear (inside frame sc) (place h f.at) formed f i n in omega (arith, few); value = λ n. tt })
        stmt_small {sc} (v.Unfold f) (y.unfolds i) =
            subst (λ o. IsSmall (256 * (fold_weight p f + 0)) Any nothing (with_body o (unfold_code kinds (place h f.at) f))) (sym (body_found (inside frame sc) f i))
            (record { within = λ n. let few = unfold_linear (inside frame sc) (place h f.at) formed f i n in omega (arith, few); value = λ n. tt })
        stmt_small (v.If at a first second) (y.branches i js ks) =
            let one_side = 256 * (stmts_weight p first + results_in first) in let other = 256 * (stmts_weight p second + results_in second) in
            then_small (one_side + other) (omega arith) (code_small least kinds (place h at) None a enough) (λ x any.
            more_small {k = 1 + expr_nodes x.expr + one_side + other} (omega arith)
            (branching_small (1 + expr_nodes x.expr) one_side other (s.If x.expr) (block_code p kinds h first) (block_code p kinds h second) (λ xs ys. omega arith) (block_small first js) (block_small second ks)))
        stmt_small (v.While (v.loop at guard invariants body turn targets)) (y.loops i all js same) =
            more_small (omega arith) (loop_small (256 * (stmts_weight p body + results_in body)) at guard invariants (block_code p kinds h body) turn targets fits (block_small body js))

        pub block_small : {sc : Scope} (xs : v.Stmts) → AreStmts frame sc xs → IsSmall (256 * (stmts_weight p xs + results_in xs)) Any nothing (block_code p kinds h xs)
        block_small v.skip y.ends = gives_small tt (omega arith)
        block_small (v.next a rest) (y.goes_on i js) = then_small (256 * (stmts_weight p rest + results_in rest)) (omega arith) (stmt_small a i) (λ u any. more_small (omega arith) (block_small rest js))
