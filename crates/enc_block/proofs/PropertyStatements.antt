-- The code of statements has what the code of their parts has, with as many brackets more as there are blocks inside.
use Rattle.std.specs.Bool.{⊤}
use Rattle.std.proofs.Common.{◌≡◌, ◌+◌, ◌≤◌, ◌++◌, false, max, ℕ, List, [], ◌∷◌, All, Some, None, map, slice_get, sym, subst, arith}
use Rattle.std.proofs.lemmas.List.Elements.{All-nil, All-cons, All-head, All-tail}
use Rattle.vb_base.specs.Limits.{max_term_depth}
use Rattle.vb_base.specs.declared.places.Pos.{Pos}
use Rattle.vb_value.specs.Layout.{Layout}
use Rattle.vb_value.specs.declared.values.Ty.{Ty}
use Rattle.vb_value.specs.declared.values.Ty.TheVariants as ty
use Rattle.viper_core.specs.Depth.{depth, depths, assertion_depth, assertion_depths, blocks_of, blocks_in, fold_depth}
use Rattle.viper_core.specs.Depth as v_depth
use Rattle.viper_core.specs.Expr as e
use Rattle.viper_core.specs.Formed.{IsFormed, precondition_context, postcondition_context}
use Rattle.viper_core.specs.Part.{cut}
use Rattle.viper_core.specs.Program.{Program, Method}
use Rattle.viper_core.specs.Stmt as v
use Rattle.viper_core.specs.Scope.{Scope}
use Rattle.viper_core.specs.Typing as y
use Rattle.viper_core.specs.Typing.{Context, MethodContext, inside, IsAssertion, IsFold, IsStmt, AreStmts, params_of}
use Rattle.viper_core.proofs.CutLaws.{preconditions_cut, postconditions_cut}
use Rattle.viper_meaning.proofs.FoldLaws.{body_found}
use Rattle.boogie_tree.specs.Expr as t
use Rattle.boogie_tree.specs.Stmt as s
use Rattle.boogie_tree.specs.Values.{plain_type}
use Rattle.boogie_tree.specs.declared.exprs.BBase.TheVariants as base
use Rattle.moves.specs.Scalars.{variable_type}
use Rattle.enc_expr.specs.Place.{Maps, Place, number, with_now}
use Rattle.enc_expr.specs.Kinds.{Kinds, kinds_in, type_at}
use Rattle.enc_expr.specs.Code.{Emitting, join}
use Rattle.enc_expr.specs.Encoding.{code, codes}
use Rattle.enc_expr.specs.Pieces.{Operand, one, one_real}
use Rattle.enc_expr.proofs.Property.{Property}
use Rattle.enc_expr.proofs.PropertyPieces.{one_has, Any, AreAll, IsCode, higher, gives_has, then_has, declares_has, bare_has, atomic_has}
use Rattle.enc_assert.specs.Encoding.{produce_code, consume_code, forget_code}
use Rattle.enc_assert.proofs.PropertyAssertions.{KeysHave, forget_has}
use Rattle.enc_fold.specs.Encoding.{fold_code, unfold_code}
use Rattle.enc_fold.specs.Saved.{copy_held}
use Rattle.enc_fold.proofs.PropertyFold.{copy_held_has, saving_has, copying_has}
use Rattle.enc_block.specs.Home.{Home, place}
use Rattle.enc_block.specs.Encoding.{produce_all_code, consume_all_code, exhale_code, assert_code, branching, stop, havoc_code, any_state_code, write_checks, write_code, unnamed_code, unheld_code, unstored_at, unstored_code, fresh_tests, created_field, created_code, new_code, fixed, called_code, call_code, guard_code, turn_code, after_code, loop_code, assign_code, with_body, with_method, stmt_code, block_code}

-- ---- what is asked of the parts

-- The code of each part of a statement has the property, where the part is typed in a formed program and has no more levels than a
-- term may have.
pub record PartsHave (K : Property) (top : ℕ) : Type 0 where
  pub value : (c : Context) (p : Place) (a : e.Expr) (u : Ty) → IsFormed c.program → y.HasType c a u → depth a ≤ max_term_depth → IsCode K top (λ (x : Operand). K.expr max_term_depth x.expr) (code (kinds_in c) p None a)
  pub values : (c : Context) (p : Place) (xs : e.Exprs) (us : List Ty) → IsFormed c.program → y.HaveTypes c xs us → depths xs ≤ max_term_depth → IsCode K top (AreAll K max_term_depth) (codes (kinds_in c) p None xs)
  pub produced : (c : Context) (p : Place) (a : e.Assertion) → IsFormed c.program → IsAssertion c a → assertion_depth a ≤ max_term_depth → IsCode K top Any (produce_code (kinds_in c) p None one_real a)
  pub consumed : (c : Context) (p : Place) (left : Maps) (a : e.Assertion) → IsFormed c.program → IsAssertion c a → assertion_depth a ≤ max_term_depth → IsCode K top Any (consume_code (kinds_in c) p left None one_real a)
  pub folded : (c : Context) (p : Place) (f : v.FoldStmt) → IsFormed c.program → (typed : IsFold c f) → fold_depth f ≤ max_term_depth → IsCode K top Any (fold_code (kinds_in c) p f typed.body)
  pub unfolded : (c : Context) (p : Place) (f : v.FoldStmt) → IsFormed c.program → (typed : IsFold c f) → fold_depth f ≤ max_term_depth → IsCode K top Any (unfold_code (kinds_in c) p f typed.body)
  pub keys : (p : Program) → IsFormed p → KeysHave K p.layout.keys

-- no more levels than a term may have
abbrev pub HasFewLevels : e.Assertion → Type 0
HasFewLevels a = assertion_depth a ≤ max_term_depth

-- each of them has no more levels
pub each_low : (xs : List e.Assertion) (d : ℕ) → assertion_depths xs ≤ d → All (λ a. assertion_depth a ≤ d) xs
each_low [] d few = All-nil (λ a. assertion_depth a ≤ d)
each_low (a ∷ rest) d few = All-cons (λ a. assertion_depth a ≤ d) a rest (omega (arith, few)) (each_low rest d (omega (arith, few)))

-- ---- pieces

module _ (K : Property) where
  havoc_has : (h : Home) (xs : List ℕ) → K.block 0 (havoc_code h xs)
  havoc_has h [] = K.skip
  havoc_has h (x ∷ xs) = K.first (K.havoc _) (havoc_has h xs)

  unnamed_has : (h : Home) (r : ℕ) (xs : List ℕ) → K.block 4 (unnamed_code h r xs)
  unnamed_has h r [] = K.more_in_block K.skip (omega arith)
  unnamed_has h r (x ∷ xs) = K.more_in_block (K.first (K.assume (K.binary (K.var r) (K.var _))) (unnamed_has h r xs)) (omega arith)

  unheld_has : (m : Maps) (r : ℕ) (us : List Ty) (i : ℕ) → K.block 4 (unheld_code m r us i)
  unheld_has m r [] i = K.more_in_block K.skip (omega arith)
  unheld_has m r (u ∷ us) i = K.more_in_block (K.first (K.assume (K.binary (K.at (K.more (K.var r) K.none)) K.zero_real)) (unheld_has m r us (i + 1))) (omega arith)

  module _ (reference : K.keys (base.Ref ∷ [])) where
    unstored_has : (m : Maps) (r : ℕ) (us : List Ty) (i : ℕ) → K.block 4 (unstored_code m r us i)
    unstored_has m r [] i = K.more_in_block K.skip (omega arith)
    unstored_has m r (u ∷ us) i = K.joined (unstored_at u m r i) (unstored_code m r us (i + 1)) (by_type u) (unstored_has m r us (i + 1))
      where
        by_type : (u : Ty) → K.block 4 (unstored_at u m r i)
        by_type ty.Ref = one_has K (K.assume (K.quantified reference (K.binary (K.binary (K.at_bound _) K.zero_real) (K.binary (K.at_bound _) (K.var r)))))
        by_type ty.Int = K.more_in_block K.skip (omega arith)
        by_type ty.Bool = K.more_in_block K.skip (omega arith)
        by_type ty.Perm = K.more_in_block K.skip (omega arith)

    fresh_has : (layout : Layout) (h : Home) (r : ℕ) (refs : List ℕ) → K.block 4 (fresh_tests layout h r refs)
    fresh_has layout h r refs =
        let held = unheld_code h.now r layout.fields 0 in let stored = unstored_code h.now r layout.fields 0 in
        let tests : K.block 4 (join (unnamed_code h r refs) (join held stored)) = K.joined (unnamed_code h r refs) (join held stored) (unnamed_has h r refs) (K.joined held stored (unheld_has h.now r layout.fields 0) (unstored_has h.now r layout.fields 0)) in
        K.more_in_block (K.first (K.assume (K.binary (K.var r) K.null)) tests) (omega arith)

  created_field_has : (h : Home) (r f value : ℕ) → K.block 4 (created_field h r f value)
  created_field_has h r f value = K.more_in_block (K.first (K.havoc value) (K.first (K.put (K.more (K.var r) K.none) (K.var value)) (one_has K (K.put (K.more (K.var r) K.none) K.one_real)))) (omega arith)

-- ---- where each statement for itself has at most so many

module _ (K : Property) (top : ℕ) (enough : 1 + max_term_depth ≤ top) (parts : PartsHave K top) where
  fixed_has : (xs : List Operand) → AreAll K max_term_depth xs → IsCode K top Any (fixed xs)
  fixed_has [] h = gives_has K top tt
  fixed_has (x ∷ xs) h = then_has K top (declares_has K top (plain_type x.base)) (λ i any. then_has K top (bare_has K top (one (s.Assign i x.expr)) (K.more_in_block (one_has K (K.assign h.0)) (omega (arith, enough)))) (λ u any.
      then_has K top (fixed_has xs h.1) (λ is any. gives_has K top {x = i ∷ is} tt)))

  pub stop_has : IsCode K top Any stop
  stop_has = bare_has K top (one (s.Assume (t.Bool false))) (K.more_in_block (one_has K (K.assume (K.truth false))) (omega arith))

  pub branching_has : (j : ℕ) (kind : s.BStmts → s.BStmts → s.BStmt) (m o : Emitting ⊤) → ((xs ys : s.BStmts) → K.block (top + j) xs → K.block (top + j) ys → K.block (1 + (top + j)) (one (kind xs ys))) →
      IsCode K (top + j) Any m → IsCode K (top + j) Any o → IsCode K (top + (1 + j)) Any (branching kind m o)
  branching_has j kind m o both first second = record {
    stmts = λ n. K.more_in_block (both (m n).stmts (o (m n).next).stmts (first.stmts n) (second.stmts (m n).next)) (omega arith);
    value = λ n. tt;
  }

  forgotten_has : (p : Program) (m : Maps) → IsFormed p → IsCode K top Any (forget_code p.layout m)
  forgotten_has p m formed = higher K (omega (arith, enough)) (forget_has K p.layout m (parts.keys p formed))

  -- ---- clauses at a place

  module _ (c : Context) (p : Place) (formed : IsFormed c.program) where
    pub all_produced_has : (xs : List e.Assertion) → All (IsAssertion c) xs → All HasFewLevels xs → IsCode K top Any (produce_all_code (kinds_in c) p xs)
    all_produced_has [] all few = gives_has K top tt
    all_produced_has (a ∷ rest) all few = then_has K top (parts.produced c p a formed (All-head (IsAssertion c) a rest all) (All-head HasFewLevels a rest few)) (λ u any.
        all_produced_has rest (All-tail (IsAssertion c) a rest all) (All-tail HasFewLevels a rest few))

    all_consumed_has : (left : Maps) (xs : List e.Assertion) → All (IsAssertion c) xs → All HasFewLevels xs → IsCode K top Any (consume_all_code (kinds_in c) p left xs)
    all_consumed_has left [] all few = gives_has K top tt
    all_consumed_has left (a ∷ rest) all few = then_has K top (parts.consumed c p left a formed (All-head (IsAssertion c) a rest all) (All-head HasFewLevels a rest few)) (λ u any.
        all_consumed_has left rest (All-tail (IsAssertion c) a rest all) (All-tail HasFewLevels a rest few))

  -- ---- at a home

  module _ (c : Context) (h : Home) (formed : IsFormed c.program) where
    abbrev layout : Layout
    layout = c.program.layout

    abbrev k : Kinds
    k = kinds_in c

    exhaled_has : (at : Pos) (xs : List e.Assertion) → All (IsAssertion c) xs → All HasFewLevels xs → IsCode K top Any (exhale_code k h at xs)
    exhaled_has at [] all few = forgotten_has c.program h.now formed
    exhaled_has at (a ∷ rest) all few = then_has K top (saving_has K top layout h.now) (λ start any. then_has K top (all_consumed_has c (with_now start (place h at)) formed h.now (a ∷ rest) all few) (λ u any. forgotten_has c.program h.now formed))

    pub asserted_has : (at : Pos) (xs : List e.Assertion) → All (IsAssertion c) xs → All HasFewLevels xs → IsCode K top Any (assert_code k h at xs)
    asserted_has at [] all few = gives_has K top tt
    asserted_has at (a ∷ rest) all few = then_has K top (saving_has K top layout h.now) (λ left any. all_consumed_has c (place h at) formed left (a ∷ rest) all few)

    pub emptied_has : IsCode K top Any (any_state_code layout h)
    emptied_has = then_has K top (bare_has K top (copy_held h.now h.nothing) (K.more_in_block (copy_held_has K h.now h.nothing) (omega arith))) (λ u any. forgotten_has c.program h.now formed)

    assigned_has : (at : Pos) (x : ℕ) (a : e.Expr) (u : Ty) → y.HasType c a u → depth a ≤ max_term_depth → IsCode K top Any (assign_code k h at x a)
    assigned_has at x a u i few = then_has K top (parts.value c (place h at) a u formed i few) (λ z low. bare_has K top (one (s.Assign (number h.vars x) z.expr)) (K.more_in_block (one_has K (K.assign low)) (omega (arith, enough))))

    written_has : (at : Pos) (a : e.Expr) (f : ℕ) (name : Pos) (d : e.Expr) (u : Ty) → y.HasType c a ty.Ref → y.HasType c d u → max (depth a) (depth d) ≤ max_term_depth → IsCode K top Any (write_code k (place h at) a f name d)
    written_has at a f name d u i j few =
        then_has K top (parts.value c (place h at) a ty.Ref formed i (omega (arith, few))) (λ x xl. then_has K top (parts.value c (place h at) d u formed j (omega (arith, few))) (λ z zl.
        then_has K top (atomic_has K top max_term_depth x xl) (λ r rl. let key : K.exprs 0 (t.more r.expr t.none) = K.more rl.expr K.none in
        let put = one (s.Put (number h.now.heap f) (t.more r.expr t.none) z.expr) in let checks = write_checks (place h at) f name r.expr in
        bare_has K top (join r.sets (join checks put)) (K.joined r.sets (join checks put) (K.more_in_block rl.sets (omega (arith, enough)))
        (K.more_in_block (K.first (K.assert (K.binary rl.expr K.null)) (K.first (K.assert (K.binary (K.at key) K.one_real)) (one_has K (K.put key zl)))) (omega (arith, enough)))))))

    created_has : (r : ℕ) (fs : List ℕ) → IsCode K top Any (created_code layout h r fs)
    created_has r [] = gives_has K top tt
    created_has r (f ∷ fs) = then_has K top (declares_has K top (variable_type (type_at layout.fields f))) (λ value any.
        then_has K top (bare_has K top (created_field h r f value) (K.more_in_block (created_field_has K h r f value) (omega (arith, enough)))) (λ u any. created_has r fs))

    new_has : (x : ℕ) (fields refs : List ℕ) → IsCode K top Any (new_code k h x fields refs)
    new_has x fields refs =
        then_has K top (declares_has K top (plain_type base.Ref)) (λ r any.
        then_has K top (bare_has K top (s.first (s.Havoc r) (fresh_tests layout h r refs)) (K.more_in_block (K.first (K.havoc r) (fresh_has K (parts.keys c.program formed).heap layout h r refs)) (omega (arith, enough)))) (λ u any.
        then_has K top (created_has r fields) (λ u any. bare_has K top (one (s.Assign (number h.vars x) (t.Var r))) (K.more_in_block (one_has K (K.assign (K.var r))) (omega arith)))))

    called_has : (at : Pos) (targets : List ℕ) (n : ℕ) (callee : Method) (args : List ℕ) (before : Maps) → slice_get c.program.methods n ≡ Some callee → IsCode K top Any (called_code layout h at targets callee args before)
    called_has at targets n callee args before exists =
        then_has K top (all_consumed_has (cut (precondition_context c.program callee) callee.params) (record { vars = args; now = before; old = h.old; at = at }) formed h.now callee.preconditions
        (λ i a within. (preconditions_cut c.program formed n callee exists i a within).typed) (λ i a within. (preconditions_cut c.program formed n callee exists i a within).nested)) (λ u any.
        then_has K top (forgotten_has c.program h.now formed) (λ u any. then_has K top (bare_has K top (havoc_code h targets) (K.more_in_block (havoc_has K h targets) (omega arith))) (λ u any.
        all_produced_has (cut (postcondition_context c.program callee) (callee.params + callee.returns)) (record { vars = args ++ map (number h.vars) targets; now = h.now; old = before; at = at }) formed callee.postconditions
        (λ i a within. (postconditions_cut c.program formed n callee exists i a within).typed) (λ i a within. (postconditions_cut c.program formed n callee exists i a within).nested))))

    call_has : (at : Pos) (targets : List ℕ) (n : ℕ) (callee : Method) (args : e.Exprs) → slice_get c.program.methods n ≡ Some callee → y.HaveTypes c args (params_of callee) → depths args ≤ max_term_depth → IsCode K top Any (call_code k h at targets callee args)
    call_has at targets n callee args exists i few =
        then_has K top (parts.values c (place h at) args (params_of callee) formed i few) (λ xs low. then_has K top (fixed_has xs low) (λ given any.
        then_has K top (copying_has K top layout h.now) (λ before any. called_has at targets n callee given before exists)))

    guarded_has : (at : Pos) (guard : e.Expr) (side : t.BExpr → t.BExpr) → y.HasType c guard ty.Bool → depth guard ≤ max_term_depth → ((x : t.BExpr) → K.expr max_term_depth x → K.expr (1 + max_term_depth) (side x)) →
        IsCode K top Any (guard_code k h at guard side)
    guarded_has at guard side i few sided = then_has K top (parts.value c (place h at) guard ty.Bool formed i few) (λ x low. bare_has K top (one (s.Assume (side x.expr))) (K.more_in_block (one_has K (K.assume (sided x.expr low))) enough))

    loop_has : (j : ℕ) (at : Pos) (guard : e.Expr) (invariants : List e.Assertion) (body : Emitting ⊤) (turn : Pos) (targets : List ℕ) → y.HasType c guard ty.Bool → depth guard ≤ max_term_depth → All (IsAssertion c) invariants →
        All HasFewLevels invariants → IsCode K (top + j) Any body → IsCode K (top + (1 + j)) Any (loop_code k h at guard invariants body turn targets)
    loop_has j at guard invariants body turn targets i few all low inner =
        let given = all_produced_has c (place h at) formed invariants all low in
        then_has K (top + (1 + j)) (higher K (omega arith) (exhaled_has at invariants all low)) (λ u any. then_has K (top + (1 + j)) (bare_has K (top + (1 + j)) (havoc_code h targets) (K.more_in_block (havoc_has K h targets) (omega arith))) (λ u any.
        branching_has j s.Either (turn_code k h at guard invariants body turn) (after_code k h at guard invariants) (λ xs ys l m. K.more_in_block (one_has K (K.either l m)) (omega arith))
        (then_has K (top + j) (higher K (omega arith) emptied_has) (λ u any. then_has K (top + j) (higher K (omega arith) given) (λ u any. then_has K (top + j) (higher K (omega arith) (guarded_has at guard (λ x. x) i few (λ x l. K.more_in l (omega arith)))) (λ u any.
        then_has K (top + j) inner (λ u any. then_has K (top + j) (higher K (omega arith) (asserted_has turn invariants all low)) (λ u any. higher K (omega arith) stop_has))))))
        (then_has K (top + j) (higher K (omega arith) given) (λ u any. higher K (omega arith) (guarded_has at guard t.Not i few (λ x l. K.not l))))))

  -- ---- statements

  module _ (m : MethodContext) (h : Home) (formed : IsFormed m.program) where
    abbrev kinds : Kinds
    kinds = record { vars = m.vars; layout = m.program.layout }

    -- one more than the blocks inside
    mutual
      pub stmt_has : {sc : Scope} (a : v.Stmt) → IsStmt m sc a → v_depth.stmt_depth a ≤ max_term_depth → IsCode K (top + (1 + blocks_of a)) Any (stmt_code m.program kinds h a)
      stmt_has (v.Var at x None) (y.declares fresh there) few = bare_has K (top + (1 + 0)) (one (s.Havoc (number h.vars x))) (K.more_in_block (one_has K (K.havoc _)) (omega arith))
      stmt_has {sc} (v.Var at x (Some a)) (y.initial {u = u} fresh there i) few = higher K (omega arith) (assigned_has (inside m sc) h formed at x a u i few)
      stmt_has {sc} (v.Assign at x a) (y.assigns {u = u} target i) few = higher K (omega arith) (assigned_has (inside m sc) h formed at x a u i few)
      stmt_has {sc} (v.Write at a f name d) (y.writes {u = u} i there j) few = higher K (omega arith) (written_has (inside m sc) h formed at a f name d u i j few)
      stmt_has {sc} (v.New at x fields refs) (y.creates receive are same) few = higher K (omega arith) (new_has (inside m sc) h formed x fields refs)
      stmt_has {sc} (v.Call at xs n args) (y.calls callee exists i receive) few =
          subst (λ o. IsCode K (top + (1 + 0)) Any (with_method o (λ callee. call_code kinds h at xs callee args))) (sym exists) (higher K (omega arith) (call_has (inside m sc) h formed at xs n callee args exists i few))
      stmt_has {sc} (v.Inhale at a) (y.inhales i) few = higher K (omega arith) (parts.produced (inside m sc) (place h at) a formed i few)
      stmt_has {sc} (v.Exhale at a) (y.exhales i) few =
          higher K (omega arith) (exhaled_has (inside m sc) h formed at (a ∷ []) (All-cons (IsAssertion (inside m sc)) a [] i (All-nil (IsAssertion (inside m sc)))) (All-cons HasFewLevels a [] few (All-nil HasFewLevels)))
      stmt_has {sc} (v.Assert at a) (y.asserts i) few =
          higher K (omega arith) (asserted_has (inside m sc) h formed at (a ∷ []) (All-cons (IsAssertion (inside m sc)) a [] i (All-nil (IsAssertion (inside m sc)))) (All-cons HasFewLevels a [] few (All-nil HasFewLevels)))
      stmt_has {sc} (v.Fold f) (y.folds i) few =
          subst (λ o. IsCode K (top + (1 + 0)) Any (with_body o (fold_code kinds (place h f.at) f))) (sym (body_found (inside m sc) f i)) (higher K (omega arith) (parts.folded (inside m sc) (place h f.at) f formed i few))
      stmt_has {sc} (v.Unfold f) (y.unfolds i) few =
          subst (λ o. IsCode K (top + (1 + 0)) Any (with_body o (unfold_code kinds (place h f.at) f))) (sym (body_found (inside m sc) f i)) (higher K (omega arith) (parts.unfolded (inside m sc) (place h f.at) f formed i few))
      stmt_has {sc} (v.If at a first second) (y.branches i js ks) few =
          let j = max (blocks_in first) (blocks_in second) in let whole = top + (1 + (1 + j)) in
          then_has K whole (higher K (omega arith) (parts.value (inside m sc) (place h at) a ty.Bool formed i (omega (arith, few)))) (λ x low.
          branching_has (1 + j) (s.If x.expr) (block_code m.program kinds h first) (block_code m.program kinds h second) (λ xs ys l o. K.more_in_block (one_has K (K.branch low l o)) (omega (arith, enough)))
          (higher K (omega arith) (block_has first js (omega (arith, few)))) (higher K (omega arith) (block_has second ks (omega (arith, few)))))
      stmt_has {sc} (v.While (v.loop at guard invariants body turn targets)) (y.loops i all js same) few =
          loop_has (inside m sc) h formed (1 + blocks_in body) at guard invariants (block_code m.program kinds h body) turn targets i (omega (arith, few)) all (each_low invariants max_term_depth (omega (arith, few))) (block_has body js (omega (arith, few)))

      pub block_has : {sc : Scope} (xs : v.Stmts) → AreStmts m sc xs → v_depth.stmts_depth xs ≤ max_term_depth → IsCode K (top + (1 + blocks_in xs)) Any (block_code m.program kinds h xs)
      block_has v.skip y.ends few = gives_has K (top + (1 + 0)) tt
      block_has (v.next a rest) (y.goes_on i js) few =
          then_has K (top + (1 + max (blocks_of a) (blocks_in rest))) (higher K (omega arith) (stmt_has a i (omega (arith, few)))) (λ u any. higher K (omega arith) (block_has rest js (omega (arith, few))))
