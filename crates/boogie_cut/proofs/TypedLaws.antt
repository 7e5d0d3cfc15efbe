-- What is written for a well-typed program is well-typed.
use Rattle.std.proofs.Common.{◌≡◌, ◌+◌, ◌<◌, ℕ, zero, suc, Bool as Truth, true, false, cond, Option, Some, None, List, [], ◌∷◌, ◌++◌, map, length, All, slice_get, refl, sym, ap, subst, ◌∙◌, arith}
use Rattle.std.specs.List.{AllZip, filter, find, cons_option, range_with_len}
use Rattle.std.specs.Option.{option_map}
use Rattle.std.proofs.lemmas.List.{length-map}
use Rattle.std.proofs.lemmas.List.Elements.{All-nil, All-cons, All-head, All-tail, All-append, All-filter}
use Rattle.std.proofs.lemmas.List.FromFn.{get_or-range_with_len}
use Rattle.lemmas.proofs.Lists.{take_there as first, head_there, there_left as left, item_there as exists, each_there, at_item}
use Rattle.boogie_tree.specs.Expr as t
use Rattle.boogie_tree.specs.Stmt as s
use Rattle.boogie_tree.specs.Program.{BType, Local}
use Rattle.boogie_tree.specs.Values.{plain_type, AreKeys}
use Rattle.boogie_tree.specs.declared.exprs.BBase.{BBase}
use Rattle.boogie_tree.specs.declared.exprs.BBase.TheVariants as base
use Rattle.boogie_meaning.specs.Programs.{types_of, HaveKeys, IsTypedProc, IsTypedProgram}
use Rattle.boogie_meaning.specs.Renamed.{renamed, renamed_in}
use Rattle.boogie_meaning.specs.Types as b
use Rattle.boogie_meaning.specs.Types.{HasType, HaveTypes, SideHasType, IsTypedStmt, IsTyped}
use Rattle.boogie_loops.specs.Wide as w
use Rattle.boogie_loops.specs.Wide.{Clause, WProc, WProgram}
use Rattle.boogie_loops.specs.Changed.{targets, changes}
use Rattle.boogie_loops.specs.Conditions.{variable_names}
use Rattle.boogie_loops.specs.Procedures.{wide_types, param_types, return_types, head_types, proc_named}
use Rattle.boogie_loops.specs.WideTypes as ty
use Rattle.boogie_loops.specs.WideTypes.{AreBools, IsGuard, HaveBases, IsCall, IsWideStmt, IsWide, IsWideBody, IsWideProc, IsWideProgram}
use Rattle.boogie_cut.specs.Cut.{join, alone, asserts, assumes, havocs, assigns, argument_numbers, stands_for, renamed_clauses, cut_call, cut_guard, cut_turn, cut_loop, cut_stmt, cut, cut_body, cut_proc, cut_procs, cut_program}
use Rattle.boogie_cut.specs.Fresh.{fresh_locals, free_number, is_a}

-- ---- places of lists

pub right : {X : Type 0} (xs ys : List X) (i k : ℕ) (x : X) → k ≡ length xs + i → slice_get ys i ≡ Some x → slice_get (xs ++ ys) k ≡ Some x
right [] ys i k x e h = ap (slice_get ys) (omega (arith, e)) ∙ h
right (z ∷ xs) ys i zero x e h = absurd (omega (arith, e))
right (z ∷ xs) ys i (suc k) x e h = right xs ys i k x (omega (arith, e)) h

pub found : {X : Type 0} (test : X → Truth) (xs : List X) (x : X) → find test xs ≡ Some x → (n : ℕ) × (slice_get xs n ≡ Some x)
found test [] x h = absurd (cc)
found test (y ∷ xs) x h = at (test y) h (found test xs x)
  where
    at : (p : Truth) → cond p (Some y) (find test xs) ≡ Some x → (find test xs ≡ Some x → (n : ℕ) × (slice_get xs n ≡ Some x)) → (n : ℕ) × (slice_get (y ∷ xs) n ≡ Some x)
    at true g rest = (0, g)
    at false g rest = let r = rest g in (suc r.0, r.1)

-- ---- expressions over other variables

module _ {ls ms : List BType} (f : ℕ → ℕ) (there : (i : ℕ) (u : BType) → slice_get ls i ≡ Some u → slice_get ms (f i) ≡ Some u) where
  mutual
    pub renamed_typed : {o : Option (List BBase)} {e : t.BExpr} {u : BBase} → HasType ls o e u → HasType ms o (renamed f e) u
    renamed_typed (b.var h) = b.var (there _ _ h)
    renamed_typed b.int = b.int
    renamed_typed b.real = b.real
    renamed_typed b.bool = b.bool
    renamed_typed b.null = b.null
    renamed_typed b.unit = b.unit
    renamed_typed (b.neg n h) = b.neg n (renamed_typed h)
    renamed_typed (b.not_ h) = b.not_ (renamed_typed h)
    renamed_typed (b.binary k h i) = b.binary k (renamed_typed h) (renamed_typed i)
    renamed_typed (b.choose h i j) = b.choose (renamed_typed h) (renamed_typed i) (renamed_typed j)
    renamed_typed (b.forall_ k h) = b.forall_ k (renamed_typed h)
    renamed_typed (b.to_real h) = b.to_real (renamed_typed h)
    renamed_typed (b.s_int h) = b.s_int (renamed_typed h)
    renamed_typed (b.s_bool h) = b.s_bool (renamed_typed h)
    renamed_typed (b.s_ref h) = b.s_ref (renamed_typed h)
    renamed_typed (b.s_perm h) = b.s_perm (renamed_typed h)
    renamed_typed (b.pair h i) = b.pair (renamed_typed h) (renamed_typed i)
    renamed_typed (b.at h es) = b.at (there _ _ h) (all_renamed_typed es)
    renamed_typed (b.at_bound h) = b.at_bound (there _ _ h)

    all_renamed_typed : {o : Option (List BBase)} {es : t.BExprs} {us : List BBase} → HaveTypes ls o es us → HaveTypes ms o (renamed_in f es) us
    all_renamed_typed b.none = b.none
    all_renamed_typed (b.more k h hs) = b.more k (renamed_typed h) (all_renamed_typed hs)

  pub renamed_bools : (clauses : List Clause) → AreBools ls clauses → AreBools ms (renamed_clauses f clauses)
  renamed_bools [] h = All-nil (λ (c : Clause). HasType ms None c.e base.Bool)
  renamed_bools (c ∷ rest) h = All-cons (λ (c : Clause). HasType ms None c.e base.Bool) (record { label = c.label; e = renamed f c.e }) (renamed_clauses f rest)
      (renamed_typed (All-head (λ (c : Clause). HasType ls None c.e base.Bool) c rest h))
      (renamed_bools rest (All-tail (λ (c : Clause). HasType ls None c.e base.Bool) c rest h))

-- each variable of the first is one of the second, of its type
abbrev pub Extends : List BType → List BType → Type 0
Extends ls ms = (i : ℕ) (u : BType) → slice_get ls i ≡ Some u → slice_get ms i ≡ Some u

module _ {ls ms : List BType} (there : Extends ls ms) where
  mutual
    pub more_typed : {o : Option (List BBase)} {e : t.BExpr} {u : BBase} → HasType ls o e u → HasType ms o e u
    more_typed (b.var h) = b.var (there _ _ h)
    more_typed b.int = b.int
    more_typed b.real = b.real
    more_typed b.bool = b.bool
    more_typed b.null = b.null
    more_typed b.unit = b.unit
    more_typed (b.neg n h) = b.neg n (more_typed h)
    more_typed (b.not_ h) = b.not_ (more_typed h)
    more_typed (b.binary k h i) = b.binary k (more_typed h) (more_typed i)
    more_typed (b.choose h i j) = b.choose (more_typed h) (more_typed i) (more_typed j)
    more_typed (b.forall_ k h) = b.forall_ k (more_typed h)
    more_typed (b.to_real h) = b.to_real (more_typed h)
    more_typed (b.s_int h) = b.s_int (more_typed h)
    more_typed (b.s_bool h) = b.s_bool (more_typed h)
    more_typed (b.s_ref h) = b.s_ref (more_typed h)
    more_typed (b.s_perm h) = b.s_perm (more_typed h)
    more_typed (b.pair h i) = b.pair (more_typed h) (more_typed i)
    more_typed (b.at h es) = b.at (there _ _ h) (all_more_typed es)
    more_typed (b.at_bound h) = b.at_bound (there _ _ h)

    all_more_typed : {o : Option (List BBase)} {es : t.BExprs} {us : List BBase} → HaveTypes ls o es us → HaveTypes ms o es us
    all_more_typed b.none = b.none
    all_more_typed (b.more k h hs) = b.more k (more_typed h) (all_more_typed hs)

  side_typed : {e : t.BExpr} {u : BType} → SideHasType ls e u → SideHasType ms e u
  side_typed (b.whole h) = b.whole (there _ _ h)
  side_typed (b.value h) = b.value (more_typed h)

  assign_typed : {i : ℕ} {e : t.BExpr} → IsTypedStmt ls (s.Assign i e) → IsTypedStmt ms (s.Assign i e)
  assign_typed (b.assign h v) = b.assign (there _ _ h) (side_typed v)

  put_typed : {i : ℕ} {es : t.BExprs} {e : t.BExpr} → IsTypedStmt ls (s.Put i es e) → IsTypedStmt ms (s.Put i es e)
  put_typed (b.put h es e) = b.put (there _ _ h) (all_more_typed es) (more_typed e)

  havoc_typed : {i : ℕ} → IsTypedStmt ls (s.Havoc i) → IsTypedStmt ms (s.Havoc i)
  havoc_typed (b.havoc h) = b.havoc (there _ _ h)

  more_bools : (clauses : List Clause) → AreBools ls clauses → AreBools ms clauses
  more_bools clauses h k d within = more_typed (h k d within)

  more_bases : {es : t.BExprs} {us : List BBase} → HaveBases ls es us → HaveBases ms es us
  more_bases ty.none = ty.none
  more_bases (ty.more h hs) = ty.more (more_typed h) (more_bases hs)

-- ---- blocks

abbrev IsThere : List BType → ℕ → Type 0
IsThere ms i = (u : BType) × (slice_get ms i ≡ Some u)

module _ (ms : List BType) where
  abbrev IsBool : Clause → Type 0
  IsBool c = HasType ms None c.e base.Bool

  join_typed : (xs ys : s.BStmts) → IsTyped ms xs → IsTyped ms ys → IsTyped ms (join xs ys)
  join_typed s.skip ys h k = k
  join_typed (s.first x xs) ys (b.first h hs) k = b.first h (join_typed xs ys hs k)

  alone_typed : {x : s.BStmt} → IsTypedStmt ms x → IsTyped ms (alone x)
  alone_typed h = b.first h b.skip

  asserts_typed : (clauses : List Clause) → AreBools ms clauses → IsTyped ms (asserts clauses)
  asserts_typed [] h = b.skip
  asserts_typed (c ∷ rest) h = b.first (b.assert_ (All-head IsBool c rest h)) (asserts_typed rest (All-tail IsBool c rest h))

  assumes_typed : (clauses : List Clause) → AreBools ms clauses → IsTyped ms (assumes clauses)
  assumes_typed [] h = b.skip
  assumes_typed (c ∷ rest) h = b.first (b.assume_ (All-head IsBool c rest h)) (assumes_typed rest (All-tail IsBool c rest h))

  havocs_typed : (is : List ℕ) → All (IsThere ms) is → IsTyped ms (havocs is)
  havocs_typed [] h = b.skip
  havocs_typed (i ∷ is) h = b.first (b.havoc (All-head (IsThere ms) i is h).1) (havocs_typed is (All-tail (IsThere ms) i is h))

  -- variables of these types stand from the number n on
  abbrev pub Holds : ℕ → List BType → Type 0
  Holds n us = (j k : ℕ) (u : BType) → k ≡ n + j → slice_get us j ≡ Some u → slice_get ms k ≡ Some u

  holds_left : (n : ℕ) (us ws : List BType) → Holds n (us ++ ws) → Holds n us
  holds_left n us ws h j k u e there = h j k u e (left us ws j u there)

  holds_right : (n : ℕ) (us ws : List BType) → Holds n (us ++ ws) → Holds (n + length us) ws
  holds_right n us ws h j k u e there = h (length us + j) k u (omega (arith, e)) (right us ws j (length us + j) u refl there)

  holds_rest : (n : ℕ) (u : BType) (us : List BType) → Holds n (u ∷ us) → Holds (n + 1) us
  holds_rest n u us h j k w e there = h (suc j) k w (omega (arith, e)) there

  assigns_typed : (n : ℕ) {es : t.BExprs} {us : List BBase} → HaveBases ms es us → Holds n (map plain_type us) → IsTyped ms (assigns n es)
  assigns_typed n ty.none there = b.skip
  assigns_typed n (ty.more {u = u} {us = us} h hs) there =
      b.first (b.assign (there 0 n (plain_type u) (omega arith) refl) (b.value h))
      (assigns_typed (n + 1) hs (holds_rest n (plain_type u) (map plain_type us) there))

  -- ---- calls

  abbrev Stand : ℕ → BType → Type 0
  Stand k u = slice_get ms k ≡ Some u

  both : (is js : List ℕ) (us ws : List BType) → AllZip Stand is us → AllZip Stand js ws → AllZip Stand (is ++ js) (us ++ ws)
  both [] js [] ws h k = k
  both [] js (u ∷ us) ws h k = absurd h
  both (i ∷ is) js [] ws h k = absurd h
  both (i ∷ is) js (u ∷ us) ws h k = (h.0, both is js us ws h.1 k)

  stands : (numbers : List ℕ) (us : List BType) → AllZip Stand numbers us → (i : ℕ) (u : BType) → slice_get us i ≡ Some u → slice_get ms (stands_for numbers i) ≡ Some u
  stands [] [] h i u there = absurd (cc)
  stands [] (w ∷ us) h i u there = absurd h
  stands (k ∷ ks) [] h i u there = absurd h
  stands (k ∷ ks) (w ∷ us) h zero u there = h.0 ∙ there
  stands (k ∷ ks) (w ∷ us) h (suc i) u there = stands ks us h.1 i u there

  arguments_stand : (n : ℕ) {es : t.BExprs} {us : List BBase} → HaveBases ms es us → Holds n (map plain_type us) → AllZip Stand (argument_numbers n es) (map plain_type us)
  arguments_stand n ty.none there = tt
  arguments_stand n (ty.more {u = u} {us = us} h hs) there =
      (there 0 n (plain_type u) (omega arith) refl, arguments_stand (n + 1) hs (holds_rest n (plain_type u) (map plain_type us) there))

  are_there : (is : List ℕ) (us : List BType) → AllZip Stand is us → All (IsThere ms) is
  are_there [] [] h = All-nil (IsThere ms)
  are_there [] (u ∷ us) h = absurd h
  are_there (i ∷ is) [] h = absurd h
  are_there (i ∷ is) (u ∷ us) h = All-cons (IsThere ms) i is (u, h.0) (are_there is us h.1)

  written_call : (d : WProc) (ps : List WProc) → IsWideProc ps d → (is : List ℕ) (es : t.BExprs) (n : ℕ) (us : List BBase) → param_types d ≡ map plain_type us →
      HaveBases ms es us → AllZip Stand is (return_types d) → Holds n (param_types d) → IsTyped ms (cut_call is es n (Some d)).stmts
  written_call d ps h is es n us e args tos there =
      let f = stands_for (argument_numbers n es ++ is) in
      let held : Holds n (map plain_type us) = subst (Holds n) e there in
      let stand : AllZip Stand (argument_numbers n es) (param_types d) = subst (AllZip Stand (argument_numbers n es)) (sym e) (arguments_stand n args held) in
      let place : (i : ℕ) (u : BType) → slice_get (head_types d) i ≡ Some u → slice_get ms (f i) ≡ Some u =
      stands (argument_numbers n es ++ is) (head_types d) (both (argument_numbers n es) is (param_types d) (return_types d) stand tos) in
      join_typed (assigns n es) _ (assigns_typed n args held)
      (join_typed (asserts (renamed_clauses f d.preconditions)) _
      (asserts_typed (renamed_clauses f d.preconditions) (renamed_bools f (λ i u k. place i u (left (param_types d) (return_types d) i u k)) d.preconditions h.preconditions))
      (join_typed (havocs is) _ (havocs_typed is (are_there is (return_types d) tos))
      (assumes_typed (renamed_clauses f d.postconditions) (renamed_bools f place d.postconditions h.postconditions))))

  -- ---- loops

  guard_typed : (g : Option t.BExpr) (xs : s.BStmts) → IsGuard ms g → IsTyped ms xs → IsTypedStmt ms (cut_guard g xs)
  guard_typed None xs g h = b.either h b.skip
  guard_typed (Some e) xs g h = b.if_ g h b.skip

  loop_typed : (g : Option t.BExpr) (invariants : List Clause) (is : List ℕ) (xs : s.BStmts) → IsGuard ms g → AreBools ms invariants → All (IsThere ms) is → IsTyped ms xs →
      IsTyped ms (cut_loop g invariants is xs)
  loop_typed g invariants is xs guard bools tos h =
      join_typed (asserts invariants) _ (asserts_typed invariants bools)
      (join_typed (havocs is) _ (havocs_typed is tos)
      (join_typed (assumes invariants) _ (assumes_typed invariants bools)
      (alone_typed (guard_typed g (cut_turn invariants xs) guard
      (join_typed xs _ h (join_typed (asserts invariants) _ (asserts_typed invariants bools) (alone_typed (b.assume_ b.bool))))))))

-- ---- statements

more_guard : (ls ms : List BType) → Extends ls ms → (g : Option t.BExpr) → IsGuard ls g → IsGuard ms g
more_guard ls ms there None h = tt
more_guard ls ms there (Some e) h = more_typed there h

more_zip : (ls ms : List BType) → Extends ls ms → (is : List ℕ) (us : List BType) → AllZip (λ i u. slice_get ls i ≡ Some u) is us → AllZip (λ i u. slice_get ms i ≡ Some u) is us
more_zip ls ms there [] [] h = tt
more_zip ls ms there [] (u ∷ us) h = absurd h
more_zip ls ms there (i ∷ is) [] h = absurd h
more_zip ls ms there (i ∷ is) (u ∷ us) h = (there i u h.0, more_zip ls ms there is us h.1)

targets_there : (ls ms : List BType) → Extends ls ms → (xs : w.WStmts) → All (IsThere ms) (targets ls xs)
targets_there ls ms there xs = All-filter (changes xs) (IsThere ms) (range_with_len 0 (length ls)) each
  where
    each : All (IsThere ms) (range_with_len 0 (length ls))
    each k d within =
        let n = length_range 0 (length ls) in
        let below : k < length ls = omega (arith, within, n) in
        let x = exists ls k below in
        subst (IsThere ms) (sym (get_or-range_with_len 0 (length ls) k d below ∙ plus k)) (x.0, there k x.0 x.1)
      where
        plus : (k : ℕ) → 0 + k ≡ k
        plus k = omega arith

        length_range : (a n : ℕ) → length (range_with_len a n) ≡ n
        length_range a zero = refl
        length_range a (suc n) = ap suc (length_range (a + 1) n)

module _ (ps : List WProc) (typed : (n : ℕ) (d : WProc) → slice_get ps n ≡ Some d → IsWideProc ps d) (ls ms : List BType) (there : Extends ls ms) (params : ℕ) where
  call_written : (is name : List ℕ) (es : t.BExprs) (n : ℕ) → IsCall ps ls params is name es → Holds ms n (cut_call is es n (proc_named ps name)).locals →
      IsTyped ms (cut_call is es n (proc_named ps name)).stmts
  call_written is name es n c =
      let at = found (λ d. _) ps c.callee c.named in
      subst (λ o. Holds ms n (cut_call is es n o).locals → IsTyped ms (cut_call is es n o).stmts) (sym c.named)
      (written_call ms c.callee ps (typed at.0 c.callee at.1) is es n c.bases c.plain (more_bases there c.arguments) (more_zip ls ms there is (return_types c.callee) c.targets))

  mutual
    stmt_written : {x : w.WStmt} (n : ℕ) → IsWideStmt ps ls params x → Holds ms n (cut_stmt ps ls x n).locals → IsTyped ms (cut_stmt ps ls x n).stmts
    stmt_written n (ty.assign own h) held = alone_typed ms (assign_typed there h)
    stmt_written n (ty.put own h) held = alone_typed ms (put_typed there h)
    stmt_written n (ty.havoc own h) held = alone_typed ms (havoc_typed there h)
    stmt_written n (ty.assume_ h) held = alone_typed ms (b.assume_ (more_typed there h))
    stmt_written n (ty.assert_ h) held = alone_typed ms (b.assert_ (more_typed there h))
    stmt_written n (ty.if_ {xs = xs} {ys = ys} h i j) held =
        let a = cut ps ls xs n in
        let c = cut ps ls ys (n + length a.locals) in
        alone_typed ms (b.if_ (more_typed there h) (block_written n i (holds_left ms n a.locals c.locals held))
        (block_written (n + length a.locals) j (holds_right ms n a.locals c.locals held)))
    stmt_written n (ty.either {xs = xs} {ys = ys} i j) held =
        let a = cut ps ls xs n in
        let c = cut ps ls ys (n + length a.locals) in
        alone_typed ms (b.either (block_written n i (holds_left ms n a.locals c.locals held))
        (block_written (n + length a.locals) j (holds_right ms n a.locals c.locals held)))
    stmt_written n (ty.while_ {g = g} {invariants = invariants} {xs = xs} h k i) held =
        loop_typed ms g invariants (targets ls xs) (cut ps ls xs n).stmts (more_guard ls ms there g h) (more_bools there invariants k) (targets_there ls ms there xs) (block_written n i held)
    stmt_written n (ty.call_ {is = is} {name = name} {es = es} c) held = call_written is name es n c held

    pub block_written : {xs : w.WStmts} (n : ℕ) → IsWide ps ls params xs → Holds ms n (cut ps ls xs n).locals → IsTyped ms (cut ps ls xs n).stmts
    block_written n ty.skip held = b.skip
    block_written n (ty.first {x = x} {xs = xs} h hs) held =
        let a = cut_stmt ps ls x n in
        let c = cut ps ls xs (n + length a.locals) in
        join_typed ms a.stmts c.stmts (stmt_written n h (holds_left ms n a.locals c.locals held))
        (block_written (n + length a.locals) hs (holds_right ms n a.locals c.locals held))

-- ---- the further locals

no_keys : (us : List BBase) → HaveKeys (map plain_type us)
no_keys [] = All-nil (λ u. AreKeys u.keys)
no_keys (u ∷ us) = All-cons (λ u. AreKeys u.keys) (plain_type u) (map plain_type us) (All-nil (λ k. _)) (no_keys us)

module _ (ps : List WProc) (ls : List BType) (params : ℕ) where
  mutual
    stmt_keys : {x : w.WStmt} (n : ℕ) → IsWideStmt ps ls params x → HaveKeys (cut_stmt ps ls x n).locals
    stmt_keys n (ty.assign own h) = All-nil (λ u. AreKeys u.keys)
    stmt_keys n (ty.put own h) = All-nil (λ u. AreKeys u.keys)
    stmt_keys n (ty.havoc own h) = All-nil (λ u. AreKeys u.keys)
    stmt_keys n (ty.assume_ h) = All-nil (λ u. AreKeys u.keys)
    stmt_keys n (ty.assert_ h) = All-nil (λ u. AreKeys u.keys)
    stmt_keys n (ty.if_ {xs = xs} {ys = ys} h i j) =
        let a = cut ps ls xs n in
        All-append (λ u. AreKeys u.keys) a.locals (cut ps ls ys (n + length a.locals)).locals (block_keys n i) (block_keys (n + length a.locals) j)
    stmt_keys n (ty.either {xs = xs} {ys = ys} i j) =
        let a = cut ps ls xs n in
        All-append (λ u. AreKeys u.keys) a.locals (cut ps ls ys (n + length a.locals)).locals (block_keys n i) (block_keys (n + length a.locals) j)
    stmt_keys n (ty.while_ h k i) = block_keys n i
    stmt_keys n (ty.call_ {is = is} {es = es} c) =
        subst (λ o. HaveKeys (cut_call is es n o).locals) (sym c.named) (subst HaveKeys (sym c.plain) (no_keys c.bases))

    pub block_keys : {xs : w.WStmts} (n : ℕ) → IsWide ps ls params xs → HaveKeys (cut ps ls xs n).locals
    block_keys n ty.skip = All-nil (λ u. AreKeys u.keys)
    block_keys n (ty.first {x = x} {xs = xs} h hs) =
        let a = cut_stmt ps ls x n in
        All-append (λ u. AreKeys u.keys) a.locals (cut ps ls xs (n + length a.locals)).locals (stmt_keys n h) (block_keys (n + length a.locals) hs)

-- ---- procedures

pub types_append : (ls ms : List Local) → map (λ l. l.ty) (ls ++ ms) ≡ map (λ l. l.ty) ls ++ map (λ l. l.ty) ms
types_append [] ms = refl
types_append (l ∷ ls) ms = ap (λ us. l.ty ∷ us) (types_append ls ms)

pub types_of_fresh : (taken : List (List ℕ)) (n : ℕ) (us : List BType) → map (λ l. l.ty) (fresh_locals taken n us) ≡ us
types_of_fresh taken n [] = refl
types_of_fresh taken n (u ∷ us) = ap (λ ws. u ∷ ws) (types_of_fresh taken (free_number (length taken) n taken + 1) us)

module _ (ps : List WProc) (typed : (n : ℕ) (d : WProc) → slice_get ps n ≡ Some d → IsWideProc ps d) where
  pub proc_typed : (d : WProc) (body : w.WStmts) → IsWideProc ps d → IsWide ps (wide_types d) d.params body → IsTypedProc (cut_proc ps d body)
  proc_typed d body h body_typed =
      let ls = wide_types d in
      let a = cut ps ls body (length d.locals) in
      let taken = filter is_a (variable_names d) in
      let ms = ls ++ a.locals in
      let types : types_of (cut_proc ps d body) ≡ ms = types_append d.locals (fresh_locals taken 0 a.locals) ∙ ap (λ us. ls ++ us) (types_of_fresh taken 0 a.locals) in
      let long : length ls ≡ length d.locals = length-map d.locals (λ l. l.ty) in
      let there : Extends ls ms = λ i u k. left ls a.locals i u k in
      let held : Holds ms (length d.locals) a.locals = λ j k u e g. right ls a.locals j k u (omega (arith, e, long)) g in
      let heads : Extends (head_types d) ms = λ i u k. there i u (head_there d.params d.returns ls i u k) in
      record {
        keys = subst HaveKeys (sym types) (All-append (λ u. AreKeys u.keys) ls a.locals h.keys (block_keys ps ls d.params (length d.locals) body_typed));
        body = subst (λ us. IsTyped us (cut_body d a.stmts)) (sym types)
            (join_typed ms (assumes d.preconditions) _ (assumes_typed ms d.preconditions (more_bools (λ i u k. heads i u (left (param_types d) (return_types d) i u k)) d.preconditions h.preconditions))
            (join_typed ms a.stmts _ (block_written ps typed ls ms there d.params (length d.locals) body_typed held)
            (asserts_typed ms d.postconditions (more_bools heads d.postconditions h.postconditions))));
      }

  pub bodies_typed : (ds : List WProc) → All (IsWideProc ps) ds → All IsTypedProc (cut_procs ps ds)
  bodies_typed [] h = All-nil IsTypedProc
  bodies_typed (d ∷ ds) h = at d.body (All-head (IsWideProc ps) d ds h) (All-head (IsWideProc ps) d ds h).body (bodies_typed ds (All-tail (IsWideProc ps) d ds h))
    where
      at : (o : Option w.WStmts) → IsWideProc ps d → IsWideBody ps (wide_types d) d.params o → All IsTypedProc (cut_procs ps ds) →
          All IsTypedProc (cons_option (option_map (cut_proc ps d) o) (cut_procs ps ds))
      at None head body rest = rest
      at (Some body) head typed_body rest = All-cons IsTypedProc (cut_proc ps d body) (cut_procs ps ds) (proc_typed d body head typed_body) rest

pub procs_typed : (program : WProgram) → IsWideProgram program → All IsTypedProc (cut_procs program.procs program.procs)
procs_typed program h = bodies_typed program.procs h program.procs (each_there (IsWideProc program.procs) program.procs h)

pub program_typed : (program : WProgram) → IsWideProgram program → IsTypedProgram (cut_program program)
program_typed program h = at_item IsTypedProc (cut_procs program.procs program.procs) (procs_typed program h)
