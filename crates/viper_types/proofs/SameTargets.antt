-- The targets of a loop are those that are gathered from its body, and the visible variables that the body assigns.
use Rattle.std.proofs.Common.{◌≡◌, ◌∙◌, inl, inr, ◌==◌, ◌||◌, ◌&&◌, ℕ, zero, suc, ◌+◌, ◌<◌, ◌≤◌, Bool, true, false, cond, List, [], ◌∷◌, Contains, length, refl, sym, ap, arith}
use Rattle.std.specs.BTreeSet.{insert_key}
use Rattle.std.specs.Cmp.{nat_cmp_is}
use Rattle.std.specs.List.{filter, range_with_len}
use Rattle.std.specs.Ordering.{nat_cmp, match_ordering}
use Rattle.std.specs.declared.cmp.Ordering.TheVariants as ordering
use Rattle.std.proofs.lemmas.Bool.{cases_lt, cases_order, eqb-true, eq-eqb, ne_eqb, lt-ltb, le-ltb}
use Rattle.std.proofs.lemmas.List.Folds.{list_any_at}
use Rattle.std.proofs.lemmas.Map.Views.{any-filter_same}
use Rattle.lemmas.proofs.Tests.{or_false, first_decides, or_twice, or_turned, or_moved}
use Rattle.viper_core.specs.Scope as cs
use Rattle.viper_core.specs.Scope.{assigns, some_assigns, loop_targets}
use Rattle.viper_core.specs.Stmt as c
use Rattle.viper_core.specs.Typing as g
use Rattle.viper_core.proofs.ScopeLaws.{some_old_or_new}
use Rattle.viper_syntax.specs.Stmt as s
use Rattle.viper_scope.specs.Context.{Context}
use Rattle.viper_types.specs.Frame.{MethodVariables}
use Rattle.viper_scope.specs.Outcome.{Found}
use Rattle.viper_scope.specs.Target.{listed as listed_only, with_target, with_targets, targets_of_stmt, targets_from, gathered, targets}
use Rattle.viper_types.specs.Stepping.{blocking}
use Rattle.viper_types.proofs.Loops.{ListLoops, plain, branches, turns, LoopsIn, no_loops, more_loops, block_loops}
use Rattle.viper_types.proofs.Tells.{told}
use Rattle.viper_types.proofs.Rising.{Rising, has, rising_filter, has_above, same_rising}

-- ---- one more number in ascending numbers

first_of_two : (k z : ℕ) (zs : List ℕ) → k < z → insert_key nat_cmp (z ∷ zs) k ≡ k ∷ z ∷ zs
first_of_two k z zs lt = ap (λ o. match_ordering o (k ∷ z ∷ zs) (z ∷ zs) (z ∷ insert_key nat_cmp zs k)) (sym (nat_cmp_is k z ordering.Less lt))

there_already : (k z : ℕ) (zs : List ℕ) → k ≡ z → insert_key nat_cmp (z ∷ zs) k ≡ z ∷ zs
there_already k z zs is = ap (λ o. match_ordering o (k ∷ z ∷ zs) (z ∷ zs) (z ∷ insert_key nat_cmp zs k)) (sym (nat_cmp_is k z ordering.Equal is))

further_on : (k z : ℕ) (zs : List ℕ) → z < k → insert_key nat_cmp (z ∷ zs) k ≡ z ∷ insert_key nat_cmp zs k
further_on k z zs gt = ap (λ o. match_ordering o (k ∷ z ∷ zs) (z ∷ zs) (z ∷ insert_key nat_cmp zs k)) (sym (nat_cmp_is k z ordering.Greater gt))

or_true : (a : Bool) → (a || true) ≡ true
or_true true = refl
or_true false = refl

and_true : (a : Bool) → (a && true) ≡ a
and_true true = refl
and_true false = refl

has_insert : (k : ℕ) (zs : List ℕ) (x : ℕ) → has (insert_key nat_cmp zs k) x ≡ (k == x || has zs x)
has_insert k [] x = refl
has_insert k (z ∷ zs) x =
    elim (cases_order k z) [
      | inl is ↦ ap (λ ns. has ns x) (there_already k z zs is) ∙ or_twice (z == x) (has zs x) ∙ ap (λ n. n == x || (z == x || has zs x)) (sym is)
      | inr (inl lt) ↦ ap (λ ns. has ns x) (first_of_two k z zs lt)
      | inr (inr gt) ↦
          ap (λ ns. has ns x) (further_on k z zs gt) ∙ ap (λ b. z == x || b) (has_insert k zs x) ∙ or_turned (z == x) (k == x) (has zs x)
    ]

rising_insert : (low high k : ℕ) (zs : List ℕ) → Rising low high zs → low ≤ k → k < high → Rising low high (insert_key nat_cmp zs k)
rising_insert low high k [] h le lt = (le, omega (arith, lt))
rising_insert low high k (z ∷ zs) h le lt =
    elim (cases_order k z) [
      | inl is ↦ rw (there_already k z zs is) h
      | inr (inl less) ↦ rw (first_of_two k z zs less) (le, (omega (arith, less), h.1))
      | inr (inr gt) ↦ rw (further_on k z zs gt) (h.0, rising_insert (z + 1) high k zs h.1 (omega (arith, gt)) lt)
    ]

-- ---- what is listed

has_target : (below x z : ℕ) (so_far : List ℕ) → z < below → has (with_target below so_far x) z ≡ (x == z || has so_far z)
has_target below x z so_far lt =
    elim (cases_lt x below) [
      | inl less ↦ ap (λ b. has (cond b (insert_key nat_cmp so_far x) so_far) z) (lt-ltb x below less) ∙ has_insert x so_far z
      | inr le ↦
          ap (λ b. has (cond b (insert_key nat_cmp so_far x) so_far) z) (le-ltb x below le) ∙
          ap (λ b. b || has so_far z) (sym (ne_eqb x z (λ is. omega (arith, is, le, lt))))
    ]

has_targets : (below z : ℕ) → z < below → (xs so_far : List ℕ) → has (with_targets below so_far xs) z ≡ (has xs z || has so_far z)
has_targets below z lt [] so_far = refl
has_targets below z lt (x ∷ xs) so_far =
    has_targets below z lt xs (with_target below so_far x) ∙ ap (λ b. has xs z || b) (has_target below x z so_far lt) ∙ or_moved (x == z) (has xs z) (has so_far z)

-- a list has what is in it
contained : (xs : List ℕ) (x : ℕ) → Contains xs x → has xs x ≡ true
contained xs x h = list_any_at (λ y. y == x) xs h.0 x h.1 (eq-eqb _ x h.2)

has_filter : (p : ℕ → Bool) (xs : List ℕ) (z : ℕ) → has (filter p xs) z ≡ (p z && has xs z)
has_filter p xs z = any-filter_same (λ y. y == z) p (p z) (λ k i. ap p (eqb-true k z i)) xs

-- the listed targets of a typed loop are what it assigns of what was there before
listed : {m : g.MethodContext} {sc : cs.Scope} {body : c.Stmts} (below z : ℕ) → g.AreStmts m sc body → below ≤ sc.fresh → z < below →
    has (loop_targets sc body) z ≡ some_assigns z body
listed {m} {sc} {body} below z h le lt =
    has_filter (λ x. some_assigns x body) sc.visible z ∙ first_decides (some_assigns z body) (has sc.visible z)
    (λ is. elim (some_old_or_new z h is) [ inl old ↦ contained sc.visible z old | inr new ↦ absurd (omega (arith, new, le, lt)) ])

-- ---- the variables below a number

rising_range : (low high n : ℕ) → low + n ≡ high → Rising low high (range_with_len low n)
rising_range low high zero is = omega (arith, is)
rising_range low high (suc n) is = (omega arith, rising_range (low + 1) high n (omega (arith, is)))

has_range : (low n z : ℕ) → low ≤ z → z < low + n → has (range_with_len low n) z ≡ true
has_range low zero z le lt = absurd (omega (arith, le, lt))
has_range low (suc n) z le lt =
    elim (cases_lt low z) [
      | inl above ↦ ap (λ b. low == z || b) (has_range (low + 1) n z (omega (arith, above)) (omega (arith, lt))) ∙ or_true (low == z)
      | inr same ↦ ap (λ b. b || has (range_with_len (low + 1) n) z) (eq-eqb low z (omega (arith, le, same)))
    ]

rising_targets_of : (count : ℕ) (body : c.Stmts) → Rising 0 count (targets count body)
rising_targets_of count body = rising_filter (λ x. some_assigns x body) 0 count (range_with_len 0 count) (rising_range 0 count count (omega arith))

-- a target is what the body assigns
has_target_of : (count z : ℕ) (body : c.Stmts) → z < count → has (targets count body) z ≡ some_assigns z body
has_target_of count z body lt =
    has_filter (λ x. some_assigns x body) (range_with_len 0 count) z ∙ ap (λ b. some_assigns z body && b) (has_range 0 count z (omega arith) (omega (arith, lt))) ∙
    and_true (some_assigns z body)

-- ---- what is gathered

mutual
  stmt_targets : (below z : ℕ) → z < below → {a : c.Stmt} (so_far : List ℕ) → ListLoops below a →
      has (targets_of_stmt below so_far a) z ≡ (assigns z a || has so_far z)
  stmt_targets below z lt {a = c.Var at x init} so_far h = refl
  stmt_targets below z lt {a = c.Assign at x e} so_far h = has_target below x z so_far lt
  stmt_targets below z lt {a = c.Write at e f f_at d} so_far h = refl
  stmt_targets below z lt {a = c.New at x fields refs} so_far h = has_target below x z so_far lt
  stmt_targets below z lt {a = c.Call at xs m args} so_far h = has_targets below z lt xs so_far
  stmt_targets below z lt {a = c.Inhale at e} so_far h = refl
  stmt_targets below z lt {a = c.Exhale at e} so_far h = refl
  stmt_targets below z lt {a = c.Assert at e} so_far h = refl
  stmt_targets below z lt {a = c.Fold f} so_far h = refl
  stmt_targets below z lt {a = c.Unfold f} so_far h = refl
  stmt_targets below z lt {a = c.If at e a b} so_far (plain is) = absurd (cc)
  stmt_targets below z lt {a = c.While w} so_far (plain is) = absurd (cc)
  stmt_targets below z lt so_far (branches {a = a} {b = b} first second) =
      stmts_targets below z lt (targets_from below so_far a) second ∙
      ap (λ o. some_assigns z b || o) (stmts_targets below z lt so_far first) ∙ or_moved (some_assigns z a) (some_assigns z b) (has so_far z)
  stmt_targets below z lt so_far (turns {body = body} {ts = ts} count le is) =
      has_targets below z lt ts so_far ∙ ap (λ o. o || has so_far z) (ap (λ ns. has ns z) is ∙ has_target_of count z body (omega (arith, lt, le)))

  stmts_targets : (below z : ℕ) → z < below → {ss : c.Stmts} (so_far : List ℕ) → LoopsIn below ss →
      has (targets_from below so_far ss) z ≡ (some_assigns z ss || has so_far z)
  stmts_targets below z lt so_far no_loops = refl
  stmts_targets below z lt so_far (more_loops {a = a} {rest = rest} first more) =
      stmts_targets below z lt (targets_of_stmt below so_far a) more ∙
      ap (λ o. some_assigns z rest || o) (stmt_targets below z lt so_far first) ∙ or_moved (assigns z a) (some_assigns z rest) (has so_far z)

-- ---- they ascend

rising_target : (below : ℕ) (so_far : List ℕ) (x : ℕ) → Rising 0 below so_far → Rising 0 below (with_target below so_far x)
rising_target below so_far x h =
    elim (cases_lt x below) [
      | inl less ↦ rw (lt-ltb x below less) (rising_insert 0 below x so_far h (omega arith) less)
      | inr le ↦ rw (le-ltb x below le) h
    ]

rising_targets : (below : ℕ) (xs so_far : List ℕ) → Rising 0 below so_far → Rising 0 below (with_targets below so_far xs)
rising_targets below [] so_far h = h
rising_targets below (x ∷ xs) so_far h = rising_targets below xs (with_target below so_far x) (rising_target below so_far x h)

mutual
  rising_stmt : (below : ℕ) (a : c.Stmt) (so_far : List ℕ) → Rising 0 below so_far → Rising 0 below (targets_of_stmt below so_far a)
  rising_stmt below (c.Var at x init) so_far h = h
  rising_stmt below (c.Assign at x a) so_far h = rising_target below so_far x h
  rising_stmt below (c.Write at a f f_at b) so_far h = h
  rising_stmt below (c.New at x fields refs) so_far h = rising_target below so_far x h
  rising_stmt below (c.Call at xs m args) so_far h = rising_targets below xs so_far h
  rising_stmt below (c.Inhale at a) so_far h = h
  rising_stmt below (c.Exhale at a) so_far h = h
  rising_stmt below (c.Assert at a) so_far h = h
  rising_stmt below (c.Fold f) so_far h = h
  rising_stmt below (c.Unfold f) so_far h = h
  rising_stmt below (c.If at a b d) so_far h = rising_stmts below d (targets_from below so_far b) (rising_stmts below b so_far h)
  rising_stmt below (c.While (c.loop at a is b turn ts)) so_far h = rising_targets below ts so_far h

  rising_stmts : (below : ℕ) (ss : c.Stmts) (so_far : List ℕ) → Rising 0 below so_far → Rising 0 below (targets_from below so_far ss)
  rising_stmts below c.skip so_far h = h
  rising_stmts below (c.next a rest) so_far h = rising_stmts below rest (targets_of_stmt below so_far a) (rising_stmt below a so_far h)

pub gathered_targets : (below : ℕ) (body : c.Stmts) → LoopsIn below body → gathered below body ≡ targets below body
gathered_targets below body h =
    let all : Rising 0 below (gathered below body) = rising_stmts below body [] (omega arith) in
    let those : Rising 0 below (targets below body) = rising_targets_of below body in
    same_rising 0 below (gathered below body) (targets below body) all those (λ z.
    elim (cases_lt z below) [
      | inl lt ↦ stmts_targets below z lt [] h ∙ or_false (some_assigns z body) ∙ sym (has_target_of below z body lt)
      | inr le ↦ has_above 0 below (gathered below body) z all le ∙ sym (has_above 0 below (targets below body) z those le)
    ])

-- what a typed body assigns is visible where it was declared before
pub same_targets : {m : g.MethodContext} (sc : cs.Scope) (body : c.Stmts) → g.AreStmts m sc body → Rising 0 sc.fresh sc.visible →
    targets sc.fresh body ≡ loop_targets sc body
same_targets sc body h rising =
    let all : Rising 0 sc.fresh (targets sc.fresh body) = rising_targets_of sc.fresh body in
    let seen : Rising 0 sc.fresh (loop_targets sc body) = rising_filter (λ x. some_assigns x body) 0 sc.fresh sc.visible rising in
    same_rising 0 sc.fresh (targets sc.fresh body) (loop_targets sc body) all seen (λ z.
    elim (cases_lt z sc.fresh) [
      | inl lt ↦ has_target_of sc.fresh z body lt ∙ sym (listed sc.fresh z h (omega arith) lt)
      | inr le ↦ has_above 0 sc.fresh (targets sc.fresh body) z all le ∙ sym (has_above 0 sc.fresh (loop_targets sc body) z seen le)
    ])

-- the list of a loop, as it is gathered
pub listed_targets : (lists : Bool) (k : Context) (d : ℕ) (fr : MethodVariables) (b : s.SBlock) (ss : c.Stmts) → blocking lists k d fr b ≡ Found ss →
    listed_only lists (gathered (length fr.vars) ss) ≡ listed_only lists (targets (length fr.vars) ss)
listed_targets true k d fr b ss h = gathered_targets (length fr.vars) ss (told (block_loops k d fr b) h)
listed_targets false k d fr b ss h = refl
