-- The variables of a method and of a call: which values fit them, which are the same in two stores, and what is never assigned.
use Rattle.std.proofs.Common.{◌≡◌, ◌≢◌, ◌⊎◌, inl, inr, refl, sym, ap, ◌∙◌, subst, arith, ◌<◌, ◌≤◌, ◌+◌, ◌==◌, ◌||◌, ℕ, zero, suc, Bool, true, false, Some, List, [], ◌∷◌, ◌++◌, length, All, Contains, slice_get, slice_set, take, drop}
use Rattle.std.proofs.lemmas.Bool.{true≢false, or_from}
use Rattle.std.proofs.lemmas.Bool.Decides.{Decides-eqb}
use Rattle.std.proofs.lemmas.List.Elements.{All-head, All-tail}
use Rattle.std.proofs.lemmas.List.{length-take-le}
use Rattle.std.proofs.lemmas.Slice.Zip.{AllZip-long}
use Rattle.std.specs.Bool.{Decides}
use Rattle.std.specs.List.{AllZip, list_any, range_with_len}
use Rattle.lemmas.proofs.Lists.{there_right, drop_here, front_at}
use Rattle.vb_value.specs.declared.values.Ty.{Ty}
use Rattle.vb_value.specs.declared.values.Value.{Value}
use Rattle.viper_core.specs.Program.{Method}
use Rattle.viper_core.specs.Scope.{Scope, assigns, some_assigns}
use Rattle.viper_core.specs.Stmt as s
use Rattle.viper_core.specs.Typing as y
use Rattle.viper_core.specs.Typing.{MethodContext, AreTargets, nothing, also, Receive, assigned, declared, IsStmt, AreStmts, params_of, returns_of}
use Rattle.viper_core.proofs.ScopeLaws.{fresh-scope_after, fresh-stmts_scope}
use Rattle.viper_state.specs.Fits.{FitsValue, FitsStore}
use Rattle.viper_state.proofs.Paired.{get_set_same, get_set_other, paired}
use Rattle.viper_meaning.specs.Statements.{stored}
use Rattle.viper_meaning.specs.Units.{first_store}
use Rattle.viper_meaning.proofs.StatementFitsLaws.{ValuesOf, both_fit, take_both}
use Rattle.viper_exec_meaning.specs.Execution.{returns_in, returned}

-- ---- parts of lists

part_drops : (us : List Ty) (vs : List Value) (p : ℕ) → FitsStore us vs → FitsStore (drop p us) (drop p vs)
part_drops us vs zero h = h
part_drops [] [] (suc p) h = tt
part_drops [] (w ∷ vs) (suc p) h = absurd h
part_drops (u ∷ us) [] (suc p) h = absurd h
part_drops (u ∷ us) (w ∷ vs) (suc p) h = part_drops us vs p h.1

part_takes : (us : List Ty) (vs : List Value) (r : ℕ) → FitsStore us vs → FitsStore (take r us) (take r vs)
part_takes us vs zero h = tt
part_takes [] [] (suc r) h = tt
part_takes [] (w ∷ vs) (suc r) h = absurd h
part_takes (u ∷ us) [] (suc r) h = absurd h
part_takes (u ∷ us) (w ∷ vs) (suc r) h = (h.0, part_takes us vs r h.1)

get_taken : {X : Type 0} (xs : List X) (n x : ℕ) → x < n → slice_get (take n xs) x ≡ slice_get xs x
get_taken xs zero x h = absurd (omega (arith, h))
get_taken [] (suc n) x h = refl
get_taken (a ∷ xs) (suc n) zero h = refl
get_taken (a ∷ xs) (suc n) (suc x) h = get_taken xs n x (omega (arith, h))

get_dropped : {X : Type 0} (xs : List X) (n x : ℕ) → slice_get (drop n xs) x ≡ slice_get xs (n + x)
get_dropped xs zero x = let same : 0 + x ≡ x = omega arith in ap (slice_get xs) (sym same)
get_dropped [] (suc n) x = refl
get_dropped (a ∷ xs) (suc n) x = let same : suc n + x ≡ suc (n + x) = omega arith in get_dropped xs n x ∙ ap (slice_get (a ∷ xs)) (sym same)

-- ---- the values of parameters and returns

range_fits : (us : List Ty) (p r : ℕ) (ws : List Value) → ValuesOf us (range_with_len p r) ws → FitsStore (take r (drop p us)) ws
range_fits us p zero [] h = tt
range_fits us p zero (w ∷ ws) h = absurd h
range_fits us p (suc r) [] h = absurd h
range_fits us p (suc r) (w ∷ ws) h =
    subst (λ ts. FitsStore (take (suc r) ts) (w ∷ ws)) (sym (drop_here us p h.0.0 h.0.1.0)) (h.0.1.1, range_fits us (p + 1) r ws h.1)

-- parameters, and values for the returns
pub arguments_fit : (m : Method) (vs ws : List Value) → FitsStore (params_of m) vs → ValuesOf m.vars (returns_in m) ws → FitsStore (take (m.params + m.returns) m.vars) (vs ++ ws)
arguments_fit m vs ws h g = subst (λ us. FitsStore us (vs ++ ws)) (take_both m.params m.returns m.vars) (both_fit (params_of m) (returns_of m) vs ws h (range_fits m.vars m.params m.returns ws g))

pub returned_fit : (m : Method) (store : List Value) → FitsStore m.vars store → FitsStore (returns_of m) (returned m store)
returned_fit m store h = part_takes (drop m.params m.vars) (drop m.params store) m.returns (part_drops m.vars store m.params h)

-- parameters, and the returns that a body made
pub given_back_fit : (m : Method) (vs store : List Value) → FitsStore (params_of m) vs → FitsStore m.vars store → FitsStore (take (m.params + m.returns) m.vars) (vs ++ returned m store)
given_back_fit m vs store h g =
    subst (λ us. FitsStore us (vs ++ returned m store)) (take_both m.params m.returns m.vars) (both_fit (params_of m) (returns_of m) vs (returned m store) h (returned_fit m store g))

targets_take : {m : MethodContext} {sc : Scope} (xs : List ℕ) (us : List Ty) (ws : List Value) → AreTargets m sc xs us → FitsStore us ws → ValuesOf m.vars xs ws
targets_take [] [] [] nothing g = tt
targets_take [] [] (w ∷ ws) nothing g = absurd g
targets_take [] (u ∷ us) ws i g = elim i [ ]
targets_take (x ∷ xs) [] ws i g = elim i [ ]
targets_take (x ∷ xs) (u ∷ us) [] (also i j) g = absurd g
targets_take (x ∷ xs) (u ∷ us) (w ∷ ws) (also i j) g = ((u, (i.typed, g.0)), targets_take xs us ws j g.1)

-- the targets of a call can take what fits its returns
pub targets_fit : {m : MethodContext} {sc : Scope} (xs : List ℕ) (us : List Ty) (ws : List Value) → Receive m sc xs us → FitsStore us ws → ValuesOf m.vars xs ws
targets_fit xs us ws (assigned i differ) g = targets_take xs us ws i g
targets_fit xs us [] (declared {u = u} i e) g = absurd g
targets_fit xs us (w ∷ []) (declared {u = u} i e) g = ((u, (e, g.0)), tt)
targets_fit xs us (w ∷ z ∷ ws) (declared {u = u} i e) g = absurd g.1

-- ---- as many

pub values_long : (us : List Ty) (xs : List ℕ) (ws : List Value) → ValuesOf us xs ws → length ws ≡ length xs
values_long us [] [] h = refl
values_long us [] (w ∷ ws) h = absurd h
values_long us (x ∷ xs) [] h = absurd h
values_long us (x ∷ xs) (w ∷ ws) h = let so = values_long us xs ws h.1 in omega (arith, so)

-- as many parameters as there are
pub params_long : (m : Method) (vs : List Value) → m.params ≤ length m.vars → FitsStore (params_of m) vs → length vs ≡ m.params
params_long m vs le h = AllZip-long FitsValue (params_of m) vs h ∙ length-take-le m.params m.vars le

-- ---- which variables are the same

-- the parameters are those of the call
pub first_same : (m : Method) (vs ws : List Value) (x : ℕ) → x < length vs → slice_get (first_store m (vs ++ ws)) x ≡ slice_get vs x
first_same m vs ws x h =
    let longer : x < length (vs ++ ws) = longer_both vs ws x h in
    front_at (vs ++ ws) _ x longer ∙ front_at vs ws x h
  where
    longer_both : (vs ws : List Value) (x : ℕ) → x < length vs → x < length (vs ++ ws)
    longer_both [] ws x h = absurd (omega (arith, h))
    longer_both (v ∷ vs) ws zero h = omega arith
    longer_both (v ∷ vs) ws (suc x) h = omega (arith, longer_both vs ws x (omega (arith, h)))

-- at the end of a body: the parameters, which it left, and the returns that it made
pub returns_same : (m : Method) (vs store : List Value) → length vs ≡ m.params → ((x : ℕ) → x < m.params → slice_get store x ≡ slice_get vs x) → (x : ℕ) → x < m.params + m.returns →
    slice_get (vs ++ returned m store) x ≡ slice_get store x
returns_same m vs store long kept x h = by (below_or m.params x)
  where
    below_or : (p x : ℕ) → (x < p) ⊎ ((i : ℕ) × (x ≡ p + i))
    below_or zero x = inr (x, omega arith)
    below_or (suc p) zero = inl (omega arith)
    below_or (suc p) (suc x) = elim (below_or p x) [ inl low ↦ inl (omega (arith, low)) | inr high ↦ inr (high.0, omega (arith, high.1)) ]

    by : (x < m.params) ⊎ ((i : ℕ) × (x ≡ m.params + i)) → slice_get (vs ++ returned m store) x ≡ slice_get store x
    by (inl low) = let within : x < length vs = omega (arith, low, long) in front_at vs (returned m store) x within ∙ sym (kept x low)
    by (inr high) =
        let at : x ≡ length vs + high.0 = omega (arith, high.1, long) in
        let few : high.0 < m.returns = omega (arith, high.1, h) in
        ap (slice_get (vs ++ returned m store)) at ∙ there_right vs (returned m store) high.0 ∙ get_taken (drop m.params store) m.returns high.0 few ∙ get_dropped store m.params high.0 ∙ ap (slice_get store) (sym high.1)

-- ---- no parameter is assigned

none_assigned : {m : MethodContext} {sc : Scope} (x : ℕ) {xs : List ℕ} {us : List Ty} → x < m.params → AreTargets m sc xs us → list_any (λ z. z == x) xs ≡ false
none_assigned x low nothing = refl
none_assigned {m} x low (also {x = z} {xs = xs} i j) = differ (z == x) (Decides-eqb z x) (none_assigned x low j)
  where
    differ : (b : Bool) → Decides b (z ≡ x) → list_any (λ z. z == x) xs ≡ false → b || list_any (λ z. z == x) xs ≡ false
    differ true d e = absurd (omega (arith, low, i.no_parameter, d.0 refl))
    differ false d e = e

none_received : {m : MethodContext} {sc : Scope} (x : ℕ) {xs : List ℕ} {us : List Ty} → x < m.params → m.params ≤ sc.fresh → Receive m sc xs us → list_any (λ z. z == x) xs ≡ false
none_received x low le (assigned i differ) = none_assigned x low i
none_received {m} {sc} x low le (declared {x = z} i e) = by (z == x) (Decides-eqb z x)
  where
    by : (b : Bool) → Decides b (z ≡ x) → b || false ≡ false
    by true d = absurd (omega (arith, low, le, i, d.0 refl))
    by false d = refl

from_none : (b : Bool) → b || false ≡ false → b ≡ false
from_none true e = absurd (true≢false e)
from_none false e = refl

mutual
  param_unassigned : {m : MethodContext} {sc : Scope} {a : s.Stmt} (x : ℕ) → x < m.params → m.params ≤ sc.fresh → IsStmt m sc a → assigns x a ≡ false
  param_unassigned x low le (y.declares is typed) = refl
  param_unassigned x low le (y.initial is typed h) = refl
  param_unassigned x low le (y.assigns {x = z} i h) = from_none (z == x) (none_assigned x low (also i nothing))
  param_unassigned x low le (y.writes h e g) = refl
  param_unassigned x low le (y.creates {x = z} i h e) = from_none (z == x) (none_received x low le i)
  param_unassigned x low le (y.calls callee there args i) = none_received x low le i
  param_unassigned x low le (y.inhales h) = refl
  param_unassigned x low le (y.exhales h) = refl
  param_unassigned x low le (y.asserts h) = refl
  param_unassigned x low le (y.folds h) = refl
  param_unassigned x low le (y.unfolds h) = refl
  param_unassigned {m} {sc} x low le (y.branches {then_block = first} {else_block = second} h i j) =
      or_from (some_assigns x first) (some_assigns x second) (params_unassigned x low le i) (params_unassigned x low (omega (arith, le, fresh-stmts_scope sc first)) j)
  param_unassigned x low le (y.loops h is i same) = params_unassigned x low le i

  pub params_unassigned : {m : MethodContext} {sc : Scope} {block : s.Stmts} (x : ℕ) → x < m.params → m.params ≤ sc.fresh → AreStmts m sc block → some_assigns x block ≡ false
  params_unassigned x low le y.ends = refl
  params_unassigned {m} {sc} x low le (y.goes_on {a = a} {rest = rest} i j) =
      or_from (assigns x a) (some_assigns x rest) (param_unassigned x low le i) (params_unassigned x low (omega (arith, le, fresh-scope_after sc a)) j)

-- ---- the targets of a loop

-- the values that variables have
pub present : (us : List Ty) (store : List Value) (xs : List ℕ) → FitsStore us store → All (λ x. (u : Ty) × (slice_get us x ≡ Some u)) xs → (ws : List Value) × ValuesOf us xs ws × AllZip (λ x w. slice_get store x ≡ Some w) xs ws
present us store [] h all = ([], tt, tt)
present us store (x ∷ xs) h all =
    let own = All-head (λ x. (u : Ty) × (slice_get us x ≡ Some u)) x xs all in
    let value = paired FitsValue us store x own.0 h own.1 in
    let rest = present us store xs h (All-tail (λ x. (u : Ty) × (slice_get us x ≡ Some u)) x xs all) in
    (value.0 ∷ rest.0, ((own.0, (own.1, value.1.1)), rest.1), (value.1.0, rest.2))

rest_contains : (x z : ℕ) (zs : List ℕ) → z ≢ x → Contains (z ∷ zs) x → Contains zs x
rest_contains x z zs apart (zero, within, is) = absurd (apart is)
rest_contains x z zs apart (suc k, within, is) = (k, omega (arith, within), is)

-- where the targets take the values that they have in another store, all is as there that was so before, or is a target
pub stored_read : (x : ℕ) (other own : List Value) (xs : List ℕ) (ws : List Value) → (v : Value) → slice_get own x ≡ Some v → AllZip (λ z w. slice_get other z ≡ Some w) xs ws → (slice_get own x ≡ slice_get other x) ⊎ Contains xs x →
    slice_get (stored own xs ws) x ≡ slice_get other x
stored_read x other own [] ws v e h (inl same) = same
stored_read x other own [] ws v e h (inr (k, within, is)) = absurd (omega (arith, within))
stored_read x other own (z ∷ zs) [] v e h among = absurd h
stored_read x other own (z ∷ zs) (w ∷ ws) v e h among = by (λ a f c. stored_read x other (slice_set own z w) zs ws a f h.1 c) (z == x) (Decides-eqb z x)
  where
    otherwise : z ≢ x → (slice_get own x ≡ slice_get other x) ⊎ Contains (z ∷ zs) x → (slice_get (slice_set own z w) x ≡ slice_get other x) ⊎ Contains zs x
    otherwise apart (inl same) = inl (get_set_other own z x w apart ∙ same)
    otherwise apart (inr c) = inr (rest_contains x z zs apart c)

    by : ((a : Value) → slice_get (slice_set own z w) x ≡ Some a → (slice_get (slice_set own z w) x ≡ slice_get other x) ⊎ Contains zs x → slice_get (stored (slice_set own z w) zs ws) x ≡ slice_get other x) →
        (b : Bool) → Decides b (z ≡ x) → slice_get (stored (slice_set own z w) zs ws) x ≡ slice_get other x
    by go true d =
        let here : slice_get (slice_set own z w) x ≡ Some w = subst (λ n. slice_get (slice_set own z w) n ≡ Some w) (d.0 refl) (get_set_same own z v w (ap (slice_get own) (d.0 refl) ∙ e)) in
        go w here (inl (here ∙ sym h.0 ∙ ap (slice_get other) (d.0 refl)))
    by go false d =
        let apart : z ≢ x = λ same. true≢false (sym (d.1 same)) in
        go v (get_set_other own z x w apart ∙ e) (otherwise apart among)
