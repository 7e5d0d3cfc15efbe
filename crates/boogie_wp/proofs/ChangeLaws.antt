-- What branches change, over plain variables: it can be undone, and where only what they changed is brought together, all is.
use Rattle.std.proofs.Common.{◌≡◌, ◌∙◌, ◌≤◌, ◌<◌, ◌+◌, ◌-◌, ℕ, zero, suc, Bool as Truth, true, false, Option, Some, None, List, [], ◌∷◌, ◌++◌, map, take, drop, slice_get, slice_set, slice_index, slice_index_or, unwrap_or, length, nat_eq, if◌then◌else◌, refl, sym, ap, subst, arith, append_assoc, append-nil, drop_of_length-le}
use Rattle.std.proofs.Math.Numerals.{add-one}
use Rattle.std.proofs.lemmas.Bool.Decides.{Decides-eqb}
use Rattle.std.proofs.lemmas.List.{take_all}
use Rattle.std.proofs.lemmas.List.Elements.{Contains-append_left, Contains-append_right}
use Rattle.std.specs.Bool.{⊤}
use Rattle.std.specs.List.{Contains}
use Rattle.std.specs.List.Sorted.{IsStrictlyIncreasing}
use Rattle.lemmas.proofs.Lists.{set_length}
use Rattle.boogie_tree.specs.declared.exprs.BOp.TheVariants as op
use Rattle.boogie_formula.specs.Formula as f
use Rattle.boogie_formula.specs.Formula.{FExpr}
use Rattle.boogie_wp.specs.Build.{ConditionsBuilder, Merged, behind, merge, with_merged, define, store, fresh, join, number_at}
use Rattle.boogie_wp.specs.Changes.{local_of, changed, end_of, choice_of, IsKept, Chosen}
use Rattle.boogie_wp.specs.declared.names.LocalChange.{LocalChange}
use Rattle.boogie_wp.specs.declared.names.BranchedLocal.{BranchedLocal}
use Rattle.boogie_wp.proofs.CodeLaws.{drop_at}

-- ---- lists

set_back : {X : Type 0} (xs : List X) (i : ℕ) (x y : X) → slice_get xs i ≡ Some y → slice_set (slice_set xs i x) i y ≡ xs
set_back [] i x y h = absurd (cc)
set_back (z ∷ xs) zero x y h = let e : z ≡ y = cc in ap (λ w. w ∷ xs) (sym e)
set_back (z ∷ xs) (suc i) x y h = ap (λ ws. z ∷ ws) (set_back xs i x y h)

set_past : {X : Type 0} (xs : List X) (i : ℕ) (x : X) → slice_get xs i ≡ None → slice_set xs i x ≡ xs
set_past [] i x h = refl
set_past (z ∷ xs) zero x h = absurd (cc)
set_past (z ∷ xs) (suc i) x h = ap (λ ws. z ∷ ws) (set_past xs i x h)

get_other : {X : Type 0} (xs : List X) (i j : ℕ) (x : X) → (i ≡ j → ⊥) → slice_get (slice_set xs i x) j ≡ slice_get xs j
get_other [] i j x h = refl
get_other (y ∷ xs) zero zero x h = absurd (h refl)
get_other (y ∷ xs) zero (suc j) x h = refl
get_other (y ∷ xs) (suc i) zero x h = refl
get_other (y ∷ xs) (suc i) (suc j) x h = get_other xs i j x (λ e. h (ap suc e))

drop_none : {X : Type 0} (xs : List X) (i : ℕ) → slice_get xs i ≡ None → drop i xs ≡ []
drop_none [] zero h = refl
drop_none [] (suc i) h = refl
drop_none (y ∷ xs) zero h = absurd (cc)
drop_none (y ∷ xs) (suc i) h = drop_none xs i h

drop_none_next : {X : Type 0} (xs : List X) (i : ℕ) → slice_get xs i ≡ None → drop (suc i) xs ≡ []
drop_none_next [] zero h = refl
drop_none_next [] (suc i) h = refl
drop_none_next (y ∷ xs) zero h = absurd (cc)
drop_none_next (y ∷ xs) (suc i) h = drop_none_next xs i h

take_none : {X : Type 0} (xs : List X) (i : ℕ) → slice_get xs i ≡ None → take (suc i) xs ≡ take i xs
take_none [] zero h = refl
take_none [] (suc i) h = refl
take_none (y ∷ xs) zero h = absurd (cc)
take_none (y ∷ xs) (suc i) h = ap (λ z. y ∷ z) (take_none xs i h)

take_at : {X : Type 0} (xs : List X) (i : ℕ) (x : X) → slice_get xs i ≡ Some x → take (suc i) xs ≡ take i xs ++ x ∷ []
take_at [] i x h = absurd (cc)
take_at (y ∷ xs) zero x h = let e : y ≡ x = cc in ap (λ z. z ∷ []) e
take_at (y ∷ xs) (suc i) x h = ap (λ z. y ∷ z) (take_at xs i x h)

take_set : {X : Type 0} (xs : List X) (i : ℕ) (x y : X) → slice_get xs i ≡ Some x → take (suc i) (slice_set xs i y) ≡ take i xs ++ y ∷ []
take_set [] i x y h = absurd (cc)
take_set (z ∷ xs) zero x y h = refl
take_set (z ∷ xs) (suc i) x y h = ap (λ w. z ∷ w) (take_set xs i x y h)

-- ---- changes

-- one more change, before all that come first in the list
changed_more : (xs : List LocalChange) (x : LocalChange) (vs : List ℕ) → changed (xs ++ x ∷ []) vs ≡ changed xs (slice_set vs x.local x.name)
changed_more [] x vs = refl
changed_more (y ∷ xs) x vs = ap (λ zs. slice_set zs y.local y.name) (changed_more xs x vs)

-- a change whose name before is kept can be undone
pub kept_before : (xs : List LocalChange) (vs : List ℕ) (i name before : ℕ) → slice_get vs i ≡ Some before → changed (xs ++ record { local = i; name = before } ∷ []) (slice_set vs i name) ≡ changed xs vs
kept_before xs vs i name before is = changed_more xs (record { local = i; name = before }) (slice_set vs i name) ∙ ap (changed xs) (set_back vs i name before is)

-- the last change is undone
pub last_undone : (xs : List LocalChange) (x : LocalChange) (vs : List ℕ) (all : List LocalChange) → all ≡ xs ++ x ∷ [] → changed xs (slice_set vs x.local x.name) ≡ changed all vs
last_undone xs x vs all is = sym (ap (λ zs. changed zs vs) is ∙ changed_more xs x vs)

pub changed_long : (xs : List LocalChange) (vs : List ℕ) → length (changed xs vs) ≡ length vs
changed_long [] vs = refl
changed_long (x ∷ xs) vs = set_length (changed xs vs) x.local x.name ∙ changed_long xs vs

here : (x : ℕ) (xs : List ℕ) (k : ℕ) → x ≡ k → Contains (x ∷ xs) k
here x xs k e = (0, omega arith, e)

there : (x : ℕ) (xs : List ℕ) (k : ℕ) → Contains xs k → Contains (x ∷ xs) k
there x xs k c = let lt = c.1 in (suc c.0, omega (arith, lt), c.2)

-- the names of the other locals are the same
changed_else : (xs : List LocalChange) (vs : List ℕ) (k : ℕ) → (Contains (map local_of xs) k → ⊥) → slice_get (changed xs vs) k ≡ slice_get vs k
changed_else [] vs k h = refl
changed_else (x ∷ xs) vs k h =
    get_other (changed xs vs) x.local k x.name (λ e. h (here x.local (map local_of xs) k e)) ∙ changed_else xs vs k (λ c. h (there x.local (map local_of xs) k c))

-- ---- numbers that rise

-- they rise, from m on
abbrev Rising : ℕ → List ℕ → Type 0
Rising m [] = ⊤
Rising m (x ∷ xs) = (m ≤ x) × Rising (x + 1) xs

rising : (xs : List ℕ) (m : ℕ) → (0 < length xs → m ≤ slice_index xs 0) → IsStrictlyIncreasing xs → Rising m xs
rising [] m from h = tt
rising (x ∷ xs) m from h = (from (omega arith), rising xs (x + 1) (λ l. let first = h 0 (omega (arith, l)) in omega (arith, first)) rest)
  where
    rest : IsStrictlyIncreasing xs
    rest i l =
        let next : suc i + 1 ≡ suc (i + 1) = omega arith in
        subst (λ m. slice_index xs i < slice_index (x ∷ xs) m) next (h (suc i) (omega (arith, l)))

rising_at : (xs : List ℕ) (m i k : ℕ) → Rising m xs → i < length xs → slice_index_or xs i k ≡ k → m ≤ k
rising_at [] m i k r lt is = absurd (omega (arith, lt))
rising_at (x ∷ xs) m zero k r lt is = let from = r.0 in let e : x ≡ k = is in omega (arith, from, e)
rising_at (x ∷ xs) m (suc i) k r lt is =
    let from = r.0 in
    let later = rising_at xs (x + 1) i k r.1 (omega (arith, lt)) is in
    omega (arith, from, later)

later_at : (x : ℕ) (xs : List ℕ) (i k : ℕ) → x + 1 ≤ k → i < length (x ∷ xs) → slice_index_or (x ∷ xs) i k ≡ k → Contains xs k
later_at x xs zero k l lt is = let e : x ≡ k = is in absurd (omega (arith, l, e))
later_at x xs (suc i) k l lt is = (i, omega (arith, lt), is)

module _ (us vs ws : List ℕ) where
  -- the names of these locals are choices, where all others are as they were
  chosen_from : (m : ℕ) (xs : List ℕ) → Rising m xs → ((k : ℕ) → m ≤ k → (Contains xs k → ⊥) → IsKept us vs ws k) → Chosen us vs ws m (map (choice_of vs) (map (end_of ws) xs))
  chosen_from m [] r h = λ i l. h i l (λ c. let lt = c.1 in absurd (omega (arith, lt)))
  chosen_from m (x ∷ xs) r h = (
    r.0,
    λ i l g. h i l (λ c. let from = rising_at (x ∷ xs) x c.0 i (omega arith, r.1) c.1 c.2 in absurd (omega (arith, from, g))),
    refl,
    refl,
    chosen_from (x + 1) xs r.1 (λ k l none. let from = r.0 in h k (omega (arith, from, l)) (λ c. none (later_at x xs c.0 k l c.1 c.2))),
  )

-- the choices of two branches: xs are what the first one changed, ys what the second one did
pub chosen_are : (xs ys : List LocalChange) (us ws locals : List ℕ) (first second : List LocalChange) → first ≡ xs → second ≡ ys → us ≡ changed ys ws → IsStrictlyIncreasing locals →
    ((k : ℕ) → Contains (map local_of first ++ map local_of second) k → Contains locals k) → Chosen us (changed xs us) ws 0 (map (choice_of (changed xs us)) (map (end_of ws) locals))
chosen_are xs ys us ws locals first second is_first is_second began rises listed =
    let all : (k : ℕ) → Contains (map local_of xs ++ map local_of ys) k → Contains locals k = λ k c. listed k (subst (λ zs. Contains zs k) (λ i. map local_of (sym is_first i) ++ map local_of (sym is_second i)) c) in
    chosen_from us (changed xs us) ws 0 locals (rising locals 0 (λ l. omega arith) rises)
    (λ k l none. (
      changed_else xs us k (λ c. none (all k (Contains-append_left (map local_of xs) (map local_of ys) k c))),
      sym (ap (λ zs. slice_get zs k) began ∙ changed_else ys ws k (λ c. none (all k (Contains-append_right (map local_of xs) (map local_of ys) k c)))),
    ))

-- ---- bringing together

abbrev chosen_by : ℕ → ℕ → ℕ → FExpr
chosen_by c v w = f.If (f.Var c) (f.Var v) (f.Var w)

abbrev pub step_of : ℕ → ℕ → BranchedLocal → ConditionsBuilder → ConditionsBuilder
step_of n c x b = if nat_eq x.first x.second then record b { versions = slice_set b.versions x.local x.second } else store n x.local (f.If (f.Var c) (f.Var x.first) (f.Var x.second)) b

abbrev pub steps_of : ℕ → ℕ → List BranchedLocal → ConditionsBuilder → ConditionsBuilder
steps_of n c [] b = b
steps_of n c (x ∷ xs) b = steps_of n c xs (step_of n c x b)

pub steps_end : (n c : ℕ) (xs : List BranchedLocal) (i : ℕ) (before b : ConditionsBuilder) → length xs ≤ i → steps_of n c (drop i xs) b ≡ steps_of n c xs before → b ≡ steps_of n c xs before
steps_end n c xs i before b end same = ap (λ zs. steps_of n c zs b) (sym (drop_of_length-le xs end)) ∙ same

abbrev put_back : List ℕ → ConditionsBuilder → Merged → ConditionsBuilder
put_back front b m = record b { versions = front ++ m.versions; lets = m.lets }

behind_front : (front : List ℕ) (w : ℕ) (b : ConditionsBuilder) (m : Merged) → put_back (front ++ w ∷ []) b m ≡ put_back front b (behind w m)
behind_front front w b m = ap (λ vs. record b { versions = vs; lets = m.lets }) (append_assoc front (w ∷ []) m.versions)

if_behind : (p : Truth) (x y m : Merged) → p ≡ true → m ≡ x → m ≡ (if p then x else y)
if_behind true x y m h e = e
if_behind false x y m h e = absurd (cc)

if_other : (p : Truth) (x y m : Merged) → p ≡ false → m ≡ y → m ≡ (if p then x else y)
if_other true x y m h e = absurd (cc)
if_other false x y m h e = e

same_itself : (n : ℕ) → nat_eq n n ≡ true
same_itself n = (Decides-eqb n n).1 refl

both_past : {X Y : Type 0} (xs : List X) (ys : List Y) (i : ℕ) → length xs ≡ length ys → slice_get ys i ≡ None → slice_get xs i ≡ None
both_past [] ys i e h = refl
both_past (x ∷ xs) [] i e h = absurd (omega (arith, e))
both_past (x ∷ xs) (y ∷ ys) zero e h = absurd (cc)
both_past (x ∷ xs) (y ∷ ys) (suc i) e h = both_past xs ys i (omega (arith, e)) h

both_there : {X Y : Type 0} (xs : List X) (ys : List Y) (i : ℕ) (y : Y) → length xs ≡ length ys → slice_get ys i ≡ Some y → (x : X) × (slice_get xs i ≡ Some x)
both_there [] [] i y e h = absurd (cc)
both_there [] (z ∷ ys) i y e h = absurd (omega (arith, e))
both_there (x ∷ xs) [] i y e h = absurd (omega (arith, e))
both_there (x ∷ xs) (z ∷ ys) zero y e h = (x, refl)
both_there (x ∷ xs) (z ∷ ys) (suc i) y e h = both_there xs ys i y (omega (arith, e)) h

module _ (n c : ℕ) (vs ws : List ℕ) where
  -- what is left to bring together from the local i on
  abbrev from : ℕ → ConditionsBuilder → ConditionsBuilder
  from i b = put_back (take i b.versions) b (merge n c (drop i vs) (drop i ws) b.lets)

  abbrev Same : ℕ → ConditionsBuilder → Type 0
  Same i b = (slice_get vs i ≡ slice_get b.versions i) × (slice_get ws i ≡ slice_get b.versions i)

  from_ended : (i : ℕ) (b : ConditionsBuilder) → length vs ≤ i → length ws ≤ i → length b.versions ≤ i → from i b ≡ b
  from_ended i b first second end =
      (λ t. put_back (take_all i b.versions end t) b (merge n c (drop_of_length-le vs first t) (drop_of_length-le ws second t) b.lets))
      ∙ ap (λ zs. record b { versions = zs }) (append-nil b.versions)

  -- a local that neither branch changed is left out
  from_passed : (i : ℕ) (b : ConditionsBuilder) → Same i b → (o : Option ℕ) → slice_get b.versions i ≡ o → from (suc i) b ≡ from i b
  from_passed i b h None is =
      let v = h.0 ∙ is in
      let w = h.1 ∙ is in
      (λ t. put_back (take_none b.versions i is t) b (merge n c ((drop_none_next vs i v ∙ sym (drop_none vs i v)) t) ((drop_none_next ws i w ∙ sym (drop_none ws i w)) t) b.lets))
  from_passed i b h (Some u) is =
      let v = h.0 ∙ is in
      let w = h.1 ∙ is in
      let xs = drop (suc i) vs in
      let ys = drop (suc i) ws in
      ap (λ front. put_back front b (merge n c xs ys b.lets)) (take_at b.versions i u is)
      ∙ behind_front (take i b.versions) u b (merge n c xs ys b.lets)
      ∙ ap (put_back (take i b.versions) b) (if_behind (nat_eq u u) _ (behind (n + length b.lets) (merge n c xs ys (b.lets ++ chosen_by c u u ∷ []))) _ (same_itself u) refl)
      ∙ (λ t. put_back (take i b.versions) b (merge n c ((sym (drop_at vs i u v)) t) ((sym (drop_at ws i u w)) t) b.lets))

  from_skipped : (d i j : ℕ) (b : ConditionsBuilder) → j ≡ i + d → ((k : ℕ) → i ≤ k → k < j → Same k b) → from j b ≡ from i b
  from_skipped zero i j b e h = let same : j ≡ i = omega (arith, e) in ap (λ k. from k b) same
  from_skipped (suc d) i j b e h =
      from_skipped d (suc i) j b (omega (arith, e)) (λ k l g. h k (omega (arith, l)) g) ∙ from_passed i b (h i (omega arith) (omega (arith, e))) (slice_get b.versions i) refl

  -- both branches have the name of the local, or one definition chooses between their names
  from_same : (i u v w : ℕ) (b : ConditionsBuilder) → slice_get b.versions i ≡ Some u → slice_get vs i ≡ Some v → slice_get ws i ≡ Some w → nat_eq v w ≡ true →
      from (suc i) (record b { versions = slice_set b.versions i w }) ≡ from i b
  from_same i u v w b is first second same =
      let xs = drop (suc i) vs in
      let ys = drop (suc i) ws in
      ap (λ front. put_back front b (merge n c xs ys b.lets)) (take_set b.versions i u w is)
      ∙ behind_front (take i b.versions) w b (merge n c xs ys b.lets)
      ∙ ap (put_back (take i b.versions) b) (if_behind (nat_eq v w) _ (behind (n + length b.lets) (merge n c xs ys (b.lets ++ chosen_by c v w ∷ []))) _ same refl)
      ∙ (λ t. put_back (take i b.versions) b (merge n c ((sym (drop_at vs i v first)) t) ((sym (drop_at ws i w second)) t) b.lets))

  from_stored : (i u v w : ℕ) (b : ConditionsBuilder) → slice_get b.versions i ≡ Some u → slice_get vs i ≡ Some v → slice_get ws i ≡ Some w → nat_eq v w ≡ false →
      from (suc i) (store n i (chosen_by c v w) b) ≡ from i b
  from_stored i u v w b is first second other =
      let xs = drop (suc i) vs in
      let ys = drop (suc i) ws in
      let lets = b.lets ++ chosen_by c v w ∷ [] in
      ap (λ front. put_back front b (merge n c xs ys lets)) (take_set b.versions i u (fresh n b) is)
      ∙ behind_front (take i b.versions) (fresh n b) b (merge n c xs ys lets)
      ∙ ap (put_back (take i b.versions) b) (if_other (nat_eq v w) (behind w (merge n c xs ys b.lets)) _ _ other refl)
      ∙ (λ t. put_back (take i b.versions) b (merge n c ((sym (drop_at vs i v first)) t) ((sym (drop_at ws i w second)) t) b.lets))

  abbrev stepped : ℕ → ℕ → ℕ → ConditionsBuilder → ConditionsBuilder
  stepped i v w b = if nat_eq v w then record b { versions = slice_set b.versions i w } else store n i (chosen_by c v w) b

  stepped_long : (i v w : ℕ) (b : ConditionsBuilder) → length (stepped i v w b).versions ≡ length b.versions
  stepped_long i v w b = by (nat_eq v w)
    where
      by : (p : Truth) → length (if p then record b { versions = slice_set b.versions i w } else store n i (chosen_by c v w) b).versions ≡ length b.versions
      by true = set_length b.versions i w
      by false = set_length b.versions i (fresh n b)

  stepped_else : (i v w : ℕ) (b : ConditionsBuilder) (k : ℕ) → (i ≡ k → ⊥) → slice_get (stepped i v w b).versions k ≡ slice_get b.versions k
  stepped_else i v w b k h = by (nat_eq v w)
    where
      by : (p : Truth) → slice_get (if p then record b { versions = slice_set b.versions i w } else store n i (chosen_by c v w) b).versions k ≡ slice_get b.versions k
      by true = get_other b.versions i k w h
      by false = get_other b.versions i k (fresh n b) h

  from_stepped : (i : ℕ) (b : ConditionsBuilder) → length vs ≡ length b.versions → length ws ≡ length b.versions → from (suc i) (stepped i (number_at vs i) (number_at ws i) b) ≡ from i b
  from_stepped i b first second = by (slice_get b.versions i) refl
    where
      on : (u v w : ℕ) → slice_get b.versions i ≡ Some u → slice_get vs i ≡ Some v → slice_get ws i ≡ Some w → (p : Truth) → nat_eq v w ≡ p →
          from (suc i) (if p then record b { versions = slice_set b.versions i w } else store n i (chosen_by c v w) b) ≡ from i b
      on u v w is a o true e = from_same i u v w b is a o e
      on u v w is a o false e = from_stored i u v w b is a o e

      by : (o : Option ℕ) → slice_get b.versions i ≡ o → from (suc i) (stepped i (number_at vs i) (number_at ws i) b) ≡ from i b
      by None is =
          let v = both_past vs b.versions i first is in
          let w = both_past ws b.versions i second is in
          (λ t. from (suc i) (stepped i (unwrap_or (v t) 0) (unwrap_or (w t) 0) b))
          ∙ ap (λ zs. from (suc i) (record b { versions = zs })) (set_past b.versions i 0 is)
          ∙ from_passed i b (v ∙ sym is, w ∙ sym is) None is
      by (Some u) is =
          let v = both_there vs b.versions i u first is in
          let w = both_there ws b.versions i u second is in
          let a = v.1 in
          let o = w.1 in
          (λ t. from (suc i) (stepped i (unwrap_or (a t) 0) (unwrap_or (o t) 0) b)) ∙ on u v.0 w.0 is a o (nat_eq v.0 w.0) refl

  -- the choices of the locals from m on bring together what is left from there on
  all_steps : (us : List ℕ) (xs : List BranchedLocal) (m : ℕ) (b : ConditionsBuilder) → Chosen us vs ws m xs → length vs ≡ length b.versions → length ws ≡ length b.versions →
      ((k : ℕ) → m ≤ k → slice_get b.versions k ≡ slice_get us k) → steps_of n c xs b ≡ from m b
  all_steps us [] m b h first second same =
      let end = m + length b.versions in
      sym (from_ended end b (omega (arith, first)) (omega (arith, second)) (omega arith))
      ∙ from_skipped (length b.versions) m end b refl (λ k l g. ((h k l).0 ∙ sym (same k l), (h k l).1 ∙ sym (same k l)))
  all_steps us (x ∷ xs) m b h first second same =
      let i = x.local in
      let v = number_at vs i in
      let w = number_at ws i in
      let low = h.0 in
      let a = h.2 in
      let o = h.3 in
      let long = stepped_long i v w b in
      (λ t. steps_of n c xs (stepped i (a t) (o t) b))
      ∙ all_steps us xs (i + 1) (stepped i v w b) h.4 (first ∙ sym long) (second ∙ sym long)
      (λ k l. stepped_else i v w b k (λ e. absurd (omega (arith, l, e))) ∙ same k (omega (arith, low, l)))
      ∙ rw add-one (from_stepped i b first second)
      ∙ from_skipped (i - m) m i b (omega (arith, low)) (λ k l g. ((h.1 k l g).0 ∙ sym (same k l), (h.1 k l g).1 ∙ sym (same k l)))

  pub merge_done : (b new : ConditionsBuilder) (xs : List BranchedLocal) → new ≡ steps_of n c xs b → Chosen b.versions vs ws 0 xs → length vs ≡ length b.versions → length ws ≡ length b.versions →
      new ≡ with_merged b.path b (merge n c vs ws b.lets)
  merge_done b new xs made h first second = made ∙ all_steps b.versions xs 0 b h first second (λ k l. refl)

pub join_made : (n c path : ℕ) (y b1 b3 : ConditionsBuilder) (name : ℕ) (us vs zs : List ℕ) → b1 ≡ define (f.Bin op.Or (f.Var path) (f.Var y.path)) y → name ≡ fresh n y →
    b3 ≡ with_merged b1.path (record b1 { versions = us }) (merge n c vs b1.versions b1.lets) → vs ≡ zs → record b3 { path = name } ≡ join n c zs path y
join_made n c path y b1 b3 name us vs zs met named made same =
    (λ i. record (made i) { path = named i })
    ∙ ap (λ (z : ConditionsBuilder). with_merged (fresh n y) z (merge n c vs z.versions z.lets)) met
    ∙ ap (λ xs. join n c xs path y) same
