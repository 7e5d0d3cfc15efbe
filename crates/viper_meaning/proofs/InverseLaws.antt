-- To produce a body from what it contains is to produce it: the same end, whatever is held.
use Rattle.std.proofs.Common.{◌≡◌, refl, sym, ap, ◌∙◌, subst, ℕ, Bool, true, false, not, Option, Some, None, List, [], ◌∷◌, ◌++◌, ◌==◌, All, IfSome, slice_get, slice_set, if◌then◌else◌}
use Rattle.std.proofs.lemmas.Bool.{true≢false}
use Rattle.std.specs.Option.{option_map}
use Rattle.std.specs.Ordering.{nat_cmp}
use Rattle.std.specs.declared.cmp.Ordering.{Ordering}
use Rattle.viper_meaning.proofs.FoldLaws.{end_after, found_has}
use Rattle.viper_meaning.proofs.EveryLaws.{after_end}
use Rattle.lemmas.proofs.Lists.{set_there}
use Rattle.sparse.specs.Map.{Map, IsReduced, get, set}
use Rattle.sparse.specs.Meaning.{IsExact}
use Rattle.sparse.proofs.MapLaws.{set-get}
use Rattle.vb_base.specs.declared.labels.Kind.TheVariants as kind
use Rattle.vb_base.specs.declared.places.Pos.{Pos}
use Rattle.vb_value.specs.Bound.{Bound}
use Rattle.vb_value.specs.Content.{Content, Unit, Leaf, Pair}
use Rattle.vb_value.specs.Fraction.{Fraction, is_none, is_negative, is_positive, is_above_one}
use Rattle.vb_value.specs.Content.{same_content}
use Rattle.vb_value.specs.Key.{key_cmp}
use Rattle.vb_value.specs.Value.{type_of, same_type, value_eq}
use Rattle.vb_value.proofs.ReducedLaws.{Decides-same_type}
use Rattle.vb_value.specs.declared.values.Value.{Value}
use Rattle.viper_core.specs.Expr as t
use Rattle.viper_core.specs.Plain.{OpensNothing, OpenNothing, AmountOpensNothing, AssertionOpensNothing}
use Rattle.viper_core.specs.declared.exprs.Op.{Op}
use Rattle.viper_core.specs.Written.{IsWritten, HasNoWildcard}
use Rattle.viper_state.specs.Event as event
use Rattle.viper_state.specs.Run.{Scene}
use Rattle.viper_state.specs.State.{Key, State, found_at, changed, changed_at, value_at, mask_at, content_at, amount_at, with_value, with_mask, with_content, with_amount}
use Rattle.vb_value.specs.Layout.{Layout}
use Rattle.viper_state.specs.Fits.{FitsHeap, FitsContents, FitsState}
use Rattle.viper_state.proofs.Paired.{All-found, All-paired}
use Rattle.viper_state.proofs.MapLaws.{exact_values, exact_contents}
use Rattle.viper_meaning.specs.Contents.{contained_at, content_by, content_in}
use Rattle.viper_meaning.specs.Ends.{Evaluated, ends, Is, Fails, Blocked, Over, the_end, after, then_with, found, unless, recorded, fails, blocks, is}
use Rattle.viper_meaning.specs.Operators.{Class, Lazy, Division, Plain, class_of, truth_of, perm_of, ref_of, settled, settled_or, divided, plain, in_class, negative, negation}
use Rattle.viper_meaning.specs.Places.{read_field, key_of, added, unit_of, pair_of, leaf_of, leaf_for, written, contained, fill_leaf, fill_some, fill_place, fill_held, fill_instance}
use Rattle.viper_meaning.specs.Assertions.{more_held, given_to, produce_amount, produce}
use Rattle.viper_meaning.proofs.PartLaws.{some_from_positive, positive_from_some}
use Rattle.viper_meaning.proofs.ContentLaws.{then_has}
use Rattle.viper_meaning.proofs.HeldKeptLaws.{Stays}
use Rattle.viper_meaning.specs.Produced.{IsProduced}
use Rattle.viper_meaning.specs.Run.{Run, ended, goes, before, evaluating, then_do}
use Rattle.viper_meaning.specs.Resource.{Resource, Place, Instance, held_at, with_held, is_null, is_too_much}
use Rattle.viper_meaning.specs.Sat.{Has}
use Rattle.viper_meaning.specs.Value.{as_truth, as_perm, as_ref, value, values, amount_of, perm_in, truth_in, ref_in, key_in, opened}

-- ---- two evaluations have the same value, where both have one

abbrev Same : {X : Type 0} → Evaluated X → Evaluated X → Type 0
Same e f = (x y : _) → Has x e → Has y f → x ≡ y

only : {X : Type 0} (e : Evaluated X) → Same e e
only (ends es (Is z)) x y h g = let one : z ≡ x = cc in let other : z ≡ y = cc in sym one ∙ other
only (ends es (Fails l)) x y h g = cc
only (ends es Blocked) x y h g = cc
only (ends es (Over at)) x y h g = cc

went : {X Y : Type 0} (e : Evaluated X) (go : X → Evaluated Y) (y : Y) → Has y (then_with e go) → (x : X) × (Has x e × Has y (go x))
went (ends es (Is x)) go y h = (x, (refl, after_end es (go x) y h))
went (ends es (Fails l)) go y h = cc
went (ends es Blocked) go y h = cc
went (ends es (Over at)) go y h = cc

same_then : {X Y : Type 0} (e f : Evaluated X) (go to : X → Evaluated Y) → Same e f → ((x : X) → Same (go x) (to x)) → Same (then_with e go) (then_with f to)
same_then e f go to h g x y i j =
    let one = went e go x i in
    let other = went f to y j in
    g one.0 x y one.1.1 (subst (λ z. Has y (to z)) (sym (h one.0 other.0 one.1.0 other.1.0)) other.1.1)

same_if : {X : Type 0} (b : Bool) (e f i j : Evaluated X) → Same e f → Same i j → Same (if b then e else i) (if b then f else j)
same_if true e f i j h g = h
same_if false e f i j h g = g

same_settled : (o : Option Bool) (e f : Evaluated Value) → Same e f → Same (settled_or o e) (settled_or o f)
same_settled (Some c) e f h = only (settled_or (Some c) e)
same_settled None e f h = h

same_class : (c : Class) (b : Bound) (sc : Scene) (o : Op) (l m r n : Evaluated Value) (at : Pos) → Same l m → Same r n → Same (in_class c b sc o l r at) (in_class c b sc o m n at)
same_class Lazy b sc o l m r n at h g = same_then l m _ _ h (λ v. same_then (truth_of v) (truth_of v) _ _ (only (truth_of v)) (λ c. same_settled (settled o c) r n g))
same_class Division b sc o l m r n at h g = same_then l m _ _ h (λ v. same_then r n _ _ g (λ w. only (divided b sc o v w at)))
same_class Plain b sc o l m r n at h g = same_then l m _ _ h (λ v. same_then r n _ _ g (λ w. only (plain b o v w at)))

-- ---- the values of expressions in two states with the same heap

found_is : {X : Type 0} (o : Option X) (x : X) → Has x (found o) → o ≡ Some x
found_is (Some y) x h = let same : y ≡ x = cc in ap Some same
found_is None x h = cc

passed : {X : Type 0} (b : Bool) (sc : Scene) (at : Pos) (k : _) (e : Evaluated X) (x : X) → Has x (unless b (fails sc at k) e) → Has x e
passed true sc at k e x h = cc
passed false sc at k e x h = h

read_value : (sc : Scene) (s : State) (f : ℕ) (at : Pos) (r : ℕ) (x : Value) → Has x (read_field sc s f at r) → value_at s f r ≡ Some x
read_value sc s f at r x h =
    let held = went (found (mask_at s f r)) _ x (passed (r == 0) sc at kind.Null _ x h) in
    found_is (value_at s f r) x (passed (is_none held.0) sc at kind.Perm (found (value_at s f r)) x held.1.1)

module _ (b : Bound) (s u : State) (sc : Scene) (heap : s.heap ≡ u.heap) where
  same_read : (f : ℕ) (at : Pos) (r : ℕ) → Same (read_field sc s f at r) (read_field sc u f at r)
  same_read f at r x y h g =
      let there : Some x ≡ Some y = sym (read_value sc s f at r x h) ∙ ap (λ hs. value_at (record u { heap = hs }) f r) heap ∙ read_value sc u f at r y g in
      cc

  same_value : (e : t.Expr) → OpensNothing e → Same (value b e s sc) (value b e u sc)
  same_value (t.Var x) h = only (value b (t.Var x) s sc)
  same_value (t.Int n) h = only (value b (t.Int n) s sc)
  same_value (t.Bool a) h = only (value b (t.Bool a) s sc)
  same_value t.Null h = only (value b t.Null s sc)
  same_value (t.Part q) h = only (value b (t.Part q) s sc)
  same_value (t.Neg a) h = same_then (value b a s sc) (value b a u sc) negative negative (same_value a h) (λ v. only (negative v))
  same_value (t.Not a) h = same_then (value b a s sc) (value b a u sc) negation negation (same_value a h) (λ v. only (negation v))
  same_value (t.Bin o x y at) h = same_class (class_of o) b sc o (value b x s sc) (value b x u sc) (value b y s sc) (value b y u sc) at (same_value x h.0) (same_value y h.1)
  same_value (t.Choose a x y) h =
      same_then (as_truth (value b a s sc)) (as_truth (value b a u sc)) _ _ (same_then (value b a s sc) (value b a u sc) _ _ (same_value a h.0) (λ v. only (truth_of v))) (λ c. same_if c (value b x s sc) (value b x u sc) (value b y s sc) (value b y u sc) (same_value x h.1) (same_value y h.2))
  same_value (t.Field a f at) h = same_then (as_ref (value b a s sc)) (as_ref (value b a u sc)) _ _ (same_then (value b a s sc) (value b a u sc) _ _ (same_value a h) (λ v. only (ref_of v))) (λ r. same_read f at r)
  same_value (t.Old a) h = only (value b (t.Old a) s sc)
  same_value (t.Unfolding o) h = absurd h

  same_truth : (e : t.Expr) → OpensNothing e → Same (as_truth (value b e s sc)) (as_truth (value b e u sc))
  same_truth e h = same_then (value b e s sc) (value b e u sc) _ _ (same_value e h) (λ v. only (truth_of v))

  same_ref : (e : t.Expr) → OpensNothing e → Same (as_ref (value b e s sc)) (as_ref (value b e u sc))
  same_ref e h = same_then (value b e s sc) (value b e u sc) _ _ (same_value e h) (λ v. only (ref_of v))

  same_perm : (e : t.Expr) → OpensNothing e → Same (as_perm (value b e s sc)) (as_perm (value b e u sc))
  same_perm e h = same_then (value b e s sc) (value b e u sc) _ _ (same_value e h) (λ v. only (perm_of v))

  same_values : (es : t.Exprs) → OpenNothing es → Same (values b es s sc) (values b es u sc)
  same_values t.none h = only (values b t.none s sc)
  same_values (t.more e rest) h =
      same_then (value b e s sc) (value b e u sc) _ _ (same_value e h.0) (λ v. same_then (values b rest s sc) (values b rest u sc) _ _ (same_values rest h.1) (λ vs. only (is (v ∷ vs))))

  -- what was contained there by an amount
  same_amount : (m : t.Amt) (x : Resource) (q : Fraction) (c : Content) → AmountOpensNothing m → Has q (amount_of b m s sc) → Has c (content_by b m u sc x) → Has c (if is_positive q then found (contained_at u x) else is Unit)
  same_amount (t.Is e) x q c h i j =
      let there = went (perm_in b e u sc) (λ q. if is_positive q then found (contained_at u x) else is Unit) c j in
      subst (λ p. Has c (if is_positive p then found (contained_at u x) else is Unit)) (sym (same_perm e h q there.0 i there.1.0)) there.1.1
  same_amount t.Wildcard x q c h i j = cc

-- ---- setting what is there changes nothing

unchanged : {K V : Type 0} {cmp : K → K → Ordering} {eq : V → V → Bool} (x : IsExact cmp eq) (maps : List (Map K V)) (n : ℕ) (k : K) (v : V) → All (IsReduced cmp eq) maps → found_at cmp maps n k ≡ Some v → changed_at cmp eq maps n k v ≡ maps
unchanged {K} {V} {cmp} {eq} x maps n k v reduced e = by (slice_get maps n) refl e (All-found (IsReduced cmp eq) maps n reduced)
  where
    by : (o : Option (Map K V)) → slice_get maps n ≡ o → option_map (λ m. get cmp m k) o ≡ Some v → IfSome o (IsReduced cmp eq) → changed cmp eq maps n k v o ≡ maps
    by (Some m) i f r =
        let same : get cmp m k ≡ v = cc in
        ap (slice_set maps n) (ap (set cmp eq m k) (sym same) ∙ set-get x m r k) ∙ set_there maps n m i
    by None i f r = refl

-- ---- ends

goes_on : {X Y : Type 0} (e : Evaluated X) (go : X → Evaluated Y) (x : X) → Has x e → the_end (then_with e go) ≡ the_end (go x)
goes_on (ends es (Is z)) go x h = let same : z ≡ x = cc in end_after es (go z) ∙ ap (λ y. the_end (go y)) same
goes_on (ends es (Fails l)) go x h = cc
goes_on (ends es Blocked) go x h = cc
goes_on (ends es (Over at)) go x h = cc

alike : {X Y : Type 0} (e : Evaluated X) (go to : X → Evaluated Y) → ((x : X) → Has x e → the_end (go x) ≡ the_end (to x)) → the_end (then_with e go) ≡ the_end (then_with e to)
alike (ends es (Is z)) go to g = end_after es (go z) ∙ g z refl ∙ sym (end_after es (to z))
alike (ends es (Fails l)) go to g = refl
alike (ends es Blocked) go to g = refl
alike (ends es (Over at)) go to g = refl

-- ---- a place or an instance, by an amount

not_positive : (q : Fraction) → is_none q ≡ true → is_positive q ≡ false
not_positive q e = by (is_positive q) refl
  where
    by : (b : Bool) → is_positive q ≡ b → b ≡ false
    by true i = absurd (true≢false (sym e ∙ some_from_positive q i))
    by false i = refl

module _ (b : Bound) (sc : Scene) (k : Fraction) (at : Pos) (s u : State) (heap : s.heap ≡ u.heap) (content : s.content ≡ u.content) (heaps : All (IsReduced nat_cmp value_eq) s.heap) (contents : All (IsReduced key_cmp same_content) s.content) where
  -- the value that is there
  leaf_here : (f r : ℕ) (w : Value) → (r == 0) ≡ false → value_at s f r ≡ Some w → Has w (leaf_for s f r (Leaf w))
  leaf_here f r w n e = rw (n) (then_has (leaf_of (Leaf w)) (λ v. then_with (found (value_at s f r)) (λ old. unless (not (same_type (type_of v) (type_of old))) blocks (recorded (event.Leaf v) (is v)))) refl
      (then_has (found (value_at s f r)) (λ old. unless (not (same_type (type_of w) (type_of old))) blocks (recorded (event.Leaf w) (is w))) (found_has (value_at s f r) w e)
      (subst (λ t. Has w (unless (not t) blocks (recorded (event.Leaf w) (is w)))) (sym ((Decides-same_type (type_of w) (type_of w)).1 refl)) refl)))

  written_here : (f r : ℕ) (w : Value) (held : Fraction) → value_at s f r ≡ Some w → Has s (written s f r w held)
  written_here f r w held e = by (is_none held)
    where
      by : (x : Bool) → Has s (if x then is (with_value s f r w) else then_with (found (value_at s f r)) (λ old. unless (not (value_eq w old)) blocks (is s)))
      by true = ap (λ hs. Is (record s { heap = hs })) (unchanged exact_values s.heap f r w heaps e)
      by false = then_has (found (value_at s f r)) (λ old. unless (not (value_eq w old)) blocks (is s)) (found_has (value_at s f r) w e) (subst (λ t. Has s (unless (not t) blocks (is s))) (sym ((exact_values.values w w).1 refl)) refl)

  contained_here : (p : ℕ) (key : Key) (c : Content) (held : Fraction) → content_at s p key ≡ Some c → Has s (contained s p key c held)
  contained_here p key c held e = by (is_none held)
    where
      by : (x : Bool) → Has s (if x then is (with_content s p key c) else then_with (found (content_at s p key)) (λ old. unless (not (same_content c old)) blocks (is s)))
      by true = ap (λ cs. Is (record s { content = cs })) (unchanged exact_contents s.content p key c contents e)
      by false = then_has (found (content_at s p key)) (λ old. unless (not (same_content c old)) blocks (is s)) (found_has (content_at s p key) c e) (subst (λ t. Has s (unless (not t) blocks (is s))) (sym ((exact_contents.values c c).1 refl)) refl)

  leaf_filled : (f r : ℕ) (q : Fraction) (w : Value) (null : Bool) → (r == 0) ≡ null → value_at s f r ≡ Some w →
      the_end (unless null blocks (then_with (found (mask_at s f r)) (λ held. then_with (added b held k q at) (λ all. unless (is_above_one all) blocks (is (with_mask s f r all)))))) ≡ the_end (fill_some b k f r q (Leaf w) at s)
  leaf_filled f r q w true n e = rw (n) refl
  leaf_filled f r q w false n e =
      alike (found (mask_at s f r)) _ _ (λ held i. sym (goes_on (written s f r w held) (λ t. then_with (added b held k q at) (λ all. unless (is_above_one all) blocks (is (with_mask t f r all)))) s (written_here f r w held e)))
      ∙ sym (goes_on (leaf_for s f r (Leaf w)) (λ v. fill_leaf b k f r q v at s) w (leaf_here f r w n e))

  held_filled : (p : ℕ) (key : Key) (q : Fraction) (c : Content) → content_at s p key ≡ Some c →
      the_end (then_with (found (amount_at s p key)) (λ held. then_with (added b held k q at) (λ all. is (with_amount s p key all)))) ≡ the_end (fill_held b k p key q c at s)
  held_filled p key q c e =
      alike (found (amount_at s p key)) _ _ (λ held i. sym (goes_on (contained s p key c held) (λ t. then_with (added b held k q at) (λ all. is (with_amount t p key all))) s (contained_here p key c held e)))

  place_filled : (f r : ℕ) (q : Fraction) (c : Content) → Has c (found (contained_at u (Place f r))) → the_end (more_held b k (Place f r) at s q) ≡ the_end (fill_some b k f r q c at s)
  place_filled f r q c h = by (value_at u f r) refl (found_is (contained_at u (Place f r)) c h)
    where
      by : (o : Option Value) → value_at u f r ≡ o → option_map Leaf o ≡ Some c → the_end (more_held b k (Place f r) at s q) ≡ the_end (fill_some b k f r q c at s)
      by (Some w) i e =
          let same : Leaf w ≡ c = cc in
          let here : value_at s f r ≡ Some w = ap (λ hs. value_at (record u { heap = hs }) f r) heap ∙ i in
          subst (λ d. the_end (more_held b k (Place f r) at s q) ≡ the_end (fill_some b k f r q d at s)) same (leaf_filled f r q w (r == 0) refl here)
      by None i e = cc

  instance_filled : (p : ℕ) (key : Key) (q : Fraction) (c : Content) → Has c (found (contained_at u (Instance p key))) → the_end (more_held b k (Instance p key) at s q) ≡ the_end (fill_held b k p key q c at s)
  instance_filled p key q c h = held_filled p key q c (ap (λ cs. content_at (record u { content = cs }) p key) content ∙ found_is (content_at u p key) c h)

  -- none takes nothing
  nothing_filled : (x : Resource) (q : Fraction) (c : Content) → Has c (if is_positive q then found (contained_at u x) else is Unit) → is_none q ≡ true → Is s ≡ the_end (then_with (unit_of c) (λ z. is s))
  nothing_filled x q c h e =
      let nothing : Has c (is Unit) = subst (λ t. Has c (if t then found (contained_at u x) else is Unit)) (not_positive q e) h in
      let same : Unit ≡ c = cc in
      subst (λ d. Is s ≡ the_end (then_with (unit_of d) (λ z. is s))) same refl

  some_there : (x : Resource) (q : Fraction) (c : Content) → Has c (if is_positive q then found (contained_at u x) else is Unit) → is_negative q ≡ false → is_none q ≡ false → Has c (found (contained_at u x))
  some_there x q c h n z = subst (λ t. Has c (if t then found (contained_at u x) else is Unit)) (positive_from_some q n z) h

  place_given : (f r : ℕ) (q : Fraction) (c : Content) → Has c (if is_positive q then found (contained_at u (Place f r)) else is Unit) → the_end (given_to b sc k (Place f r) at s q) ≡ the_end (fill_place b sc k f r q c at s)
  place_given f r q c h = signs (is_negative q) (is_none q) refl refl
    where
      signs : (n z : Bool) → is_negative q ≡ n → is_none q ≡ z → the_end (given_to b sc k (Place f r) at s q) ≡ the_end (fill_place b sc k f r q c at s)
      signs true z i e = rw (i) refl
      signs false true i e = rw (i, e) (nothing_filled (Place f r) q c h e)
      signs false false i e = rw (i, e) (place_filled f r q c (some_there (Place f r) q c h i e))

  instance_given : (p : ℕ) (key : Key) (q : Fraction) (c : Content) → Has c (if is_positive q then found (contained_at u (Instance p key)) else is Unit) → the_end (given_to b sc k (Instance p key) at s q) ≡ the_end (fill_instance b sc k p key q c at s)
  instance_given p key q c h = signs (is_negative q) (is_none q) refl refl
    where
      signs : (n z : Bool) → is_negative q ≡ n → is_none q ≡ z → the_end (given_to b sc k (Instance p key) at s q) ≡ the_end (fill_instance b sc k p key q c at s)
      signs true z i e = rw (i) refl
      signs false true i e = rw (i, e) (nothing_filled (Instance p key) q c h e)
      signs false false i e = rw (i, e) (instance_filled p key q c (some_there (Instance p key) q c h i e))

-- ---- what is given changes neither heap nor contents

not_blocked : {X : Type 0} (b : Bool) (e : Evaluated X) (x : X) → Has x (unless b blocks e) → Has x e
not_blocked true e x h = cc
not_blocked false e x h = h

held_stays : (s : State) (x : Resource) (q : Fraction) → Stays s (with_held s x q)
held_stays s (Place f r) q = (refl, refl)
held_stays s (Instance p key) q = (refl, refl)

the_same : {s t : State} → Is s ≡ Is t → Stays s t
the_same {s} {t} e = let same : s ≡ t = cc in subst (Stays s) same (refl, refl)

more_stays : (b : Bound) (k : Fraction) (x : Resource) (at : Pos) (s : State) (q : Fraction) (t : State) → Has t (more_held b k x at s q) → Stays s t
more_stays b k x at s q t h =
    let held = went (found (held_at s x)) _ t (not_blocked (is_null x) _ t h) in
    let all = went (added b held.0 k q at) _ t held.1.1 in
    let last : Is (with_held s x all.0) ≡ Is t = not_blocked (is_too_much x all.0) _ t all.1.1 in
    let same : with_held s x all.0 ≡ t = cc in
    subst (Stays s) same (held_stays s x all.0)

given_stays : (b : Bound) (sc : Scene) (k : Fraction) (x : Resource) (at : Pos) (s : State) (q : Fraction) (t : State) → Has t (given_to b sc k x at s q) → Stays s t
given_stays b sc k x at s q t h = by (is_none q) (passed (is_negative q) sc at kind.Negative _ t h)
  where
    by : (z : Bool) → Has t (if z then is s else more_held b k x at s q) → Stays s t
    by true i = the_same i
    by false i = more_stays b k x at s q t i

-- ---- producing

module _ (s : State) where
  ended_as : (e f : Evaluated State) → the_end e ≡ the_end f → ((t : State) → Has t e → Stays s t) → IsProduced s (ended e) f
  ended_as e f h g = record { evaluated = e; run = refl; same_end = h; keeps = g }

  evaluating_as : {X : Type 0} (e : Evaluated X) (go : X → Run State) (to : X → Evaluated State) → ((x : X) → Has x e → IsProduced s (go x) (to x)) → IsProduced s (evaluating e go) (then_with e to)
  evaluating_as (ends es (Is x)) go to g =
      let h = g x refl in
      record { evaluated = after es h.evaluated; run = ap (before es) h.run; same_end = end_after es h.evaluated ∙ h.same_end ∙ sym (end_after es (to x)); keeps = λ t i. h.keeps t (after_end es h.evaluated t i) }
  evaluating_as (ends es (Fails l)) go to g = ended_as (ends es (Fails l)) (ends es (Fails l)) refl (λ t i. cc)
  evaluating_as (ends es Blocked) go to g = ended_as (ends es Blocked) (ends es Blocked) refl (λ t i. cc)
  evaluating_as (ends es (Over at)) go to g = ended_as (ends es (Over at)) (ends es (Over at)) refl (λ t i. cc)

  -- with what a value makes
  made_as : {X Y : Type 0} (e : Evaluated X) (y : X → Y) (go : Y → Run State) (to : X → Evaluated State) → ((x : X) → Has x e → IsProduced s (go (y x)) (to x)) → IsProduced s (evaluating (then_with e (λ x. is (y x))) go) (then_with e to)
  made_as (ends es (Is x)) y go to g =
      let h = g x refl in
      record { evaluated = after (es ++ []) h.evaluated; run = ap (before (es ++ [])) h.run; same_end = end_after (es ++ []) h.evaluated ∙ h.same_end ∙ sym (end_after es (to x)); keeps = λ t i. h.keeps t (after_end (es ++ []) h.evaluated t i) }
  made_as (ends es (Fails l)) y go to g = ended_as (ends es (Fails l)) (ends es (Fails l)) refl (λ t i. cc)
  made_as (ends es Blocked) y go to g = ended_as (ends es Blocked) (ends es Blocked) refl (λ t i. cc)
  made_as (ends es (Over at)) y go to g = ended_as (ends es (Over at)) (ends es (Over at)) refl (λ t i. cc)

stays_on : (s t w : State) → Stays s t → Stays t w → Stays s w
stays_on s t w h g = (g.0 ∙ h.0, g.1 ∙ h.1)

stopped : (f : Evaluated State) (to : State → Evaluated State) → ((y : State) → the_end f ≡ Is y → ⊥) → the_end (then_with f to) ≡ the_end f
stopped (ends fs (Is y)) to n = absurd (n y refl)
stopped (ends fs (Fails l)) to n = refl
stopped (ends fs Blocked) to n = refl
stopped (ends fs (Over at)) to n = refl

-- one after the other
then_as : (s : State) (e f : Evaluated State) (go : State → Run State) (to : State → Evaluated State) → the_end e ≡ the_end f → ((t : State) → Has t e → Stays s t) → ((t : State) → Has t e → IsProduced t (go t) (to t)) →
    IsProduced s (evaluating e go) (then_with f to)
then_as s (ends es (Is t)) f go to same keeps g =
    let h = g t refl in
    record { evaluated = after es h.evaluated; run = ap (before es) h.run; same_end = end_after es h.evaluated ∙ h.same_end ∙ sym (goes_on f to t (sym same)); keeps = λ w i. stays_on s t w (keeps t refl) (h.keeps w (after_end es h.evaluated w i)) }
then_as s (ends es (Fails l)) f go to same keeps g =
    record { evaluated = ends es (Fails l); run = refl; same_end = same ∙ sym (stopped f to (λ y i. let no : Fails l ≡ Is y = same ∙ i in cc)); keeps = λ w i. cc }
then_as s (ends es Blocked) f go to same keeps g =
    record { evaluated = ends es Blocked; run = refl; same_end = same ∙ sym (stopped f to (λ y i. let no : Blocked ≡ Is y = same ∙ i in cc)); keeps = λ w i. cc }
then_as s (ends es (Over at)) f go to same keeps g =
    record { evaluated = ends es (Over at); run = refl; same_end = same ∙ sym (stopped f to (λ y i. let no : Over at ≡ Is y = same ∙ i in cc)); keeps = λ w i. cc }

then_do_as : (s : State) (r : Run State) (f : Evaluated State) (go : State → Run State) (to : State → Evaluated State) → IsProduced s r f → ((t : State) → Stays s t → IsProduced t (go t) (to t)) → IsProduced s (then_do r go) (then_with f to)
then_do_as s r f go to h g =
    subst (λ x. IsProduced s (then_do x go) (then_with f to)) (sym h.run) (then_as s h.evaluated f go to h.same_end h.keeps (λ t i. g t (h.keeps t i)))

with_end : (s : State) (r : Run State) (e f : Evaluated State) → the_end e ≡ the_end f → IsProduced s r e → IsProduced s r f
with_end s r e f same h = record { evaluated = h.evaluated; run = h.run; same_end = h.same_end ∙ same; keeps = h.keeps }

-- ---- bodies

-- heap and contents of which each map is written in one way
pub record IsPlain (s : State) : Type 0 where
  pub heaps : All (IsReduced nat_cmp value_eq) s.heap
  pub contents : All (IsReduced key_cmp same_content) s.content

plain_stays : (s t : State) → IsPlain s → Stays s t → IsPlain t
plain_stays s t h g = record { heaps = subst (All (IsReduced nat_cmp value_eq)) (sym g.0) h.heaps; contents = subst (All (IsReduced key_cmp same_content)) (sym g.1) h.contents }

module _ (b : Bound) (sc : Scene) (k : Fraction) (u : State) where
  -- nothing is taken
  nothing_end : (s : State) (c : Content) → Has c (is Unit) → Is s ≡ the_end (then_with (unit_of c) (λ z. is s))
  nothing_end s c h = let same : Unit ≡ c = cc in subst (λ d. Is s ≡ the_end (then_with (unit_of d) (λ z. is s))) same refl

  nothing_as : (s : State) (c : Content) → Has c (is Unit) → IsProduced s (ended (is s)) (then_with (unit_of c) (λ z. is s))
  nothing_as s c h =
      let same : Unit ≡ c = cc in
      subst (λ d. IsProduced s (ended (is s)) (then_with (unit_of d) (λ z. is s))) same (ended_as s (is s) (then_with (unit_of Unit) (λ z. is s)) refl (λ t i. the_same i))

  place_as : (m : t.Amt) (f r : ℕ) (at : Pos) (c : Content) (s : State) → IsWritten m → AmountOpensNothing m → Stays u s → IsPlain s → Has c (content_by b m u sc (Place f r)) →
      IsProduced s (produce_amount b m sc k at s (Place f r)) (then_with (amount_of b m s sc) (λ q. fill_place b sc k f r q c at s))
  place_as (t.Is e) f r at c s w o g n h = ended_as s _ _
      (alike (perm_in b e s sc) _ _ (λ q j. place_given b sc k at s u g.0 g.1 n.heaps n.contents f r q c (same_amount b s u sc g.0 (t.Is e) (Place f r) q c o j h)))
      (λ x i. let one = went (perm_in b e s sc) (given_to b sc k (Place f r) at s) x i in given_stays b sc k (Place f r) at s one.0 x one.1.1)
  place_as t.Wildcard f r at c s w o g n h = absurd w

  instance_as : (m : t.Amt) (p : ℕ) (key : Key) (at : Pos) (c : Content) (s : State) → IsWritten m → AmountOpensNothing m → Stays u s → IsPlain s → Has c (content_by b m u sc (Instance p key)) →
      IsProduced s (produce_amount b m sc k at s (Instance p key)) (then_with (amount_of b m s sc) (λ q. fill_instance b sc k p key q c at s))
  instance_as (t.Is e) p key at c s w o g n h = ended_as s _ _
      (alike (perm_in b e s sc) _ _ (λ q j. instance_given b sc k at s u g.0 g.1 n.heaps n.contents p key q c (same_amount b s u sc g.0 (t.Is e) (Instance p key) q c o j h)))
      (λ x i. let one = went (perm_in b e s sc) (given_to b sc k (Instance p key) at s) x i in given_stays b sc k (Instance p key) at s one.0 x one.1.1)
  instance_as t.Wildcard p key at c s w o g n h = absurd w

  same_key : (s : State) (args : t.Exprs) → OpenNothing args → s.heap ≡ u.heap → Same (key_in b args s sc) (key_in b args u sc)
  same_key s args o heap = same_then (values b args s sc) (values b args u sc) _ _ (same_values b s u sc heap args o) (λ vs. only (found (key_of vs)))

  -- what the two states have is the same resource
  resource_same : {Y : Type 0} (s : State) (e f : Evaluated Y) (x : Y → Resource) (m : t.Amt) (c : Content) → Same e f → (y : Y) → Has y e → Has c (then_with (then_with f (λ y. is (x y))) (content_by b m u sc)) → Has c (content_by b m u sc (x y))
  resource_same s e f x m c same y i h =
      let one = went (then_with f (λ y. is (x y))) (content_by b m u sc) c h in
      let two = went f (λ y. is (x y)) one.0 one.1.0 in
      let there : x two.0 ≡ one.0 = cc in
      subst (λ z. Has c (content_by b m u sc z)) (sym there ∙ ap x (sym (same y two.0 i two.1.0))) one.1.1

  -- where a condition decides
  if_as : (s : State) (holds : Bool) (x y : Evaluated Content) (r v : Run State) (e f : Evaluated State) (c : Content) → Has c (if holds then x else y) → (Has c x → IsProduced s r e) → (Has c y → IsProduced s v f) →
      IsProduced s (if holds then r else v) (if holds then e else f)
  if_as s true x y r v e f c h g i = g h
  if_as s false x y r v e f c h g i = i h

  opened_as : (a : t.Assertion) (c : Content) (s : State) → HasNoWildcard a → AssertionOpensNothing a → Stays u s → IsPlain s → Has c (content_in b a u sc) → IsProduced s (produce b a sc k s) (opened b a c s sc k)
  opened_as (t.Fact e at) c s w o g n h = evaluating_fact (truth_in b e s sc)
    where
      evaluating_fact : (x : Evaluated Bool) → IsProduced s (ended (then_with x (λ holds. if holds then is s else blocks))) (then_with x (λ holds. if holds then then_with (unit_of c) (λ z. is s) else blocks))
      evaluating_fact x = ended_as s _ _ (alike x _ _ (λ holds i. by holds)) (λ z i. let one = went x (λ holds. if holds then is s else blocks) z i in stays one.0 z one.1.1)
        where
          by : (holds : Bool) → the_end (if holds then is s else blocks) ≡ the_end (if holds then then_with (unit_of c) (λ z. is s) else blocks)
          by true = nothing_end s c h
          by false = refl

          stays : (holds : Bool) (z : State) → Has z (if holds then is s else blocks) → Stays s z
          stays true z i = the_same i
          stays false z i = cc
  opened_as (t.Acc e f m at) c s w o g n h =
      made_as s (ref_in b e s sc) (λ r. Place f r) (produce_amount b m sc k at s) _ (λ r i. place_as m f r at c s w o.1 g n (resource_same s (ref_in b e s sc) (ref_in b e u sc) (λ r. Place f r) m c (same_ref b s u sc g.0 e o.0) r i h))
  opened_as (t.Inst p args m at) c s w o g n h =
      made_as s (key_in b args s sc) (λ key. Instance p key) (produce_amount b m sc k at s) _ (λ key i. instance_as m p key at c s w o.1 g n (resource_same s (key_in b args s sc) (key_in b args u sc) (λ key. Instance p key) m c (same_key s args o.0 g.0) key i h))
  opened_as (t.And x y) c s w o g n h =
      let one = went (content_in b x u sc) (λ c. then_with (content_in b y u sc) (λ d. is (Pair c d))) c h in
      let two = went (content_in b y u sc) (λ d. is (Pair one.0 d)) c one.1.1 in
      let same : Pair one.0 two.0 ≡ c = cc in
      subst (λ d. IsProduced s (then_do (produce b x sc k s) (produce b y sc k)) (opened b (t.And x y) d s sc k)) same
      (with_end s _ (then_with (opened b x one.0 s sc k) (λ t. opened b y two.0 t sc k)) _ (sym (goes_on (pair_of (Pair one.0 two.0)) (λ parts. then_with (opened b x parts.0 s sc k) (λ t. opened b y parts.1 t sc k)) (one.0, two.0) refl))
      (then_do_as s (produce b x sc k s) (opened b x one.0 s sc k) (produce b y sc k) (λ t. opened b y two.0 t sc k) (opened_as x one.0 s w.0 o.0 g n one.1.0) (λ t i. opened_as y two.0 t w.1 o.1 (stays_on u s t g i) (plain_stays s t n i) two.1.0)))
  opened_as (t.Implies e x) c s w o g n h = evaluating_as s (truth_in b e s sc) _ _ (λ holds i. if_as s holds (content_in b x u sc) (is Unit) (produce b x sc k s) (goes s) (opened b x c s sc k) (then_with (unit_of c) (λ z. is s)) c (side holds i) (opened_as x c s w o.1 g n) (nothing_as s c))
    where
      side : (holds : Bool) → Has holds (truth_in b e s sc) → Has c (if holds then content_in b x u sc else is Unit)
      side holds i =
          let one = went (truth_in b e u sc) (λ holds. if holds then content_in b x u sc else is Unit) c h in
          subst (λ t. Has c (if t then content_in b x u sc else is Unit)) (sym (same_truth b s u sc g.0 e o.0 holds one.0 i one.1.0)) one.1.1
  opened_as (t.ChooseAssertion e x y) c s w o g n h = evaluating_as s (truth_in b e s sc) _ _ (λ holds i. if_as s holds (content_in b x u sc) (content_in b y u sc) (produce b x sc k s) (produce b y sc k s) (opened b x c s sc k) (opened b y c s sc k) c (side holds i) (opened_as x c s w.0 o.1 g n) (opened_as y c s w.1 o.2 g n))
    where
      side : (holds : Bool) → Has holds (truth_in b e s sc) → Has c (if holds then content_in b x u sc else content_in b y u sc)
      side holds i =
          let one = went (truth_in b e u sc) (λ holds. if holds then content_in b x u sc else content_in b y u sc) c h in
          subst (λ t. Has c (if t then content_in b x u sc else content_in b y u sc)) (sym (same_truth b s u sc g.0 e o.0 holds one.0 i one.1.0)) one.1.1

pub opened_is_produced : (b : Bound) (l : Layout) (a : t.Assertion) (c : Content) (s u : State) (sc : Scene) (k : Fraction) → HasNoWildcard a → AssertionOpensNothing a → FitsState l s → s.heap ≡ u.heap → s.content ≡ u.content →
    Has c (content_in b a u sc) → IsProduced s (produce b a sc k s) (opened b a c s sc k)
opened_is_produced b l a c s u sc k w o h heap content i =
    opened_as b sc k u a c s w o (heap, content) (record {
      heaps = All-paired FitsHeap (IsReduced nat_cmp value_eq) (λ y m f. f.reduced) l.fields s.heap h.heap;
      contents = All-paired FitsContents (IsReduced key_cmp same_content) (λ y m f. f.reduced) l.keys s.content h.content;
    }) i
