-- Maps that are coupled: their values, what is put into them, and what stands beside.
use Rattle.std.proofs.Common.{◌≡◌, ◌≢◌, ◌<◌, ℕ, Bool, true, false, List, [], ◌∷◌, Option, Some, None, slice_get, slice_set, inl, inr, refl, sym, ap, subst, ◌∙◌}
use Rattle.std.specs.BTreeMap.{is_at}
use Rattle.std.specs.Option.{option_map}
use Rattle.std.specs.declared.cmp.Ordering.{Ordering}
use Rattle.std.proofs.lemmas.Option.{slice_get_within, same_Some}
use Rattle.sparse.specs.Map.{Map, get, set, IsReduced}
use Rattle.sparse.specs.Meaning.{IsExact}
use Rattle.std.specs.Cmp.{IsTotalOrder, Equal-is}
use Rattle.std.specs.Ordering.{is_eq}
use Rattle.std.proofs.lemmas.Cmp.{tied_itself}
use Rattle.std.proofs.lemmas.Bool.{true≢false}
use Rattle.lemmas.proofs.Numbers.{same_or_not}
use Rattle.sparse.proofs.MapLaws.{IsReduced-set, get-set_same, get-set_other, All-keys-set, All-values-set}
use Rattle.vb_value.specs.Bound.{Bound}
use Rattle.vb_value.specs.Key.{key_cmp}
use Rattle.vb_value.specs.Value.{type_of, IsReducedValue}
use Rattle.vb_value.specs.declared.keys.KeyPart.{KeyPart}
use Rattle.vb_value.specs.declared.values.Ty.{Ty}
use Rattle.vb_value.specs.declared.values.Value.TheVariants as v
use Rattle.vb_value.specs.declared.values.Value.{Value}
use Rattle.vb_value.specs.Content.{Content, IsReducedContent}
use Rattle.vb_value.specs.Fraction.{Fraction, IsReduced as IsLowest}
use Rattle.viper_state.specs.Fits.{FitsKey}
use Rattle.viper_state.specs.State.{State, found_at, changed, changed_at, with_value, with_mask, with_content, with_amount}
use Rattle.viper_state.proofs.MapLaws.{exact_values, exact_masks, exact_amounts, exact_contents}
use Rattle.viper_state.proofs.Paired.{get_set_other, get_set_same}
use Rattle.boogie_meaning.specs.Ends.{then_with, found}
use Rattle.boogie_meaning.specs.Operators.{part_of}
use Rattle.boogie_meaning.specs.Value.{scalar_in, map_in, the_map}
use Rattle.boogie_meaning.proofs.ValueLaws.{exact}
use Rattle.boogie_meaning.proofs.PatternLaws.{set_here, set_there}
use Rattle.boogie_tree.specs.Expr as t
use Rattle.boogie_tree.specs.Value.{Key, BScalar, BValue, Many, Real, Snap, same_scalar}
use Rattle.boogie_tree.specs.Values as b
use Rattle.boogie_meaning.specs.Ends.{Is}
use Rattle.boogie_meaning.specs.Quantified.{bvalue, bkey}
use Rattle.moves.specs.Scalars.{scalar, base_for}
use Rattle.moves.specs.Maps.{instance_key, place_key}
use Rattle.moves.proofs.MapLaws.{scalar_fits, instance_fits}
use Rattle.viper_core.specs.Typing.{Context}
use Rattle.viper_meaning.specs.Places.{key_of, key_part, in_front}
use Rattle.enc_expr.specs.Place as place
use Rattle.enc_expr.specs.Place.{Spot, IsSpot, local_at, Maps, number, AreApart}
use Rattle.enc_expr.specs.Pieces.{index, variables}
use Rattle.enc_expr.specs.Coupling.{Env, MapKind, HasMap, HasMaps, heap_kind, mask_kind, amount_kind, content_kind}
use Rattle.enc_expr.specs.Alike.{AreLocated, none, more}

-- ---- one map, of any kind

-- two keys that count are told apart in Boogie, they fit, and comparing is exact
pub record IsKind {K V : Type 0} (k : MapKind K V) : Type 0 where
  pub exact : IsExact k.cmp k.eq
  pub apart : (a c : K) → k.Counts a → k.Counts c → k.key a ≡ k.key c → a ≡ c
  pub fits : (a : K) → k.Counts a → b.FitsKey k.keys (k.key a)

pub heap_is_kind : (u : Ty) → IsKind (heap_kind u)
heap_is_kind u = record { exact = exact_values; apart = λ a c h g e. cc; fits = λ a h. (refl, tt) }

pub mask_is_kind : IsKind mask_kind
mask_is_kind = record { exact = exact_masks; apart = λ a c h g e. cc; fits = λ a h. (refl, tt) }

instance_apart : (us : List Ty) (a c : Key) → FitsKey us a → FitsKey us c → instance_key a ≡ instance_key c → a ≡ c
instance_apart [] [] [] h g e = refl
instance_apart [] [] (y ∷ c) h g e = absurd g
instance_apart [] (x ∷ a) c h g e = absurd h
instance_apart (u ∷ us) [] c h g e = absurd h
instance_apart (u ∷ us) (x ∷ a) [] h g e = absurd g
instance_apart (u ∷ us) (x ∷ a) (y ∷ c) h g e = e

pub amount_is_kind : (us : List Ty) → IsKind (amount_kind us)
amount_is_kind us = record { exact = exact_amounts; apart = instance_apart us; fits = instance_fits us }

pub content_is_kind : (us : List Ty) → IsKind (content_kind us)
content_is_kind us = record { exact = exact_contents; apart = instance_apart us; fits = instance_fits us }

-- the maps after a change
changed_here : {K V : Type 0} (cmp : K → K → Ordering) (eq : V → V → Bool) (maps : List (Map K V)) (i : ℕ) (a : K) (v : V) (m : Map K V) → slice_get maps i ≡ Some m →
    slice_get (changed_at cmp eq maps i a v) i ≡ Some (set cmp eq m a v)
changed_here cmp eq maps i a v m h = ap (λ o. slice_get (changed cmp eq maps i a v o) i) h ∙ get_set_same maps i m (set cmp eq m a v) h

changed_there : {K V : Type 0} (cmp : K → K → Ordering) (eq : V → V → Bool) (maps : List (Map K V)) (i j : ℕ) (a : K) (v : V) (o : Option (Map K V)) → i ≢ j →
    slice_get (changed cmp eq maps j a v o) i ≡ slice_get maps i
changed_there cmp eq maps i j a v None h = refl
changed_there cmp eq maps i j a v (Some m) h = get_set_other maps j i (set cmp eq m a v) (λ e. h (sym e))

at_itself : {K : Type 0} {cmp : K → K → Ordering} (o : IsTotalOrder cmp) (a : K) → is_at (cmp a) a ≡ true
at_itself o a = ap is_eq (tied_itself o a)

module _ {K V : Type 0} (k : MapKind K V) where
  -- the same map in another list, and in another environment
  map_moved : {n m x : ℕ} {maps others : List (Map K V)} {i : ℕ} {E F : Env} → (x < n → x < m) → slice_get others i ≡ slice_get maps i → slice_get F x ≡ slice_get E x → HasMap k n x maps i E → HasMap k m x others i F
  map_moved grows moved same h = record {
    m = h.m;
    there = moved ∙ h.there;
    tidy = h.tidy;
    below = grows h.below;
    image = h.image;
    here = same ∙ h.here;
    typed = h.typed;
    same = h.same;
    rests = h.rests;
  }

  -- the value of Viper at a key
  pub found_in_map : (n x : ℕ) (maps : List (Map K V)) (i : ℕ) (E : Env) (a : K) (h : HasMap k n x maps i E) → found_at k.cmp maps i a ≡ Some (get k.cmp h.m a)
  found_in_map n x maps i E a h = ap (option_map (λ (m : Map K V). get k.cmp m a)) h.there

  -- the same value is that of Boogie
  pub read_map : (bd : Bound) (n x : ℕ) (maps : List (Map K V)) (i : ℕ) (E : Env) (a : K) (es : t.BExprs) (h : HasMap k n x maps i E) → k.Counts a →
      bkey bd es E ≡ Is (k.key a) → bvalue bd (t.At x es) E ≡ Is (k.code (get k.cmp h.m a))
  read_map bd n x maps i E a es h counts key =
      ap (λ z. then_with z (λ (q : Key). then_with (the_map E x) (λ (m : Map Key BScalar). Is (get key_cmp m q)))) key
      ∙ ap (λ z. then_with (then_with (found z) map_in) (λ (m : Map Key BScalar). Is (get key_cmp m (k.key a)))) h.here ∙ ap (λ (w : BScalar). Is w) (h.same a counts)

  -- a value is put at a key that counts
  pub map_written : IsKind k → (n x : ℕ) (maps : List (Map K V)) (i : ℕ) (E : Env) (a : K) (v : V) (h : HasMap k n x maps i E) → k.Counts a → b.FitsScalar k.base (k.code v) →
      HasMap k n x (changed_at k.cmp k.eq maps i a v) i (slice_set E x (Many (set key_cmp same_scalar h.image (k.key a) (k.code v))))
  map_written z n x maps i E a v h counts fits =
      let key_fits = z.fits a counts in
      let image = set key_cmp same_scalar h.image (k.key a) (k.code v) in
      record {
        m = set k.cmp k.eq h.m a v;
        there = changed_here k.cmp k.eq maps i a v h.m h.there;
        tidy = IsReduced-set z.exact.total h.m h.tidy a v;
        below = h.below;
        image = image;
        here = set_here E x (Many image) (slice_get_within E x (Many h.image) h.here);
        typed = record {
          default = h.typed.default;
          reduced = IsReduced-set exact.total h.image h.typed.reduced (k.key a) (k.code v);
          keys = All-keys-set key_cmp same_scalar h.image (k.key a) (k.code v) (b.FitsKey k.keys) h.typed.keys key_fits;
          values = All-values-set key_cmp same_scalar h.image (k.key a) (k.code v) (b.FitsScalar k.base) h.typed.values fits;
        };
        same = λ c wanted. same_by z h.m h.tidy h.image h.typed.reduced a c v counts wanted (h.same c wanted) (is_at (k.cmp c) a) refl;
        rests = λ j other. subst k.Rests (sym (get-set_other exact h.image h.typed.reduced (k.key a) j (k.code v) (other a counts))) (h.rests j other);
      }
    where
      -- the value at each key that counts
      same_by : IsKind k → (m : Map K V) → IsReduced k.cmp k.eq m → (image : Map Key BScalar) → IsReduced key_cmp same_scalar image → (a c : K) (v : V) → k.Counts a → k.Counts c →
          get key_cmp image (k.key c) ≡ k.code (get k.cmp m c) → (q : Bool) → is_at (k.cmp c) a ≡ q →
          get key_cmp (set key_cmp same_scalar image (k.key a) (k.code v)) (k.key c) ≡ k.code (get k.cmp (set k.cmp k.eq m a v) c)
      same_by z m r image t a c v ha hc h true e =
          let same : c ≡ a = z.exact.keys c a ((Equal-is (k.cmp c a)).0 e) in
          subst (λ d. get key_cmp (set key_cmp same_scalar image (k.key a) (k.code v)) (k.key d) ≡ k.code (get k.cmp (set k.cmp k.eq m a v) d)) (sym same)
          (get-set_same exact image t (k.key a) (k.code v) ∙ ap k.code (sym (get-set_same z.exact m r a v)))
      same_by z m r image t a c v ha hc h false e =
          let other : a ≢ c = λ same. true≢false (sym (at_itself z.exact.total c) ∙ ap (λ d. is_at (k.cmp c) d) (sym same) ∙ e) in
          get-set_other exact image t (k.key a) (k.key c) (k.code v) (λ same. other (z.apart a c ha hc same)) ∙ h ∙ ap k.code (sym (get-set_other z.exact m r a c v other))

  -- another map of the same list, in another local
  pub map_beside : (n x y : ℕ) (maps : List (Map K V)) (i j : ℕ) (E : Env) (a : K) (v : V) (w : BValue) → i ≢ j → x ≢ y → HasMap k n x maps i E → HasMap k n x (changed_at k.cmp k.eq maps j a v) i (slice_set E y w)
  map_beside n x y maps i j E a v w other apart h = map_moved (λ l. l) (changed_there k.cmp k.eq maps i j a v (slice_get maps j) other) (set_there E y x w (λ e. apart (sym e))) h

  -- a map whose local was not changed, where there may be more locals
  pub map_apart : (n m x : ℕ) (maps : List (Map K V)) (i : ℕ) (E F : Env) → (x < n → x < m) → slice_get F x ≡ slice_get E x → HasMap k n x maps i E → HasMap k m x maps i F
  map_apart n m x maps i E F grows same h = map_moved grows refl same h

-- what is so at one element and at the others
pub at_each : {U : Type 0} (us : List U) (P : ℕ → U → Type 0) (i : ℕ) (u : U) → slice_get us i ≡ Some u → P i u → ((j : ℕ) (w : U) → slice_get us j ≡ Some w → i ≢ j → P j w) →
    (j : ℕ) (w : U) → slice_get us j ≡ Some w → P j w
at_each {U} us P i u there here others j w has = elim (same_or_not i j) [
  | inl e ↦ subst (λ j. (w : U) → slice_get us j ≡ Some w → P j w) e (λ w has. subst (P i) (same_Some u w (sym there ∙ has)) here) w has
  | inr n ↦ others j w has n
]

-- ---- a state: one map of the present state is changed at a key

pub same_heap : {f g : ℕ} → place.Heap f ≡ place.Heap g → f ≡ g
same_heap e = cc

pub same_mask : {f g : ℕ} → place.Mask f ≡ place.Mask g → f ≡ g
same_mask e = cc

pub same_amount : {f g : ℕ} → place.Amount f ≡ place.Amount g → f ≡ g
same_amount e = cc

pub same_content : {f g : ℕ} → place.Content f ≡ place.Content g → f ≡ g
same_content e = cc

module _ {P : Spot → Type 0} {O : ℕ → Type 0} (c : Context) (n : ℕ) (m : Maps) (s : State) (E : Env) (own : AreApart P O c.program.layout m) (h : HasMaps c.program.layout n m s E) where
  -- the local of another map
  beside : (i j : Spot) → P i → IsSpot c.program.layout i → IsSpot c.program.layout j → (i ≡ j → ⊥) → (w : BValue) → slice_get (slice_set E (local_at m i) w) (local_at m j) ≡ slice_get E (local_at m j)
  beside i j mine there here other w = set_there E (local_at m i) (local_at m j) w (λ e. other (own.apart i j mine there here e))

  pub value_written : (f : ℕ) (u : Ty) (r : ℕ) (v : Value) (there : slice_get c.program.layout.fields f ≡ Some u) → P (place.Heap f) → type_of v ≡ u → IsReducedValue v →
      HasMaps c.program.layout n m (with_value s f r v) (slice_set E (number m.heap f) (Many (set key_cmp same_scalar (h.heap f u there).image (place_key r) (scalar v))))
  value_written f u r v there mine typed reduced =
      let old = h.heap f u there in let i = number m.heap f in let w = Many (set key_cmp same_scalar old.image (place_key r) (scalar v)) in
      let F = slice_set E i w in let new = with_value s f r v in let at = place.Heap f in
      let exists = slice_get_within c.program.layout.fields f u there in
      record {
        heap = at_each c.program.layout.fields (λ (g : ℕ) (y : Ty). HasMap (heap_kind y) n (number m.heap g) new.heap g F) f u there
            (map_written (heap_kind u) (heap_is_kind u) n i s.heap f E r v old tt (subst (λ w. b.FitsScalar (base_for w) (scalar v)) typed (scalar_fits v reduced)))
            (λ g y has other. map_beside (heap_kind y) n (number m.heap g) i s.heap g f E r v w (λ e. other (sym e))
            (λ e. other (same_heap (own.apart at (place.Heap g) mine exists (slice_get_within c.program.layout.fields g y has) (sym e)))) (h.heap g y has));
        mask = λ g y has. map_apart mask_kind n n (number m.mask g) s.mask g E F (λ l. l) (beside at (place.Mask g) mine exists (slice_get_within c.program.layout.fields g y has) (λ e. cc) w) (h.mask g y has);
        amount = λ g ys has. map_apart (amount_kind ys) n n (number m.amount g) s.amount g E F (λ l. l) (beside at (place.Amount g) mine exists (slice_get_within c.program.layout.keys g ys has) (λ e. cc) w) (h.amount g ys has);
        content = λ g ys has. map_apart (content_kind ys) n n (number m.content g) s.content g E F (λ l. l) (beside at (place.Content g) mine exists (slice_get_within c.program.layout.keys g ys has) (λ e. cc) w) (h.content g ys has);
      }

  pub mask_written : (f : ℕ) (u : Ty) (r : ℕ) (q : Fraction) (there : slice_get c.program.layout.fields f ≡ Some u) → P (place.Mask f) → IsLowest q →
      HasMaps c.program.layout n m (with_mask s f r q) (slice_set E (number m.mask f) (Many (set key_cmp same_scalar (h.mask f u there).image (place_key r) (Real q))))
  mask_written f u r q there mine reduced =
      let old = h.mask f u there in let i = number m.mask f in let w = Many (set key_cmp same_scalar old.image (place_key r) (Real q)) in
      let F = slice_set E i w in let new = with_mask s f r q in let at = place.Mask f in
      let exists = slice_get_within c.program.layout.fields f u there in
      record {
        heap = λ g y has. map_apart (heap_kind y) n n (number m.heap g) s.heap g E F (λ l. l) (beside at (place.Heap g) mine exists (slice_get_within c.program.layout.fields g y has) (λ e. cc) w) (h.heap g y has);
        mask = at_each c.program.layout.fields (λ (g : ℕ) (y : Ty). HasMap mask_kind n (number m.mask g) new.mask g F) f u there
            (map_written mask_kind mask_is_kind n i s.mask f E r q old tt (record { typed = refl; reduced = reduced }))
            (λ g y has other. map_beside mask_kind n (number m.mask g) i s.mask g f E r q w (λ e. other (sym e))
            (λ e. other (same_mask (own.apart at (place.Mask g) mine exists (slice_get_within c.program.layout.fields g y has) (sym e)))) (h.mask g y has));
        amount = λ g ys has. map_apart (amount_kind ys) n n (number m.amount g) s.amount g E F (λ l. l) (beside at (place.Amount g) mine exists (slice_get_within c.program.layout.keys g ys has) (λ e. cc) w) (h.amount g ys has);
        content = λ g ys has. map_apart (content_kind ys) n n (number m.content g) s.content g E F (λ l. l) (beside at (place.Content g) mine exists (slice_get_within c.program.layout.keys g ys has) (λ e. cc) w) (h.content g ys has);
      }

  pub amount_written : (q : ℕ) (us : List Ty) (a : Key) (x : Fraction) (there : slice_get c.program.layout.keys q ≡ Some us) → P (place.Amount q) → FitsKey us a → IsLowest x →
      HasMaps c.program.layout n m (with_amount s q a x) (slice_set E (number m.amount q) (Many (set key_cmp same_scalar (h.amount q us there).image (instance_key a) (Real x))))
  amount_written q us a x there mine fits reduced =
      let old = h.amount q us there in let i = number m.amount q in let w = Many (set key_cmp same_scalar old.image (instance_key a) (Real x)) in
      let F = slice_set E i w in let new = with_amount s q a x in let at = place.Amount q in
      let exists = slice_get_within c.program.layout.keys q us there in
      record {
        heap = λ g y has. map_apart (heap_kind y) n n (number m.heap g) s.heap g E F (λ l. l) (beside at (place.Heap g) mine exists (slice_get_within c.program.layout.fields g y has) (λ e. cc) w) (h.heap g y has);
        mask = λ g y has. map_apart mask_kind n n (number m.mask g) s.mask g E F (λ l. l) (beside at (place.Mask g) mine exists (slice_get_within c.program.layout.fields g y has) (λ e. cc) w) (h.mask g y has);
        amount = at_each c.program.layout.keys (λ (g : ℕ) (ys : List Ty). HasMap (amount_kind ys) n (number m.amount g) new.amount g F) q us there
            (map_written (amount_kind us) (amount_is_kind us) n i s.amount q E a x old fits (record { typed = refl; reduced = reduced }))
            (λ g ys has other. map_beside (amount_kind ys) n (number m.amount g) i s.amount g q E a x w (λ e. other (sym e))
            (λ e. other (same_amount (own.apart at (place.Amount g) mine exists (slice_get_within c.program.layout.keys g ys has) (sym e)))) (h.amount g ys has));
        content = λ g ys has. map_apart (content_kind ys) n n (number m.content g) s.content g E F (λ l. l) (beside at (place.Content g) mine exists (slice_get_within c.program.layout.keys g ys has) (λ e. cc) w) (h.content g ys has);
      }

  pub content_written : (q : ℕ) (us : List Ty) (a : Key) (d : Content) (there : slice_get c.program.layout.keys q ≡ Some us) → P (place.Content q) → FitsKey us a → IsReducedContent d →
      HasMaps c.program.layout n m (with_content s q a d) (slice_set E (number m.content q) (Many (set key_cmp same_scalar (h.content q us there).image (instance_key a) (Snap d))))
  content_written q us a d there mine fits reduced =
      let old = h.content q us there in let i = number m.content q in let w = Many (set key_cmp same_scalar old.image (instance_key a) (Snap d)) in
      let F = slice_set E i w in let new = with_content s q a d in let at = place.Content q in
      let exists = slice_get_within c.program.layout.keys q us there in
      record {
        heap = λ g y has. map_apart (heap_kind y) n n (number m.heap g) s.heap g E F (λ l. l) (beside at (place.Heap g) mine exists (slice_get_within c.program.layout.fields g y has) (λ e. cc) w) (h.heap g y has);
        mask = λ g y has. map_apart mask_kind n n (number m.mask g) s.mask g E F (λ l. l) (beside at (place.Mask g) mine exists (slice_get_within c.program.layout.fields g y has) (λ e. cc) w) (h.mask g y has);
        amount = λ g ys has. map_apart (amount_kind ys) n n (number m.amount g) s.amount g E F (λ l. l) (beside at (place.Amount g) mine exists (slice_get_within c.program.layout.keys g ys has) (λ e. cc) w) (h.amount g ys has);
        content = at_each c.program.layout.keys (λ (g : ℕ) (ys : List Ty). HasMap (content_kind ys) n (number m.content g) new.content g F) q us there
            (map_written (content_kind us) (content_is_kind us) n i s.content q E a d old fits (record { typed = refl; reduced = reduced }))
            (λ g ys has other. map_beside (content_kind ys) n (number m.content g) i s.content g q E a d w (λ e. other (sym e))
            (λ e. other (same_content (own.apart at (place.Content g) mine exists (slice_get_within c.program.layout.keys g ys has) (sym e)))) (h.content g ys has));
      }

-- ---- indices of instances

-- the parts of a key
pub record IsFront (p : Option KeyPart) (o : Option Key) (a : Key) : Type 0 where
  pub first_part : KeyPart
  pub others : Key
  pub first_is : p ≡ Some first_part
  pub others_are : o ≡ Some others
  pub whole : a ≡ first_part ∷ others

pub front_of : (p : Option KeyPart) (o : Option Key) (a : Key) → Some a ≡ in_front p o → IsFront p o a
front_of (Some x) (Some k) a h = record { first_part = x; others = k; first_is = refl; others_are = refl; whole = same_Some _ _ h }
front_of (Some x) None a h = absurd cc
front_of None o a h = absurd cc

pub part_there : (v : Value) (x : KeyPart) → key_part v ≡ Some x → part_of (scalar v) ≡ Is x
part_there (v.Int n) x h = ap (λ (x : KeyPart). Is x) (same_Some _ _ h)
part_there (v.Bool q) x h = ap (λ (x : KeyPart). Is x) (same_Some _ _ h)
part_there (v.Ref r) x h = ap (λ (x : KeyPart). Is x) (same_Some _ _ h)
part_there (v.Perm q) x h = absurd cc

variables_key : (bd : Bound) (n : ℕ) (E : Env) (is : List ℕ) (vs : List Value) (a : Key) → AreLocated n E is vs → Some a ≡ key_of vs → bkey bd (variables is) E ≡ Is a
variables_key bd n E [] [] a none key = ap (λ (x : Key). Is x) (sym (same_Some _ _ key))
variables_key bd n E [] (v ∷ vs) a h key = elim h [ ]
variables_key bd n E (i ∷ is) [] a h key = elim h [ ]
variables_key bd n E (i ∷ is) (v ∷ vs) a (more below here rest) key =
    let f = front_of (key_part v) (key_of vs) a key in
    ap (λ z. then_with (then_with (found z) scalar_in) (λ w. then_with (part_of w) (λ p. then_with (bkey bd (variables is) E) (λ k. Is (p ∷ k))))) here
    ∙ ap (λ z. then_with z (λ p. then_with (bkey bd (variables is) E) (λ k. Is (p ∷ k)))) (part_there v f.first_part f.first_is)
    ∙ ap (λ z. then_with z (λ k. Is (f.first_part ∷ k))) (variables_key bd n E is vs f.others rest (sym f.others_are))
    ∙ ap (λ (x : Key). Is x) (sym f.whole)

-- the index of the locals that hold the arguments is the key of the instance
pub index_key : (bd : Bound) (n : ℕ) (E : Env) (is : List ℕ) (vs : List Value) (a : Key) → AreLocated n E is vs → Some a ≡ key_of vs → bkey bd (index is) E ≡ Is (instance_key a)
index_key bd n E [] [] a none key = ap (λ (x : Key). Is (instance_key x)) (sym (same_Some _ _ key))
index_key bd n E [] (v ∷ vs) a h key = elim h [ ]
index_key bd n E (i ∷ is) [] a h key = elim h [ ]
index_key bd n E (i ∷ is) (v ∷ vs) a (more below here rest) key =
    let f = front_of (key_part v) (key_of vs) a key in
    variables_key bd n E (i ∷ is) (v ∷ vs) a (more below here rest) key ∙ ap (λ (x : Key). Is x) (f.whole ∙ ap (λ (x : Key). instance_key x) (sym f.whole))
