-- Fields that are written, and references that are looked for.
use Rattle.std.proofs.Common.{arith, ap, ◌≡◌, ◌∙◌, sym, refl, ℕ, zero, suc, ◌+◌, ◌<◌, ◌≤◌, min, length, drop, Bool, true, false, Option, Some, None, List, [], ◌∷◌, not, slice_get, cond, unwrap_or}
use Rattle.std.specs.Prelude.{⊤, ◌==◌, ◌||◌, if◌then◌else◌}
use Rattle.std.specs.List.{list_any}
use Rattle.std.proofs.Math.Seq.{drop-nil}
use Rattle.std.proofs.lemmas.Bool.{ne_eqb}
use Rattle.std.proofs.lemmas.List.Elements.{All-head, All-tail}
use Rattle.std.proofs.lemmas.Option.{slice_get_within, get_or_from_slice_get}
use Rattle.std.specs.BTreeMap.{is_at}
use Rattle.std.specs.Map.{values_of, lookup}
use Rattle.std.specs.Ordering.{nat_cmp}
use Rattle.lemmas.proofs.Lists.{next_item}
use Rattle.sparse.specs.Map.{Map, get, keys, values}
use Rattle.vb_base.specs.declared.labels.Label.{Label}
use Rattle.vb_base.specs.declared.labels.Kind.TheVariants as kind
use Rattle.vb_base.specs.declared.places.Pos.{Pos}
use Rattle.vb_value.specs.Fraction.{Fraction, write}
use Rattle.vb_value.specs.Value.{fraction_eq, value_eq}
use Rattle.vb_value.specs.declared.values.Ty.{Ty}
use Rattle.vb_value.specs.declared.values.Value.{Value}
use Rattle.vb_value.specs.declared.values.Value.TheVariants as v
use Rattle.viper_state.specs.Greatest.{IsAtMost, AreWithin}
use Rattle.viper_state.specs.Run.{Scene}
use Rattle.viper_state.specs.State.{State, mask_at, with_value, with_mask}
use Rattle.viper_state.specs.Within.{HasValues}
use Rattle.viper_state.proofs.EachLaws.{get_has}
use Rattle.viper_meaning.specs.Ends.{ends, Fails, is, blocks, then_with, found, unless}
use Rattle.viper_meaning.specs.Run as run
use Rattle.viper_meaning.specs.Run.{Run, ended, evaluating, then_do}
use Rattle.viper_meaning.specs.Statements.{Configuration, with_state, with_variable, created, field_written, is_stored, is_fresh}
use Rattle.viper_meaning.proofs.ThenLaws.{goes_then}
use Rattle.viper_eval.specs.Steps.{assumed}
use Rattle.viper_run.specs.Steps.{held_whole}
use Rattle.viper_run.proofs.ChoiceLaws.{value_then_step}

-- ---- writing a field, once it is held whole

module _ {X : Type 0} (x : X) (null less : Label) where
  with_amount : (whole : Bool) → unless (not whole) (ends [] (Fails less)) (is x) ≡ then_with (unless (not whole) (ends [] (Fails less)) (is {X = ⊤} tt)) (λ h. is x)
  with_amount true = refl
  with_amount false = refl

  with_held : (o : Option Fraction) → then_with (found o) (λ held. unless (not (fraction_eq held write)) (ends [] (Fails less)) (is x)) ≡
      then_with (then_with (found o) (λ held. unless (not (fraction_eq held write)) (ends [] (Fails less)) (is {X = ⊤} tt))) (λ h. is x)
  with_held None = refl
  with_held (Some held) = with_whole (fraction_eq held write)
    where
      with_whole : (whole : Bool) → then_with (found (Some held)) (λ q. unless (not whole) (ends [] (Fails less)) (is x)) ≡ then_with (then_with (found (Some held)) (λ q. unless (not whole) (ends [] (Fails less)) (is {X = ⊤} tt))) (λ h. is x)
      with_whole true = refl
      with_whole false = refl

  with_receiver : (is_null : Bool) (o : Option Fraction) → unless is_null (ends [] (Fails null)) (then_with (found o) (λ held. unless (not (fraction_eq held write)) (ends [] (Fails less)) (is x))) ≡
      then_with (unless is_null (ends [] (Fails null)) (then_with (found o) (λ held. unless (not (fraction_eq held write)) (ends [] (Fails less)) (is {X = ⊤} tt)))) (λ h. is x)
  with_receiver true o = refl
  with_receiver false o = with_held o

pub written_is : (sc : Scene) (s : State) (field : ℕ) (at : Pos) (r : ℕ) (v : Value) → field_written sc s field at r v ≡ then_with (held_whole sc s field at r) (λ h. is (with_value s field r v))
written_is sc s field at r v =
    with_receiver (with_value s field r v) (record { at = sc.at; part = at; kind = kind.Null }) (record { at = sc.at; part = at; kind = kind.Perm }) (r == 0) (mask_at s field r)

-- ---- one of several passes a test

module _ {A : Type 0} (p : A → Bool) (xs : List A) (i : ℕ) where
  pub any_here : (a : A) → drop i xs ≡ a ∷ drop (i + 1) xs → p a ≡ true → list_any p (drop i xs) ≡ true
  any_here a here h = ap (list_any p) here ∙ ap (λ b. b || list_any p (drop (i + 1) xs)) h

  pub any_later : (a : A) → drop i xs ≡ a ∷ drop (i + 1) xs → p a ≡ false → list_any p (drop (i + 1) xs) ≡ list_any p (drop i xs)
  any_later a here h = sym (ap (list_any p) here ∙ ap (λ b. b || list_any p (drop (i + 1) xs)) h)

pub key_here : (ks : List ℕ) (i k : ℕ) → slice_get ks i ≡ Some k → drop i ks ≡ k ∷ drop (i + 1) ks
key_here ks i k h = next_item ks i k (slice_get_within ks i k h) (sym (get_or_from_slice_get ks i k k h))

-- past the fields of a state

module _ (r : ℕ) where
  no_heaps : (ms : List (Map ℕ Fraction)) → is_stored r [] ms ≡ false
  no_heaps [] = refl
  no_heaps (m ∷ ms) = refl

  no_masks : (hs : List (Map ℕ Value)) → is_stored r hs [] ≡ false
  no_masks [] = refl
  no_masks (h ∷ hs) = refl

  pub stored_nowhere : (hs : List (Map ℕ Value)) (ms : List (Map ℕ Fraction)) (i : ℕ) → min (length hs) (length ms) ≤ i → is_stored r (drop i hs) (drop i ms) ≡ false
  stored_nowhere [] ms i above = ap (λ hs. is_stored r hs (drop i ms)) (drop-nil i) ∙ no_heaps (drop i ms)
  stored_nowhere (h ∷ hs) [] i above = ap (λ ms. is_stored r (drop i (h ∷ hs)) ms) (drop-nil i) ∙ no_masks (drop i (h ∷ hs))
  stored_nowhere (h ∷ hs) (m ∷ ms) zero above = absurd (omega (arith, above))
  stored_nowhere (h ∷ hs) (m ∷ ms) (suc i) above = stored_nowhere hs ms i (omega (arith, above))

-- ---- a new object

pub created_more : (us : List Ty) (r field : ℕ) (fields : List ℕ) (s : State) → created us r (field ∷ fields) s ≡ then_do (created us r (field ∷ []) s) (created us r fields)
created_more us r field fields s = value_then_step us field (λ v. with_mask (with_value s field r v) field r write) (created us r fields)

-- what goes on where an assumption holds
pub goes_where : {X : Type 0} (b : Bool) (go : Run X) → (if b then go else ended blocks) ≡ evaluating (assumed b) (λ _. go)
goes_where true go = sym (goes_then {X = ⊤} tt (λ _. go))
goes_where false go = refl

-- the variable takes the reference
abbrev pub object_named : ℕ → Configuration → ℕ → State → Run Configuration
object_named x c r s = run.goes (with_variable (with_state c s) x (v.Ref r))

module _ (us : List Ty) (x : ℕ) (fields : List ℕ) (c : Configuration) where
  -- a new object, once its reference is known to be fresh
  abbrev pub object_made : ℕ → Run Configuration
  object_made r = then_do (created us r fields c.state) (object_named x c r)

  abbrev pub object_begun : List ℕ → ℕ → Run Configuration
  object_begun refs r = if is_fresh r refs c then object_made r else ended blocks

-- ---- a value that a map has nowhere is not found at any key

module _ (w : Value) where
  elsewhere : (b t : Bool) (u : Value) (rest : Option Value) (d : Value) → (value_eq u w || t) ≡ false → (t ≡ false → value_eq (unwrap_or rest d) w ≡ false) → value_eq (unwrap_or (cond b (Some u) rest) d) w ≡ false
  elsewhere true t u rest d h later = first (value_eq u w) h
    where
      first : (e : Bool) → (e || t) ≡ false → e ≡ false
      first true h = h
      first false h = refl
  elsewhere false t u rest d h later = later (second (value_eq u w) h)
    where
      second : (e : Bool) → (e || t) ≡ false → t ≡ false
      second true h = absurd (cc)
      second false h = h

  not_looked_up : (test : ℕ → Bool) (es : List (ℕ × Value)) (d : Value) → value_eq d w ≡ false → list_any (λ u. value_eq u w) (values_of es) ≡ false → value_eq (unwrap_or (lookup test es) d) w ≡ false
  not_looked_up test [] d h none = h
  not_looked_up test (e ∷ es) d h none = elsewhere (test e.0) (list_any (λ u. value_eq u w) (values_of es)) e.1 (lookup test es) d none (not_looked_up test es d h)

  pub nowhere : (m : Map ℕ Value) → value_eq m.default w ≡ false → list_any (λ u. value_eq u w) (values m) ≡ false → (ks : List ℕ) → list_any (λ k. value_eq (get nat_cmp m k) w) ks ≡ false
  nowhere m h none [] = refl
  nowhere m h none (k ∷ ks) = ap (λ b. b || list_any (λ q. value_eq (get nat_cmp m q) w) ks) (not_looked_up (is_at (nat_cmp k)) m.entries m.default h none) ∙ nowhere m h none ks

-- ---- a reference above all that stand in the heaps

module _ (r g : ℕ) (above : g < r) where
  apart : (w : Value) → IsAtMost g w → value_eq w (v.Ref r) ≡ false
  apart (v.Int a) h = refl
  apart (v.Bool a) h = refl
  apart (v.Ref a) h = ne_eqb a r (λ e. omega (arith, above, h, e))
  apart (v.Perm a) h = refl

  nowhere_above : (m : Map ℕ Value) → HasValues (IsAtMost g) m → (ks : List ℕ) → list_any (λ k. value_eq (get nat_cmp m k) (v.Ref r)) ks ≡ false
  nowhere_above m h [] = refl
  nowhere_above m h (k ∷ ks) = ap (λ b. b || list_any (λ q. value_eq (get nat_cmp m q) (v.Ref r)) ks) (apart (get nat_cmp m k) (get_has nat_cmp m k h)) ∙ nowhere_above m h ks

  pub stored_above : (hs : List (Map ℕ Value)) (ms : List (Map ℕ Fraction)) → AreWithin g hs → is_stored r hs ms ≡ false
  stored_above [] ms h = no_heaps r ms
  stored_above (x ∷ hs) [] h = refl
  stored_above (x ∷ hs) (y ∷ ms) h =
      ap (λ b. b || is_stored r hs ms) (nowhere_above x (All-head (HasValues (IsAtMost g)) x hs h) (keys y)) ∙ stored_above hs ms (All-tail (HasValues (IsAtMost g)) x hs h)
