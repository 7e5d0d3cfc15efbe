-- Properties of fractions, values, keys and contents that operations keep: to be anything, to be within the bound, and to be
-- proper.
use Rattle.std.proofs.Common.{◌≡◌, ◌≢◌, arith, ℕ, ℤ, pos, neg_ℤ, Bool, true, Option, Some, None, List, [], ◌∷◌, All, IfSome}
use Rattle.std.proofs.lemmas.List.Elements.{All-nil, All-cons, All-head, All-tail}
use Rattle.std.specs.Int.{int_div_euclid, int_rem_euclid}
use Rattle.std.specs.Prelude.{⊤}
use Rattle.vb_value.specs.Bound.{Bound, Unbounded, Bounded, IfBounded, is_within}
use Rattle.vb_value.specs.Content.{Content, Leaf, Pair, IsWithinContent, IsProperContent}
use Rattle.vb_value.specs.Fraction.{Fraction, IsReduced, IsWithinFraction, IsProperFraction, whole, sum, difference, product, quotient_by, fits_sum, fits_difference, fits_product, fits_quotient_by}
use Rattle.vb_value.specs.Key.{IsWithinPart, IsWithinKey, IsProperPart, IsProperKey}
use Rattle.vb_value.specs.Value.{IsWithinValue, IsProperValue}
use Rattle.vb_value.specs.declared.keys.KeyPart.{KeyPart}
use Rattle.vb_value.specs.declared.values.Value.{Value}
use Rattle.vb_value.specs.declared.values.Value.TheVariants.{Int, Bool as Truth, Ref, Perm}
use Rattle.vb_value.proofs.ProperLaws.{IsReduced-sum, IsReduced-difference, IsReduced-product, proper_whole, proper_negative, proper_quotient_by, negative_within}
use Rattle.vb_value.proofs.RepresentableLaws.{within_from}
use Rattle.viper_state.specs.State.{Key}
use Rattle.viper_meaning.specs.Places.{key_part, in_front, key_of}
use Rattle.viper_meaning.specs.Kept.{IsAny}
use Rattle.viper_meaning.proofs.ResultLaws.{whole_within, sum_within, difference_within, product_within, quotient_within, div_within, mod_within, left_within, right_within}

-- S is what the operations ask of fractions
pub record IsClosed (b : Bound) (F S : Fraction → Type 0) (V : Value → Type 0) (K : Key → Type 0) (C : Content → Type 0) : Type 0 where
  -- a number that fits
  pub int : (n : ℤ) → IfBounded b (is_within n ≡ true) → V (Int n)
  pub truth : (x : Bool) → V (Truth x)
  pub ref : (r : ℕ) → V (Ref r)
  pub perm : (q : Fraction) → F q → V (Perm q)
  pub asked : (q : Fraction) → F q → S q
  pub of_perm : (q : Fraction) → V (Perm q) → F q
  pub negative : (n : ℤ) → V (Int n) → V (Int (neg_ℤ n))
  pub negative_perm : (q : Fraction) → F q → F (record { num = neg_ℤ q.num; den = q.den })
  pub div : (x d : ℤ) → V (Int x) → V (Int d) → d ≢ pos 0 → V (Int (int_div_euclid x d))
  pub rem : (x d : ℤ) → V (Int x) → V (Int d) → d ≢ pos 0 → V (Int (int_rem_euclid x d))
  pub whole : (n : ℤ) → V (Int n) → F (whole n)
  pub sum : (p q : Fraction) → S p → S q → IfBounded b (fits_sum p q ≡ true) → F (sum p q)
  pub difference : (p q : Fraction) → S p → S q → IfBounded b (fits_difference p q ≡ true) → F (difference p q)
  pub product : (p q : Fraction) → S p → S q → IfBounded b (fits_product p q ≡ true) → F (product p q)
  pub quotient : (p : Fraction) (n : ℤ) → F p → n ≢ pos 0 → IfBounded b (fits_quotient_by p n ≡ true) → F (quotient_by p n)
  pub key : (vs : List Value) → All V vs → IfSome (key_of vs) K
  pub leaf : (v : Value) → C (Leaf v) → V v
  pub left : (c d : Content) → C (Pair c d) → C c
  pub right : (c d : Content) → C (Pair c d) → C d

-- ---- anything

pub any_found : {X : Type 0} (o : Option X) → IfSome o IsAny
any_found (Some x) = tt
any_found None = tt

pub any_closed : (b : Bound) → IsClosed b IsAny IsAny IsAny IsAny IsAny
any_closed b = record {
  int = λ n h. tt;
  truth = λ x. tt;
  ref = λ r. tt;
  perm = λ q h. tt;
  asked = λ q h. tt;
  of_perm = λ q h. tt;
  negative = λ n h. tt;
  negative_perm = λ q h. tt;
  div = λ x d h g z. tt;
  rem = λ x d h g z. tt;
  whole = λ n h. tt;
  sum = λ p q h g fits. tt;
  difference = λ p q h g fits. tt;
  product = λ p q h g fits. tt;
  quotient = λ p n h z fits. tt;
  key = λ vs h. any_found (key_of vs);
  leaf = λ v h. tt;
  left = λ c d h. tt;
  right = λ c d h. tt;
}

-- ---- keys

module _ (V : Value → Type 0) (P : KeyPart → Type 0) (part : (v : Value) → V v → IfSome (key_part v) P) where
  front_has : (o : Option KeyPart) (p : Option (List KeyPart)) → IfSome o P → IfSome p (All P) → IfSome (in_front o p) (All P)
  front_has (Some x) (Some xs) h g = All-cons P x xs h g
  front_has (Some x) None h g = tt
  front_has None xs h g = tt

  pub key_has : (vs : List Value) → All V vs → IfSome (key_of vs) (All P)
  key_has [] h = All-nil P
  key_has (v ∷ vs) h = front_has (key_part v) (key_of vs) (part v (All-head V v vs h)) (key_has vs (All-tail V v vs h))

-- ---- within the bound

part_within : (v : Value) → IsWithinValue v → IfSome (key_part v) IsWithinPart
part_within (Int n) h = h
part_within (Truth b) h = tt
part_within (Ref r) h = tt
part_within (Perm q) h = tt

pub within_closed : IsClosed Bounded IsWithinFraction (λ q. ⊤) IsWithinValue IsWithinKey IsWithinContent
within_closed = record {
  int = λ n h. within_from n h;
  truth = λ x. tt;
  ref = λ r. tt;
  perm = λ q h. h;
  asked = λ q h. tt;
  of_perm = λ q h. h;
  negative = negative_within;
  negative_perm = λ q h. record { num = negative_within q.num h.num; den = h.den };
  div = λ x d h g n. div_within x d h;
  rem = λ x d h g n. mod_within x d g n;
  whole = whole_within;
  sum = λ p q h g fits. sum_within p q fits;
  difference = λ p q h g fits. difference_within p q fits;
  product = λ p q h g fits. product_within p q fits;
  quotient = λ p n h z fits. quotient_within p n h fits;
  key = key_has IsWithinValue IsWithinPart part_within;
  leaf = λ v h. h.values;
  left = left_within;
  right = right_within;
}

-- ---- proper

pub if_bounded : {P Q : Type 0} (b : Bound) → (P → Q) → IfBounded b P → IfBounded b Q
if_bounded Unbounded f h = tt
if_bounded Bounded f h = f h

part_proper : (b : Bound) (v : Value) → IsProperValue b v → IfSome (key_part v) (IsProperPart b)
part_proper b (Int n) h = h
part_proper b (Truth x) h = tt
part_proper b (Ref r) h = tt
part_proper b (Perm q) h = tt

-- the nodes of the parts of a content are fewer
fewer_left : (c d : Content) (b : Bound) → IsProperContent b (Pair c d) → IsProperContent b c
fewer_left c d b h = record { small = if_bounded b (λ few. omega (arith, few)) h.small; values = h.values.0 }

fewer_right : (c d : Content) (b : Bound) → IsProperContent b (Pair c d) → IsProperContent b d
fewer_right c d b h = record { small = if_bounded b (λ few. omega (arith, few)) h.small; values = h.values.1 }

pub proper_closed : (b : Bound) → IsClosed b (IsProperFraction b) IsReduced (IsProperValue b) (IsProperKey b) (IsProperContent b)
proper_closed b = record {
  int = λ n h. if_bounded b (within_from n) h;
  truth = λ x. tt;
  ref = λ r. tt;
  perm = λ q h. h;
  asked = λ q h. h.reduced;
  of_perm = λ q h. h;
  negative = λ n h. if_bounded b (negative_within n) h;
  negative_perm = proper_negative b;
  div = λ x d h g n. if_bounded b (div_within x d) h;
  rem = λ x d h g n. if_bounded b (λ w. mod_within x d w n) g;
  whole = proper_whole b;
  sum = λ p q h g fits. record { reduced = IsReduced-sum p q h g; within = if_bounded b (sum_within p q) fits };
  difference = λ p q h g fits. record { reduced = IsReduced-difference p q h g; within = if_bounded b (difference_within p q) fits };
  product = λ p q h g fits. record { reduced = IsReduced-product p q h g; within = if_bounded b (product_within p q) fits };
  quotient = proper_quotient_by b;
  key = key_has (IsProperValue b) (IsProperPart b) (part_proper b);
  leaf = λ v h. h.values;
  left = λ c d h. fewer_left c d b h;
  right = λ c d h. fewer_right c d b h;
}
