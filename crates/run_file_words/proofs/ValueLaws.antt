-- What a word spells is what is read of it.
use Rattle.std.proofs.Common.{◌≡◌, ◌≢◌, ◌∙◌, ◌+◌, ◌-◌, ◌<◌, ◌^◌, ◌==◌, ℕ, zero, suc, ℤ, pos, neg_ℤ, unsigned_abs, Bool, true, false, not, cond, ◌&&◌, if◌then◌else◌, List, [], ◌∷◌, ◌++◌, length, get_or, take, drop, Option, Some, None, IsTrue, refl, sym, ap, subst, arith}
use Rattle.std.specs.Prelude.{codes}
use Rattle.std.specs.Bool.{Decides}
use Rattle.std.specs.Char.{is_ascii_digit}
use Rattle.std.specs.List.{list_all, prefix_len, before_first, after_first, position_or_len}
use Rattle.std.specs.Option.{option_map}
use Rattle.std.proofs.lemmas.Bool.{and_parts, and_from, eqb-true, cond-true, lt-ltb}
use Rattle.std.proofs.lemmas.Option.{cond_some}
use Rattle.std.proofs.lemmas.List.Sums.{split_at_first, prefix_len_stops}
use Rattle.std.specs.Ordering.{int_eq}
use Rattle.vb_value.specs.Bound.{is_within}
use Rattle.std.proofs.lemmas.Bool.Decides.{nat_tests, Decides-int_eq}
use Rattle.std.proofs.lemmas.List.{take_at, drop_at, take_rest, drop-drop, drop_all, length-drop}
use Rattle.std.proofs.lemmas.Slice.Eq.{bytes_eq-Decides}
use Rattle.lemmas.proofs.Tests.{true_from_not, not_both, refuted}
use Rattle.lemmas.proofs.Options.{some_same}
use Rattle.vb_base.proofs.RowLaws.{prefix_len-append}
use Rattle.vb_value.specs.Fraction.{Fraction, fits_ratio, ratio, reduced}
use Rattle.vb_value.specs.declared.values.Ty.{Ty}
use Rattle.vb_value.specs.declared.values.Ty.TheVariants as ty
use Rattle.vb_value.specs.declared.values.Value.{Value}
use Rattle.vb_value.specs.declared.values.Value.TheVariants.{Int, Bool as Truth, Ref, Perm}
use Rattle.run_file_words.specs.Values as v
use Rattle.run_file_words.specs.Values.{SpellsBelow, SpellsInt, SpellsValue}
use Rattle.run_file_words.specs.Reading.{magnitude, numbered, integer, truth, reference, fraction, fraction_of, value_of}
use Rattle.run_file_words.proofs.NumberLaws.{number_spelled, spelled_number}

-- ---- numbers

pub magnitude_spelled : {word : List ℕ} {n : ℕ} → SpellsBelow (2 ^ 127) word n → magnitude word ≡ Some n
unfolding magnitude
magnitude_spelled h = number_spelled h

pub spelled_magnitude : (word : List ℕ) (n : ℕ) → magnitude word ≡ Some n → SpellsBelow (2 ^ 127) word n
unfolding magnitude
spelled_magnitude word n e = spelled_number (2 ^ 127) n word e

pub no_digits : magnitude [] ≡ None
unfolding magnitude
no_digits = refl

-- a byte that is a digit is no other one
digit_is_not : (b k : ℕ) → is_ascii_digit b ≡ true → (k < 48) → (b == k) ≡ false
digit_is_not b k is low = grind (arith, nat_tests)

pub first_digit : (b : ℕ) (bs : List ℕ) → IsTrue (list_all is_ascii_digit (b ∷ bs)) → is_ascii_digit b ≡ true
first_digit b bs all = (and_parts (is_ascii_digit b) (list_all is_ascii_digit bs) all).0

plain_integer : (word : List ℕ) (n : ℕ) → SpellsBelow (2 ^ 127) word n → integer word ≡ Some (pos n)
plain_integer [] n h = absurd (omega (arith, h.some))
plain_integer (b ∷ bs) n h = rw (digit_is_not b 45 (first_digit b bs h.digits) (omega arith)) (ap (option_map pos) (magnitude_spelled h))

pub integer_spelled : {word : List ℕ} {n : ℤ} → SpellsInt word n → integer word ≡ Some n
integer_spelled (v.plain {word = word} {n = n} h) = plain_integer word n h
integer_spelled (v.negative h) = ap (option_map (λ n. neg_ℤ (pos n))) (magnitude_spelled h)

pub mapped_some : {A B P : Type 0} (f : A → B) (o : Option A) (y : B) → option_map f o ≡ Some y → ((x : A) → o ≡ Some x → f x ≡ y → P) → P
mapped_some f None y e go = absurd cc
mapped_some f (Some x) y e go = go x refl cc

spelled_integer_by : (b : ℕ) (bs : List ℕ) (t : Bool) (n : ℤ) → (b == 45) ≡ t →
    cond t (option_map (λ n. neg_ℤ (pos n)) (magnitude bs)) (option_map pos (magnitude (b ∷ bs))) ≡ Some n → SpellsInt (b ∷ bs) n
spelled_integer_by b bs true n is e =
    mapped_some (λ n. neg_ℤ (pos n)) (magnitude bs) n e (λ k same value. subst (λ c. SpellsInt (c ∷ bs) n) (sym (eqb-true b 45 is)) (subst (λ z. SpellsInt (45 ∷ bs) z) value (v.negative (spelled_magnitude bs k same))))
spelled_integer_by b bs false n is e =
    mapped_some pos (magnitude (b ∷ bs)) n e (λ k same value. subst (λ z. SpellsInt (b ∷ bs) z) value (v.plain (spelled_magnitude (b ∷ bs) k same)))

pub spelled_integer : (word : List ℕ) (n : ℤ) → integer word ≡ Some n → SpellsInt word n
spelled_integer [] n e = mapped_some pos (magnitude []) n e (λ k same value. subst (λ z. SpellsInt [] z) value (v.plain (spelled_magnitude [] k same)))
spelled_integer (b ∷ bs) n e = spelled_integer_by b bs (b == 45) n refl e

-- ---- truth values and references

spelled_truth_by : (word : List ℕ) (s t : Bool) (b : Bool) → Decides s (word ≡ codes "true") → Decides t (word ≡ codes "false") →
    cond s (Some true) (cond t (Some false) None) ≡ Some b → SpellsValue ty.Bool word (Truth b)
spelled_truth_by word true t b d f e = subst (λ w. SpellsValue ty.Bool w (Truth b)) (sym (d.0 refl)) (subst (λ x. SpellsValue ty.Bool (codes "true") (Truth x)) (some_same e) v.truth)
spelled_truth_by word false true b d f e = subst (λ w. SpellsValue ty.Bool w (Truth b)) (sym (f.0 refl)) (subst (λ x. SpellsValue ty.Bool (codes "false") (Truth x)) (some_same e) v.falsehood)
spelled_truth_by word false false b d f e = absurd cc

pub spelled_truth : (word : List ℕ) (b : Bool) → truth word ≡ Some b → SpellsValue ty.Bool word (Truth b)
spelled_truth word b e = spelled_truth_by word _ _ b (bytes_eq-Decides word (codes "true")) (bytes_eq-Decides word (codes "false")) e

numbered_spelled : {word : List ℕ} {n : ℕ} → SpellsBelow (2 ^ 64) word n → numbered word ≡ Some n
unfolding numbered
numbered_spelled h = number_spelled h

spelled_numbered : (word : List ℕ) (n : ℕ) → numbered word ≡ Some n → SpellsBelow (2 ^ 64) word n
unfolding numbered
spelled_numbered word n e = spelled_number (2 ^ 64) n word e

spelled_reference_by : (b : ℕ) (bs : List ℕ) (s t : Bool) (r : ℕ) → Decides s (b ∷ bs ≡ codes "null") → (b == 35) ≡ t →
    cond s (Some 0) (cond t (numbered bs) None) ≡ Some r → SpellsValue ty.Ref (b ∷ bs) (Ref r)
spelled_reference_by b bs true t r d is e = subst (λ w. SpellsValue ty.Ref w (Ref r)) (sym (d.0 refl)) (subst (λ x. SpellsValue ty.Ref (codes "null") (Ref x)) (some_same e) v.null)
spelled_reference_by b bs false true r d is e = subst (λ c. SpellsValue ty.Ref (c ∷ bs) (Ref r)) (sym (eqb-true b 35 is)) (v.reference (spelled_numbered bs r e))
spelled_reference_by b bs false false r d is e = absurd cc

pub spelled_reference : (word : List ℕ) (r : ℕ) → reference word ≡ Some r → SpellsValue ty.Ref word (Ref r)
spelled_reference [] r e = absurd cc
spelled_reference (b ∷ bs) r e = spelled_reference_by b bs _ (b == 35) r (bytes_eq-Decides (b ∷ bs) (codes "null")) refl e

-- ---- fractions

-- how a word is cut at its first `/`
pub fraction_is : (word front rest : List ℕ) → front ≡ take (prefix_len (λ b. not (b == 47)) word) word → rest ≡ drop (prefix_len (λ b. not (b == 47)) word) word →
    fraction word ≡ fraction_of (integer front) (magnitude (take (length rest - 1) (drop 1 rest)))
fraction_is word front rest a b =
    rw (take_rest rest 1, a, b, drop-drop 1 (prefix_len (λ b. not (b == 47)) word) word) refl

no_second : (o : Option ℤ) → fraction_of o None ≡ None
no_second None = refl
no_second (Some n) = refl

pub no_fraction : (word rest : List ℕ) → rest ≡ drop (prefix_len (λ b. not (b == 47)) word) word → length rest < 1 → fraction word ≡ None
no_fraction word rest b short =
    let n = prefix_len (λ b. not (b == 47)) word in
    let empty : drop (n + 1) word ≡ [] = drop_all (n + 1) word (omega (arith, short, ap length b, length-drop n word)) in
    rw (empty, no_digits) (no_second (integer (take n word)))

pub fraction_made : (o : Option ℤ) (m : Option ℕ) (n d : ℤ) → Some n ≡ o → Some d ≡ option_map pos m → fraction_of o m ≡ (if fits_ratio n d then Some (ratio n d) else None)
fraction_made o None n d a b = absurd cc
fraction_made None (Some k) n d a b = absurd cc
fraction_made (Some z) (Some k) n d a b =
    ap (λ x. if fits_ratio x (pos k) then Some (ratio x (pos k)) else None) (some_same (sym a)) ∙ ap (λ y. if fits_ratio n y then Some (ratio n y) else None) (some_same (sym b))

pub fraction_failed : (o : Option ℤ) (m : Option ℕ) → None ≡ option_map pos m → fraction_of o m ≡ None
fraction_failed o None e = no_second o
fraction_failed o (Some k) e = absurd cc

-- ---- words without a `/`

pub no_slash_by : (b : ℕ) (bs : List ℕ) → (b == 47) ≡ false → list_all (λ c. not (c == 47)) bs ≡ true → list_all (λ c. not (c == 47)) (b ∷ bs) ≡ true
no_slash_by b bs is rest = and_from (not (b == 47)) _ (ap not is) rest

pub digits_no_slash : (ds : List ℕ) → list_all is_ascii_digit ds ≡ true → list_all (λ b. not (b == 47)) ds ≡ true
digits_no_slash [] all = refl
digits_no_slash (b ∷ bs) all =
    let parts = and_parts (is_ascii_digit b) (list_all is_ascii_digit bs) all in
    no_slash_by b bs (digit_is_not b 47 parts.0 (omega arith)) (digits_no_slash bs parts.1)

pub integer_no_slash : {word : List ℕ} {n : ℤ} → SpellsInt word n → list_all (λ b. not (b == 47)) word ≡ true
integer_no_slash (v.plain {word = word} h) = digits_no_slash word h.digits
integer_no_slash (v.negative {digits = digits} h) = no_slash_by 45 digits refl (digits_no_slash digits h.digits)

-- a word with one `/` is cut there
cut_at_slash : (num den : List ℕ) → list_all (λ b. not (b == 47)) num ≡ true → fraction (num ++ 47 ∷ den) ≡ fraction_of (integer num) (magnitude den)
cut_at_slash num den none =
    let word = num ++ 47 ∷ den in
    let at : prefix_len (λ b. not (b == 47)) word ≡ length num = prefix_len-append (λ b. not (b == 47)) num (47 ∷ den) none refl in
    let front : take (length num) word ≡ num = take_at num (47 ∷ den) (length num) refl in
    let back : drop (length num + 1) word ≡ den = sym (drop-drop 1 (length num) word) ∙ ap (drop 1) (drop_at num (47 ∷ den) (length num) refl) in
    rw (at, front, back) refl

abs_neg : (n : ℕ) → unsigned_abs (neg_ℤ (pos n)) ≡ n
abs_neg zero = refl
abs_neg (suc n) = refl

integer_within : {word : List ℕ} {n : ℤ} → SpellsInt word n → is_within n ≡ true
integer_within (v.plain {n = n} h) = lt-ltb n (2 ^ 127) h.small
integer_within (v.negative {n = n} h) = rw (abs_neg n) (lt-ltb n (2 ^ 127) h.small)

same_pos : {a b : ℕ} → pos a ≡ pos b → a ≡ b
same_pos e = cc

not_zero : (d : ℕ) → d ≢ 0 → not (int_eq (pos d) (pos 0)) ≡ true
not_zero d h = ap not (refuted (int_eq (pos d) (pos 0)) (Decides-int_eq (pos d) (pos 0)) (λ e. h (same_pos e)))

pub ratio_fits : {num den : List ℕ} {n : ℤ} {d : ℕ} → SpellsInt num n → SpellsBelow (2 ^ 127) den d → d ≢ 0 → fits_ratio n (pos d) ≡ true
ratio_fits {n = n} {d = d} h k positive = and_from _ _ (and_from (is_within n) (is_within (pos d)) (integer_within h) (lt-ltb d (2 ^ 127) k.small)) (not_zero d positive)

fraction_spelled : {num den : List ℕ} {n : ℤ} {d : ℕ} → SpellsInt num n → SpellsBelow (2 ^ 127) den d → d ≢ 0 → fraction (num ++ 47 ∷ den) ≡ Some (reduced n d)
fraction_spelled {num} {den} {n} {d} h k positive =
    cut_at_slash num den (integer_no_slash h) ∙ (rw (integer_spelled h, magnitude_spelled k) (cond-true (fits_ratio n (pos d)) (Some (reduced n d)) None (ratio_fits h k positive)))

-- what a word spells is read of it
pub value_spelled : {u : Ty} {word : List ℕ} {x : Value} → SpellsValue u word x → value_of u word ≡ Some x
value_spelled (v.int h) = ap (option_map Int) (integer_spelled h)
value_spelled v.truth = refl
value_spelled v.falsehood = refl
value_spelled v.null = refl
value_spelled (v.reference h) = ap (option_map Ref) (numbered_spelled h)
value_spelled (v.perm h k positive) = ap (option_map Perm) (fraction_spelled h k positive)

-- ---- and back

slash_there : (word : List ℕ) → position_or_len (λ b. b == 47) word < length word → get_or word (position_or_len (λ b. b == 47) word) 0 ≡ 47
slash_there word within = eqb-true _ 47 (true_from_not _ (prefix_len_stops (λ b. not (b == 47)) word 0 within))

-- a word with a `/` is what stands before the first one and what stands behind it
slash_split : (word : List ℕ) → position_or_len (λ b. b == 47) word < length word → word ≡ before_first (λ b. b == 47) word ++ 47 ∷ after_first (λ b. b == 47) word
slash_split word within =
    let at : get_or word (position_or_len (λ b. b == 47) word) 0 ≡ 47 = slash_there word within in
    split_at_first (λ b. b == 47) word 0 within ∙ ap (λ x. before_first (λ b. b == 47) word ++ x ∷ after_first (λ b. b == 47) word) at

zero_denominator : (n : ℤ) (d : ℕ) → d ≡ 0 → fits_ratio n (pos d) ≡ true → ⊥
zero_denominator n d is fits = let parts = and_parts (is_within n && is_within (pos d)) _ fits in not_both (ap (λ k. not (int_eq (pos k) (pos 0))) is) parts.1

spelled_fraction_by : (word : List ℕ) (q : Fraction) (o : Option ℤ) (m : Option ℕ) → integer (before_first (λ b. b == 47) word) ≡ o → magnitude (after_first (λ b. b == 47) word) ≡ m →
    fraction_of o m ≡ Some q → SpellsValue ty.Perm word (Perm q)
spelled_fraction_by word q None m a b e = absurd cc
spelled_fraction_by word q (Some n) None a b e = absurd cc
spelled_fraction_by word q (Some n) (Some d) a b e =
    let made = cond_some (fits_ratio n (pos d)) (reduced n d) q e in
    let den = spelled_magnitude _ d b in
    let within : position_or_len (λ b. b == 47) word < length word = omega (arith, den.some, length-drop (position_or_len (λ b. b == 47) word + 1) word) in
    let whole : word ≡ before_first (λ b. b == 47) word ++ 47 ∷ after_first (λ b. b == 47) word = slash_split word within in
    let positive : d ≢ 0 = λ zero_den. zero_denominator n d zero_den made.0 in
    subst (λ x. SpellsValue ty.Perm word (Perm x)) made.1 (subst (λ w. SpellsValue ty.Perm w (Perm (reduced n d))) (sym whole) (v.perm (spelled_integer _ n a) den positive))

spelled_fraction : (word : List ℕ) (q : Fraction) → fraction word ≡ Some q → SpellsValue ty.Perm word (Perm q)
spelled_fraction word q e = spelled_fraction_by word q _ _ refl refl e

-- what is read of a word is what it spells
pub spelled_value : (u : Ty) (word : List ℕ) (x : Value) → value_of u word ≡ Some x → SpellsValue u word x
spelled_value ty.Int word x e = mapped_some Int (integer word) x e (λ n same is. subst (SpellsValue ty.Int word) is (v.int (spelled_integer word n same)))
spelled_value ty.Bool word x e = mapped_some Truth (truth word) x e (λ b same is. subst (SpellsValue ty.Bool word) is (spelled_truth word b same))
spelled_value ty.Ref word x e = mapped_some Ref (reference word) x e (λ r same is. subst (SpellsValue ty.Ref word) is (spelled_reference word r same))
spelled_value ty.Perm word x e = mapped_some Perm (fraction word) x e (λ q same is. subst (SpellsValue ty.Perm word) is (spelled_fraction word q same))
