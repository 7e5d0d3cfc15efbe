-- The digits at the front of a text, and the number that they write.
use Rattle.std.proofs.Common.{◌≡◌, ◌∙◌, ◌+◌, ◌^◌, ◌<◌, ◌≤◌, ℕ, zero, suc, List, [], ◌∷◌, ◌++◌, Bool, ◌&&◌, true, false, cond, length, take, drop, get_or, nat_eq, ◌≢◌, Result, Ok, Err, MatchResult, MatchOption, refl, sym, ap, arith}
use Rattle.std.specs.Char.{is_ascii_digit}
use Rattle.std.specs.Fmt.{decimal}
use Rattle.std.specs.List.{starts_with, list_all}
use Rattle.std.specs.Str.{all_ascii_digits, IsUtf8}
use Rattle.std.proofs.lemmas.Str.{IsUtf8-from_ascii}
use Rattle.std.specs.Str.Parse.{digits_value, ParsesUnsigned}
use Rattle.std.specs.Result.{OkIff, result_ok}
use Rattle.std.proofs.lemmas.Bool.{eqb-true, eq-eqb, both_ways, and_parts, and_from, cond-false}
use Rattle.std.proofs.lemmas.Fmt.{digits_decimal, digits_value-decimal, decimal-digits_value, first_decimal, IsAscii-from_digits, decimal_nonempty, decimal_digit}
use Rattle.std.proofs.lemmas.Str.Parse.{IsNumeralModel, numerals_by_value, parse_digits, tells_all_ascii_digits}
use Rattle.std.proofs.lemmas.List.{take-append-drop}
use Rattle.std.proofs.Math.Seq.{take-append_seam, drop-append_seam}
use Rattle.lemmas.proofs.Numbers.{one_more}
use Rattle.vb_base.proofs.RowLaws.{prefix_len-append}
use Rattle.vb_base.specs.Reading.{digit_count, IsNumber, StartsWithNumber}

-- texts of digits alone, and the number of such a text
pub digits : IsNumeralModel (λ ds. all_ascii_digits ds ≡ true) (digits_value 10)
digits = numerals_by_value _ tells_all_ascii_digits

pub all_digits : (ds : List ℕ) → list_all is_ascii_digit ds ≡ all_ascii_digits ds
all_digits [] = refl
all_digits (d ∷ ds) = ap (λ t. is_ascii_digit d && t) (all_digits ds)

digits_of_front_by : (b : ℕ) (bs : List ℕ) (t : Bool) → is_ascii_digit b ≡ t → all_ascii_digits (take (digit_count bs) bs) ≡ true →
    all_ascii_digits (take (cond t (1 + digit_count bs) 0) (b ∷ bs)) ≡ true
digits_of_front_by b bs true is front = rw one_more (and_from _ _ is front)
digits_of_front_by b bs false is front = refl

pub digits_of_front : (bytes : List ℕ) → all_ascii_digits (take (digit_count bytes) bytes) ≡ true
digits_of_front [] = refl
digits_of_front (b ∷ bs) = digits_of_front_by b bs (is_ascii_digit b) refl (digits_of_front bs)

-- behind the digits at the front stands no digit
digit_count-drop_by : (b : ℕ) (bs : List ℕ) (t : Bool) → is_ascii_digit b ≡ t → digit_count (drop (digit_count bs) bs) ≡ 0 →
    digit_count (drop (cond t (1 + digit_count bs) 0) (b ∷ bs)) ≡ 0
digit_count-drop_by b bs true is rest = rw one_more rest
digit_count-drop_by b bs false is rest = cond-false (is_ascii_digit b) _ 0 is

pub digit_count-drop : (bytes : List ℕ) → digit_count (drop (digit_count bytes) bytes) ≡ 0
digit_count-drop [] = refl
digit_count-drop (b ∷ bs) = digit_count-drop_by b bs (is_ascii_digit b) refl (digit_count-drop bs)

-- a number at the front is all the digits there, and it has no leading zero
pub record IsFront (bytes : List ℕ) (n : ℕ) (rest : List ℕ) : Type 0 where
  pub front : take (digit_count bytes) bytes ≡ decimal n
  pub behind : drop (digit_count bytes) bytes ≡ rest

front_of : (n : ℕ) (rest : List ℕ) → n < 2 ^ 64 → digit_count rest ≡ 0 → IsFront (decimal n ++ rest) n rest
front_of n rest small ends =
    let count : digit_count (decimal n ++ rest) ≡ length (decimal n) = prefix_len-append is_ascii_digit (decimal n) rest (all_digits (decimal n) ∙ digits_decimal digits n small) ends in
    record { front = rw (count, take-append_seam) refl; behind = rw (count, drop-append_seam) refl }

pub number_is_front : {bytes : List ℕ} {n : ℕ} {rest : List ℕ} → StartsWithNumber bytes n rest → IsFront bytes n rest
number_is_front {n = n} {rest = rest} h = rw h.text (front_of n rest (omega (arith, h.in_reach)) h.ends)

positive : (n : ℕ) (ds : List ℕ) → decimal n ≡ ds → get_or ds 0 0 ≢ 48 → 1 ≤ n
positive zero ds text first = absurd (first (ap (λ xs. get_or xs 0 0) (sym text ∙ decimal_digit 0 (omega arith))))
positive (suc n) ds text first = omega arith

read_by : {E : Type 0} (ds : List ℕ) (r : Result ℕ E) → all_ascii_digits ds ≡ true → get_or ds 0 0 ≢ 48 →
    OkIff r ((0 < length ds) × (digits_value 10 ds < 2 ^ 32)) (digits_value 10 ds) →
    MatchResult r (IsNumber ds) (λ e. (n : ℕ) → IsNumber ds n → ⊥)
read_by ds (Ok n) all first h =
    let text : decimal (digits_value 10 ds) ≡ ds = decimal-digits_value digits ds all h.0.0 (λ e. absurd (first e)) (omega (arith, h.0.1)) in
    rw h.1 (record { from_one = positive _ ds text first; in_reach = h.0.1; digits = sym text })
read_by ds (Err e) all first h = λ n k.
    h (rw k.digits (decimal_nonempty n (omega (arith, k.in_reach)), rw (digits_value-decimal digits n (omega (arith, k.in_reach))) k.in_reach))

-- what `parse` reads of digits without a leading zero
pub read_digits : {E : Type 0} (ds : List ℕ) (r : Result ℕ E) → all_ascii_digits ds ≡ true → get_or ds 0 0 ≢ 48 → ParsesUnsigned 32 10 ds r →
    MatchResult r (IsNumber ds) (λ e. (n : ℕ) → IsNumber ds n → ⊥)
read_digits ds r all first h = read_by ds r all first (parse_digits digits 32 ds r h all)

-- digits that begin with a zero are no number
pub no_leading_zero : {ds : List ℕ} {n : ℕ} → get_or ds 0 0 ≡ 48 → IsNumber ds n → ⊥
no_leading_zero {n = n} zero_first h =
    let above = first_decimal n h.from_one (omega (arith, h.in_reach)) in
    omega (arith, rw h.digits at zero_first)

pub starts_with_zero : (ds : List ℕ) → starts_with nat_eq ds (48 ∷ []) ≡ true → get_or ds 0 0 ≡ 48
starts_with_zero [] h = cc
starts_with_zero (d ∷ ds) h = sym (eqb-true 48 d (and_parts (nat_eq 48 d) true h).0)

pub starts_elsewhere : (ds : List ℕ) → starts_with nat_eq ds (48 ∷ []) ≡ false → get_or ds 0 0 ≢ 48
starts_elsewhere [] h = λ e. omega (arith, e)
starts_elsewhere (d ∷ ds) h = λ e. both_ways (nat_eq 48 d && true) h (and_from (nat_eq 48 d) true (eq-eqb 48 d (sym e)) refl)

pub front_is_number : {bytes rest : List ℕ} {n : ℕ} → StartsWithNumber bytes n rest → IsNumber (take (digit_count bytes) bytes) n
front_is_number h = record { from_one = h.from_one; in_reach = h.in_reach; digits = (number_is_front h).front }

pub number_from_front : (bytes : List ℕ) (n : ℕ) → IsNumber (take (digit_count bytes) bytes) n → StartsWithNumber bytes n (drop (digit_count bytes) bytes)
number_from_front bytes n h = record {
  from_one = h.from_one;
  in_reach = h.in_reach;
  text = rw (← h.digits) (sym (take-append-drop (digit_count bytes) bytes));
  ends = digit_count-drop bytes;
}

ok_of : {E : Type 0} (ds : List ℕ) (r : Result ℕ E) → MatchResult r (IsNumber ds) (λ e. (n : ℕ) → IsNumber ds n → ⊥) →
    MatchOption (result_ok r) ((n : ℕ) → IsNumber ds n → ⊥) (IsNumber ds)
ok_of ds (Ok n) h = h
ok_of ds (Err e) h = h

pub read_number_of : {E : Type 0} (ds : List ℕ) (r : Result ℕ E) → all_ascii_digits ds ≡ true → starts_with nat_eq ds (48 ∷ []) ≡ false →
    ParsesUnsigned 32 10 ds r → MatchOption (result_ok r) ((n : ℕ) → IsNumber ds n → ⊥) (IsNumber ds)
read_number_of ds r all elsewhere h = ok_of ds r (read_digits ds r all (starts_elsewhere ds elsewhere) h)

pub digits_are_text : (ds : List ℕ) → all_ascii_digits ds ≡ true → IsUtf8 ds
digits_are_text ds all = IsUtf8-from_ascii ds (IsAscii-from_digits ds (digits.to ds all))
