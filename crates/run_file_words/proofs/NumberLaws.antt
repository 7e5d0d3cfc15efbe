-- The number of a row of digits, where it is below a limit.
use Rattle.std.proofs.Common.{◌≡◌, ◌∙◌, ◌<◌, ◌≤◌, ◌^◌, ℕ, ℤ, pos, inl, inr, Bool, true, false, not, ◌&&◌, nat_lt, if◌then◌else◌, List, [], ◌∷◌, length, Some, None, Result, Ok, Err, IsTrue, refl, sym, ap, arith}
use Rattle.std.specs.Char.{is_ascii_digit}
use Rattle.std.specs.List.{list_all}
use Rattle.std.specs.Str.{IsUtf8}
use Rattle.std.specs.Str.Parse.{digits_value, ParsesUnsigned}
use Rattle.std.specs.Result.{OkIff, result_ok}
use Rattle.std.proofs.lemmas.Bool.{ltb-true, lt-ltb, cases_lt}
use Rattle.std.proofs.lemmas.Int.{ints}
use Rattle.std.specs.Option.{option_map}
use mir.Val.{SFits}
use mir.Syntax.{w128}
use Rattle.std.proofs.lemmas.Str.Parse.{parse_digits}
use Rattle.vb_base.proofs.Numbers.{digits, all_digits, digits_are_text}
use Rattle.moves.specs.Lists.{is_empty}
use Rattle.run_file_words.specs.Values.{SpellsBelow}
use Rattle.run_file_words.specs.Reading.{natural, magnitude, numbered}

-- one test of three, and what it answers
pub chosen_if : {X : Type 0} (a b c : Bool) (x : X) → a ≡ true → b ≡ true → c ≡ true → (if a && (b && c) then Some x else None) ≡ Some x
chosen_if a b c x p q r = rw (p, q, r) refl

pub refused_if : {X : Type 0} (a b c : Bool) (x : X) → (a ≡ true → b ≡ true → c ≡ true → ⊥) → (if a && (b && c) then Some x else None) ≡ None
refused_if true true true x h = absurd (h refl refl refl)
refused_if true true false x h = refl
refused_if true false c x h = refl
refused_if false b c x h = refl

pub if_chosen : {X P : Type 0} (a b c : Bool) (x y : X) → (if a && (b && c) then Some x else None) ≡ Some y → (a ≡ true → b ≡ true → c ≡ true → x ≡ y → P) → P
if_chosen true true true x y e go = go refl refl refl cc
if_chosen true true false x y e go = absurd cc
if_chosen true false c x y e go = absurd cc
if_chosen false b c x y e go = absurd cc

pub not_empty : {X : Type 0} (xs : List X) → 0 < length xs → not (is_empty xs) ≡ true
not_empty [] some = absurd (omega (arith, some))
not_empty (x ∷ xs) some = refl

pub some_if_not_empty : {X : Type 0} (xs : List X) → not (is_empty xs) ≡ true → 0 < length xs
some_if_not_empty [] e = absurd cc
some_if_not_empty (x ∷ xs) e = omega arith

pub number_spelled : {limit n : ℕ} {word : List ℕ} → SpellsBelow limit word n → natural limit word ≡ Some n
number_spelled {limit} {n} {word} h =
    chosen_if _ _ _ _ h.digits (not_empty word h.some) (lt-ltb _ limit (rw h.value h.small)) ∙ ap Some h.value

pub spelled_number : (limit n : ℕ) (word : List ℕ) → natural limit word ≡ Some n → SpellsBelow limit word n
spelled_number limit n word e =
    if_chosen (list_all is_ascii_digit word) (not (is_empty word)) (nat_lt (digits_value 10 word) limit) (digits_value 10 word) n e
    (λ (a : list_all is_ascii_digit word ≡ true) (b : not (is_empty word) ≡ true) (c : nat_lt (digits_value 10 word) limit ≡ true) (is : digits_value 10 word ≡ n).
    record { digits = a; some = some_if_not_empty word b; value = is; small = rw is at (ltb-true _ limit c) })

pub no_number : (limit : ℕ) (word : List ℕ) → ((n : ℕ) → SpellsBelow limit word n → ⊥) → natural limit word ≡ None
no_number limit word none =
    refused_if _ _ _ _ (λ a b c. none (digits_value 10 word) (record { digits = a; some = some_if_not_empty word b; value = refl; small = ltb-true _ limit c }))

-- ---- what `parse` reads

parsed_by : {E : Type 0} (word : List ℕ) (r : Result ℕ E) → IsTrue (list_all is_ascii_digit word) →
    OkIff r ((0 < length word) × (digits_value 10 word < 2 ^ 128)) (digits_value 10 word) → result_ok r ≡ natural (2 ^ 128) word
parsed_by word (Ok n) all h = sym (number_spelled (record { digits = all; some = h.0.0; value = sym h.1; small = rw h.1 (h.0.1) }))
parsed_by word (Err e) all h = sym (no_number (2 ^ 128) word (λ n k. h (k.some, rw k.value k.small)))

pub parsed : {E : Type 0} (word : List ℕ) (r : Result ℕ E) → IsTrue (list_all is_ascii_digit word) → ParsesUnsigned 128 10 word r → result_ok r ≡ natural (2 ^ 128) word
parsed word r all h = parsed_by word r all (parse_digits digits 128 word r h (sym (all_digits word) ∙ all))

pub digits_text : (word : List ℕ) → IsTrue (list_all is_ascii_digit word) → IsUtf8 word
digits_text word all = digits_are_text word (sym (all_digits word) ∙ all)

-- ---- a lower limit

pub none_below : (limit more : ℕ) (word : List ℕ) → limit ≤ more → natural more word ≡ None → natural limit word ≡ None
none_below limit more word below e =
    no_number limit word (λ n h. let some : natural more word ≡ Some n = number_spelled (record { digits = h.digits; some = h.some; value = h.value; small = omega (arith, h.small) }) in absurd cc)

pub same_below : (limit more n : ℕ) (word : List ℕ) → natural more word ≡ Some n → n < limit → natural limit word ≡ Some n
same_below limit more n word e small =
    let h = spelled_number more n word e in
    number_spelled (record { digits = h.digits; some = h.some; value = h.value; small = small })

pub not_below : (limit more n : ℕ) (word : List ℕ) → natural more word ≡ Some n → limit ≤ n → natural limit word ≡ None
not_below limit more n word e large =
    let h = spelled_number more n word e in
    no_number limit word (λ m k. omega (arith, k.small, k.value, h.value))

-- ---- numbers of the machine

pub narrowed : {E : Type 0} (word : List ℕ) (n : ℕ) (r : Result ℤ E) → Some n ≡ natural (2 ^ 128) word → OkIff r (SFits w128 (pos n)) (pos n) →
    result_ok r ≡ option_map pos (magnitude word)
unfolding magnitude
narrowed word n (Ok z) e h = ap Some h.1 ∙ sym (ap (option_map pos) (same_below (2 ^ 127) (2 ^ 128) n word (sym e) (omega (arith, ints, h.0))))
narrowed word n (Err x) e h = sym (ap (option_map pos) (not_below (2 ^ 127) (2 ^ 128) n word (sym e) (cases n h))) where
  cases : (n : ℕ) → (SFits w128 (pos n) → ⊥) → 2 ^ 127 ≤ n
  cases n h = elim (cases_lt n (2 ^ 127)) [ inl small ↦ absurd (h (omega (arith, ints, small))) | inr large ↦ large ]

pub narrowed_reference : {E : Type 0} (word : List ℕ) (n : ℕ) (r : Result ℕ E) → Some n ≡ natural (2 ^ 128) word → OkIff r (n < 2 ^ 64) n →
    result_ok r ≡ numbered word
unfolding numbered
narrowed_reference word n (Ok m) e h = ap Some h.1 ∙ sym (same_below (2 ^ 64) (2 ^ 128) n word (sym e) h.0)
narrowed_reference word n (Err x) e h = sym (not_below (2 ^ 64) (2 ^ 128) n word (sym e) (cases n h)) where
  cases : (n : ℕ) → (n < 2 ^ 64 → ⊥) → 2 ^ 64 ≤ n
  cases n h = elim (cases_lt n (2 ^ 64)) [ inl small ↦ absurd (h small) | inr large ↦ large ]

pub no_magnitude : (word : List ℕ) → None ≡ natural (2 ^ 128) word → magnitude word ≡ None
unfolding magnitude
no_magnitude word e = none_below (2 ^ 127) (2 ^ 128) word (omega arith) (sym e)

pub no_reference : (word : List ℕ) → None ≡ natural (2 ^ 128) word → numbered word ≡ None
unfolding numbered
no_reference word e = none_below (2 ^ 64) (2 ^ 128) word (omega arith) (sym e)
