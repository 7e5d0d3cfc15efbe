-- The type that a word would have to have.
use Rattle.std.proofs.Common.{◌≡◌, ◌∙◌, ◌≤◌, ◌^◌, ◌==◌, ◌||◌, ℕ, ℤ, Bool, true, false, not, List, [], ◌∷◌, ◌++◌, length, get_or, Some, refl, ap, arith, sym}
use Rattle.std.specs.Char.{is_ascii_digit}
use Rattle.std.specs.List.{list_all, list_any}
use Rattle.std.proofs.lemmas.Bool.{and_parts, cond-false, cond-true}
use Rattle.std.proofs.lemmas.Bool.Decides.{nat_tests}
use Rattle.lemmas.proofs.Tests.{false_from_not}
use Rattle.vb_value.specs.declared.values.Ty.{Ty}
use Rattle.vb_value.specs.declared.values.Ty.TheVariants as ty
use Rattle.vb_value.specs.declared.values.Value.{Value}
use Rattle.run_file_words.specs.Values as v
use Rattle.run_file_words.specs.Values.{SpellsBelow, SpellsInt, SpellsValue}
use Rattle.run_file_words.specs.Reading.{first_type, type_told, value_of, any_value}
use Rattle.run_file_words.proofs.ValueLaws.{first_digit, no_slash_by, digits_no_slash, integer_no_slash, value_spelled, spelled_value}

or_true : (a b : Bool) → b ≡ true → a || b ≡ true
or_true true b e = refl
or_true false b e = e

pub told_by_first : (word : List ℕ) → 1 ≤ length word → list_any (λ b. b == 47) word ≡ false → first_type (get_or word 0 0) ≡ type_told word
told_by_first [] long none = absurd (omega (arith, long))
told_by_first (b ∷ bs) long none = sym (cond-false (list_any (λ c. c == 47) (b ∷ bs)) ty.Perm (first_type b) none)

-- ---- a word spells values of one type alone

no_slash_any : (word : List ℕ) → list_all (λ b. not (b == 47)) word ≡ true → list_any (λ b. b == 47) word ≡ false
no_slash_any [] all = refl
no_slash_any (b ∷ bs) all =
    let parts = and_parts (not (b == 47)) (list_all (λ c. not (c == 47)) bs) all in
    rw (false_from_not (b == 47) parts.0) (no_slash_any bs parts.1)

slash_any : (num den : List ℕ) → list_any (λ b. b == 47) (num ++ 47 ∷ den) ≡ true
slash_any [] den = refl
slash_any (b ∷ bs) den = or_true (b == 47) _ (slash_any bs den)

told_first : (b : ℕ) (bs : List ℕ) (u : Ty) → list_all (λ c. not (c == 47)) (b ∷ bs) ≡ true → first_type b ≡ u → type_told (b ∷ bs) ≡ u
told_first b bs u none is = cond-false (list_any (λ c. c == 47) (b ∷ bs)) ty.Perm (first_type b) (no_slash_any (b ∷ bs) none) ∙ is

digit_first : (b : ℕ) → is_ascii_digit b ≡ true → first_type b ≡ ty.Int
digit_first b is = grind (arith, nat_tests)

told_plain : (word : List ℕ) (n : ℕ) → SpellsBelow (2 ^ 127) word n → type_told word ≡ ty.Int
told_plain [] n h = refl
told_plain (b ∷ bs) n h = told_first b bs ty.Int (integer_no_slash (v.plain h)) (digit_first b (first_digit b bs h.digits))

told_int : {word : List ℕ} {n : ℤ} → SpellsInt word n → type_told word ≡ ty.Int
told_int (v.plain {word = word} {n = n} h) = told_plain word n h
told_int (v.negative {digits = digits} h) = told_first 45 digits ty.Int (integer_no_slash (v.negative h)) refl

told_slash : (num den : List ℕ) → type_told (num ++ 47 ∷ den) ≡ ty.Perm
told_slash [] den = refl
told_slash (b ∷ bs) den = cond-true (list_any (λ c. c == 47) (b ∷ bs ++ 47 ∷ den)) ty.Perm (first_type b) (slash_any (b ∷ bs) den)

pub type_is_told : {u : Ty} {word : List ℕ} {x : Value} → SpellsValue u word x → type_told word ≡ u
type_is_told (v.int h) = told_int h
type_is_told v.truth = refl
type_is_told v.falsehood = refl
type_is_told v.null = refl
type_is_told (v.reference {digits = digits} h) = told_first 35 digits ty.Ref (no_slash_by 35 digits refl (digits_no_slash digits h.digits)) refl
type_is_told (v.perm {num = num} {den = den} h k positive) = told_slash num den

pub any_spelled : {u : Ty} {word : List ℕ} {x : Value} → SpellsValue u word x → any_value word ≡ Some x
any_spelled {word = word} h = ap (λ t. value_of t word) (type_is_told h) ∙ value_spelled h

pub spelled_any : (word : List ℕ) (x : Value) → any_value word ≡ Some x → SpellsValue (type_told word) word x
spelled_any word x e = spelled_value (type_told word) word x e
