-- Words of one to eighteen digits, and words as texts.
use Rattle.std.proofs.Common.{◌≡◌, ◌∙◌, ◌<◌, ◌≤◌, ◌^◌, ℕ, Bool, true, false, List, [], ◌∷◌, map, length, get_or, leb, ◌&&◌, if◌then◌else◌, Option, Some, None, Result, Ok, Err, refl, sym, ap, arith}
use Rattle.std.specs.Char.{is_ascii_digit}
use Rattle.std.specs.List.{list_all}
use Rattle.std.specs.Result.{OkIff, result_ok}
use Rattle.std.specs.Str.Parse.{digits_value, ParsesUnsigned}
use Rattle.std.specs.String.{string_bytes}
use Rattle.std.specs.declared.alloc.Global.{Global}
use Rattle.std.specs.declared.string.String.{String}
use Rattle.std.proofs.lemmas.Bool.{le-leb}
use Rattle.std.proofs.lemmas.Int.{ints}
use Rattle.std.proofs.lemmas.Str.Parse.{parse_digits, digits_value_short}
use Rattle.vb_base.proofs.Numbers.{digits, all_digits}
use Rattle.prove_tool.specs.Command.{number_in, command_for}

three_hold : {A : Type 0} (a b c : Bool) (x : A) → a ≡ true → b ≡ true → c ≡ true → (if a && b && c then Some x else None) ≡ Some x
three_hold true true true x h k l = refl
three_hold true true false x h k l = absurd (cc)
three_hold true false c x h k l = absurd (cc)
three_hold false b c x h k l = absurd (cc)

module _ (word : List ℕ) (some : 1 ≤ length word) (few : length word ≤ 18) (all : list_all is_ascii_digit word ≡ true) where
  number_is : number_in word ≡ Some (digits_value 10 word)
  number_is =
      three_hold (leb 1 (length word)) (leb (length word) 18) (list_all is_ascii_digit word) (digits_value 10 word) (le-leb 1 (length word) some) (le-leb (length word) 18 few) all

  parsed_by : {E : Type 0} (r : Result ℕ E) → OkIff r ((0 < length word) × (digits_value 10 word < 2 ^ 64)) (digits_value 10 word) → digits_value 10 word < 10 ^ 18 → result_ok r ≡ Some (digits_value 10 word)
  parsed_by (Ok n) h small = ap Some h.1
  parsed_by (Err e) h small = absurd (h (omega (arith, some), omega (arith, ints, small)))

  -- what `parse` reads
  pub parsed : {E : Type 0} (r : Result ℕ E) → ParsesUnsigned 64 10 word r → result_ok r ≡ number_in word
  parsed r h =
      let told = sym (all_digits word) ∙ all in
      parsed_by r (parse_digits digits 64 word r h told) (digits_value_short digits word 18 told few) ∙ sym number_is

-- ---- words as texts

pub two_words : (words : List (String Global)) (a b : String Global) → 2 ≤ length words → length words < 3 → a ≡ get_or words 0 a → b ≡ get_or words 1 b →
    map string_bytes words ≡ string_bytes a ∷ string_bytes b ∷ []
two_words [] a b two three h k = absurd (omega (arith, two))
two_words (x ∷ []) a b two three h k = absurd (omega (arith, two))
two_words (x ∷ y ∷ z ∷ words) a b two three h k = absurd (omega (arith, three))
two_words (x ∷ y ∷ []) a b two three h k = let first : x ≡ a = sym h in let second : y ≡ b = sym k in cc

pub three_words : (words : List (String Global)) (a b c : String Global) → 3 ≤ length words → length words < 4 → a ≡ get_or words 0 a → b ≡ get_or words 1 b → c ≡ get_or words 2 c →
    map string_bytes words ≡ string_bytes a ∷ string_bytes b ∷ string_bytes c ∷ []
three_words [] a b c three four h k l = absurd (omega (arith, three))
three_words (x ∷ []) a b c three four h k l = absurd (omega (arith, three))
three_words (x ∷ y ∷ []) a b c three four h k l = absurd (omega (arith, three))
three_words (x ∷ y ∷ z ∷ w ∷ words) a b c three four h k l = absurd (omega (arith, four))
three_words (x ∷ y ∷ z ∷ []) a b c three four h k l = let first : x ≡ a = sym h in let second : y ≡ b = sym k in let third : z ≡ c = sym l in cc

pub few_words : (words : List (String Global)) → length words < 2 → command_for (map string_bytes words) ≡ None
few_words [] few = refl
few_words (x ∷ []) few = refl
few_words (x ∷ y ∷ words) few = absurd (omega (arith, few))

pub many_words : (words : List (String Global)) → 4 ≤ length words → command_for (map string_bytes words) ≡ None
many_words [] many = absurd (omega (arith, many))
many_words (x ∷ []) many = absurd (omega (arith, many))
many_words (x ∷ y ∷ []) many = absurd (omega (arith, many))
many_words (x ∷ y ∷ z ∷ []) many = absurd (omega (arith, many))
many_words (x ∷ y ∷ z ∷ w ∷ words) many = refl
