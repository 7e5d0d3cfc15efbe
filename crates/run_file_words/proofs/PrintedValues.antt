-- Values, keys and contents are spelled as they are printed.
use Rattle.std.proofs.Common.{◌≡◌, ◌≢◌, ◌∙◌, ◌<◌, ◌≤◌, ◌^◌, ◌==◌, cond, ℕ, ℤ, suc, pos, negsuc, Bool, true, false, List, [], ◌∷◌, ◌++◌, append_assoc, length-append, refl, sym, subst, arith}
use Rattle.std.specs.Prelude.{codes}
use Rattle.std.specs.Char.{is_ascii_digit}
use Rattle.std.specs.Fmt.{decimal, signed_decimal}
use Rattle.std.specs.List.{list_all}
use Rattle.std.proofs.lemmas.Bool.{eqb-true}
use Rattle.std.proofs.lemmas.Bool.Decides.{nat_tests}
use Rattle.std.proofs.lemmas.Fmt.{decimal_is_IsNumeral_wide}
use Rattle.std.proofs.lemmas.List.Elements.{All-head, All-tail}
use Rattle.lemmas.proofs.Lists.{list_all_append}
use Rattle.vb_base.proofs.Numbers.{digits, all_digits}
use Rattle.vb_value.specs.Bound.{IsWithin}
use Rattle.vb_value.specs.Content as content
use Rattle.vb_value.specs.Content.{Content, AllValues, IsReducedContent}
use Rattle.vb_value.specs.Fraction.{Fraction, IsReduced, IsWithinFraction, reduced}
use Rattle.vb_value.specs.Key.{IsWithinKey, IsWithinPart}
use Rattle.vb_value.specs.Value.{IsReducedValue, IsWithinValue, type_of}
use Rattle.vb_value.specs.declared.keys.KeyPart.{KeyPart}
use Rattle.vb_value.specs.declared.keys.KeyPart.TheVariants as part
use Rattle.vb_value.specs.declared.values.Ty.{Ty}
use Rattle.vb_value.specs.declared.values.Ty.TheVariants as ty
use Rattle.vb_value.specs.declared.values.Value.{Value}
use Rattle.vb_value.specs.declared.values.Value.TheVariants.{Int, Bool as Truth, Ref, Perm}
use Rattle.vb_value.proofs.FractionLaws.{reduced_self}
use Rattle.viper_state.specs.Fits.{FitsKey, FitsPart}
use Rattle.viper_state.specs.State.{Key}
use Rattle.moves.specs.Printable.{IsNamed, IsNamedValue, IsNamedPart, IsNamedKey, IsNamedContent}
use Rattle.run_file_words.specs.Printed.{truth_text, reference_text, fraction_text, value_text, part_text, key_text, content_text}
use Rattle.run_file_words.specs.Values as v
use Rattle.run_file_words.specs.Values.{SpellsBelow, SpellsInt, SpellsValue, IsArgument, BeginsWithKey, BeginsWithContent}
use Rattle.run_file_words.proofs.PrintedWords.{all_of, is_word_byte, IsWord, IsFront, IsText, word_text, no_front, text_then, front_then, blank_behind}

-- ---- numbers

decimal_spelled : (limit n : ℕ) → n < limit → limit ≤ 10 ^ 64 → SpellsBelow limit (decimal n) n
decimal_spelled limit n small few =
    let h = decimal_is_IsNumeral_wide n (omega (arith, small, few)) in
    record { digits = all_digits (decimal n) ∙ digits.from (decimal n) h.0.1; some = h.0.0; value = h.1; small = small }

int_spelled : (n : ℤ) → IsWithin n → SpellsInt (signed_decimal n) n
int_spelled (pos n) h = v.plain (decimal_spelled (2 ^ 127) n h (omega arith))
int_spelled (negsuc n) h = v.negative (decimal_spelled (2 ^ 127) (suc n) h (omega arith))

pub truth_spelled : (b : Bool) → SpellsValue ty.Bool (truth_text b) (Truth b)
truth_spelled true = v.truth
truth_spelled false = v.falsehood

pub reference_spelled : (r : ℕ) → IsNamed r → SpellsValue ty.Ref (reference_text r) (Ref r)
reference_spelled r h = by_test (r == 0) refl where
  by_test : (b : Bool) → (r == 0) ≡ b → SpellsValue ty.Ref (cond b (codes "null") (codes "#" ++ decimal r)) (Ref r)
  by_test true e = subst (λ x. SpellsValue ty.Ref (codes "null") (Ref x)) (sym (eqb-true r 0 e)) v.null
  by_test false e = v.reference (decimal_spelled (2 ^ 64) r h (omega arith))

pub fraction_spelled : (q : Fraction) → IsReduced q → IsWithinFraction q → SpellsValue ty.Perm (fraction_text q) (Perm q)
fraction_spelled q lowest h =
    let some : q.den ≢ 0 = λ e. omega (arith, e, lowest.positive) in
    let whole : SpellsValue ty.Perm (signed_decimal q.num ++ 47 ∷ decimal q.den) (Perm (reduced q.num q.den)) =
    v.perm (int_spelled q.num h.num) (decimal_spelled (2 ^ 127) q.den h.den (omega arith)) some in
    subst (λ w. SpellsValue ty.Perm w (Perm q)) (sym (append_assoc (signed_decimal q.num) (codes "/") (decimal q.den)))
    (subst (λ x. SpellsValue ty.Perm (signed_decimal q.num ++ 47 ∷ decimal q.den) (Perm x)) (reduced_self q lowest) whole)

-- ---- values

pub value_is_spelled : (w : Value) → IsReducedValue w → IsWithinValue w → IsNamedValue w → SpellsValue (type_of w) (value_text w) w
value_is_spelled (Int n) lowest within named = v.int (int_spelled n within)
value_is_spelled (Truth b) lowest within named = truth_spelled b
value_is_spelled (Ref r) lowest within named = reference_spelled r named
value_is_spelled (Perm q) lowest within named = fraction_spelled q lowest within

-- each word that spells a value is a word
digit_byte : (b : ℕ) → is_ascii_digit b ≡ true → is_word_byte b ≡ true
digit_byte b is = grind (arith, nat_tests)

digits_word : {limit n : ℕ} {word : List ℕ} → SpellsBelow limit word n → list_all is_word_byte word ≡ true
digits_word {word = word} h = all_of is_ascii_digit is_word_byte digit_byte word h.digits

int_word : {word : List ℕ} {n : ℤ} → SpellsInt word n → IsWord word
int_word (v.plain h) = record { some = h.some; bytes = digits_word h }
int_word (v.negative h) = record { some = omega arith; bytes = digits_word h }

pub value_word : {u : Ty} {word : List ℕ} {w : Value} → SpellsValue u word w → IsWord word
value_word (v.int h) = int_word h
value_word v.truth = record { some = omega arith; bytes = refl }
value_word v.falsehood = record { some = omega arith; bytes = refl }
value_word v.null = record { some = omega arith; bytes = refl }
value_word (v.reference h) = record { some = omega arith; bytes = digits_word h }
value_word (v.perm {num = num} {den = den} h k some) = record {
  some = omega (arith, length-append num (47 ∷ den));
  bytes = list_all_append is_word_byte num (47 ∷ den) (int_word h).bytes (digits_word k);
}

-- ---- keys

record SpelledPart (u : Ty) (a : KeyPart) : Type 0 where
  value : Value
  spelled : SpellsValue u (part_text a) value
  argument : IsArgument value a

part_spelled : (u : Ty) (a : KeyPart) → FitsPart u a → IsWithinPart a → IsNamedPart a → SpelledPart u a
part_spelled u (part.Int n) is within named = subst (λ t. SpelledPart t (part.Int n)) is (record { value = Int n; spelled = v.int (int_spelled n within); argument = v.int })
part_spelled u (part.Bool b) is within named = subst (λ t. SpelledPart t (part.Bool b)) is (record { value = Truth b; spelled = truth_spelled b; argument = v.truth })
part_spelled u (part.Ref r) is within named = subst (λ t. SpelledPart t (part.Ref r)) is (record { value = Ref r; spelled = reference_spelled r named; argument = v.reference })

abbrev pub key_words : Key → List (List ℕ)
key_words [] = []
key_words (a ∷ k) = part_text a ∷ key_words k

-- the arguments as they are printed, in front of other words
pub record SpelledKey (us : List Ty) (k : Key) : Type 0 where
  pub text : IsFront (key_text k) (key_words k)
  pub spelled : (rest : List (List ℕ)) → BeginsWithKey us (key_words k ++ rest) k rest

pub key_spelled : (us : List Ty) (k : Key) → FitsKey us k → IsWithinKey k → IsNamedKey k → SpelledKey us k
key_spelled [] [] fits within named = record { text = no_front; spelled = λ rest. v.none }
key_spelled [] (a ∷ k) fits within named = absurd fits
key_spelled (u ∷ us) [] fits within named = absurd fits
key_spelled (u ∷ us) (a ∷ k) fits within named =
    let first = part_spelled u a fits.0 (All-head IsWithinPart a k within) (All-head IsNamedPart a k named) in
    let others = key_spelled us k fits.1 (All-tail IsWithinPart a k within) (All-tail IsNamedPart a k named) in
    record {
      text = front_then (blank_behind (word_text (value_word first.spelled))) others.text;
      spelled = λ rest. v.more first.spelled first.argument (others.spelled rest);
    }

-- ---- contents

abbrev pub content_words : Content → List (List ℕ)
content_words content.Unit = codes "unit" ∷ []
content_words (content.Leaf w) = codes "leaf" ∷ value_text w ∷ []
content_words (content.Pair a b) = codes "pair" ∷ (content_words a ++ content_words b)

pub record SpelledContent (c : Content) : Type 0 where
  pub text : IsText (content_text c) (content_words c)
  pub spelled : (rest : List (List ℕ)) → BeginsWithContent (content_words c ++ rest) c rest

unit_word : IsWord (codes "unit")
unit_word = record { some = omega arith; bytes = refl }

leaf_word : IsWord (codes "leaf")
leaf_word = record { some = omega arith; bytes = refl }

pair_word : IsWord (codes "pair")
pair_word = record { some = omega arith; bytes = refl }

pub content_spelled : (c : Content) → IsReducedContent c → AllValues IsWithinValue c → IsNamedContent c → SpelledContent c
content_spelled content.Unit lowest within named = record { text = word_text unit_word; spelled = λ rest. v.unit }
content_spelled (content.Leaf w) lowest within named =
    let h = value_is_spelled w lowest within named in
    record { text = text_then (blank_behind (word_text leaf_word)) (word_text (value_word h)); spelled = λ rest. v.leaf h }
content_spelled (content.Pair a b) lowest within named =
    let h = content_spelled a lowest.0 within.0 named.0 in
    let k = content_spelled b lowest.1 within.1 named.1 in
    record {
      text = text_then (blank_behind (text_then (blank_behind (word_text pair_word)) h.text)) k.text;
      spelled = λ rest.
          subst (λ ws. BeginsWithContent (codes "pair" ∷ ws) (content.Pair a b) rest) (sym (append_assoc (content_words a) (content_words b) rest))
          (v.pair (h.spelled (content_words b ++ rest)) (k.spelled rest));
    }
