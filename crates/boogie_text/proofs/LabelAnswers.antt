-- Bytes are the text of a label, or of none.
use Rattle.std.proofs.Common.{◌≡◌, ◌∙◌, ℕ, ◌<◌, ◌≤◌, ◌^◌, ◌⊎◌, inl, inr, Bool, true, false, List, [], ◌∷◌, ◌++◌, take, refl, sym, ap, subst, arith, append_assoc}
use Rattle.std.specs.Fmt.{decimal}
use Rattle.std.specs.Str.{bytes_eq}
use Rattle.std.specs.Str.Parse.{digits_value}
use Rattle.std.proofs.lemmas.Bool.{cases_lt, cases_order}
use Rattle.std.proofs.lemmas.Fmt.{digits_value-decimal}
use Rattle.std.proofs.lemmas.Slice.Eq.{bytes_eq-Decides}
use Rattle.vb_base.specs.declared.places.Pos.{Pos}
use Rattle.vb_base.specs.declared.labels.Kind.{Kind}
use Rattle.vb_base.specs.declared.labels.Kind.TheVariants.{Null, Perm, Fact, Div, Negative, Amount}
use Rattle.vb_base.specs.declared.labels.Label.{Label}
use Rattle.vb_base.specs.Labels.{kind_text, place_text, Spells}
use Rattle.vb_base.specs.Reading.{digit_count, IsNumber, StartsWithNumber, StartsWithPlace, StartsWithByte}
use Rattle.vb_base.proofs.Numbers.{digits, front_is_number, number_from_front}
use Rattle.vb_base.proofs.Fronts.{no_colon, no_column, first_place, no_space, no_part, no_second_space, no_kind}

-- numbers

value_is : {ds : List ℕ} {n : ℕ} → IsNumber ds n → digits_value 10 ds ≡ n
value_is {n = n} h = ap (digits_value 10) h.digits ∙ digits_value-decimal digits n (omega (arith, h.in_reach))

text_or_not : (xs ys : List ℕ) → (xs ≡ ys) ⊎ (xs ≡ ys → ⊥)
text_or_not xs ys = by_case (bytes_eq xs ys) refl where
  by_case : (b : Bool) → bytes_eq xs ys ≡ b → (xs ≡ ys) ⊎ (xs ≡ ys → ⊥)
  by_case true e = inl ((bytes_eq-Decides xs ys).0 e)
  by_case false e = inr (λ h. let t : true ≡ false = sym ((bytes_eq-Decides xs ys).1 h) ∙ e in cc)

number_or_not : (ds : List ℕ) → ((n : ℕ) × IsNumber ds n) ⊎ ((n : ℕ) → IsNumber ds n → ⊥)
number_or_not ds = by_case (text_or_not ds (decimal (digits_value 10 ds))) (cases_lt 0 (digits_value 10 ds)) (cases_lt (digits_value 10 ds) (2 ^ 32)) where
  by_case : (ds ≡ decimal (digits_value 10 ds)) ⊎ (ds ≡ decimal (digits_value 10 ds) → ⊥) → (0 < digits_value 10 ds) ⊎ (digits_value 10 ds ≤ 0) →
      (digits_value 10 ds < 2 ^ 32) ⊎ (2 ^ 32 ≤ digits_value 10 ds) → ((n : ℕ) × IsNumber ds n) ⊎ ((n : ℕ) → IsNumber ds n → ⊥)
  by_case (inl e) (inl some) (inl lt) = inl (digits_value 10 ds, record { from_one = omega (arith, some); in_reach = lt; digits = e })
  by_case (inr differs) some lt = inr (λ n h. differs (h.digits ∙ ap decimal (sym (value_is h))))
  by_case (inl e) (inr none) lt = inr (λ n h. omega (arith, h.from_one, value_is h, none))
  by_case (inl e) (inl some) (inr ge) = inr (λ n h. omega (arith, h.in_reach, value_is h, ge))

abbrev NumberFirst : List ℕ → Type 0
NumberFirst bytes = (n : ℕ) × (rest : List ℕ) × StartsWithNumber bytes n rest

number_first : (bytes : List ℕ) → NumberFirst bytes ⊎ ((n : ℕ) (rest : List ℕ) → StartsWithNumber bytes n rest → ⊥)
number_first bytes = by_case (number_or_not (take (digit_count bytes) bytes)) where
  by_case : ((n : ℕ) × IsNumber (take (digit_count bytes) bytes) n) ⊎ ((n : ℕ) → IsNumber (take (digit_count bytes) bytes) n → ⊥) →
      NumberFirst bytes ⊎ ((n : ℕ) (rest : List ℕ) → StartsWithNumber bytes n rest → ⊥)
  by_case (inl (n, h)) = inl (n, _, number_from_front bytes n h)
  by_case (inr none) = inr (λ n rest h. none n (front_is_number h))

byte_first : (byte : ℕ) (bytes : List ℕ) → StartsWithByte byte bytes ⊎ (StartsWithByte byte bytes → ⊥)
byte_first byte [] = inr (λ h. let e = h.1 in cc)
byte_first byte (b ∷ bytes) = by_case (cases_order b byte) where
  head_is : {rest : List ℕ} → b ∷ bytes ≡ byte ∷ rest → b ≡ byte
  head_is e = cc

  by_case : (b ≡ byte) ⊎ ((b < byte) ⊎ (byte < b)) → StartsWithByte byte (b ∷ bytes) ⊎ (StartsWithByte byte (b ∷ bytes) → ⊥)
  by_case (inl same) = inl (bytes, ap (λ x. x ∷ bytes) same)
  by_case (inr (inl lt)) = inr (λ h. omega (arith, head_is h.1, lt))
  by_case (inr (inr lt)) = inr (λ h. omega (arith, head_is h.1, lt))

-- places

abbrev PlaceFirst : List ℕ → Type 0
PlaceFirst bytes = (p : Pos) × (rest : List ℕ) × StartsWithPlace bytes p rest

place_of : {bytes rest after back : List ℕ} {n m : ℕ} → StartsWithNumber bytes n rest → rest ≡ 58 ∷ after → StartsWithNumber after m back → PlaceFirst bytes
place_of {bytes = bytes} {after = after} {back = back} {n = n} {m = m} h e k = (
  record { line = n; col = m; line_in_range = (h.from_one, h.in_reach); col_in_range = (k.from_one, k.in_reach) },
  back,
  record { after_line = after; line = subst (λ r. StartsWithNumber bytes n r) e h; col = k },
)

place_first : (bytes : List ℕ) → PlaceFirst bytes ⊎ ((p : Pos) (rest : List ℕ) → StartsWithPlace bytes p rest → ⊥)
place_first bytes = by_line (number_first bytes) where
  by_col : {n : ℕ} {rest after : List ℕ} → StartsWithNumber bytes n rest → rest ≡ 58 ∷ after → NumberFirst after ⊎ ((m : ℕ) (vs : List ℕ) → StartsWithNumber after m vs → ⊥) →
      PlaceFirst bytes ⊎ ((p : Pos) (vs : List ℕ) → StartsWithPlace bytes p vs → ⊥)
  by_col h e (inl (m, back, k)) = inl (place_of h e k)
  by_col h e (inr none) = inr (λ p vs k. no_column h e none k)

  by_colon : {n : ℕ} {rest : List ℕ} → StartsWithNumber bytes n rest → StartsWithByte 58 rest ⊎ (StartsWithByte 58 rest → ⊥) →
      PlaceFirst bytes ⊎ ((p : Pos) (vs : List ℕ) → StartsWithPlace bytes p vs → ⊥)
  by_colon h (inl (after, e)) = by_col h e (number_first after)
  by_colon h (inr none) = inr (λ p vs k. no_colon h none k)

  by_line : NumberFirst bytes ⊎ ((n : ℕ) (rest : List ℕ) → StartsWithNumber bytes n rest → ⊥) → PlaceFirst bytes ⊎ ((p : Pos) (vs : List ℕ) → StartsWithPlace bytes p vs → ⊥)
  by_line (inl (n, rest, h)) = by_colon h (byte_first 58 rest)
  by_line (inr none) = inr (λ p vs k. none _ _ k.line)

-- kinds

abbrev At : List ℕ → Kind → Type 0
At text k = (text ≡ kind_text k) ⊎ (text ≡ kind_text k → ⊥)

kind_or_not : (text : List ℕ) → ((k : Kind) × (text ≡ kind_text k)) ⊎ ((k : Kind) → text ≡ kind_text k → ⊥)
kind_or_not text = by_case (at Null) (at Perm) (at Fact) (at Div) (at Negative) (at Amount) where
  at : (k : Kind) → At text k
  at k = text_or_not text (kind_text k)

  none : (text ≡ kind_text Null → ⊥) → (text ≡ kind_text Perm → ⊥) → (text ≡ kind_text Fact → ⊥) → (text ≡ kind_text Div → ⊥) → (text ≡ kind_text Negative → ⊥) →
      (text ≡ kind_text Amount → ⊥) → (k : Kind) → text ≡ kind_text k → ⊥
  none a b c d e f Null h = a h
  none a b c d e f Perm h = b h
  none a b c d e f Fact h = c h
  none a b c d e f Div h = d h
  none a b c d e f Negative h = e h
  none a b c d e f Amount h = f h

  by_case : At text Null → At text Perm → At text Fact → At text Div → At text Negative → At text Amount → ((k : Kind) × (text ≡ kind_text k)) ⊎ ((k : Kind) → text ≡ kind_text k → ⊥)
  by_case (inl h) b c d e f = inl (Null, h)
  by_case (inr a) (inl h) c d e f = inl (Perm, h)
  by_case (inr a) (inr b) (inl h) d e f = inl (Fact, h)
  by_case (inr a) (inr b) (inr c) (inl h) e f = inl (Div, h)
  by_case (inr a) (inr b) (inr c) (inr d) (inl h) f = inl (Negative, h)
  by_case (inr a) (inr b) (inr c) (inr d) (inr e) (inl h) = inl (Amount, h)
  by_case (inr a) (inr b) (inr c) (inr d) (inr e) (inr f) = inr (none a b c d e f)

-- labels

place_text_is : {bytes rest : List ℕ} {p : Pos} → StartsWithPlace bytes p rest → bytes ≡ place_text p ++ rest
place_text_is {p = p} h = h.line.text ∙ ap (λ l. decimal p.line ++ (58 ∷ l)) h.col.text ∙ simp append_assoc

label_of : {bytes rest after behind last : List ℕ} {p q : Pos} (k : Kind) → StartsWithPlace bytes p rest → rest ≡ 32 ∷ after → StartsWithPlace after q behind → behind ≡ 32 ∷ last →
    last ≡ kind_text k → (l : Label) × Spells bytes l
label_of {p = p} {q = q} k h space g again e = (
  record { at = p; part = q; kind = k },
  record {
    text = place_text_is h ∙ ap (λ l. place_text p ++ l) (space ∙ ap (λ l. 32 ∷ l) (place_text_is g ∙ ap (λ l. place_text q ++ l) (again ∙ ap (λ l. 32 ∷ l) e))) ∙ simp append_assoc;
  },
)

abbrev Found : List ℕ → Type 0
Found bytes = ((l : Label) × Spells bytes l) ⊎ ((l : Label) → Spells bytes l → ⊥)

pub label_or_not : (bytes : List ℕ) → Found bytes
label_or_not bytes = by_place (place_first bytes) where
  by_kind : {rest after behind last : List ℕ} {p q : Pos} → StartsWithPlace bytes p rest → rest ≡ 32 ∷ after → StartsWithPlace after q behind → behind ≡ 32 ∷ last →
      ((k : Kind) × (last ≡ kind_text k)) ⊎ ((k : Kind) → last ≡ kind_text k → ⊥) → Found bytes
  by_kind h space g again (inl (k, e)) = inl (label_of k h space g again e)
  by_kind h space g again (inr none) = inr (λ l k. no_kind h space g again none l k)

  by_second_space : {rest after behind : List ℕ} {p q : Pos} → StartsWithPlace bytes p rest → rest ≡ 32 ∷ after → StartsWithPlace after q behind →
      StartsWithByte 32 behind ⊎ (StartsWithByte 32 behind → ⊥) → Found bytes
  by_second_space h space g (inl (last, e)) = by_kind h space g e (kind_or_not last)
  by_second_space h space g (inr none) = inr (λ l k. no_second_space h space g none l k)

  by_part : {rest after : List ℕ} {p : Pos} → StartsWithPlace bytes p rest → rest ≡ 32 ∷ after → PlaceFirst after ⊎ ((q : Pos) (vs : List ℕ) → StartsWithPlace after q vs → ⊥) → Found bytes
  by_part h space (inl (q, behind, g)) = by_second_space h space g (byte_first 32 behind)
  by_part h space (inr none) = inr (λ l k. no_part h space none l k)

  by_space : {rest : List ℕ} {p : Pos} → StartsWithPlace bytes p rest → StartsWithByte 32 rest ⊎ (StartsWithByte 32 rest → ⊥) → Found bytes
  by_space h (inl (after, e)) = by_part h e (place_first after)
  by_space h (inr none) = inr (λ l k. no_space h none l k)

  by_place : PlaceFirst bytes ⊎ ((p : Pos) (vs : List ℕ) → StartsWithPlace bytes p vs → ⊥) → Found bytes
  by_place (inl (p, rest, h)) = by_space h (byte_first 32 rest)
  by_place (inr none) = inr (λ l k. none _ _ (first_place k))
