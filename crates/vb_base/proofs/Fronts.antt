-- What stands at the front of a text stands there in one way, and the text of a label has its parts there.
use Rattle.std.proofs.Common.{◌≡◌, ◌∙◌, ℕ, List, ◌∷◌, ◌++◌, refl, sym, ap, arith, append_assoc, length, get_or, ◌==◌, if◌then◌else◌}
use Rattle.vb_base.specs.declared.labels.Kind.TheVariants.{Null, Perm, Fact, Div, Negative, Amount}
use Rattle.std.specs.Fmt.{decimal}
use Rattle.std.proofs.lemmas.Fmt.{decimal_injective}
use Rattle.lemmas.proofs.Lists.{same_rest}
use Rattle.vb_base.specs.declared.places.Pos.{Pos}
use Rattle.vb_base.specs.declared.labels.Label.{Label}
use Rattle.vb_base.specs.declared.labels.Kind.{Kind}
use Rattle.vb_base.specs.Labels.{kind_text, place_text, Spells}
use Rattle.vb_base.specs.Reading.{digit_count, StartsWithNumber, StartsWithPlace, StartsWithByte}
use Rattle.vb_base.proofs.Place.{same_pos}
use Rattle.vb_base.proofs.Numbers.{number_is_front}

pub one_number : {bytes rest other : List ℕ} {n m : ℕ} → StartsWithNumber bytes n rest → StartsWithNumber bytes m other → (n ≡ m) × (rest ≡ other)
one_number {n = n} {m = m} h k =
    let a = number_is_front h in
    let b = number_is_front k in
    (decimal_injective n m (omega (arith, h.in_reach)) (omega (arith, k.in_reach)) (sym a.front ∙ b.front), sym a.behind ∙ b.behind)

pub number_at : {bytes other rest : List ℕ} {n : ℕ} → bytes ≡ other → StartsWithNumber bytes n rest → StartsWithNumber other n rest
number_at e h = record { from_one = h.from_one; in_reach = h.in_reach; text = sym e ∙ h.text; ends = h.ends }

-- after the line of a place stands a colon
pub no_colon : {bytes rest other : List ℕ} {n : ℕ} {p : Pos} → StartsWithNumber bytes n rest → (StartsWithByte 58 rest → ⊥) → StartsWithPlace bytes p other → ⊥
no_colon h none k = none (k.after_line, (one_number h k.line).1)

-- and then a column
pub no_column : {bytes rest after other : List ℕ} {n : ℕ} {p : Pos} → StartsWithNumber bytes n rest → rest ≡ 58 ∷ after →
    ((m : ℕ) (vs : List ℕ) → StartsWithNumber after m vs → ⊥) → StartsWithPlace bytes p other → ⊥
no_column h colon none k =
    let same = same_rest (sym (one_number h k.line).1 ∙ colon) in none _ _ (number_at same k.col)

pub one_place : {bytes rest other : List ℕ} {p q : Pos} → StartsWithPlace bytes p rest → StartsWithPlace bytes q other → (p ≡ q) × (rest ≡ other)
one_place {p = p} {q = q} h k =
    let line = one_number h.line k.line in
    let col = one_number (number_at (same_rest line.1) h.col) k.col in
    (same_pos p q line.0 col.0, col.1)

pub place_at_front : (p : Pos) (rest : List ℕ) → digit_count rest ≡ 0 → StartsWithPlace (place_text p ++ rest) p rest
place_at_front p rest ends = record {
  after_line = decimal p.col ++ rest;
  line = record { from_one = p.line_in_range.0; in_reach = p.line_in_range.1; text = simp append_assoc; ends = refl };
  col = record { from_one = p.col_in_range.0; in_reach = p.col_in_range.1; text = refl; ends = ends };
}

pub place_of : {bytes other rest : List ℕ} {p : Pos} → bytes ≡ other → StartsWithPlace other p rest → StartsWithPlace bytes p rest
place_of e h = record { after_line = h.after_line; line = number_at (sym e) h.line; col = h.col }

-- the text of a label after its first place, and after its second
pub first_place : {bytes : List ℕ} {l : Label} → Spells bytes l → StartsWithPlace bytes l.at (32 ∷ (place_text l.part ++ (32 ∷ kind_text l.kind)))
first_place {l = l} h = place_of (h.text ∙ simp append_assoc) (place_at_front l.at _ refl)

pub second_place : {bytes : List ℕ} {l : Label} → Spells bytes l → StartsWithPlace (place_text l.part ++ (32 ∷ kind_text l.kind)) l.part (32 ∷ kind_text l.kind)
second_place {l = l} h = place_at_front l.part _ refl

-- what is read of a label, step by step: the rest after each place and each space is the label's own
pub no_space : {bytes rest : List ℕ} {p : Pos} → StartsWithPlace bytes p rest → (StartsWithByte 32 rest → ⊥) → (l : Label) → Spells bytes l → ⊥
no_space h none l k = none (_, (one_place h (first_place k)).1)

after_space : {bytes rest after : List ℕ} {p : Pos} {l : Label} → StartsWithPlace bytes p rest → rest ≡ 32 ∷ after → Spells bytes l → after ≡ place_text l.part ++ (32 ∷ kind_text l.kind)
after_space h space k = same_rest (sym space ∙ (one_place h (first_place k)).1)

pub no_part : {bytes rest after : List ℕ} {p : Pos} → StartsWithPlace bytes p rest → rest ≡ 32 ∷ after →
    ((q : Pos) (vs : List ℕ) → StartsWithPlace after q vs → ⊥) → (l : Label) → Spells bytes l → ⊥
no_part h space none l k = none _ _ (place_of (after_space h space k) (second_place k))

pub no_second_space : {bytes rest after behind : List ℕ} {p q : Pos} → StartsWithPlace bytes p rest → rest ≡ 32 ∷ after → StartsWithPlace after q behind →
    (StartsWithByte 32 behind → ⊥) → (l : Label) → Spells bytes l → ⊥
no_second_space h space g none l k = none (_, (one_place g (place_of (after_space h space k) (second_place k))).1)

pub no_kind : {bytes rest after behind last : List ℕ} {p q : Pos} → StartsWithPlace bytes p rest → rest ≡ 32 ∷ after → StartsWithPlace after q behind → behind ≡ 32 ∷ last →
    ((j : Kind) → last ≡ kind_text j → ⊥) → (l : Label) → Spells bytes l → ⊥
no_kind h space g again none l k =
    none _ (same_rest (sym again ∙ (one_place g (place_of (after_space h space k) (second_place k))).1))

-- the kind that a text names, told by how long it is and how it begins
kind_of : List ℕ → Kind
kind_of text =
    if length text == 5 then Fact else (if length text == 3 then Div else (if length text == 8 then Negative else
    (if length text == 6 then Amount else (if get_or text 0 0 == 110 then Null else Perm))))

kind_of-text : (k : Kind) → kind_of (kind_text k) ≡ k
unfolding kind_of
kind_of-text Null = refl
kind_of-text Perm = refl
kind_of-text Fact = refl
kind_of-text Div = refl
kind_of-text Negative = refl
kind_of-text Amount = refl

pub one_label : {bytes : List ℕ} {a b : Label} → Spells bytes a → Spells bytes b → a ≡ b
one_label {a = a} {b = b} h k =
    let first = one_place (first_place h) (first_place k) in
    let second = one_place (place_of (sym (same_rest first.1)) (second_place h)) (second_place k) in
    let at : a.at ≡ b.at = first.0 in
    let part : a.part ≡ b.part = second.0 in
    let kind : a.kind ≡ b.kind = sym (kind_of-text a.kind) ∙ (ap kind_of (same_rest second.1) ∙ kind_of-text b.kind) in
    λ t. record { at = at t; part = part t; kind = kind t }
