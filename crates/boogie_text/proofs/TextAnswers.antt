-- Each text is read as a program, or is refused.
use Rattle.std.proofs.Common.{◌≡◌, ◌∙◌, ℕ, zero, suc, ◌+◌, ◌-◌, ◌<◌, ◌≤◌, ◌^◌, ◌==◌, ◌⊎◌, inl, inr, Bool, true, false, List, [], ◌∷◌, ◌++◌, length, take, drop, Option, Some, None, if◌then◌else◌, refl, sym, ap, subst, arith, length-append, length-drop}
use Rattle.std.specs.Prelude.{slice_get}
use Rattle.std.specs.Char.{is_ascii_digit}
use Rattle.std.specs.List.{starts_with}
use Rattle.std.specs.Str.Parse.{digits_value}
use Rattle.std.proofs.lemmas.Bool.{cases_lt, cases_order, eqb-true}
use Rattle.std.proofs.lemmas.List.{take-append-drop}
use Rattle.lemmas.proofs.Lists.{item_there as item}
use Rattle.vb_base.specs.Limits.{max_unclosed_brackets, max_boogie_bytes}
use Rattle.vb_base.specs.declared.places.Pos.{Pos}
use Rattle.vb_base.specs.Labels.{Spells}
use Rattle.vb_base.specs.declared.labels.Label.{Label}
use Rattle.vb_base.specs.Names.{is_name_start}
use Rattle.vb_base.specs.Place.{IsPlace, IsPlaceAfter, line_after, col_after}
use Rattle.vb_base.specs.Rows.{front, behind}
use Rattle.vb_base.proofs.PlaceLaws.{line_after-le, col_after-le}
use Rattle.boogie_tree.specs.Program.{BProgram}
use Rattle.boogie_tree.specs.Text.{prelude}
use Rattle.boogie_grammar.specs.declared.faults.BoogieFault.{BoogieFault}
use Rattle.boogie_grammar.specs.declared.tokens.BSign.{BSign}
use Rattle.boogie_grammar.specs.declared.tokens.Lexeme.{Lexeme}
use Rattle.boogie_grammar.specs.declared.tokens.PlacedLexeme.{PlacedLexeme}
use Rattle.boogie_grammar.specs.Pieces as p
use Rattle.boogie_tree.specs.Literals.{max_literal}
use Rattle.boogie_grammar.specs.Pieces.{Class, Blank, Letter, Digit, Quote, Other, Piece, class_of, is_blank, is_unquoted, digits, sign_at}
use Rattle.boogie_grammar.specs.Cut.{IsCut, end, piece, onto}
use Rattle.boogie_grammar.specs.Depth.{IsShallow, IsTooDeep, unclosed}
use Rattle.boogie_grammar.specs.Spells.{IsProgram, GoesWrong}
use Rattle.boogie_grammar.specs.Faults.{Differs, ended, other, later, Stops, IsFault}
use Rattle.boogie_grammar.specs.Faults as s
use Rattle.boogie_grammar.proofs.DepthLaws.{one_more_front, shallow_from_fronts}
use Rattle.boogie_grammar.proofs.LexLaws.{piece_some}
use Rattle.boogie_grammar.proofs.PieceLaws.{comment_piece, no_sign}
use Rattle.boogie_print.specs.Read.{IsRead}
use Rattle.boogie_text.specs.PublicTokens.{IsTokenFault, no_prelude, no_token, too_deep}
use Rattle.boogie_text.specs.Texts.{HasTokens, IsRefused, no_tokens, no_program}
use Rattle.boogie_text.proofs.Answered.{some_answer}
use Rattle.boogie_text.proofs.FaultLaws.{is_fault}
use Rattle.boogie_text.proofs.LabelAnswers.{label_or_not}
use Rattle.boogie_text.proofs.ReadLaws.{is_read}

-- a piece begins here, or none

abbrev Found : Class → List ℕ → Type 0
Found c bytes = ((o : Option Lexeme) × (n : ℕ) × Piece c bytes o n) ⊎ ((o : Option Lexeme) (n : ℕ) → Piece c bytes o n → ⊥)

too_large : {bytes : List ℕ} {o : Option Lexeme} {n : ℕ} → max_literal < digits_value 10 (digits bytes) → Piece Digit bytes o n → ⊥
too_large lt (p.number small) = omega (arith, lt, small)

number_found : (bytes : List ℕ) → Found Digit bytes
number_found bytes = by_case (cases_lt max_literal (digits_value 10 (digits bytes))) where
  by_case : (max_literal < digits_value 10 (digits bytes)) ⊎ (digits_value 10 (digits bytes) ≤ max_literal) → Found Digit bytes
  by_case (inl lt) = inr (λ o n h. too_large lt h)
  by_case (inr small) = inl (_, _, p.number small)

no_label : {bytes : List ℕ} {o : Option Lexeme} {n : ℕ} → ((l : Label) → Spells (front is_unquoted bytes) l → ⊥) → Piece Quote (34 ∷ bytes) o n → ⊥
no_label none (p.text h e) = none _ h

no_end : {bytes : List ℕ} {o : Option Lexeme} {n : ℕ} → ((rest : List ℕ) → behind is_unquoted bytes ≡ 34 ∷ rest → ⊥) → Piece Quote (34 ∷ bytes) o n → ⊥
no_end none (p.text h e) = none _ e

quote_first : (bytes : List ℕ) → ((rest : List ℕ) × (bytes ≡ 34 ∷ rest)) ⊎ ((rest : List ℕ) → bytes ≡ 34 ∷ rest → ⊥)
quote_first [] = inr (λ rest e. cc)
quote_first (b ∷ bytes) = by_case (cases_order b 34) where
  head_is : {rest : List ℕ} → b ∷ bytes ≡ 34 ∷ rest → b ≡ 34
  head_is e = cc

  by_case : (b ≡ 34) ⊎ ((b < 34) ⊎ (34 < b)) → ((rest : List ℕ) × (b ∷ bytes ≡ 34 ∷ rest)) ⊎ ((rest : List ℕ) → b ∷ bytes ≡ 34 ∷ rest → ⊥)
  by_case (inl same) = inl (bytes, ap (λ x. x ∷ bytes) same)
  by_case (inr (inl lt)) = inr (λ rest e. omega (arith, head_is e, lt))
  by_case (inr (inr lt)) = inr (λ rest e. omega (arith, head_is e, lt))

text_found : (bytes : List ℕ) → Found Quote (34 ∷ bytes)
text_found bytes = by_case (label_or_not (front is_unquoted bytes)) (quote_first (behind is_unquoted bytes)) where
  by_case : ((l : Label) × Spells (front is_unquoted bytes) l) ⊎ ((l : Label) → Spells (front is_unquoted bytes) l → ⊥) →
      ((rest : List ℕ) × (behind is_unquoted bytes ≡ 34 ∷ rest)) ⊎ ((rest : List ℕ) → behind is_unquoted bytes ≡ 34 ∷ rest → ⊥) → Found Quote (34 ∷ bytes)
  by_case (inl (l, h)) (inl (rest, e)) = inl (_, _, p.text h e)
  by_case (inr none) e = inr (λ o n h. no_label none h)
  by_case (inl h) (inr none) = inr (λ o n k. no_end none k)

other_found : (bytes : List ℕ) → Found Other bytes
other_found bytes = by_slashes (starts_with ◌==◌ bytes (47 ∷ 47 ∷ [])) refl where
  by_sign : starts_with ◌==◌ bytes (47 ∷ 47 ∷ []) ≡ false → (o : Option BSign) → sign_at bytes ≡ o → Found Other bytes
  by_sign h (Some o) e = inl (_, _, p.sign h e)
  by_sign h None e = inr (no_sign bytes h e)

  by_slashes : (b : Bool) → starts_with ◌==◌ bytes (47 ∷ 47 ∷ []) ≡ b → Found Other bytes
  by_slashes true h = inl (_, _, comment_piece bytes _ h refl)
  by_slashes false h = by_sign h (sign_at bytes) refl

found_at : (c : Class) (b : ℕ) (bytes : List ℕ) → (c ≡ Quote → b ≡ 34) → Found c (b ∷ bytes)
found_at Blank b bytes quote = inl (_, _, p.blank)
found_at Letter b bytes quote = inl (_, _, p.name)
found_at Digit b bytes quote = number_found (b ∷ bytes)
found_at Quote b bytes quote = subst (λ x. Found Quote (x ∷ bytes)) (sym (quote refl)) (text_found bytes)
found_at Other b bytes quote = other_found (b ∷ bytes)

quote_at : (x y z w : Bool) → (if x then Blank else (if y then Letter else (if z then Digit else (if w then Quote else Other)))) ≡ Quote → w ≡ true
quote_at true y z w e = absurd (cc)
quote_at false true z w e = absurd (cc)
quote_at false false true w e = absurd (cc)
quote_at false false false true e = refl
quote_at false false false false e = absurd (cc)

found : (b : ℕ) (bytes : List ℕ) → Found (class_of b) (b ∷ bytes)
found b bytes = found_at (class_of b) b bytes (λ e. eqb-true b 34 (quote_at (is_blank b) (is_name_start b) (is_ascii_digit b) (b == 34) e))

-- a text is cut, or stops

some_place : (before : List ℕ) → length before < 2 ^ 32 - 1 → (at : Pos) × IsPlaceAfter before at
some_place before most = (
  record {
    line = line_after before;
    col = col_after before;
    line_in_range = (omega arith, omega (arith, most, line_after-le before));
    col_in_range = (omega arith, omega (arith, most, col_after-le before));
  },
  record { line = refl; col = refl },
)

abbrev Cuts : List ℕ → List ℕ → Type 0
Cuts before bytes = ((ts : List PlacedLexeme) × IsCut before bytes ts) ⊎ ((at : Pos) × Stops before bytes at)

goes_on : {before bytes : List ℕ} {b n : ℕ} {o : Option Lexeme} {at : Pos} → Piece (class_of b) (b ∷ bytes) o n → IsPlaceAfter before at →
    Cuts (before ++ take n (b ∷ bytes)) (drop n (b ∷ bytes)) → Cuts before (b ∷ bytes)
goes_on {o = o} {at = at} h place (inl (ts, c)) = inl (onto o at ts, piece h place c)
goes_on h place (inr (at, c)) = inr (at, s.later h c)

cut_by : (n : ℕ) (before bytes : List ℕ) → length bytes < n → length before + length bytes < 2 ^ 32 - 1 → Cuts before bytes
cut_by zero before bytes lt most = absurd (omega (arith, lt))
cut_by (suc n) before [] lt most = inl ([], end)
cut_by (suc n) before (b ∷ bytes) lt most = by_case (found b bytes) (some_place before (omega (arith, most))) (λ front back. cut_by n front back) where
  by_case : Found (class_of b) (b ∷ bytes) → (at : Pos) × IsPlaceAfter before at →
      ((front back : List ℕ) → length back < n → length front + length back < 2 ^ 32 - 1 → Cuts front back) → Cuts before (b ∷ bytes)
  by_case (inr none) (at, place) again = inr (at, s.here none place)
  by_case (inl (o, k, h)) (at, place) again =
      let some = piece_some (b ∷ bytes) o k h in
      let left = length-drop k (b ∷ bytes) in
      let whole = sym (length-append (take k (b ∷ bytes)) (drop k (b ∷ bytes))) ∙ ap length (take-append-drop k (b ∷ bytes)) in
      let longer = length-append before (take k (b ∷ bytes)) in
      goes_on h place (again (before ++ take k (b ∷ bytes)) (drop k (b ∷ bytes)) (omega (arith, lt, some.0, some.1, left)) (omega (arith, most, whole, longer)))

-- a text begins with the prelude, or differs from it

front_or_not : (bytes begin : List ℕ) → ((rest : List ℕ) × (bytes ≡ begin ++ rest)) ⊎ ((same : List ℕ) × Differs bytes begin same × (length same ≤ length begin))
front_or_not bytes [] = inl (bytes, refl)
front_or_not [] (b ∷ begin) = inr ([], ended, omega arith)
front_or_not (a ∷ bytes) (b ∷ begin) = by_case (cases_order a b) (front_or_not bytes begin) where
  by_case : (a ≡ b) ⊎ ((a < b) ⊎ (b < a)) → ((rest : List ℕ) × (bytes ≡ begin ++ rest)) ⊎ ((same : List ℕ) × Differs bytes begin same × (length same ≤ length begin)) →
      ((rest : List ℕ) × (a ∷ bytes ≡ (b ∷ begin) ++ rest)) ⊎ ((same : List ℕ) × Differs (a ∷ bytes) (b ∷ begin) same × (length same ≤ length (b ∷ begin)))
  by_case (inl e) (inl (rest, h)) = inl (rest, ap (λ x. x ∷ bytes) e ∙ ap (λ xs. b ∷ xs) h)
  by_case (inl e) (inr (same, d, le)) = inr (a ∷ same, later e d, omega (arith, le))
  by_case (inr (inl lt)) h = inr ([], other (λ e. omega (arith, e, lt)), omega arith)
  by_case (inr (inr lt)) h = inr ([], other (λ e. omega (arith, e, lt)), omega arith)

-- the brackets are too deep, or not

abbrev Deep : List PlacedLexeme → Type 0
Deep ts = (at : Pos) × IsTooDeep ts at

deep_by : (ts : List PlacedLexeme) (i : ℕ) → i ≤ length ts → ((n : ℕ) → n ≤ i → unclosed (take n ts) ≤ max_unclosed_brackets) ⊎ Deep ts
deep_by ts zero le = inl (λ n h. by_zero n h) where
  by_zero : (n : ℕ) → n ≤ 0 → unclosed (take n ts) ≤ max_unclosed_brackets
  by_zero zero h = omega arith
  by_zero (suc n) h = absurd (omega (arith, h))
deep_by ts (suc i) le = by_case (deep_by ts i (omega (arith, le))) (cases_lt max_unclosed_brackets (unclosed (take (i + 1) ts))) (item ts i (omega (arith, le))) where
  by_case : ((n : ℕ) → n ≤ i → unclosed (take n ts) ≤ max_unclosed_brackets) ⊎ Deep ts → (max_unclosed_brackets < unclosed (take (i + 1) ts)) ⊎ (unclosed (take (i + 1) ts) ≤ max_unclosed_brackets) →
      (t : PlacedLexeme) × (slice_get ts i ≡ Some t) → ((n : ℕ) → n ≤ suc i → unclosed (take n ts) ≤ max_unclosed_brackets) ⊎ Deep ts
  by_case (inr d) above t = inr d
  by_case (inl h) (inl above) (t, e) = inr (t.pos, record { index = i; token = t; here = e; place = refl; above = above; before = h })
  by_case (inl h) (inr within) t = inl (λ n le. one_more_front ts i h within n (omega (arith, le)))

deep_or_not : (ts : List PlacedLexeme) → IsShallow ts ⊎ Deep ts
deep_or_not ts = by_case (deep_by ts (length ts) (omega arith)) where
  by_case : ((n : ℕ) → n ≤ length ts → unclosed (take n ts) ≤ max_unclosed_brackets) ⊎ Deep ts → IsShallow ts ⊎ Deep ts
  by_case (inl h) = inl (shallow_from_fronts ts h)
  by_case (inr d) = inr d

-- a text has tokens, or there is a reason for which it has none

abbrev Tokens : List ℕ → Type 0
Tokens bytes = ((ts : List PlacedLexeme) × HasTokens bytes ts) ⊎ ((f : BoogieFault) × IsTokenFault bytes f)

prelude_short : length prelude ≤ max_boogie_bytes
unfolding prelude
prelude_short = omega arith

by_depth : {rest : List ℕ} {ts : List PlacedLexeme} → IsCut prelude rest ts → IsShallow ts ⊎ Deep ts → Tokens (prelude ++ rest)
by_depth {rest = rest} {ts = ts} c (inl shallow) = inl (ts, record { rest = rest; text = refl; cut = c; shallow = shallow })
by_depth c (inr (at, d)) = inr (_, too_deep refl c d)

by_cut : {rest : List ℕ} → Cuts prelude rest → Tokens (prelude ++ rest)
by_cut (inl (ts, c)) = by_depth c (deep_or_not ts)
by_cut (inr (at, h)) = inr (_, no_token refl h)

rest_tokens : (rest : List ℕ) → length (prelude ++ rest) < 2 ^ 32 - 1 → Tokens (prelude ++ rest)
rest_tokens rest most =
    let whole = length-append prelude rest in
    by_cut (cut_by (suc (length rest)) prelude rest (omega arith) (omega (arith, most, whole)))

some_tokens : (bytes : List ℕ) → length bytes < 2 ^ 32 - 1 → Tokens bytes
some_tokens bytes most = by_case (front_or_not bytes prelude) where
  by_case : ((rest : List ℕ) × (bytes ≡ prelude ++ rest)) ⊎ ((same : List ℕ) × Differs bytes prelude same × (length same ≤ length prelude)) → Tokens bytes
  by_case (inl (rest, e)) = subst Tokens (sym e) (rest_tokens rest (subst (λ x. length x < 2 ^ 32 - 1) e most))
  by_case (inr (same, d, le)) = let at = some_place same (omega (arith, le, prelude_short)) in inr (_, no_prelude d at.1)

-- P holds of its tokens, or it is refused

abbrev pub SomeText : (List PlacedLexeme → Type 0) → List ℕ → Type 0
SomeText P bytes = ((ts : List PlacedLexeme) × HasTokens bytes ts × P ts) ⊎ ((f : BoogieFault) × IsRefused P bytes f)

abbrev pub HoldsOrNot : (List PlacedLexeme → Type 0) → List PlacedLexeme → Type 0
HoldsOrNot P ts = P ts ⊎ ((P ts → ⊥) × ((i : ℕ) × IsPlace P ts i))

pub some_text : (P : List PlacedLexeme → Type 0) → ((ts : List PlacedLexeme) → HoldsOrNot P ts) → (bytes : List ℕ) → length bytes < 2 ^ 32 - 1 → SomeText P bytes
some_text P holds bytes most = by_tokens (some_tokens bytes most) where
  by_answer : (ts : List PlacedLexeme) → HasTokens bytes ts → HoldsOrNot P ts → SomeText P bytes
  by_answer ts has (inl h) = inl (ts, has, h)
  by_answer ts has (inr wrong) = let last = some_place bytes most in inr (_, no_program has wrong.0 wrong.1.1 last.1)

  by_tokens : Tokens bytes → SomeText P bytes
  by_tokens (inl (ts, has)) = by_answer ts has (holds ts)
  by_tokens (inr (f, h)) = inr (f, no_tokens h)

-- what a text is

abbrev pub Answer : List ℕ → Type 0
Answer bytes = ((b : BProgram) × IsRead bytes b) ⊎ ((f : BoogieFault) × IsFault bytes f)

program_or_not : (ts : List PlacedLexeme) → IsProgram ts ⊎ GoesWrong ts → HoldsOrNot IsProgram ts
program_or_not ts (inl program) = inl program
program_or_not ts (inr wrong) = inr (wrong.none, (wrong.at, wrong.place))

pub some_text_answer : (bytes : List ℕ) → length bytes < 2 ^ 32 - 1 → Answer bytes
some_text_answer bytes most = by_case (some_text IsProgram (λ ts. program_or_not ts (some_answer ts)) bytes most) where
  by_case : SomeText IsProgram bytes → Answer bytes
  by_case (inl (ts, has, (b, h))) = inl (b, is_read has h)
  by_case (inr (f, h)) = inr (f, is_fault bytes f h)
