-- Bytes are refused in one way at most, and not where they spell a program whose brackets are not too deep.
use Rattle.std.proofs.Common.{◌≡◌, ◌∙◌, refl, sym, ap, subst, ℕ, ◌+◌, inl, inr, arith, List, ◌∷◌, ◌++◌, Some, take, drop}
use Rattle.std.specs.Prelude.{slice_get}
use Rattle.std.proofs.lemmas.Bool.{cases_order}
use Rattle.lemmas.proofs.Lists.{same_head, same_tail, same_behind}
use Rattle.vb_base.specs.declared.places.Pos.{Pos}
use Rattle.vb_base.specs.Place.{IsPlace, IsPlaceAfter}
use Rattle.vb_base.proofs.PlaceLaws.{one_place_after, one_place}
use Rattle.boogie_tree.specs.Program.{BProgram}
use Rattle.boogie_tree.specs.Text.{prelude}
use Rattle.boogie_grammar.specs.declared.faults.BoogieFault.{BoogieFault}
use Rattle.boogie_grammar.specs.declared.faults.BoogieFault.TheVariants as fault
use Rattle.boogie_grammar.specs.declared.tokens.PlacedLexeme.{PlacedLexeme}
use Rattle.boogie_grammar.specs.Cut.{IsCut, IsRow, piece}
use Rattle.boogie_grammar.specs.Depth.{IsShallow, IsTooDeep}
use Rattle.boogie_grammar.specs.Spells.{BSpells, IsProgram}
use Rattle.boogie_grammar.specs.Faults.{Differs, ended, other, later, Stops, place_at, IsFault}
use Rattle.boogie_grammar.specs.Faults as s
use Rattle.boogie_print.proofs.CutLaws.{one_piece, one_cut}
use Rattle.boogie_print.proofs.AlikeLaws.{one_row, row_of, never_row, derives_alike, shallow_alike}
use Rattle.boogie_text.specs.PublicTokens.{IsTokenFault, no_prelude, no_token, too_deep}
use Rattle.boogie_text.specs.Texts.{HasTokens, IsRefused, no_tokens, no_program}

pub one_difference : {xs ys s t : List ℕ} → Differs xs ys s → Differs xs ys t → s ≡ t
one_difference ended ended = refl
one_difference (other n) (other m) = refl
one_difference (other n) (later e d) = absurd (n e)
one_difference (later e d) (other n) = absurd (n e)
one_difference (later {a = a} e d) (later f g) = ap (λ l. a ∷ l) (one_difference d g)

pub not_begun : {xs ys s : List ℕ} → Differs xs ys s → (rest : List ℕ) → xs ≡ ys ++ rest → ⊥
not_begun ended rest e = cc
not_begun (other n) rest e = n (same_head e)
not_begun (later f d) rest e = not_begun d rest (same_tail e)

pub one_stop : {before rest : List ℕ} {p q : Pos} → Stops before rest p → Stops before rest q → p ≡ q
one_stop (s.here {before = before} {at = p} n a) (s.here {at = q} m b) = one_place_after before p q a b
one_stop (s.here n a) (s.later p h) = absurd (n _ _ p)
one_stop (s.later p h) (s.here n a) = absurd (n _ _ p)
one_stop (s.later {before = before} {bytes = bytes} {b = b} p h) (s.later {at = q} r k) =
    let At : ℕ → Type 0 = λ n. Stops (before ++ take n (b ∷ bytes)) (drop n (b ∷ bytes)) q in
    one_stop h (subst At (sym (one_piece p r).1) k)

pub never_both : {before rest : List ℕ} {at : Pos} {ts : List PlacedLexeme} → Stops before rest at → IsCut before rest ts → ⊥
never_both (s.here n a) (piece p b h) = n _ _ p
never_both (s.later {before = before} {bytes = bytes} {b = b} p h) (piece {tokens = ts} r a k) =
    let At : ℕ → Type 0 = λ n. IsCut (before ++ take n (b ∷ bytes)) (drop n (b ∷ bytes)) ts in
    never_both h (subst At (sym (one_piece p r).1) k)

pub not_shallow : {ts : List PlacedLexeme} {at : Pos} → IsTooDeep ts at → IsShallow ts → ⊥
not_shallow d h = let l = h (d.index + 1) in let a = d.above in omega arith

same_token : {k j : PlacedLexeme} → Some k ≡ Some j → k ≡ j
same_token e = cc

one_index : {ts : List PlacedLexeme} {p q : Pos} (d : IsTooDeep ts p) (e : IsTooDeep ts q) → d.index ≡ e.index
one_index d e = elim (cases_order d.index e.index) [
  | inl same ↦ same
  | inr (inl lt) ↦ absurd (let l = e.before (d.index + 1) (omega arith) in let a = d.above in omega arith)
  | inr (inr lt) ↦ absurd (let l = d.before (e.index + 1) (omega arith) in let a = e.above in omega arith)
]

pub one_depth : {ts : List PlacedLexeme} {p q : Pos} → IsTooDeep ts p → IsTooDeep ts q → p ≡ q
one_depth {ts = ts} d e =
    let same = same_token (sym d.here ∙ ap (slice_get ts) (one_index d e) ∙ e.here) in
    sym d.place ∙ ap (λ k. k.pos) same ∙ e.place

-- the same tokens

pub cut_as : {bytes rest left : List ℕ} {ts us : List PlacedLexeme} → bytes ≡ prelude ++ rest → bytes ≡ prelude ++ left → IsCut prelude rest ts → IsCut prelude left us → us ≡ ts
cut_as {rest = rest} {left = left} {us = us} e f h k =
    let same : left ≡ rest = same_behind prelude (sym f ∙ e) in
    sym (one_cut h (subst (λ r. IsCut prelude r us) same k))

pub stop_as : {bytes rest left : List ℕ} {at : Pos} → bytes ≡ prelude ++ rest → bytes ≡ prelude ++ left → Stops prelude left at → Stops prelude rest at
stop_as {at = at} e f h = subst (λ r. Stops prelude r at) (same_behind prelude (sym f ∙ e)) h

pub row_as : {bytes rest left : List ℕ} {ts : List PlacedLexeme} → bytes ≡ prelude ++ rest → bytes ≡ prelude ++ left → IsCut prelude left ts → IsRow rest ts
row_as {ts = ts} e f h = subst (λ r. IsRow r ts) (same_behind prelude (sym f ∙ e)) (row_of h)

-- why there are no tokens

pub one_token_fault : (bytes : List ℕ) (f h : BoogieFault) → IsTokenFault bytes f → IsTokenFault bytes h → f ≡ h
one_token_fault bytes _ _ (no_prelude {at = p} d a) (no_prelude {at = q} e b) =
    ap fault.Prelude (one_place_after _ p q a (subst (λ l. IsPlaceAfter l q) (sym (one_difference d e)) b))
one_token_fault bytes _ _ (no_prelude d a) (no_token e h) = absurd (not_begun d _ e)
one_token_fault bytes _ _ (no_prelude d a) (too_deep e h i) = absurd (not_begun d _ e)
one_token_fault bytes _ _ (no_token e h) (no_prelude d a) = absurd (not_begun d _ e)
one_token_fault bytes _ _ (no_token e h) (no_token f k) = ap fault.Syntax (one_stop h (stop_as e f k))
one_token_fault bytes _ _ (no_token e h) (too_deep f k i) = absurd (never_both (stop_as f e h) k)
one_token_fault bytes _ _ (too_deep e h i) (no_prelude d a) = absurd (not_begun d _ e)
one_token_fault bytes _ _ (too_deep e h i) (no_token f k) = absurd (never_both (stop_as e f k) h)
one_token_fault bytes _ _ (too_deep e h i) (too_deep {at = q} f k j) = ap fault.Deep (one_depth i (subst (λ ts. IsTooDeep ts q) (cut_as e f h k) j))

pub never_tokens : {bytes : List ℕ} {ts : List PlacedLexeme} (f : BoogieFault) → IsTokenFault bytes f → HasTokens bytes ts → ⊥
never_tokens _ (no_prelude d p) a = not_begun d a.rest a.text
never_tokens _ (no_token e h) a = never_both (stop_as a.text e h) a.cut
never_tokens _ (too_deep {at = at} e h d) a = not_shallow (subst (λ ts. IsTooDeep ts at) (cut_as a.text e a.cut h) d) a.shallow

-- why tokens are refused, whatever they are to spell

module _ (P : List PlacedLexeme → Type 0) {bytes : List ℕ} where
  pub one_refusal : (f g : BoogieFault) → IsRefused P bytes f → IsRefused P bytes g → f ≡ g
  one_refusal _ _ (no_tokens a) (no_tokens b) = one_token_fault bytes _ _ a b
  one_refusal _ _ (no_tokens a) (no_program has n j k) = absurd (never_tokens _ a has)
  one_refusal _ _ (no_program has n j k) (no_tokens b) = absurd (never_tokens _ b has)
  one_refusal _ _ (no_program {tokens = ts} {i = x} {end = p} h n j k) (no_program {tokens = us} {i = y} {end = q} l o u w) =
      let same = cut_as h.text l.text h.cut l.cut in
      let number : y ≡ x = one_place P ts y x (subst (λ z. IsPlace P z y) same u) j in
      let last : q ≡ p = one_place_after bytes q p w k in
      ap fault.Syntax (sym (ap (λ z. place_at z y q) same ∙ ap (λ z. place_at ts z q) number ∙ ap (λ z. place_at ts x z) last))

  -- where P holds of the tokens they are refused for their brackets alone
  pub deep_only : {rest : List ℕ} {ts : List PlacedLexeme} → bytes ≡ prelude ++ rest → IsRow rest ts → ((us : List PlacedLexeme) → IsRow rest us → P us) →
      (f : BoogieFault) → IsRefused P bytes f → (at : Pos) × (f ≡ fault.Deep at) × (IsShallow ts → ⊥)
  deep_only {rest = rest} text row holds _ (no_tokens (no_prelude d a)) = absurd (not_begun d rest text)
  deep_only text row holds _ (no_tokens (no_token e k)) = absurd (never_row (stop_as text e k) row)
  deep_only text row holds _ (no_tokens (too_deep {at = at} e k i)) = (at, refl, λ shallow. not_shallow i (shallow_alike (one_row row (row_as text e k)) shallow))
  deep_only text row holds _ (no_program {tokens = us} h n j l) = absurd (n (holds us (row_as text h.text h.cut)))

-- why a program is refused

of_fault : (bytes : List ℕ) (f : BoogieFault) → IsFault bytes f → IsRefused IsProgram bytes f
of_fault bytes _ (s.no_prelude d a) = no_tokens (no_prelude d a)
of_fault bytes _ (s.no_token e h) = no_tokens (no_token e h)
of_fault bytes _ (s.too_deep e h i) = no_tokens (too_deep e h i)
of_fault bytes _ (s.no_program {rest = rest} e h i n j k) = no_program (record { rest = rest; text = e; cut = h; shallow = i }) n j k

pub token_fault : (bytes : List ℕ) (f : BoogieFault) → IsTokenFault bytes f → IsFault bytes f
token_fault bytes _ (no_prelude d a) = s.no_prelude d a
token_fault bytes _ (no_token e h) = s.no_token e h
token_fault bytes _ (too_deep e h i) = s.too_deep e h i

pub is_fault : (bytes : List ℕ) (f : BoogieFault) → IsRefused IsProgram bytes f → IsFault bytes f
is_fault bytes _ (no_tokens h) = token_fault bytes _ h
is_fault bytes _ (no_program has n j k) = s.no_program has.text has.cut has.shallow n j k

pub one_fault : (bytes : List ℕ) (f g : BoogieFault) → IsFault bytes f → IsFault bytes g → f ≡ g
one_fault bytes f g a b = one_refusal IsProgram f g (of_fault bytes f a) (of_fault bytes g b)

-- what spells a program is refused for its brackets alone
pub too_deep_only : (bytes : List ℕ) (f : BoogieFault) (b : BProgram) (h : BSpells bytes b) → IsFault bytes f → (at : Pos) × (f ≡ fault.Deep at) × (IsShallow h.tokens → ⊥)
too_deep_only bytes f b h k = deep_only IsProgram h.text h.cut (λ us row. (b, derives_alike h.spells (one_row h.cut row))) f (of_fault bytes f k)

pub not_refused : (bytes : List ℕ) (f : BoogieFault) (b : BProgram) (h : BSpells bytes b) → IsShallow h.tokens → IsFault bytes f → ⊥
not_refused bytes f b h shallow k = (too_deep_only bytes f b h k).2 shallow
