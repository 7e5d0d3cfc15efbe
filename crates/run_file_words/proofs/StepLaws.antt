-- How the lines of a file are read one after the other.
use Rattle.std.proofs.Common.{◌≡◌, ◌∙◌, ◌+◌, ◌<◌, ◌≤◌, ◌^◌, ◌⊎◌, inl, inr, ℕ, suc, Bool, true, false, List, [], ◌∷◌, ◌++◌, length, take, drop, Option, Some, None, refl, sym, ap, arith}
use Rattle.std.proofs.lemmas.Bool.{cases_order}
use Rattle.std.proofs.lemmas.List.{take_all, take-append-drop, take-take}
use Rattle.lemmas.proofs.Tests.{not_both}
use Rattle.lemmas.proofs.Options.{some_same, none_some}
use Rattle.vb_base.specs.Limits.{max_boogie_bytes}
use Rattle.vb_base.specs.declared.places.Pos.{Pos}
use Rattle.vb_base.proofs.Place.{same_pos}
use Rattle.run_file_words.specs.Text.{lines_of}
use Rattle.run_file_words.specs.Machine.{Machine, all_steps, IsReadBy, StopsBy, bad, headless}
use Rattle.run_file_words.proofs.ReadLaws.{turn, lines_few, some_line}

-- ---- reading on

module _ {S L : Type 0} (step : S → L → Option S) where
  pub all_steps-append : (o : Option S) (xs ys : List L) → all_steps step o (xs ++ ys) ≡ all_steps step (all_steps step o xs) ys
  all_steps-append None [] ys = refl
  all_steps-append None (x ∷ xs) ys = refl
  all_steps-append (Some st) [] ys = refl
  all_steps-append (Some st) (x ∷ xs) ys = all_steps-append (step st x) xs ys

  one_line : (o : Option S) → all_steps step o [] ≡ o
  one_line None = refl
  one_line (Some st) = refl

  pub step_more : (begun : S) (lines : List L) (i : ℕ) (front : L) (st : S) → take (i + 1) lines ≡ take i lines ++ front ∷ [] →
      all_steps step (Some begun) (take i lines) ≡ Some st → all_steps step (Some begun) (take (i + 1) lines) ≡ step st front
  step_more begun lines i front st taken so_far =
      rw (taken, all_steps-append (Some begun) (take i lines) (front ∷ []), so_far) (one_line (step st front))

-- ---- the ends

module _ {S R : Type 0} (m : Machine S R) (lines : List (List ℕ)) where
  pub stops_here : (i : ℕ) (front : List ℕ) (after : List (List ℕ)) (st : S) (at : Pos) → drop i lines ≡ front ∷ after →
      all_steps m.step (Some m.begun) (take i lines) ≡ Some st → m.step st front ≡ None → at.line ≡ i + 1 → at.col ≡ 1 → StopsBy m lines at
  stops_here i front after st at e so_far none line col =
      let t = turn lines i front after e in
      bad i st t.within so_far (step_more m.step m.begun lines i front st t.taken so_far ∙ none) line col

  pub read_whole : (i : ℕ) (st : S) → i ≡ length lines → all_steps m.step (Some m.begun) (take i lines) ≡ Some st → all_steps m.step (Some m.begun) lines ≡ Some st
  read_whole i st e so_far = rw (take_all i lines (omega arith)) at so_far

  -- ---- one end

  pub one_read : {a b : R} → IsReadBy m lines a → IsReadBy m lines b → a ≡ b
  one_read h k = sym h.run ∙ (ap (λ x. m.run x) (some_same (sym h.read ∙ k.read)) ∙ k.run)

  -- where reading stopped, it stays so
  stopped_front : (i j : ℕ) → i ≤ j → all_steps m.step (Some m.begun) (take i lines) ≡ None → all_steps m.step (Some m.begun) (take j lines) ≡ None
  stopped_front i j below none =
      let split : take i lines ++ drop i (take j lines) ≡ take j lines = ap (λ x. x ++ drop i (take j lines)) (sym (take-take i j lines below)) ∙ take-append-drop i (take j lines) in
      ap (all_steps m.step (Some m.begun)) (sym split) ∙
      (all_steps-append m.step (Some m.begun) (take i lines) (drop i (take j lines)) ∙ ap (λ o. all_steps m.step o (drop i (take j lines))) none)

  stopped_all : (i : ℕ) → all_steps m.step (Some m.begun) (take i lines) ≡ None → all_steps m.step (Some m.begun) lines ≡ None
  stopped_all i none =
      ap (all_steps m.step (Some m.begun)) (sym (take-append-drop i lines)) ∙
      (all_steps-append m.step (Some m.begun) (take i lines) (drop i lines) ∙ ap (λ o. all_steps m.step o (drop i lines)) none)

  pub read_or_stops : {run : R} {at : Pos} → IsReadBy m lines run → StopsBy m lines at → ⊥
  read_or_stops h (bad i st within before after line col) = none_some (sym (stopped_all (i + 1) after) ∙ h.read)
  read_or_stops h (headless st read headless_now line col) =
      not_both headless_now (ap (λ x. m.is_headed x) (some_same (sym read ∙ h.read)) ∙ h.headed)

  bad_twice : (i j : ℕ) (st : S) → i < j → all_steps m.step (Some m.begun) (take (i + 1) lines) ≡ None → all_steps m.step (Some m.begun) (take j lines) ≡ Some st → ⊥
  bad_twice i j st below none some = none_some (sym (stopped_front (i + 1) j (omega (arith, below)) none) ∙ some)

  pub one_stop : {at to : Pos} → StopsBy m lines at → StopsBy m lines to → at ≡ to
  one_stop {at} {to} (bad i st w before after line col) (bad j st' w' before' after' line' col') =
      elim (cases_order i j) [
        | inl same ↦ same_pos at to (line ∙ (ap (λ k. k + 1) same ∙ sym line')) (col ∙ sym col')
        | inr (inl below) ↦ absurd (bad_twice i j st' below after before')
        | inr (inr above) ↦ absurd (bad_twice j i st above after' before)
      ]
  one_stop (bad i st w before after line col) (headless st' read' h' line' col') = absurd (none_some (sym (stopped_all (i + 1) after) ∙ read'))
  one_stop (headless st read h line col) (bad j st' w' before' after' line' col') = absurd (none_some (sym (stopped_all (j + 1) after') ∙ read))
  one_stop {at} {to} (headless st read h line col) (headless st' read' h' line' col') = same_pos at to (line ∙ sym line') (col ∙ sym col')

-- ---- each text is read, or stops somewhere

record Stop {S : Type 0} (step : S → List ℕ → Option S) (st : S) (lines : List (List ℕ)) : Type 0 where
  index : ℕ
  state : S
  within : index < length lines
  before : all_steps step (Some st) (take index lines) ≡ Some state
  after : all_steps step (Some st) (take (index + 1) lines) ≡ None

module _ {S : Type 0} (step : S → List ℕ → Option S) where
  later_stop : (st next : S) (l : List ℕ) (ls : List (List ℕ)) → step st l ≡ Some next → Stop step next ls → Stop step st (l ∷ ls)
  later_stop st next l ls e h =
      let more : suc h.index + 1 ≡ suc (h.index + 1) = omega arith in
      record {
        index = suc h.index;
        state = h.state;
        within = omega (arith, h.within);
        before = ap (λ o. all_steps step o (take h.index ls)) e ∙ h.before;
        after = rw more (ap (λ o. all_steps step o (take (h.index + 1) ls)) e ∙ h.after);
      }

  first_stop_by : (st : S) (l : List ℕ) (ls : List (List ℕ)) (o : Option S) → step st l ≡ o →
      ((next : S) → all_steps step (Some next) ls ≡ None → Stop step next ls) → all_steps step o ls ≡ None → Stop step st (l ∷ ls)
  first_stop_by st l ls None is rec e = record { index = 0; state = st; within = omega arith; before = refl; after = ap (λ o. all_steps step o []) is }
  first_stop_by st l ls (Some next) is rec e = later_stop st next l ls is (rec next e)

  first_stop : (lines : List (List ℕ)) (st : S) → all_steps step (Some st) lines ≡ None → Stop step st lines
  first_stop [] st e = absurd (none_some (sym e))
  first_stop (l ∷ ls) st e = first_stop_by st l ls (step st l) refl (first_stop ls) e

place_of_line : (line : ℕ) → 1 ≤ line → line < 2 ^ 32 → Pos
place_of_line line some few = record { line = line; col = 1; line_in_range = (some, few); col_in_range = (omega arith, omega arith) }

module _ {S R : Type 0} (m : Machine S R) (bytes : List ℕ) (few : length bytes ≤ max_boogie_bytes) where
  ends_by : (o : Option S) → all_steps m.step (Some m.begun) (lines_of bytes) ≡ o → ((run : R) × IsReadBy m (lines_of bytes) run) ⊎ ((at : Pos) × StopsBy m (lines_of bytes) at)
  unfolding place_of_line
  ends_by (Some st) is = by_head (m.is_headed st) refl where
    by_head : (t : Bool) → m.is_headed st ≡ t → ((run : R) × IsReadBy m (lines_of bytes) run) ⊎ ((at : Pos) × StopsBy m (lines_of bytes) at)
    by_head true h = inl (m.run st, record { last = st; read = is; headed = h; run = refl })
    by_head false h =
        let at = place_of_line (length (lines_of bytes)) (some_line bytes) (omega (arith, lines_few bytes, few)) in
        inr (at, headless st is h refl refl)
  ends_by None is =
      let h = first_stop m.step (lines_of bytes) m.begun is in
      let at = place_of_line (h.index + 1) (omega arith) (omega (arith, h.within, lines_few bytes, few)) in
      inr (at, bad h.index h.state h.within h.before h.after refl refl)

  pub ends : ((run : R) × IsReadBy m (lines_of bytes) run) ⊎ ((at : Pos) × StopsBy m (lines_of bytes) at)
  ends = ends_by (all_steps m.step (Some m.begun) (lines_of bytes)) refl
