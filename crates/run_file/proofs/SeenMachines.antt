-- A machine that reads part of what another one reads.
use Rattle.std.proofs.Common.{◌≡◌, ◌∙◌, ◌+◌, ℕ, List, [], ◌∷◌, take, Option, Some, None, refl, sym, ap}
use Rattle.std.specs.Option.{option_map}
use Rattle.lemmas.proofs.Options.{some_same, none_some}
use Rattle.vb_base.specs.declared.places.Pos.{Pos}
use Rattle.run_file_words.specs.Machine.{Machine, all_steps, IsReadBy, StopsBy, bad, headless}

-- the second machine sees this of a state and of a run of the first
pub record Sees {S R T Q : Type 0} (m : Machine S R) (n : Machine T Q) (state : S → T) (run : R → Q) : Type 0 where
  pub begun : n.begun ≡ state m.begun
  pub step : (st : S) (text : List ℕ) → n.step (state st) text ≡ option_map state (m.step st text)
  pub headed : (st : S) → n.is_headed (state st) ≡ m.is_headed st
  pub shown : (st : S) → n.run (state st) ≡ run (m.run st)

mapped_of : {S T : Type 0} (f : S → T) (o : Option S) (t : T) → option_map f o ≡ Some t → (s : S) × ((o ≡ Some s) × (f s ≡ t))
mapped_of f None t e = absurd (none_some e)
mapped_of f (Some s) t e = (s, (refl, some_same e))

nothing_mapped : {S T : Type 0} (f : S → T) (o : Option S) → option_map f o ≡ None → o ≡ None
nothing_mapped f None e = refl
nothing_mapped f (Some s) e = absurd (none_some (sym e))

module _ {S R T Q : Type 0} {m : Machine S R} {n : Machine T Q} {state : S → T} {run : R → Q} (k : Sees m n state run) where
  steps_seen : (o : Option S) (lines : List (List ℕ)) → all_steps n.step (option_map state o) lines ≡ option_map state (all_steps m.step o lines)
  steps_seen None lines = refl
  steps_seen (Some st) [] = refl
  steps_seen (Some st) (l ∷ ls) = ap (λ o. all_steps n.step o ls) (k.step st l) ∙ steps_seen (m.step st l) ls

  begun_seen : (lines : List (List ℕ)) → all_steps n.step (Some n.begun) lines ≡ option_map state (all_steps m.step (Some m.begun) lines)
  begun_seen lines = ap (λ st. all_steps n.step (Some st) lines) k.begun ∙ steps_seen (Some m.begun) lines

  state_seen : (lines : List (List ℕ)) (t : T) → all_steps n.step (Some n.begun) lines ≡ Some t → (s : S) × ((all_steps m.step (Some m.begun) lines ≡ Some s) × (state s ≡ t))
  state_seen lines t e = mapped_of state (all_steps m.step (Some m.begun) lines) t (sym (begun_seen lines) ∙ e)

  pub read_seen : (lines : List (List ℕ)) (q : Q) → IsReadBy n lines q → (r : R) × (IsReadBy m lines r × (q ≡ run r))
  read_seen lines q h =
      let s = state_seen lines h.last h.read in (
        m.run s.0,
        (
          record { last = s.0; read = s.1.0; headed = sym (k.headed s.0) ∙ (ap (λ t. n.is_headed t) s.1.1 ∙ h.headed); run = refl },
          sym h.run ∙ (ap (λ t. n.run t) (sym s.1.1) ∙ k.shown s.0),
        ),
      )

  pub stops_seen : (lines : List (List ℕ)) (at : Pos) → StopsBy n lines at → StopsBy m lines at
  stops_seen lines at (bad i st within before after line col) =
      let s = state_seen (take i lines) st before in
      bad i s.0 within s.1.0 (nothing_mapped state (all_steps m.step (Some m.begun) (take (i + 1) lines)) (sym (begun_seen (take (i + 1) lines)) ∙ after)) line col
  stops_seen lines at (headless st read unread line col) =
      let s = state_seen lines st read in
      headless s.0 s.1.0 (sym (k.headed s.0) ∙ (ap (λ t. n.is_headed t) s.1.1 ∙ unread)) line col
