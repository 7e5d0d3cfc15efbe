-- What is forgotten, place by place, and what forgetting keeps.
use Rattle.std.proofs.Common.{Bool, true, false, Some, None, List, [], ◌∷◌, All, IfSome, if◌then◌else◌}
use Rattle.std.proofs.lemmas.List.Elements.{All-nil, All-cons, All-head, All-tail}
use Rattle.std.specs.Ordering.{nat_cmp}
use Rattle.std.specs.declared.cmp.Ordering.{Ordering}
use Rattle.sparse.specs.Map.{Map, get, set, keys}
use Rattle.vb_value.specs.Content.{Content, same_content}
use Rattle.vb_value.specs.Fraction.{Fraction}
use Rattle.vb_value.specs.Key.{key_cmp}
use Rattle.vb_value.specs.Layout.{Layout}
use Rattle.vb_value.specs.Value.{value_eq}
use Rattle.vb_value.specs.declared.values.Value.{Value}
use Rattle.viper_state.specs.Choice as choice
use Rattle.viper_state.specs.Choice.{Choice}
use Rattle.viper_state.specs.Event as event
use Rattle.viper_state.specs.FitsTest.{fits_memo}
use Rattle.viper_state.specs.State.{Key, Memo, State}
use Rattle.viper_state.specs.Within.{HasValues, HasEntries, AllOfMemo, AllOfState, AllOfChoice, AllOfEvent}
use Rattle.viper_state.proofs.EachLaws.{get_has, set_has_values, set_has_entries}
use Rattle.viper_meaning.specs.KeptRuns.{KeepsRun, at_end}
use Rattle.viper_meaning.specs.Forgotten.{kept_at, forgotten_maps, forgotten, with_memo, memo_in, forget}
use Rattle.viper_meaning.proofs.KeptLaws.{is_kept}
use Rattle.viper_meaning.proofs.RunKeptLaws.{before_kept, taking_kept}

-- ---- one map

module _ {K V : Type 0} (cmp : K → K → Ordering) (eq : V → V → Bool) {Q : V → Type 0} where
  kept_values : (new own : Map K V) (ks : List K) → HasValues Q new → HasValues Q own → HasValues Q (kept_at cmp eq new own ks)
  kept_values new own [] h g = h
  kept_values new own (k ∷ ks) h g = kept_values (set cmp eq new k (get cmp own k)) own ks (set_has_values cmp eq new k (get cmp own k) h (get_has cmp own k g)) g

  kept_entries : {P : K → Type 0} (new own : Map K V) (ks : List K) → HasEntries P Q new → HasEntries P Q own → All P ks → HasEntries P Q (kept_at cmp eq new own ks)
  kept_entries new own [] h g a = h
  kept_entries {P} new own (k ∷ ks) h g a =
      kept_entries (set cmp eq new k (get cmp own k)) own ks (set_has_entries cmp eq new k (get cmp own k) h (All-head P k ks a) (get_has cmp own k g.values)) g (All-tail P k ks a)

  -- ---- all maps

  maps_values : (news owns : List (Map K V)) (helds : List (Map K Fraction)) → All (HasValues Q) news → All (HasValues Q) owns → All (HasValues Q) (forgotten_maps cmp eq news owns helds)
  maps_values (n ∷ ns) (o ∷ os) (h ∷ hs) f g =
      All-cons (HasValues Q) (kept_at cmp eq n o (keys h)) (forgotten_maps cmp eq ns os hs) (kept_values n o (keys h) (All-head (HasValues Q) n ns f) (All-head (HasValues Q) o os g))
      (maps_values ns os hs (All-tail (HasValues Q) n ns f) (All-tail (HasValues Q) o os g))
  maps_values [] owns helds f g = All-nil (HasValues Q)
  maps_values (n ∷ ns) [] helds f g = All-nil (HasValues Q)
  maps_values (n ∷ ns) (o ∷ os) [] f g = All-nil (HasValues Q)

  maps_entries : {P : K → Type 0} {F : Fraction → Type 0} (news owns : List (Map K V)) (helds : List (Map K Fraction)) → All (HasEntries P Q) news → All (HasEntries P Q) owns → All (HasEntries P F) helds →
      All (HasEntries P Q) (forgotten_maps cmp eq news owns helds)
  maps_entries {P} {F} (n ∷ ns) (o ∷ os) (h ∷ hs) f g a =
      let held = All-head (HasEntries P F) h hs a in
      All-cons (HasEntries P Q) (kept_at cmp eq n o (keys h)) (forgotten_maps cmp eq ns os hs)
      (kept_entries n o (keys h) (All-head (HasEntries P Q) n ns f) (All-head (HasEntries P Q) o os g) held.keys)
      (maps_entries ns os hs (All-tail (HasEntries P Q) n ns f) (All-tail (HasEntries P Q) o os g) (All-tail (HasEntries P F) h hs a))
  maps_entries {P} [] owns helds f g a = All-nil (HasEntries P Q)
  maps_entries {P} (n ∷ ns) [] helds f g a = All-nil (HasEntries P Q)
  maps_entries {P} (n ∷ ns) (o ∷ os) [] f g a = All-nil (HasEntries P Q)

-- ---- forgetting

module _ (F : Fraction → Type 0) (V : Value → Type 0) (K : Key → Type 0) (C : Content → Type 0) where
  forgotten_has : (s : State) (m : Memo) → AllOfState F V K C s → AllOfMemo V K C m → AllOfMemo V K C (forgotten s m)
  forgotten_has s m h g = record {
    heap = maps_values nat_cmp value_eq m.heap s.heap s.mask g.heap h.heap;
    content = maps_entries key_cmp same_content m.content s.content s.amount g.content h.content h.amount;
  }

  pub memo_in_has : (layout : Layout) (c : Choice) → AllOfChoice F V K C c → IfSome (memo_in layout c) (AllOfMemo V K C)
  memo_in_has layout (choice.Filled m) h = where_so (fits_memo layout m) h
    where
      where_so : (b : Bool) → AllOfMemo V K C m → IfSome (if b then Some m else None) (AllOfMemo V K C)
      where_so true h = h
      where_so false h = tt
  memo_in_has layout _ h = tt

  with_memo_has : (s : State) (m : Memo) → AllOfState F V K C s → AllOfMemo V K C m → AllOfState F V K C (with_memo s m)
  with_memo_has s m h g = record { heap = g.heap; content = g.content; mask = h.mask; amount = h.amount }

  pub forget_kept : (layout : Layout) (s : State) → AllOfState F V K C s → KeepsRun (AllOfEvent F V K C) (AllOfChoice F V K C) (AllOfState F V K C) (forget layout s)
  forget_kept layout s h = taking_kept (memo_in layout) (memo_in_has layout) (λ m g.
      let after = forgotten_has s m h g in
      before_kept (event.Whole (forgotten s m) ∷ []) (All-cons (AllOfEvent F V K C) (event.Whole (forgotten s m)) [] after (All-nil (AllOfEvent F V K C))) (at_end (is_kept (with_memo_has s (forgotten s m) h after))))
