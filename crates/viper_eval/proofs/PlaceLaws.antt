-- Keys that are made part by part, and the same steps with what was put together for a call.
use Rattle.std.proofs.Common.{◌≡◌, refl, sym, ap, ◌∙◌, ℕ, ◌<◌, ◌≤◌, length, get_or, Option, Some, None, List, [], ◌∷◌, ◌++◌, append_assoc, Result, arith}
use Rattle.std.specs.Option.{option_map}
use Rattle.std.proofs.lemmas.List.{append-nil}
use Rattle.vb_base.specs.declared.places.Pos.{Pos}
use Rattle.vb_value.specs.Bound.{Bounded}
use Rattle.vb_value.specs.Content.{Content}
use Rattle.vb_value.specs.Fraction.{Fraction}
use Rattle.vb_value.specs.declared.keys.KeyPart.{KeyPart}
use Rattle.vb_value.specs.declared.values.Value.{Value}
use Rattle.viper_state.specs.State.{Key, State}
use Rattle.viper_state.specs.Event.{Event}
use Rattle.viper_state.specs.Run.{Scene}
use Rattle.viper_meaning.specs.Ends.{ends, is, found}
use Rattle.viper_meaning.specs.Places.{key_part, key_of, in_front, taken, fill_place, fill_instance}
use Rattle.viper_eval.specs.Answers.{Answers, stopped}
use Rattle.viper_eval.specs.declared.answers.EvalStop.{EvalStop}
use Rattle.viper_eval.specs.declared.answers.EvalStop.TheVariants as stop
use Rattle.viper_eval.specs.declared.answers.EvalHalt.{EvalHalt}
use Rattle.viper_eval.specs.declared.places.HeapPlace.{HeapPlace}
use Rattle.viper_eval.specs.declared.places.InstanceKey.{InstanceKey}
use Rattle.viper_eval.specs.declared.places.ScaledAmount.{ScaledAmount}
use Rattle.viper_eval.proofs.AnswerLaws.{same_answers}

-- ---- keys

no_front : (o : Option KeyPart) (p : Option Key) (parts : Key) (w : EvalStop) → ends [] (stopped w) ≡ found o → ends [] (stopped w) ≡ found (option_map (λ rest. parts ++ rest) (in_front o p))
no_front (Some x) p parts (stop.Fails l) h = cc
no_front (Some x) p parts stop.Blocked h = cc
no_front (Some x) p parts (stop.Over at) h = cc
no_front None p parts (stop.Fails l) h = cc
no_front None p parts stop.Blocked h = refl
no_front None p parts (stop.Over at) h = cc

pub key_stops : (vs rest : List Value) (v : Value) (parts : Key) (w : EvalStop) → key_of vs ≡ option_map (λ rest. parts ++ rest) (key_of (v ∷ rest)) → ends [] (stopped w) ≡ found (key_part v) → ends [] (stopped w) ≡ found (key_of vs)
key_stops vs rest v parts w e h = no_front (key_part v) (key_of rest) parts w h ∙ ap found (sym e)

front : (o : Option KeyPart) (p : Option Key) (parts : Key) (part : KeyPart) → is part ≡ found o → option_map (λ rest. parts ++ rest) (in_front o p) ≡ option_map (λ rest. (parts ++ part ∷ []) ++ rest) p
front (Some x) (Some xs) parts part h =
    let same : x ≡ part = cc in
    ap (λ y. Some (parts ++ y ∷ xs)) same ∙ ap Some (sym (append_assoc parts (part ∷ []) xs))
front (Some x) None parts part h = refl
front None p parts part h = cc

pub key_goes : (vs rest : List Value) (v : Value) (parts : Key) (part : KeyPart) → key_of vs ≡ option_map (λ rest. parts ++ rest) (key_of (v ∷ rest)) → is part ≡ found (key_part v) → key_of vs ≡ option_map (λ rest. (parts ++ part ∷ []) ++ rest) (key_of rest)
key_goes vs rest v parts part e h = e ∙ front (key_part v) (key_of rest) parts part h

pub key_ends : (vs : List Value) (parts : Key) → key_of vs ≡ option_map (λ rest. parts ++ rest) (key_of []) → is parts ≡ found (key_of vs)
key_ends vs parts e = ap is (sym (append-nil parts)) ∙ ap found (sym e)

one_front : (o : Option KeyPart) (part : KeyPart) → is part ≡ found o → is (part ∷ []) ≡ found (in_front o (Some []))
one_front (Some x) part h =
    let same : x ≡ part = cc in
    ap (λ y. is (y ∷ [])) (sym same)
one_front None part h = cc

no_one_front : (o : Option KeyPart) (w : EvalStop) → ends [] (stopped w) ≡ found o → ends [] (stopped w) ≡ found (in_front o (Some []))
no_one_front (Some x) (stop.Fails l) h = cc
no_one_front (Some x) stop.Blocked h = cc
no_one_front (Some x) (stop.Over at) h = cc
no_one_front None (stop.Fails l) h = cc
no_one_front None stop.Blocked h = refl
no_one_front None (stop.Over at) h = cc

-- the key of one value
pub one_goes : (v : Value) (part : KeyPart) → is part ≡ found (key_part v) → is (part ∷ []) ≡ found (key_of (v ∷ []))
one_goes v part h = one_front (key_part v) part h

pub one_stops : (v : Value) (w : EvalStop) → ends [] (stopped w) ≡ found (key_part v) → ends [] (stopped w) ≡ found (key_of (v ∷ []))
one_stops v w h = no_one_front (key_part v) w h

pub alone : (vs : List Value) (v : Value) → 1 ≤ length vs → length vs < 2 → v ≡ get_or vs 0 v → v ∷ [] ≡ vs
alone [] v some few is = absurd (omega (arith, some))
alone (x ∷ []) v some few is = ap (λ y. y ∷ []) is
alone (x ∷ y ∷ vs) v some few is = absurd (omega (arith, few))

-- ---- the same with what was put together for the call

module _ {X : Type 0} {view : X → State} (sc : Scene) where
  pub taken_at : (q : Fraction) (at : Pos) {s copy : State} {p : ℕ} {key : Key} {i : InstanceKey} {r : Result X EvalHalt} → copy ≡ s → i ≡ record { predicate = p; key = key } →
      Answers view [] (taken Bounded sc copy i.predicate i.key q at) [] r → Answers view [] (taken Bounded sc s p key q at) [] r
  taken_at q at same is h = same_answers (λ k. taken Bounded sc (sym same k) (sym is k).predicate (sym is k).key q at) h

  pub placed_at : (c : Content) (s : State) {b n : List Event} {field r : ℕ} {q scale : Fraction} {at : Pos} {place : HeapPlace} {share : ScaledAmount} {z : Result X EvalHalt} →
      place ≡ record { field = field; reference = r } → share ≡ record { amount = q; scale = scale; at = at } →
      Answers view b (fill_place Bounded sc share.scale place.field place.reference share.amount c share.at s) n z → Answers view b (fill_place Bounded sc scale field r q c at s) n z
  placed_at c s is so h = same_answers (λ k. fill_place Bounded sc (sym so k).scale (sym is k).field (sym is k).reference (sym so k).amount c (sym so k).at s) h

  pub filled_at : (c : Content) (s : State) {b n : List Event} {p : ℕ} {key : Key} {q scale : Fraction} {at : Pos} {i : InstanceKey} {share : ScaledAmount} {z : Result X EvalHalt} →
      i ≡ record { predicate = p; key = key } → share ≡ record { amount = q; scale = scale; at = at } →
      Answers view b (fill_instance Bounded sc share.scale i.predicate i.key share.amount c share.at s) n z → Answers view b (fill_instance Bounded sc scale p key q c at s) n z
  filled_at c s is so h = same_answers (λ k. fill_instance Bounded sc (sym so k).scale (sym is k).predicate (sym is k).key (sym so k).amount c (sym so k).at s) h
