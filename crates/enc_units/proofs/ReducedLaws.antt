-- In the moves of events that fit a program all fractions are in lowest terms, and such choices are proper where there is no bound.
use Rattle.std.proofs.Common.{List, [], ◌∷◌, map, All}
use Rattle.std.specs.List.{AllZip}
use Rattle.std.specs.Map.{values_of}
use Rattle.std.proofs.lemmas.List.Elements.{All-nil, All-cons, All-head, All-tail, All-weaker}
use Rattle.vb_value.specs.Bound.{Unbounded}
use Rattle.vb_value.specs.declared.values.Value.TheVariants as value
use Rattle.vb_value.proofs.ReducedLaws.{proper_fraction, proper_content, proper_key}
use Rattle.boogie_tree.specs.Value as b
use Rattle.boogie_tree.specs.Value.{Key, BScalar, Entry, BChoice}
use Rattle.boogie_tree.specs.Values.{IsReducedScalar, IsReducedEntry, IsReducedChoice}
use Rattle.moves.specs.Moves.{moves}
use Rattle.enc_assert.specs.Alongside.{IsProperScalar, IsProperEntry, IsProperMove}

-- the entries that stand for those of a map
entries_reduced : {K V : Type 0} (key : K → Key) (code : V → BScalar) (P : V → Type 0) → ((x : V) → P x → IsReducedScalar (code x)) → (es : List (K × V)) → All P (values_of es) →
    All IsReducedEntry (map {B = Entry} (λ (e : K × V). record { key = key e.0; value = code e.1 }) es)
entries_reduced key code P go [] h = All-nil IsReducedEntry
entries_reduced {K} {V} key code P go (e ∷ es) h =
    All-cons IsReducedEntry (record { key = key e.0; value = code e.1 }) (map {B = Entry} (λ (e : K × V). record { key = key e.0; value = code e.1 }) es) (go e.1 (All-head P e.1 (values_of es) h))
    (entries_reduced key code P go es (All-tail P e.1 (values_of es) h))

each_reduced : {U M : Type 0} (F : U → M → Type 0) (choice : M → BChoice) → ((u : U) (m : M) → F u m → IsReducedChoice (choice m)) → (us : List U) (ms : List M) → AllZip F us ms → All IsReducedChoice (map choice ms)
each_reduced F choice go [] [] h = All-nil IsReducedChoice
each_reduced F choice go [] (m ∷ ms) h = absurd h
each_reduced F choice go (u ∷ us) [] h = absurd h
each_reduced F choice go (u ∷ us) (m ∷ ms) h = All-cons IsReducedChoice (choice m) (map choice ms) (go u m h.0) (each_reduced F choice go us ms h.1)

-- ---- choices of Boogie that are proper

scalar_proper : (v : BScalar) → IsReducedScalar v → IsProperScalar Unbounded v
scalar_proper (b.Int n) h = tt
scalar_proper (b.Bool q) h = tt
scalar_proper (b.Ref x) h = tt
scalar_proper (b.Real q) h = proper_fraction q h
scalar_proper (b.Snap c) h = (h, proper_content c h)

pub move_proper : (c : BChoice) → IsReducedChoice c → IsProperMove Unbounded c
move_proper (b.Pick q) h = tt
move_proper (b.Value v) h = scalar_proper v h
move_proper (b.Entries es) h = All-weaker IsReducedEntry (IsProperEntry Unbounded) (λ x reduced. (proper_key x.key, scalar_proper x.value reduced)) es h
