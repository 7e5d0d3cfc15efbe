-- What holds of each way in which a run goes on.
use Rattle.std.proofs.Common.{◌≡◌, refl, ap, subst, Bool, true, false, not, Option, Some, None, List, [], ◌∷◌, ◌++◌, All, if◌then◌else◌}
use Rattle.std.proofs.lemmas.List.Elements.{All-head, All-tail}
use Rattle.vb_base.specs.declared.labels.Kind.{Kind}
use Rattle.vb_base.specs.declared.places.Pos.{Pos}
use Rattle.vb_value.specs.Bound.{Unbounded}
use Rattle.vb_value.specs.Fraction.{Fraction, IsProperFraction}
use Rattle.viper_state.specs.Choice as choice
use Rattle.viper_state.specs.Choice.{Choice}
use Rattle.viper_state.specs.Event as event
use Rattle.viper_state.specs.Event.{Event}
use Rattle.viper_state.specs.Run.{Scene}
use Rattle.viper_state.specs.Within.{IsProperChoice}
use Rattle.viper_meaning.specs.Ends as m
use Rattle.viper_meaning.specs.Ends.{Evaluated, ends, is, fails, blocks, after, then_with, found, unless}
use Rattle.viper_meaning.specs.Kept.{Keeps}
use Rattle.viper_meaning.specs.Kept as kept
use Rattle.viper_meaning.specs.Run.{Run, ended, takes, before, evaluating, then_do, given, amount_in, taking_amount, noting, Goes, Ran, ran, since, on}
use Rattle.viper_meaning.specs.Sat.{Has}

-- the choices that were taken and the value, wherever it goes on by proper choices
abbrev pub Every : {X : Type 0} → (List Choice → X → Type 0) → Run X → Type 0
Every P (ended e) = (x : _) → Has x e → P [] x
Every P (takes es next) = (c : Choice) → IsProperChoice Unbounded c → Every (λ cs x. P (c ∷ cs) x) (next c)

-- ---- values

pub kept_value : {X : Type 0} {E : Event → Type 0} {P : X → Type 0} {e : Evaluated X} {x : X} → Keeps E P e → Has x e → P x
kept_value {P = P} (kept.value {x = z} h p) same =
    let equal : z ≡ _ = cc in
    subst P equal p
kept_value (kept.failure h) same = cc
kept_value (kept.blocked h) same = cc
kept_value (kept.over h) same = cc

pub after_end : {X : Type 0} (es : List Event) (e : Evaluated X) (x : X) → Has x (after es e) → Has x e
after_end es (ends fs end) x h = h

-- ---- one lemma for each way to go on

pub every_is : {X : Type 0} (P : List Choice → X → Type 0) (x : X) → P [] x → Every P (ended (is x))
every_is P x p = λ y h. let same : x ≡ y = cc in subst (P []) same p

pub every_blocks : {X : Type 0} (P : List Choice → X → Type 0) → Every P (ended blocks)
every_blocks P = λ y h. cc

pub every_fails : {X : Type 0} (P : List Choice → X → Type 0) (sc : Scene) (at : Pos) (k : Kind) → Every P (ended (fails sc at k))
every_fails P sc at k = λ y h. cc

pub every_before : {X : Type 0} (P : List Choice → X → Type 0) (es : List Event) (r : Run X) → Every P r → Every P (before es r)
every_before P es (ended e) h = λ x g. h x (after_end es e x g)
every_before P es (takes fs next) h = h

pub every_evaluating : {X Y : Type 0} (P : List Choice → Y → Type 0) (e : Evaluated X) (go : X → Run Y) → ((x : X) → Has x e → Every P (go x)) → Every P (evaluating e go)
every_evaluating P (ends es (m.Is x)) go h = every_before P es (go x) (h x refl)
every_evaluating P (ends es (m.Fails l)) go h = λ y g. cc
every_evaluating P (ends es m.Blocked) go h = λ y g. cc
every_evaluating P (ends es (m.Over at)) go h = λ y g. cc

pub every_then_with : {X Y : Type 0} (P : List Choice → Y → Type 0) (e : Evaluated X) (go : X → Evaluated Y) → ((x : X) → Has x e → Every P (ended (go x))) → Every P (ended (then_with e go))
every_then_with P (ends es (m.Is x)) go h = λ y g. h x refl y (after_end es (go x) y g)
every_then_with P (ends es (m.Fails l)) go h = λ y g. cc
every_then_with P (ends es m.Blocked) go h = λ y g. cc
every_then_with P (ends es (m.Over at)) go h = λ y g. cc

pub every_then_do : {X Y : Type 0} (Q : List Choice → X → Type 0) (P : List Choice → Y → Type 0) (r : Run X) (go : X → Run Y) → Every Q r →
    ((cs : List Choice) (x : X) → Q cs x → Every (λ ds y. P (cs ++ ds) y) (go x)) → Every P (then_do r go)
every_then_do Q P (ended e) go h g = every_evaluating P e go (λ x has. g [] x (h x has))
every_then_do Q P (takes es next) go h g = λ c i. every_then_do (λ cs x. Q (c ∷ cs) x) (λ cs y. P (c ∷ cs) y) (next c) go (h c i) (λ cs x q. g (c ∷ cs) x q)

pub every_found : {X Y : Type 0} (P : List Choice → Y → Type 0) (o : Option X) (go : X → Evaluated Y) → ((x : X) → o ≡ Some x → Every P (ended (go x))) → Every P (ended (then_with (found o) go))
every_found P (Some x) go h = λ y g. h x refl y (after_end [] (go x) y g)
every_found P None go h = λ y g. cc

pub every_unless : {X : Type 0} (P : List Choice → X → Type 0) (b : Bool) (i e : Evaluated X) → Every P (ended i) → (b ≡ false → Every P (ended e)) → Every P (ended (unless b i e))
every_unless P true i e h g = h
every_unless P false i e h g = g refl

pub every_where : {X : Type 0} (P : List Choice → X → Type 0) (b : Bool) (i e : Evaluated X) → Every P (ended i) → (b ≡ true → Every P (ended e)) → Every P (ended (unless (not b) i e))
every_where P true i e h g = g refl
every_where P false i e h g = h

pub every_if : {X : Type 0} (P : List Choice → X → Type 0) (b : Bool) (r u : Run X) → (b ≡ true → Every P r) → (b ≡ false → Every P u) → Every P (if b then r else u)
every_if P true r u h g = h refl
every_if P false r u h g = g refl

pub every_if_ended : {X : Type 0} (P : List Choice → X → Type 0) (b : Bool) (e f : Evaluated X) → (b ≡ true → Every P (ended e)) → (b ≡ false → Every P (ended f)) → Every P (ended (if b then e else f))
every_if_ended P true e f h g = h refl
every_if_ended P false e f h g = g refl

-- an amount that was chosen
pub every_amount : {X : Type 0} (P : List Choice → X → Type 0) (go : Fraction → Run X) → ((q : Fraction) → IsProperFraction Unbounded q → Every (λ cs x. P (choice.Amount q ∷ cs) x) (go q)) → Every P (taking_amount go)
every_amount P go h = by_kind
  where
    by_kind : (c : Choice) → IsProperChoice Unbounded c → Every (λ cs x. P (c ∷ cs) x) (given (amount_in c) (λ q. noting (event.Wild q) (go q)))
    by_kind (choice.Amount q) i = every_before (λ cs x. P (choice.Amount q ∷ cs) x) (event.Wild q ∷ []) (go q) (h q i)
    by_kind (choice.Branch b) i = λ y g. cc
    by_kind (choice.Took v) i = λ y g. cc
    by_kind (choice.Fresh r) i = λ y g. cc
    by_kind (choice.Filled memo) i = λ y g. cc

-- what follows from it
pub every_weaker : {X : Type 0} (P Q : List Choice → X → Type 0) → ((cs : List Choice) (x : X) → P cs x → Q cs x) → (r : Run X) → Every P r → Every Q r
every_weaker P Q go (ended e) h = λ x g. go [] x (h x g)
every_weaker P Q go (takes es next) h = λ c i. every_weaker (λ cs x. P (c ∷ cs) x) (λ cs x. Q (c ∷ cs) x) (λ cs x p. go (c ∷ cs) x p) (next c) (h c i)

-- ---- a run on choices

-- what a run did where it goes on: it took some choices, and left the others
pub record Took {X : Type 0} (P : List Choice → X → Type 0) (choices left : List Choice) (x : X) : Type 0 where
  pub taken : List Choice
  pub split : choices ≡ taken ++ left
  pub holds : P taken x

since_goes : {X : Type 0} (es fs : List Event) (r : Ran X) (x : X) (left : List Choice) → since es r ≡ ran fs (Goes x) left → (gs : List Event) × (r ≡ ran gs (Goes x) left)
since_goes es fs (ran gs step rest) x left h = (gs, cc)

pub every_on : {X : Type 0} (P : List Choice → X → Type 0) (r : Run X) (choices : List Choice) (es : List Event) (x : X) (left : List Choice) →
    Every P r → All (IsProperChoice Unbounded) choices → on r choices ≡ ran es (Goes x) left → Took P choices left x
every_on P (ended (ends fs (m.Is z))) choices es x left h proper e =
    let same : choices ≡ left = cc in
    record { taken = []; split = same; holds = h x cc }
every_on P (ended (ends fs (m.Fails l))) choices es x left h proper e = cc
every_on P (ended (ends fs m.Blocked)) choices es x left h proper e = cc
every_on P (ended (ends fs (m.Over at))) choices es x left h proper e = cc
every_on P (takes fs next) [] es x left h proper e = cc
every_on P (takes fs next) (c ∷ choices) es x left h proper e =
    let rest = since_goes fs es (on (next c) choices) x left e in
    let took = every_on (λ cs y. P (c ∷ cs) y) (next c) choices rest.0 x left (h c (All-head (IsProperChoice Unbounded) c choices proper)) (All-tail (IsProperChoice Unbounded) c choices proper) rest.1 in
    record { taken = c ∷ took.taken; split = ap (λ cs. c ∷ cs) took.split; holds = took.holds }
