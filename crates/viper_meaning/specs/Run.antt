-- Runs: what takes choices from outside. A run is a tree. It ends as an evaluation does; or it records events, takes the next
-- choice, and continues as that one says. So a definition by runs says at which point a choice is taken, and for what, and
-- nothing of lists of choices.
use Rattle.std.specs.Prelude.{Bool, true, false, Option, Some, None, List, [], ◌∷◌, ◌++◌}
use Rattle.vb_base.specs.declared.labels.Label.{Label}
use Rattle.vb_base.specs.declared.places.Pos.{Pos}
use Rattle.vb_value.specs.Fraction.{Fraction}
use Rattle.viper_state.specs.Choice as choice
use Rattle.viper_state.specs.Choice.{Choice}
use Rattle.viper_state.specs.Event as event
use Rattle.viper_state.specs.Event.{Event}
use Rattle.viper_meaning.specs.Ends as m
use Rattle.viper_meaning.specs.Ends.{Evaluated, ends, is, blocks, after}

pub data Run (X : Type 0) : Type 0 where
  ended : Evaluated X → Run X
  takes : List Event → (Choice → Run X) → Run X

-- ---- ways to continue

abbrev pub goes : {X : Type 0} → X → Run X
goes x = ended (is x)

-- these events come first
abbrev pub before : {X : Type 0} → List Event → Run X → Run X
before events (ended e) = ended (after events e)
before events (takes first next) = takes (events ++ first) next

-- an event comes first
abbrev pub noting : {X : Type 0} → Event → Run X → Run X
noting e go = before (e ∷ []) go

-- continues with the value of an evaluation, or ends
abbrev pub evaluating : {X Y : Type 0} → Evaluated X → (X → Run Y) → Run Y
evaluating (ends events (m.Is x)) go = before events (go x)
evaluating (ends events (m.Fails l)) go = ended (ends events (m.Fails l))
evaluating (ends events m.Blocked) go = ended (ends events m.Blocked)
evaluating (ends events (m.Over at)) go = ended (ends events (m.Over at))

-- continues with the value of a run, or ends
abbrev pub then_do : {X Y : Type 0} → Run X → (X → Run Y) → Run Y
then_do (ended e) go = evaluating e go
then_do (takes events next) go = takes events (λ c. then_do (next c) go)

-- continues with what a choice gives. A choice of another kind or type than the step needs blocks.
abbrev pub given : {K X : Type 0} → Option K → (K → Run X) → Run X
given (Some k) go = go k
given None go = ended blocks

-- takes the next choice, and continues with what it gives
abbrev pub taking : {K X : Type 0} → (Choice → Option K) → (K → Run X) → Run X
taking kind go = takes [] (λ c. given (kind c) go)

-- a permission amount: the choice of an Amount, which is recorded
abbrev pub amount_in : Choice → Option Fraction
amount_in (choice.Amount q) = Some q
amount_in _ = None

abbrev pub taking_amount : {X : Type 0} → (Fraction → Run X) → Run X
taking_amount go = taking amount_in (λ q. noting (event.Wild q) (go q))

-- ---- a run on choices

-- how a run ends on some choices
pub data Step (X : Type 0) : Type 0 where
  Goes : X → Step X
  Fails : Label → Step X
  Blocked : Step X
  -- a choice was missing
  Short : Step X
  Over : Pos → Step X

-- what was recorded, how it ended, and the choices that are left
pub data Ran (X : Type 0) : Type 0 where
  ran : List Event → Step X → List Choice → Ran X

abbrev pub leaving : {X : Type 0} → Evaluated X → List Choice → Ran X
leaving (ends events (m.Is x)) choices = ran events (Goes x) choices
leaving (ends events (m.Fails l)) choices = ran events (Fails l) choices
leaving (ends events m.Blocked) choices = ran events Blocked choices
leaving (ends events (m.Over at)) choices = ran events (Over at) choices

-- these events were recorded before
abbrev pub since : {X : Type 0} → List Event → Ran X → Ran X
since events (ran later step choices) = ran (events ++ later) step choices

abbrev pub on : {X : Type 0} → Run X → List Choice → Ran X
on (ended e) choices = leaving e choices
on (takes events next) [] = ran events Short []
on (takes events next) (c ∷ choices) = since events (on (next c) choices)

-- ---- what is said of ends

-- continues with the value and the choices that are left, or ends
abbrev pub then_ran : {X Y : Type 0} → Ran X → (X → List Choice → Ran Y) → Ran Y
then_ran (ran events (Goes x) left) go = since events (go x left)
then_ran (ran events (Fails l) left) go = ran events (Fails l) left
then_ran (ran events Blocked left) go = ran events Blocked left
then_ran (ran events Short left) go = ran events Short left
then_ran (ran events (Over at) left) go = ran events (Over at) left

abbrev pub is_short : {X : Type 0} → Ran X → Bool
is_short (ran events (Goes x) left) = false
is_short (ran events (Fails l) left) = false
is_short (ran events Blocked left) = false
is_short (ran events Short left) = true
is_short (ran events (Over at) left) = false

-- the same end, with more choices left
abbrev pub with_more : {X : Type 0} → List Choice → Ran X → Ran X
with_more more (ran events step left) = ran events step (left ++ more)
