-- Which choices a run takes of those that it is given, and which it asks for.
use Rattle.std.specs.Prelude.{⊤, ◌≡◌, ◌⊎◌, true, List, ◌∷◌, ◌++◌}
use Rattle.vb_value.specs.Fraction.{IsReduced}
use Rattle.vb_value.specs.Layout.{Layout}
use Rattle.vb_value.specs.Value.{type_of, IsReducedValue}
use Rattle.vb_value.specs.declared.values.Ty.{Ty}
use Rattle.viper_state.specs.Choice as choice
use Rattle.viper_state.specs.Choice.{Choice}
use Rattle.viper_state.specs.Event.{Event}
use Rattle.viper_state.specs.Fits.{FitsMemo}
use Rattle.viper_meaning.specs.Ends.{Evaluated, blocks}
use Rattle.viper_meaning.specs.Run.{Run, ended, takes, Step, Goes, Fails, Blocked, Short, Over, ran, on, is_short}

-- ---- which are taken

-- The run took the first of the choices, and left the others. On those that it took, whatever stands behind them, it ends
-- alike and leaves just that; on fewer of them it is short.
pub record Splits {X : Type 0} (r : Run X) (choices : List Choice) (events : List Event) (step : Step X) (left : List Choice) : Type 0 where
  pub taken : List Choice
  pub split : choices ≡ taken ++ left
  pub alike : (more : List Choice) → on r (taken ++ more) ≡ ran events step more
  pub needed : (firsts rest : List Choice) (c : Choice) → taken ≡ firsts ++ c ∷ rest → is_short (on r firsts) ≡ true

-- no choice was missing, and nothing blocked it
abbrev pub Passes : {X : Type 0} → Step X → Type 0
Passes (Goes x) = ⊤
Passes (Fails l) = ⊤
Passes Blocked = ⊥
Passes Short = ⊥
Passes (Over at) = ⊤

-- ---- which are asked for

-- one of two ways, a value of a type, an amount, a reference, a heap and contents
pub data Asked : Type 0 where
  AWay : Asked
  AValue : Ty → Asked
  AnAmount : Asked
  AReference : Asked
  AMemo : Asked

-- the choice is what is asked for: of this kind, a value of this type, a heap and contents that fit the program
abbrev pub IsAsked : Layout → Asked → Choice → Type 0
IsAsked l AWay (choice.Branch b) = ⊤
IsAsked l (AValue u) (choice.Took v) = type_of v ≡ u
IsAsked l AnAmount (choice.Amount q) = ⊤
IsAsked l AReference (choice.Fresh r) = ⊤
IsAsked l AMemo (choice.Filled m) = FitsMemo l m
IsAsked l _ _ = ⊥

-- wherever the run takes a choice it asks for one of some kind, and any other blocks it at once
pub data Asks {X : Type 0} (l : Layout) : Run X → Type 0 where
  at_end : {e : Evaluated X} → Asks l (ended e)
  later : {events : List Event} {next : Choice → Run X} (w : Asked) → ((c : Choice) → IsAsked l w c ⊎ (next c ≡ ended blocks)) →
      ((c : Choice) → IsAsked l w c → Asks l (next c)) → Asks l (takes events next)

-- a value or an amount that is chosen is in lowest terms, as each fraction of the program is
abbrev pub IsReducedChoice : Choice → Type 0
IsReducedChoice (choice.Branch b) = ⊤
IsReducedChoice (choice.Took v) = IsReducedValue v
IsReducedChoice (choice.Amount q) = IsReduced q
IsReducedChoice (choice.Fresh r) = ⊤
IsReducedChoice (choice.Filled m) = ⊤
