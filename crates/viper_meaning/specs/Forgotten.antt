-- What is forgotten of a state: the value of each place to which no permission is held, and what each instance contains of
-- which nothing is held. A heap and contents that are taken as a choice say what stands there from then on. That a run may
-- forget them so is this project's own rule.
use Rattle.std.specs.Prelude.{Bool, Option, Some, None, List, [], ◌∷◌, if◌then◌else◌}
use Rattle.std.specs.Ordering.{nat_cmp}
use Rattle.std.specs.declared.cmp.Ordering.{Ordering}
use Rattle.sparse.specs.Map.{Map, get, set, keys}
use Rattle.vb_value.specs.Content.{same_content}
use Rattle.vb_value.specs.Fraction.{Fraction}
use Rattle.vb_value.specs.Key.{key_cmp}
use Rattle.vb_value.specs.Layout.{Layout}
use Rattle.vb_value.specs.Value.{value_eq}
use Rattle.viper_state.specs.Choice as choice
use Rattle.viper_state.specs.Choice.{Choice}
use Rattle.viper_state.specs.Event as event
use Rattle.viper_state.specs.FitsTest.{fits_memo}
use Rattle.viper_state.specs.State.{Memo, State}
use Rattle.viper_meaning.specs.Run.{Run, goes, noting, taking}

-- a map with another map's values at some keys
abbrev pub kept_at : {K V : Type 0} → (K → K → Ordering) → (V → V → Bool) → Map K V → Map K V → List K → Map K V
kept_at cmp eq new own [] = new
kept_at cmp eq new own (k ∷ ks) = kept_at cmp eq (set cmp eq new k (get cmp own k)) own ks

-- map by map: the new one with the own values where something is held
abbrev pub forgotten_maps : {K V : Type 0} → (K → K → Ordering) → (V → V → Bool) → List (Map K V) → List (Map K V) → List (Map K Fraction) → List (Map K V)
forgotten_maps cmp eq (new ∷ news) (own ∷ owns) (held ∷ helds) = kept_at cmp eq new own (keys held) ∷ forgotten_maps cmp eq news owns helds
forgotten_maps cmp eq _ _ _ = []

-- the heap and contents after forgetting
abbrev pub forgotten : State → Memo → Memo
forgotten s m = record {
  heap = forgotten_maps nat_cmp value_eq m.heap s.heap s.mask;
  content = forgotten_maps key_cmp same_content m.content s.content s.amount;
}

-- the state with another heap and other contents
abbrev pub with_memo : State → Memo → State
with_memo s m = record s { heap = m.heap; content = m.content }

-- a heap and contents that fit the program
abbrev pub memo_in : Layout → Choice → Option Memo
memo_in layout (choice.Filled m) = if fits_memo layout m then Some m else None
memo_in layout _ = None

abbrev pub forget : Layout → State → Run State
forget layout s = taking (memo_in layout) (λ m. noting (event.Whole (forgotten s m)) (goes (with_memo s (forgotten s m))))
