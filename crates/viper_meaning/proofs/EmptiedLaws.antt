-- Where nothing is held all is forgotten, so a run that takes any state empties its own and forgets.
use Rattle.std.proofs.Common.{◌≡◌, sym, ap, arith, ℕ, zero, suc, Bool, Option, Some, None, IfSome, List, [], ◌∷◌, length, replicate, refl}
use Rattle.std.specs.Ordering.{nat_cmp}
use Rattle.std.specs.declared.cmp.Ordering.{Ordering}
use Rattle.sparse.specs.Map.{Map, empty}
use Rattle.vb_value.specs.Bound.{Bound}
use Rattle.vb_value.specs.Content.{same_content}
use Rattle.vb_value.specs.Fraction.{none}
use Rattle.vb_value.specs.Key.{key_cmp}
use Rattle.vb_value.specs.Layout.{Layout}
use Rattle.vb_value.specs.Value.{value_eq}
use Rattle.viper_core.specs.Program.{Program}
use Rattle.viper_state.specs.Event as event
use Rattle.viper_state.specs.Fits.{FitsMemo, FitsState, HasMaps, MemoHasMaps}
use Rattle.viper_state.specs.State.{Memo, State, empty_state}
use Rattle.viper_state.specs.Within.{IsProperState, IsNonnegative}
use Rattle.viper_state.proofs.EachLaws.{memo_has, empty_state_nonnegative}
use Rattle.viper_state.proofs.FitsLaws.{memo_fits, empty_state_fits}
use Rattle.viper_state.proofs.ProperLaws.{empty_state_proper}
use Rattle.viper_state.proofs.ShapeLaws.{state_has_maps, memo_has_maps}
use Rattle.viper_meaning.specs.Forgotten.{forgotten_maps, forgotten, with_memo, memo_in, forget}
use Rattle.viper_meaning.specs.Run.{Run, goes, before, noting, then_do, given, takes}
use Rattle.viper_meaning.specs.Sat.{memo_of_state}
use Rattle.viper_meaning.specs.Statements.{taking_state}
use Rattle.viper_meaning.proofs.ForgottenLaws.{memo_in_fits}

-- ---- the state with the same heap and contents in which nothing is held

pub emptied_fits : {l : Layout} {s : State} → FitsState l s → FitsState l (empty_state l (memo_of_state s))
emptied_fits {l} {s} h = empty_state_fits l (memo_of_state s) (memo_fits l s h)

pub emptied_proper : {b : Bound} {s : State} (l : Layout) → IsProperState b s → IsProperState b (empty_state l (memo_of_state s))
emptied_proper {b} {s} l h = empty_state_proper b l (memo_of_state s) (memo_has h)

pub emptied_nonnegative : (l : Layout) (s : State) → IsNonnegative (empty_state l (memo_of_state s))
emptied_nonnegative l s = empty_state_nonnegative l (memo_of_state s)

-- ---- forgetting

forgotten_nothing : {K V : Type 0} (cmp : K → K → Ordering) (eq : V → V → Bool) (news owns : List (Map K V)) (n : ℕ) → length news ≡ n → length owns ≡ n → forgotten_maps cmp eq news owns (replicate n (empty none)) ≡ news
forgotten_nothing cmp eq [] owns n e f = refl
forgotten_nothing cmp eq (new ∷ news) owns zero e f = absurd (omega (arith, e))
forgotten_nothing cmp eq (new ∷ news) [] (suc n) e f = absurd (omega (arith, f))
forgotten_nothing cmp eq (new ∷ news) (own ∷ owns) (suc n) e f = ap (λ maps. new ∷ maps) (forgotten_nothing cmp eq news owns n (omega (arith, e)) (omega (arith, f)))

-- where nothing is held, what is chosen stands everywhere
pub forgets_all : {l : Layout} {s : State} {m : Memo} → FitsState l s → FitsMemo l m → forgotten (empty_state l (memo_of_state s)) m ≡ m
forgets_all {l} {s} {m} h g =
    let own : HasMaps l s = state_has_maps l s h in
    let new : MemoHasMaps l m = memo_has_maps l m g in
    λ i. record {
      heap = forgotten_nothing nat_cmp value_eq m.heap s.heap (length l.fields) new.heap own.heap i;
      content = forgotten_nothing key_cmp same_content m.content s.content (length l.keys) new.content own.content i;
    }

-- a run that takes any state in which nothing is held is one that empties a state that fits and forgets
pub takes_any : {X : Type 0} (program : Program) (s : State) (go : State → Run X) → FitsState program.layout s → taking_state program go ≡ then_do (forget program.layout (empty_state program.layout (memo_of_state s))) go
takes_any {X} program s go h = λ i. takes [] (λ c. by (memo_in l c) (memo_in_fits l c) i)
  where
    l : Layout
    l = program.layout

    start : State
    start = empty_state l (memo_of_state s)

    by : (o : Option Memo) → IfSome o (FitsMemo l) →
        given o (λ m. noting (event.Whole m) (go (empty_state l m))) ≡ then_do (given o (λ m. noting (event.Whole (forgotten start m)) (goes (with_memo start (forgotten start m))))) go
    by None g = refl
    by (Some m) g = ap (λ n. before (event.Whole n ∷ []) (go (with_memo start n))) (sym (forgets_all h g))
