-- A heap and contents among others.
use Rattle.std.proofs.Common.{◌≡◌, true, false, List, [], ◌∷◌, ◌++◌, ℕ, length, map, replicate, refl, sym, ap}
use Rattle.viper_state.specs.State.{Memo}
use Rattle.viper_state.specs.Choice.{Choice, Filled}
use Rattle.run_file.specs.Lines.{ViperLine}
use Rattle.run_file.specs.Run.{ViperRun, memo_with}
use Rattle.run_file.specs.Progress.{may_place, last_with, run_with, with_filled}
use Rattle.run_file.specs.declared.reader.ViperStage.{ViperStage}
use Rattle.run_file.specs.declared.reader.ViperStage.TheVariants as stage

-- the last choice with what a line gives is the heap and contents with it
pub last_of : (l : ViperLine) (cs : List Choice) (m : Memo) → last_with l (cs ++ Filled m ∷ []) ≡ cs ++ Filled (memo_with m l) ∷ []
last_of l [] m = refl
last_of l (c ∷ []) m = refl
last_of l (c ∷ d ∷ cs) m = ap (λ xs. c ∷ xs) (last_of l (d ∷ cs) m)

-- a line changes the heap and contents that are filled, in their place in the run
pub filled_with : (g : ViperStage) (l : ViperLine) (m : Memo) (run : ViperRun) → may_place g ≡ true → with_filled g (memo_with m l) run ≡ run_with g l (with_filled g m run)
filled_with stage.Header l m run may = absurd (false_true may)
  where
    false_true : false ≡ true → ⊥
    false_true e = cc
filled_with stage.Choosing l m run may = absurd (false_true may)
  where
    false_true : false ≡ true → ⊥
    false_true e = cc
filled_with stage.Opening l m run may = refl
filled_with stage.Filling l m run may = ap (λ cs. record { opening = run.opening; choices = cs }) (sym (last_of l run.choices m))

-- where none are filled, it changes nothing
pub unfilled_with : (g : ViperStage) (l : ViperLine) (m : Memo) (run : ViperRun) → may_place g ≡ false → with_filled g m run ≡ run_with g l (with_filled g m run)
unfilled_with stage.Header l m run may = refl
unfilled_with stage.Choosing l m run may = refl
unfilled_with stage.Opening l m run may = absurd cc
unfilled_with stage.Filling l m run may = absurd cc

-- one and the same for each
pub replicate_is : {X Y : Type 0} (x : X) (ys : List Y) (n : ℕ) → n ≡ length ys → replicate n x ≡ map (λ y. x) ys
replicate_is x [] n is = rw is refl
replicate_is x (y ∷ ys) n is = rw is (ap (λ xs. x ∷ xs) (replicate_is x ys (length ys) refl))
