-- What the answers of the program say.
use Rattle.std.specs.Prelude.{◌≡◌, Bool, List, [], Result, Ok, Err}
use Rattle.std.specs.declared.cmp.Ordering.{Ordering}
use Rattle.vb_value.specs.declared.values.Value.{Value}
use Rattle.vb_value.specs.declared.values.Value.TheVariants as value
use Rattle.viper_state.specs.Event.{Event}
use Rattle.viper_meaning.specs.Ends as m
use Rattle.viper_eval.specs.declared.answers.Evaluated.{Evaluated}
use Rattle.viper_eval.specs.declared.answers.Evaluated.TheVariants as evaluated
use Rattle.viper_eval.specs.declared.answers.Opening1.{Opening1}
use Rattle.viper_eval.specs.declared.answers.Opening1.TheVariants as opening
use Rattle.viper_eval.specs.declared.answers.EvalStop.{EvalStop}
use Rattle.viper_eval.specs.declared.answers.EvalStop.TheVariants as stop
use Rattle.viper_eval.specs.declared.answers.EvalHalt.{EvalHalt}
use Rattle.viper_eval.specs.declared.answers.EvalHalt.TheVariants as halt

-- how an evaluation ended
abbrev pub end_of : Evaluated → m.End Value
end_of (evaluated.Is v) = m.Is v
end_of (evaluated.Fails l) = m.Fails l
end_of evaluated.Blocked = m.Blocked
end_of (evaluated.Over at) = m.Over at

-- how an opening ended, with the value that it continues with
abbrev pub goes_with : {X : Type 0} → X → Opening1 → m.End X
goes_with x opening.Goes = m.Is x
goes_with x (opening.Fails l) = m.Fails l
goes_with x opening.Blocked = m.Blocked
goes_with x (opening.Over at) = m.Over at

-- an end without a value
abbrev pub stopped : {X : Type 0} → EvalStop → m.End X
stopped (stop.Fails l) = m.Fails l
stopped stop.Blocked = m.Blocked
stopped (stop.Over at) = m.Over at

-- what is evaluated by an answer that records nothing
abbrev pub ended : {X : Type 0} → Result X EvalStop → m.Evaluated X
ended (Ok x) = m.is x
ended (Err w) = m.ends [] (stopped w)

-- The events of this evaluation follow what was recorded before it, and then the feed has these events; the answer is its
-- end, where a value is seen through a view. Nothing is said where memory was refused.
pub data Answers {X Y : Type 0} (view : X → Y) (before : List Event) (e : m.Evaluated Y) (since : List Event) : Result X EvalHalt → Type 0 where
  no_memory : Answers view before e since (Err halt.Memory)
  goes : {x : X} → m.after before e ≡ m.ends since (m.Is (view x)) → Answers view before e since (Ok x)
  stops : {w : EvalStop} → m.after before e ≡ m.ends since (stopped w) → Answers view before e since (Err (halt.Stops w))

-- the same of an order that is tested
abbrev pub compares : (Ordering → Bool) → Result Ordering EvalStop → m.Evaluated Value
compares test (Ok o) = m.is (value.Bool (test o))
compares test (Err w) = m.ends [] (stopped w)
