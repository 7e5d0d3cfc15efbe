use Rattle.std.proofs.Common.{◌≡◌, List, [], IfOk}
use Rattle.std.specs.Prelude.{Result, Ok, Err}
use Rattle.vb_value.specs.declared.values.Value.{Value}
use Rattle.viper_core.specs.View.{expr_of}
use Rattle.viper_state.specs.Event.{Event}
use Rattle.viper_state.specs.View.{scene_of, state_of}
use Rattle.vb_value.specs.Bound.{Bounded}
use Rattle.viper_meaning.specs.Ends as m
use Rattle.viper_meaning.proofs.PlainLaws.{nothing_recorded}
use Rattle.viper_eval.specs.declared.answers.Evaluated.{Evaluated}
use Rattle.viper_eval.specs.Answers.{end_of}
use Rattle.viper_eval.proofs.calls.eval.Goals as goal

-- what records no events is its end alone
alone : {E : Type 0} (r : Result Evaluated E) (e : m.Evaluated Value) (since : List Event) → IfOk r (λ v. m.after [] e ≡ m.ends since (end_of v)) → m.events_of e ≡ [] → IfOk r (λ v. e ≡ m.ends [] (end_of v))
alone (Ok v) (m.ends events end) since h g = cc
alone (Err w) e since h g = tt

pub returns-clause-plain : goal.returns-clause-plain
returns-clause-plain c = λ h.
    let none = nothing_recorded Bounded (expr_of c.args.e.now) (state_of c.args.now.now) (scene_of c.args.scene.now) h in
    alone c.eval_open.result _ _ (rw c.new-2.ensures.items at c.eval_open.ensures.value) none
