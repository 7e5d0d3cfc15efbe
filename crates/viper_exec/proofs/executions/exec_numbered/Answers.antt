use Rattle.std.proofs.Common.{ap, ◌∙◌, map, slice_get}
use Rattle.viper_core.specs.Formed.{IsMethod}
use Rattle.viper_core.specs.View.{body_of, method_of, program_of}
use Rattle.viper_state.specs.View.{opening_of}
use Rattle.viper_meaning.specs.Ends.{found}
use Rattle.viper_meaning.specs.StatementLiterals.{IsWithinMethod}
use Rattle.viper_meaning.proofs.FormedLiterals.{program_within}
use Rattle.viper_eval.proofs.AnswerLaws.{found_as, found_as_stops}
use Rattle.viper_fold.proofs.FoldLaws.{found_is}
use Rattle.viper_run.proofs.CallLaws.{borrowed, looked_up, found_has}
use Rattle.viper_exec.proofs.TakesLaws.{handed_on}
use Rattle.viper_exec.proofs.NeedLaws.{not_found}
use Rattle.viper_exec.proofs.EndLaws.{no_method, no_body, a_body}
use Rattle.viper_exec.proofs.executions.exec_numbered.Goals as goal

pub returns-in_err-method : goal.returns-in_err-method
returns-in_err-method c =
    handed_on _ _ c.from_residual.ensures.1 (no_method (program_of c.args.program.now) c.args.number (opening_of c.args.opening.now) c.args.budget.now (not_found {u = method_of} _ (found_as_stops (λ m. method_of m.now) _ _ c.in_err-method.ensures
    ∙ ap found (looked_up method_of c.get.result c.deref.result.now c.args.number c.get.ensures.lookup.0 c.get.ensures.lookup.1 ∙ ap (λ ms. slice_get (map method_of ms) c.args.number) c.deref.ensures.value))))

pub returns-in_err-body : goal.returns-in_err-body
returns-in_err-body c =
    handed_on _ _ c.from_residual-in_err-body.ensures.1 (no_body (program_of c.args.program.now) c.args.number (opening_of c.args.opening.now) c.args.budget.now (method_of c.in_ok-method.method.now)
    (found_as (λ m. method_of m.now) _ _ c.in_ok-method.ensures
    ∙ ap found (looked_up method_of c.get.result c.deref.result.now c.args.number c.get.ensures.lookup.0 c.get.ensures.lookup.1 ∙ ap (λ ms. slice_get (map method_of ms) c.args.number) c.deref.ensures.value))
    (not_found {u = body_of} _ (found_as_stops (λ b. body_of b.now) _ _ c.in_err-body.ensures ∙ ap found (borrowed body_of c.as_ref.result c.as_ref.ensures.value))))

pub exec_begun-requires-clause-body : goal.exec_begun-requires-clause-body
exec_begun-requires-clause-body c =
    let p = program_of c.args.program.now in
    let there = found_as (λ m. method_of m.now) _ _ c.in_ok-method.ensures
    ∙ ap found (looked_up method_of c.get.result c.deref.result.now c.args.number c.get.ensures.lookup.0 c.get.ensures.lookup.1 ∙ ap (λ ms. slice_get (map method_of ms) c.args.number) c.deref.ensures.value) in
    record {
      method = found_has (IsMethod p) p.methods c.args.number (method_of c.in_ok-method.method.now) c.requires.formed.typed.methods there;
      has_body = found_is _ _ (found_as (λ b. body_of b.now) _ _ c.in_ok-body.ensures ∙ ap found (borrowed body_of c.as_ref.result c.as_ref.ensures.value));
      method_within = found_has IsWithinMethod p.methods c.args.number (method_of c.in_ok-method.method.now) (program_within p c.requires.formed).methods there;
    }

pub returns : goal.returns
returns c =
    a_body (program_of c.args.program.now) c.args.number (opening_of c.args.opening.now) c.args.budget.now (method_of c.in_ok-method.method.now)
    (found_as (λ m. method_of m.now) _ _ c.in_ok-method.ensures
    ∙ ap found (looked_up method_of c.get.result c.deref.result.now c.args.number c.get.ensures.lookup.0 c.get.ensures.lookup.1 ∙ ap (λ ms. slice_get (map method_of ms) c.args.number) c.deref.ensures.value))
    (body_of c.in_ok-body.body.now) (found_as (λ b. body_of b.now) _ _ c.in_ok-body.ensures ∙ ap found (borrowed body_of c.as_ref.result c.as_ref.ensures.value)) c.exec_begun.ensures
