use Rattle.std.proofs.Common.{ap, ◌∙◌, map, ◌-◌}
use Rattle.vb_value.specs.Bound.{Bounded}
use Rattle.viper_core.specs.View.{program_of}
use Rattle.viper_state.specs.View.{event_of, opening_of, state_of}
use Rattle.viper_exec_meaning.specs.Execution.{execution}
use Rattle.viper_exec.proofs.EndLaws.{ends_done, ends_told}
use Rattle.viper_exec.proofs.executions.exec_method.Goals as goal

pub exec_numbered-requires-clause-begin : goal.exec_numbered-requires-clause-begin
exec_numbered-requires-clause-begin c = record {
  within = c.requires.opening_within;
  maps = c.requires.opens.fits.memo;
  choices = c.requires.choices_within;
  fit = c.requires.choices_fit;
}

pub returns-in-Ok : goal.returns-in-Ok
returns-in-Ok c =
    let g = c.exec_numbered.new.feed in
    let same = c.answer.ensures in
    ends_done _ (execution Bounded (program_of c.args.program.now) c.args.method (opening_of c.args.opening.now)) c.args.budget g c.exec_numbered.new.budget c.answer.result (ap (map event_of) c.new.ensures.items)
    (ap (λ x. x.spent) same ∙ c.saturating_sub.ensures) (ap (λ x. x.unused) same ∙ ap (λ n. n - g.next) g.choices.ok.0) c.in-Ok.ensures (ap (λ x. x.end) same) (ap (λ x. state_of x.state) same)

pub returns-in_ok-end_of-in-Err : goal.returns-in_ok-end_of-in-Err
returns-in_ok-end_of-in-Err c =
    let g = c.exec_numbered.new.feed in
    let same = c.answer-in-Err.ensures in
    ends_told _ (execution Bounded (program_of c.args.program.now) c.args.method (opening_of c.args.opening.now)) c.args.budget g c.exec_numbered.new.budget c.answer-in-Err.result (ap (map event_of) c.new.ensures.items)
    (ap (λ x. x.spent) same ∙ c.saturating_sub-in-Err.ensures) (ap (λ x. x.unused) same ∙ ap (λ n. n - g.next) g.choices.ok.0)
    c.in-Err.quit c.in-Err.ensures c.end_of.ensures.stops c.end_of.ensures.spent c.end_of.ensures.memory c.in_ok-end_of-in-Err.was (ap (λ x. x.end) same)
