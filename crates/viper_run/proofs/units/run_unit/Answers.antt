use Rattle.std.proofs.Common.{ap, ◌∙◌, map, ◌-◌}
use Rattle.viper_core.specs.View.{program_of}
use Rattle.viper_state.specs.View.{event_of, state_of}
use Rattle.viper_meaning.proofs.FormedLiterals.{program_within}
use Rattle.viper_run.proofs.UnitLaws.{ends_done, ends_told}
use Rattle.viper_run.proofs.units.run_unit.Goals as goal

pub run_of-requires-clause-program_within : goal.run_of-requires-clause-program_within
run_of-requires-clause-program_within c = program_within (program_of c.args.program.now) c.requires.formed

pub run_of-requires-clause-begin : goal.run_of-requires-clause-begin
run_of-requires-clause-begin c = record {
  within = c.requires.opening_within;
  maps = c.requires.opens.fits.memo;
  choices = c.requires.choices_within;
  fit = c.requires.choices_fit;
}

pub returns-in-Ok : goal.returns-in-Ok
returns-in-Ok c =
    let g = c.run_of.new.feed in
    let same = c.ended.ensures in
    ends_done _ _ g c.ended.result (ap (map event_of) c.new.ensures.items) (ap (λ x. x.events) same) (ap (λ x. x.unused) same ∙ ap (λ n. n - g.next) g.choices.ok.0)
    c.in-Ok.ensures (ap (λ x. x.outcome) same) (ap (λ x. state_of x.state) same)

pub returns-in_ok-outcome-in-Err : goal.returns-in_ok-outcome-in-Err
returns-in_ok-outcome-in-Err c =
    let g = c.run_of.new.feed in
    let same = c.ended-in-Err.ensures in
    ends_told _ _ g c.ended-in-Err.result (ap (map event_of) c.new.ensures.items) (ap (λ x. x.events) same) (ap (λ x. x.unused) same ∙ ap (λ n. n - g.next) g.choices.ok.0)
    c.in-Err.halt c.in-Err.ensures c.outcome.ensures.stops c.outcome.ensures.memory c.in_ok-outcome-in-Err.was (ap (λ x. x.outcome) same)
