use Rattle.std.proofs.Common.{◌≤◌, length, rules, ◌∙◌, sym, ap, drop, drop_of_length-le}
use Rattle.boogie_types.specs.Typed.{types_in}
use Rattle.boogie_loops.specs.WideTypes.{are_targets}
use Rattle.boogie_loops_types.proofs.TargetLaws.{targets_end, targets_past}
use Rattle.boogie_loops_types.proofs.calls.are_targets.Goals as goal

pub returns : goal.returns
returns c =
    sym (c.loop-target.invariant.same
    ∙ ap (λ is. are_targets (types_in c.args.locals.now) is (types_in (drop c.loop-target.count c.args.returns.now))) (drop_of_length-le _ c.loop-target-test.false)
    ∙ targets_end (types_in c.args.locals.now) c.loop-target.count c.args.returns.now c.loop-target.invariant.within)

pub returns-in_default : goal.returns-in_default
returns-in_default c =
    let none : length c.args.returns.now ≤ c.loop-target.count = search rules in
    sym (c.loop-target.invariant.same ∙ targets_past (types_in c.args.locals.now) c.args.targets.now c.loop-target.target-index c.loop-target.count c.args.returns.now c.loop-target-test.true none)
