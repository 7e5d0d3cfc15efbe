use Rattle.std.proofs.Common.{◌∙◌, sym, ap, drop, drop_of_length-le}
use Rattle.boogie_tree.specs.Whole.{exprs_of}
use Rattle.boogie_types.specs.Typed.{types_in}
use Rattle.boogie_loops.specs.WideTypes.{are_arguments}
use Rattle.boogie_loops_types.proofs.TargetLaws.{arguments_end}
use Rattle.boogie_loops_types.proofs.calls.are_arguments.Goals as goal

pub returns : goal.returns
returns c =
    sym (c.loop-e.invariant.same
    ∙ ap (λ es. are_arguments (types_in c.args.locals.now) (exprs_of es) (types_in (drop c.loop-e.count c.args.params.now))) (drop_of_length-le _ c.loop-e-test.false)
    ∙ arguments_end (types_in c.args.locals.now) c.loop-e.count c.args.params.now c.loop-e.invariant.within)
