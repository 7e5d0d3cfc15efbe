use Rattle.std.proofs.Common.{◌∙◌, ap}
use Rattle.std.specs.Option.{option_map}
use Rattle.boogie_loops.specs.Numbers.{at_number}
use Rattle.boogie_loops.proofs.ProcsLaws.{got}
use Rattle.boogie_loops.proofs.procs.numbered.Goals as goal

pub returns-in_err-number : goal.returns-in_err-number
returns-in_err-number c = ap (option_map (λ d. d.now)) c.from_residual.ensures ∙ ap (at_number c.args.all.now) c.in_err-number.ensures.value ∙ c.requires c.args.name.now

pub returns : goal.returns
returns c =
    got c.args.all.now c.in_ok-number.number.now c.get-2.result c.get-2.ensures.lookup.0 c.get-2.ensures.lookup.1
    ∙ ap (at_number c.args.all.now) c.in_ok-number.ensures.value ∙ c.requires c.args.name.now
