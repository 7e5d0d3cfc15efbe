use Rattle.std.proofs.Common.{◌∙◌, sym, ap}
use Rattle.std.specs.Option.{option_map}
use Rattle.boogie_tree.specs.Whole.{exprs_of}
use Rattle.boogie_types.specs.Typed.{types_in}
use Rattle.boogie_loops.specs.View.{wproc_of}
use Rattle.boogie_loops.specs.WideTypes.{is_call_of}
use Rattle.boogie_loops_types.proofs.calls.is_call.Goals as goal

pub returns-in-Some : goal.returns-in-Some
returns-in-Some c =
    c.is_call_of.ensures
    ∙ sym (ap (is_call_of (types_in c.args.locals.now) c.args.own_params c.args.targets.now (exprs_of c.args.es.now))
    (sym c.named.ensures ∙ ap (option_map (λ d. wproc_of d.now)) c.in-Some.is))

pub returns-in-None : goal.returns-in-None
returns-in-None c =
    sym (ap (is_call_of (types_in c.args.locals.now) c.args.own_params c.args.targets.now (exprs_of c.args.es.now))
    (sym c.named.ensures ∙ ap (option_map (λ d. wproc_of d.now)) c.in-None.is))
