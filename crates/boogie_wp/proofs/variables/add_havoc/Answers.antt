use Rattle.std.proofs.Common.{◌∙◌, ◌++◌, sym, ap, append-nil}
use Rattle.std.proofs.lemmas.Result.{on_ok_weaker}
use Rattle.std.proofs.lemmas.Option.{slice_get_past}
use Rattle.lemmas.proofs.Lists.{item_at}
use Rattle.boogie_formula.specs.Choices.{type_there}
use Rattle.boogie_wp.specs.View.{types_of_all}
use Rattle.boogie_wp.proofs.CodeLaws.{type_found, type_missing}
use Rattle.boogie_wp.proofs.variables.add_havoc.Goals as goal

pub returns-in-Some : goal.returns-in-Some
returns-in-Some c =
    let found = c.in-Some.ensures in
    let there = item_at c.args.locals.now c.args.local c.in-Some.local.now found.lookup.3.0 found.lookup.1 in
    on_ok_weaker c.add_type.result (λ e. e ∙ ap (λ o. types_of_all c.args.vars.now.items ++ type_there o) (sym (type_found c.args.locals.now c.args.local c.in-Some.local.now there))) c.add_type.ensures

pub returns-in-None : goal.returns-in-None
returns-in-None c =
    let missing = c.in-None.ensures in
    sym (append-nil (types_of_all c.args.vars.now.items))
    ∙ ap (λ o. types_of_all c.args.vars.now.items ++ type_there o) (sym (type_missing c.args.locals.now c.args.local (slice_get_past c.args.locals.now c.args.local missing.lookup.3)))
