use Rattle.std.proofs.Common.{◌∙◌, ap, Some}
use Rattle.cert_terms.specs.View.{terms_in, types_in}
use Rattle.cert_linear.proofs.CodeLaws.{equation_law, order_law}
use Rattle.cert_linear.proofs.literals.row.Goals as goal

pub returns-in-Eq-clause-holds : goal.returns-in-Eq-clause-holds
returns-in-Eq-clause-holds c =
    let x = c.in-Some-Bin in
    equation_law (terms_in c.args.names.now) (types_in c.args.names.now) c.args.literal x.op x.a x.b c.in_ok-is_int-in-Some-Bin.is_int _ (x.ensures ∙ ap Some x.field-0-is) c.in-Eq.is c.in_ok-as_it_is-in-Some-Bin.ensures c.in_ok-as_it_is-in-Some-Bin-2.ensures c.in_ok-is_int-in-Some-Bin.ensures c.equation.ensures

pub returns-in-Le-clause-holds : goal.returns-in-Le-clause-holds
returns-in-Le-clause-holds c =
    let x = c.in-Some-Bin in
    order_law (terms_in c.args.names.now) (types_in c.args.names.now) c.args.literal x.op x.a x.b c.in_ok-is_int-in-Some-Bin.is_int _ (x.ensures ∙ ap Some x.field-0-is) c.in-Le.is c.in_ok-as_it_is-in-Some-Bin.ensures c.in_ok-as_it_is-in-Some-Bin-2.ensures c.in_ok-is_int-in-Some-Bin.ensures c.order.ensures
