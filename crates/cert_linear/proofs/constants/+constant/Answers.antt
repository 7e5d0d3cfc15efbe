use Rattle.std.proofs.Common.{◌∙◌, ap, rules, FitsSigned, Some}
use mir.Syntax.{w128}
use Rattle.std.proofs.lemmas.Int.{to_z-of_z}
use Rattle.vb_value.specs.Fraction.{whole}
use Rattle.cert_terms.specs.View.{terms_in, types_in}
use Rattle.cert_linear.proofs.CodeLaws.{int_constant, real_constant, neg_constant, to_real_constant, quotient_constant}
use Rattle.cert_linear.proofs.constants.+constant.Goals as goal

pub returns-in_ok-q-in-Some-Int : goal.returns-in_ok-q-in-Some-Int
returns-in_ok-q-in-Some-Int t c =
    let x = c.in-Some-Int in
    let fits : FitsSigned w128 x.n = search rules in
    int_constant (terms_in c.args.names.now) (types_in c.args.names.now) c.args.name x.n _ (x.ensures ∙ ap Some x.field-0-is) (c.in_ok-q-in-Some-Int.ensures ∙ ap whole (to_z-of_z w128 x.n fits))

pub returns-in_ok-q-in-Some-Real : goal.returns-in_ok-q-in-Some-Real
returns-in_ok-q-in-Some-Real t c =
    let x = c.in-Some-Real in
    let fits : FitsSigned w128 x.n = search rules in
    real_constant (terms_in c.args.names.now) (types_in c.args.names.now) c.args.name x.n _ (x.ensures ∙ ap Some x.field-0-is) (c.in_ok-q-in-Some-Real.ensures ∙ ap whole (to_z-of_z w128 x.n fits))

pub returns-in_ok-q-in-Some-Neg : goal.returns-in_ok-q-in-Some-Neg
returns-in_ok-q-in-Some-Neg t c =
    let x = c.in-Some-Neg in
    neg_constant (terms_in c.args.names.now) (types_in c.args.names.now) c.args.name c.in_ok-_is_int._is_int c.in_ok-_is_int.ensures x.a c.in_ok-p-in-Some-Neg.p _ (x.ensures ∙ ap Some x.field-0-is) c.in_ok-as_it_is-in-Some-Neg.ensures c.in_ok-p-in-Some-Neg.ensures c.in_ok-q-in-Some-Neg.ensures

pub returns-in_ok-q-in-Some-ToReal : goal.returns-in_ok-q-in-Some-ToReal
returns-in_ok-q-in-Some-ToReal t c =
    let x = c.in-Some-ToReal in
    to_real_constant (terms_in c.args.names.now) (types_in c.args.names.now) c.args.name c.in_ok-_is_int._is_int c.in_ok-_is_int.ensures x.a _ (x.ensures ∙ ap Some x.field-0-is) c.in_ok-as_it_is-in-Some-ToReal.ensures c.in_ok-q-in-Some-ToReal.ensures

pub returns-in_ok-q-in-Some-Bin-Divide-default-default : goal.returns-in_ok-q-in-Some-Bin-Divide-default-default
returns-in_ok-q-in-Some-Bin-Divide-default-default t c =
    let x = c.in-Some-Bin-Divide-default-default in
    let p = c.in_ok-p-in-Some-Bin-Divide-default-default in
    let d = c.in_ok-d-in-Some-Bin-Divide-default-default in
    quotient_constant (terms_in c.args.names.now) (types_in c.args.names.now) c.args.name c.in_ok-_is_int._is_int c.in_ok-_is_int.ensures x.field-0-0 x.a x.b p.p d.d _ (x.ensures ∙ ap Some x.field-0-is) x.field-0-0-is c.in_ok-as_it_is-in-Some-Bin-Divide-default-default.ensures c.in_ok-as_it_is-in-Some-Bin-Divide-default-default-2.ensures p.ensures d.ensures c.in_ok-q-in-Some-Bin-Divide-default-default.ensures
