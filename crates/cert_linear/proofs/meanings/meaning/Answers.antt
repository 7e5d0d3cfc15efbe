use Rattle.std.proofs.Common.{◌∙◌, ap, rules, FitsSigned, Some, neg_ℤ, to_z, of_z}
use mir.Syntax.{w128}
use Rattle.std.proofs.lemmas.Int.{to_z-of_z}
use Rattle.cert_terms.specs.View.{terms_in, types_in}
use Rattle.cert_linear.proofs.CodeLaws.{int_law, real_law, neg_law, to_real_law}
use Rattle.cert_linear.proofs.meanings.meaning.Goals as goal

pub returns-in_ok-number-in-Some-Int : goal.returns-in_ok-number-in-Some-Int
returns-in_ok-number-in-Some-Int c =
    let x = c.in-Some-Int in
    let number = c.in_ok-number-in-Some-Int in
    let fits : FitsSigned w128 x.n = search rules in
    let m_fits : FitsSigned w128 c.in_ok-number-in-Some-Int.number = search rules in
    int_law (terms_in c.args.names.now) (types_in c.args.names.now) c.args.name x.n (to_z w128 (of_z w128 number.number)) _ (x.ensures ∙ ap Some x.field-0-is) (to_z-of_z w128 number.number m_fits ∙ number.ensures ∙ ap neg_ℤ (to_z-of_z w128 x.n fits)) c.value.ensures

pub returns-in_ok-number-in-Some-Real : goal.returns-in_ok-number-in-Some-Real
returns-in_ok-number-in-Some-Real c =
    let x = c.in-Some-Real in
    let number = c.in_ok-number-in-Some-Real in
    let fits : FitsSigned w128 x.n = search rules in
    let m_fits : FitsSigned w128 c.in_ok-number-in-Some-Real.number = search rules in
    real_law (terms_in c.args.names.now) (types_in c.args.names.now) c.args.name x.n (to_z w128 (of_z w128 number.number)) _ (x.ensures ∙ ap Some x.field-0-is) (to_z-of_z w128 number.number m_fits ∙ number.ensures ∙ ap neg_ℤ (to_z-of_z w128 x.n fits)) c.value-in-Some-Real.ensures

pub returns-in_ok-as_it_is-in-Some-Neg : goal.returns-in_ok-as_it_is-in-Some-Neg
returns-in_ok-as_it_is-in-Some-Neg c =
    let x = c.in-Some-Neg in
    neg_law (terms_in c.args.names.now) (types_in c.args.names.now) c.args.name c.in_ok-_is_int._is_int c.in_ok-_is_int.ensures x.a _ (x.ensures ∙ ap Some x.field-0-is) c.in_ok-as_it_is-in-Some-Neg.ensures c.pair.ensures

pub returns-in_ok-as_it_is-in-Some-ToReal : goal.returns-in_ok-as_it_is-in-Some-ToReal
returns-in_ok-as_it_is-in-Some-ToReal c =
    let x = c.in-Some-ToReal in
    to_real_law (terms_in c.args.names.now) (types_in c.args.names.now) c.args.name c.in_ok-_is_int._is_int c.in_ok-_is_int.ensures x.a _ (x.ensures ∙ ap Some x.field-0-is) c.in_ok-as_it_is-in-Some-ToReal.ensures c.pair-in-Some-ToReal.ensures
