use Rattle.std.proofs.Common.{◌∙◌, sym}
use Rattle.cert_terms.specs.View.{terms_in, types_in}
use Rattle.cert_linear.proofs.CodeLaws.{quotient_law, quotient_none_law}
use Rattle.cert_linear.proofs.meanings.quotient.Goals as goal

pub returns-then-is_none : goal.returns-then-is_none
returns-then-is_none c =
    quotient_none_law (terms_in c.args.names.now) (types_in c.args.names.now) c.args.name c.args.a c.args.b c.in_ok-k.k _ (sym c.is_none.ensures ∙ c.if-is_none.true) c.in_ok-k.ensures c.value.ensures

pub returns : goal.returns
returns c =
    quotient_law (terms_in c.args.names.now) (types_in c.args.names.now) c.args.name c.args.a c.args.b c.in_ok-k.k _ (sym c.is_none.ensures ∙ c.if-is_none.false) c.in_ok-k.ensures c.in_ok-row.ensures
