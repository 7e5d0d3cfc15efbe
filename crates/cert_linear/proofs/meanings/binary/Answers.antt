use Rattle.std.proofs.Common.{subst}
use Rattle.boogie_tree.specs.declared.exprs.BOp.{BOp}
use Rattle.cert_terms.specs.declared.terms.CertificateTerm.TheVariants as term
use Rattle.cert_terms.specs.View.{terms_in, types_in}
use Rattle.cert_linear.specs.Numbers.{IsTermOf}
use Rattle.cert_linear.specs.Rows.{named}
use Rattle.cert_linear.proofs.CodeLaws.{sum_law, difference_law}
use Rattle.cert_linear.proofs.meanings.binary.Goals as goal

pub returns-in-Add : goal.returns-in-Add
returns-in-Add c t =
    sum_law (terms_in c.args.names.now) (types_in c.args.names.now) c.args.name c.args.a c.args.b _ c.three.ensures
    (subst (λ (o : BOp). IsTermOf (terms_in c.args.names.now) (types_in c.args.names.now) c.args.name (term.Bin o (named c.args.a) (named c.args.b))) c.in-Add.is t)

pub returns-in-Sub : goal.returns-in-Sub
returns-in-Sub c t =
    difference_law (terms_in c.args.names.now) (types_in c.args.names.now) c.args.name c.args.a c.args.b _ c.three-in-Sub.ensures
    (subst (λ (o : BOp). IsTermOf (terms_in c.args.names.now) (types_in c.args.names.now) c.args.name (term.Bin o (named c.args.a) (named c.args.b))) c.in-Sub.is t)
