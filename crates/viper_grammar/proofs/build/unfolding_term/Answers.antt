use Rattle.std.proofs.Common.{◌∙◌, ap}
use Rattle.viper_syntax.specs.Term as t
use Rattle.viper_syntax.specs.View.{term_of, terms_of, amount_of}
use Rattle.viper_syntax.proofs.ViewLaws.{term_of-Unfolding, terms_of-map}
use Rattle.viper_syntax.specs.declared.terms.SUnfolding.{SUnfolding}
use Rattle.viper_grammar.proofs.build.unfolding_term.Goals as goal

pub returns : goal.returns
returns c =
    let x = c.args.call in
    term_of-Unfolding c.in_ok-unfolding.unfolding ∙
    ap (λ (u : SUnfolding). t.Unfolding u.name.name (terms_of u.args.items) (amount_of u.amount) (term_of u.inner.value) u.at u.name.pos) c.in_ok-unfolding.ensures.ok ∙
    ap (λ es. t.Unfolding x.name.name es (amount_of c.args.amount) (term_of c.args.inner.value) c.args.at x.name.pos) (terms_of-map x.args.items)
