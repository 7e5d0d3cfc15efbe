use Rattle.std.proofs.Common.{◌∙◌, ap}
use Rattle.viper_syntax.specs.Term as t
use Rattle.viper_syntax.proofs.ViewLaws.{term_of-Inst, terms_of-map}
use Rattle.viper_grammar.proofs.build.instance_term.Goals as goal

pub returns : goal.returns
returns c =
    let x = c.args.name in
    term_of-Inst x.name c.args.args x.pos ∙ ap (λ es. t.Inst x.name es x.pos) (terms_of-map c.args.args.items)
