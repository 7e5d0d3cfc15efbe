use Rattle.std.proofs.Common.{◌≡◌, ◌∙◌, sym, ap, subst, true}
use Rattle.boogie_grammar.specs.declared.tokens.Lexeme.TheVariants as tok
use Rattle.boogie_grammar.specs.ReadView.{is_new_name}
use Rattle.boogie_grammar.proofs.NameLaws.{free_bound}
use Rattle.boogie_grammar.proofs.new_names.new_name.Goals as goal

pub returns-in_ok-name-in-Name-clause-takes : goal.returns-in_ok-name-in-Name-clause-takes
returns-in_ok-name-in-Name-clause-takes c =
    let same = c.in_ok-name-in-Name.ensures in
    let parts = free_bound c.in_ok-name-in-Name.name c.args.taken.now (subst (λ x. is_new_name c.args.taken.now x ≡ true) (sym same) (sym c.if-is_new.ensures)) in
    record { token = c.in-Some.first.now; is = c.in-Some.ensures.cases.0; passes = (c.in-Name.is ∙ ap tok.Name (sym same), parts.0, parts.1) }
