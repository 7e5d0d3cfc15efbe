use Rattle.std.proofs.Common.{◌≡◌, ◌∙◌, sym, ap, subst, true}
use Rattle.boogie_grammar.specs.declared.tokens.Lexeme.TheVariants as tok
use Rattle.boogie_grammar.specs.Grammar.{taken_by}
use Rattle.boogie_grammar.specs.ReadView.{is_new_name, scope_of}
use Rattle.boogie_grammar.proofs.NameLaws.{free_bound}
use Rattle.boogie_grammar.proofs.new_names.bound_name.Goals as goal

pub returns-in_ok-name-in-Name-clause-takes : goal.returns-in_ok-name-in-Name-clause-takes
returns-in_ok-name-in-Name-clause-takes c =
    let taken = taken_by (scope_of c.args.scope) c.args.bound.now in
    let same = c.in_ok-name-in-Name.ensures in
    let parts = free_bound c.in_ok-name-in-Name.name taken (subst (λ x. is_new_name taken x ≡ true) (sym same) (sym c.if-is_unbound.ensures)) in
    record { token = c.in-Some.first.now; is = c.in-Some.ensures.cases.0; passes = (c.in-Name.is ∙ ap tok.Name (sym same), parts.0, parts.1) }
