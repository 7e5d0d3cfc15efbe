use Rattle.std.proofs.Common.{◌≡◌, ◌∙◌, ◌++◌, [], ◌∷◌, sym, ap, subst, false}
use Rattle.boogie_grammar.specs.Words.{is_among}
use Rattle.boogie_loops_text.proofs.NameSets.{among_there}
use Rattle.boogie_loops_text.proofs.heads.add_once.Goals as goal

pub returns-then-has : goal.returns-then-has
returns-then-has c = among_there c.args.all.now c.args.name.now (sym c.if-has.ensures)

pub add-requires : goal.add-requires
add-requires c = subst (λ n. is_among n c.args.all.now ≡ false) (sym c.in_ok-copy.ensures) (sym c.if-has.ensures)

pub returns : goal.returns
returns c = λ x. ap (is_among x) (c.in_ok-add.ensures ∙ ap (λ n. c.args.all.now ++ (n ∷ [])) c.in_ok-copy.ensures)
