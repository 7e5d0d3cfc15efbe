use Rattle.std.proofs.Common.{◌∙◌, sym, subst}
use Rattle.boogie_grammar.specs.declared.tokens.BSign.TheVariants as sign
use Rattle.boogie_grammar.specs.Greedy.{Starts}
use Rattle.boogie_grammar.specs.Tests.{the_sign}
use Rattle.boogie_text.proofs.Whole.{no_token}
use Rattle.boogie_text.proofs.inside.is_end.Goals as goal

pub returns-in-Some : goal.returns-in-Some
returns-in-Some c = λ t. subst (λ r. Starts (the_sign sign.CloseBrace) c.args.tokens.now tt r) (no_token c.in-Some.rest.now (sym t ∙ c.is_empty.ensures)) c.in-Some.ensures.eats
