use Rattle.viper_syntax.proofs.ViewLaws.{term_of-Acc}
use Rattle.viper_grammar.proofs.build.accessed_term.Goals as goal

pub returns : goal.returns
returns c = term_of-Acc c.args.place c.args.amount c.args.at
