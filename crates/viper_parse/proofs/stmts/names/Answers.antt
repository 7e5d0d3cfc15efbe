use Rattle.std.proofs.Common.{ap, ◌∙◌, [], ◌∷◌, ◌++◌}
use Rattle.viper_grammar.specs.Grammar as g
use Rattle.viper_parse.specs.View.{names_of}
use Rattle.viper_grammar.proofs.Reading.{viper_steps}
use Rattle.viper_parse.proofs.stmts.names.Goals as goal
open viper_steps use {parses_at}

pub returns-clause-reads : goal.returns-clause-reads
returns-clause-reads c =
    parses_at names_of (λ xs. g.rule (g.Separated c.args.separator xs)) _ _ (c.in_ok-one.ensures ∙ ap (λ l. l ++ (c.args.first ∷ [])) c.new.ensures.items) c.separated.ensures.reads
