use Rattle.std.proofs.Common.{ap, ◌∙◌, map}
use Rattle.viper_syntax.specs.Stmt as s
use Rattle.viper_syntax.specs.View.{term_of, block_of}
use Rattle.viper_parse.proofs.stmts.iteration.Goals as goal
use Rattle.viper_syntax.proofs.ViewLaws.{stmt_of-While}

pub returns : goal.returns
returns c =
    stmt_of-While c.args.at c.into_inner.result c.args.conditions c.args.body ∙ ap (λ a. s.While c.args.at a (map term_of c.args.conditions.items) (block_of c.args.body)) (ap term_of c.into_inner.ensures)
