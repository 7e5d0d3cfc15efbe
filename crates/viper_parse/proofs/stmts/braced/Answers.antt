use Rattle.std.proofs.Common.{ap}
use Rattle.viper_syntax.specs.Stmt as s
use Rattle.viper_parse.proofs.stmts.braced.Goals as goal
use Rattle.viper_syntax.proofs.ViewLaws.{stmts_of-map}

pub returns : goal.returns
returns c =
    ap (s.block c.args.at) (stmts_of-map c.args.stmts.items)
