use Rattle.std.proofs.Common.{ap, ◌∙◌}
use Rattle.viper_syntax.specs.Stmt as s
use Rattle.viper_parse.proofs.stmts.conditional.Goals as goal
use Rattle.viper_syntax.specs.View.{else_of}
use Rattle.viper_syntax.proofs.ViewLaws.{stmt_of-If, arms_of-map}

pub returns : goal.returns
returns c =
    stmt_of-If c.args.all c.args.last ∙ ap (λ bs. s.If bs (else_of c.args.last)) (arms_of-map c.args.all.items)
