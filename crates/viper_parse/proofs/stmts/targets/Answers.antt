use Rattle.viper_syntax.specs.View.{stmt_of}
use Rattle.viper_syntax.specs.declared.tokens.Sign.TheVariants as sign
use Rattle.viper_grammar.specs.Grammar as g
use Rattle.viper_grammar.proofs.Reading.{viper_steps}
use Rattle.viper_parse.proofs.stmts.targets.Goals as goal
open viper_steps use {start, by_need, by_part, whole, part_error, token_error, symbol_at, symbol_refuses_at}

pub returns-in_err-second-clause-reads : goal.returns-in_err-second-clause-reads
returns-in_err-second-clause-reads c =
    token_error stmt_of _ _ c.from_residual.ensures.1 (start (g.targets c.args.first) c.args.tokens.now) c.in_err-second.ensures.takes

pub returns-in_err-all-clause-reads : goal.returns-in_err-all-clause-reads
returns-in_err-all-clause-reads c =
    part_error stmt_of _ _ c.from_residual-in_err-all.ensures.1 (by_need c.in_ok-second.ensures.takes (start (g.targets c.args.first) c.args.tokens.now)) (symbol_refuses_at (λ xs. g.Separated sign.Comma xs) _ _ _ _ c.in_ok-two.ensures c.in_err-all.ensures.reads)

pub returns-in_err-after-clause-reads : goal.returns-in_err-after-clause-reads
returns-in_err-after-clause-reads c =
    token_error stmt_of _ _ c.from_residual-in_err-after.ensures.1 (by_part (symbol_at (λ xs. g.Separated sign.Comma xs) c.in_ok-two.ensures c.in_ok-all.ensures.reads) (by_need c.in_ok-second.ensures.takes (start (g.targets c.args.first) c.args.tokens.now))) c.in_err-after.ensures.takes

pub returns-in_err-called-clause-reads : goal.returns-in_err-called-clause-reads
returns-in_err-called-clause-reads c =
    part_error stmt_of _ _ c.from_residual-in_err-called.ensures.1 (by_need c.in_ok-after.ensures.takes (by_part (symbol_at (λ xs. g.Separated sign.Comma xs) c.in_ok-two.ensures c.in_ok-all.ensures.reads) (by_need c.in_ok-second.ensures.takes (start (g.targets c.args.first) c.args.tokens.now)))) c.in_err-called.ensures.reads

pub returns-clause-reads : goal.returns-clause-reads
returns-clause-reads c =
    whole (by_part c.in_ok-called.ensures.reads (by_need c.in_ok-after.ensures.takes (by_part (symbol_at (λ xs. g.Separated sign.Comma xs) c.in_ok-two.ensures c.in_ok-all.ensures.reads) (by_need c.in_ok-second.ensures.takes (start (g.targets c.args.first) c.args.tokens.now)))))
