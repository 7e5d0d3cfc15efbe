use Rattle.std.proofs.Common.{ap}
use Rattle.boogie_tree.specs.Whole.{expr_of}
use Rattle.boogie_grammar.specs.Grammar as g
use Rattle.boogie_grammar.proofs.Reading.{boogie_steps}
use Rattle.boogie_text.proofs.StmtLaws.{read_as}
use Rattle.boogie_loops_text.proofs.WideStmts.{scope_is}
use Rattle.boogie_loops_text.proofs.parts.whole_expr.Goals as goal
open boogie_steps use {error_as, symbol_at, symbol_refuses_at}

pub returns-in_err-inner-clause-reads : goal.returns-in_err-inner-clause-reads
returns-in_err-inner-clause-reads c =
    error_as expr_of _ _ c.from_residual.ensures.1 (λ z f. f) (symbol_refuses_at (λ bs. g.Expr bs) _ _ _ _ (scope_is c.args.within.locals.now c.names.ensures c.none_bound.ensures) c.in_err-inner.ensures.reads)

pub returns-clause-reads : goal.returns-clause-reads
returns-clause-reads c =
    read_as (ap expr_of c.into_inner.ensures) (symbol_at (λ bs. g.Expr bs) (scope_is c.args.within.locals.now c.names.ensures c.none_bound.ensures) c.in_ok-inner.ensures.reads)
