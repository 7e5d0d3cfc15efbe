use Rattle.std.proofs.Common.{[]}
use Rattle.boogie_loops.specs.View.{wproc_of}
use Rattle.boogie_loops_grammar.specs.Grammar as g
use Rattle.boogie_loops_text.specs.View.{block_of}
use Rattle.boogie_loops_grammar.proofs.Reading.{wide_steps}
use Rattle.boogie_loops_text.proofs.Steps.{by_need, rest_error, token_error}
use Rattle.grammar.proofs.LessLaws.{less, less_end}
use Rattle.boogie_tree.specs.Whole.{locals_of}
use Rattle.std.specs.Option.{option_map}
use Rattle.boogie_loops_grammar.specs.Words.{wide_words}
use Rattle.boogie_loops_text.specs.ClauseView.{contract_of}
use Rattle.boogie_loops_text.proofs.NameSets.{of_neither}
use Rattle.boogie_loops_text.proofs.ProcedureLaws.{procedure_is}
use Rattle.boogie_loops_text.proofs.WideStmts.{read_as}
use Rattle.boogie_loops_text.proofs.procs.procedure.Goals as goal
open wide_steps use {start, goes_then}

pub returns-in_err-name-clause-reads : goal.returns-in_err-name-clause-reads
returns-in_err-name-clause-reads c =
    token_error wproc_of _ _ c.from_residual.ensures.1 (start (g.rule (g.Procedure c.args.taken.now)) c.args.tokens.now) c.in_err-name.ensures.takes

pub returns-in_err-front-clause-reads : goal.returns-in_err-front-clause-reads
returns-in_err-front-clause-reads c =
    rest_error wproc_of _ _ c.from_residual-in_err-front.ensures.1 (by_need c.in_ok-name.ensures.takes (start (g.rule (g.Procedure c.args.taken.now)) c.args.tokens.now)) (c.in_err-front.ensures.reads c.in_ok-name.name)

pub returns-in_err-whole-clause-reads : goal.returns-in_err-whole-clause-reads
returns-in_err-whole-clause-reads c =
    rest_error wproc_of _ _ c.from_residual-in_err-whole.ensures.1 (goes_then (by_need c.in_ok-name.ensures.takes (start (g.rule (g.Procedure c.args.taken.now)) c.args.tokens.now)) (c.in_ok-front.ensures.reads.3 c.in_ok-name.name)) (c.in_err-whole.ensures.reads c.in_ok-name.name c.in_ok-front.ensures.reads.0)

pub returns-clause-reads : goal.returns-clause-reads
returns-clause-reads c =
    read_as (procedure_is c.in_ok-name.name c.in_ok-front.ensures.reads.0 (locals_of c.in_ok-front.front.locals.items) (locals_of c.in_ok-whole.whole.locals.items) (contract_of [] c.in_ok-whole.whole.contract) (option_map (λ xs. block_of xs) c.in_ok-whole.whole.body) c.in_ok-front.ensures.reads.1 c.in_ok-front.ensures.reads.2) ((goes_then (by_need c.in_ok-name.ensures.takes (start (g.rule (g.Procedure c.args.taken.now)) c.args.tokens.now)) (c.in_ok-front.ensures.reads.3 c.in_ok-name.name)).reads _ _ (c.in_ok-whole.ensures.reads c.in_ok-name.name c.in_ok-front.ensures.reads.0))

pub returns-clause-shorter : goal.returns-clause-shorter
returns-clause-shorter c = less_end (less c.in_ok-name.ensures.shorter c.in_ok-front.ensures.shorter) c.in_ok-whole.ensures.shorter

pub returns-clause-new : goal.returns-clause-new
returns-clause-new c = (of_neither c.in_ok-name.name c.args.taken.now wide_words c.in_ok-name.ensures.takes.passes.2).0
