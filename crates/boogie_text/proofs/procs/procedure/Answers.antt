use Rattle.std.proofs.Common.{[]}
use Rattle.boogie_tree.specs.Whole.{proc_of, locals_of}
use Rattle.boogie_grammar.specs.Grammar as g
use Rattle.boogie_grammar.proofs.Reading.{boogie_steps}
use Rattle.boogie_text.proofs.ProcLaws.{procedure_is}
use Rattle.grammar.proofs.LessLaws.{less, less_end}
use Rattle.boogie_text.proofs.procs.procedure.Goals as goal
open boogie_steps use {start, by_need, by_part, token_error, part_error, whole_as, symbol_at, symbol_refuses_at}

pub returns-in_err-name-clause-reads : goal.returns-in_err-name-clause-reads
returns-in_err-name-clause-reads c =
    token_error proc_of _ _ c.from_residual.ensures.1 (start (g.rule (g.Procedure c.args.taken.now)) c.args.tokens.now) c.in_err-name.ensures.takes

pub returns-in_err-rest-clause-reads : goal.returns-in_err-rest-clause-reads
returns-in_err-rest-clause-reads c =
    token_error proc_of _ _ c.from_residual-in_err-rest.ensures.1 (by_need c.in_ok-name.ensures.takes (start (g.rule (g.Procedure c.args.taken.now)) c.args.tokens.now)) c.in_err-rest.ensures.takes

pub returns-in_err-rest-2-clause-reads : goal.returns-in_err-rest-2-clause-reads
returns-in_err-rest-2-clause-reads c =
    token_error proc_of _ _ c.from_residual-in_err-rest-2.ensures.1 (by_need c.in_ok-rest.ensures.takes (by_need c.in_ok-name.ensures.takes (start (g.rule (g.Procedure c.args.taken.now)) c.args.tokens.now))) c.in_err-rest-2.ensures.takes

pub returns-in_err-rest-3-clause-reads : goal.returns-in_err-rest-3-clause-reads
returns-in_err-rest-3-clause-reads c =
    token_error proc_of _ _ c.from_residual-in_err-rest-3.ensures.1 (by_need c.in_ok-rest-2.ensures.takes (by_need c.in_ok-rest.ensures.takes (by_need c.in_ok-name.ensures.takes (start (g.rule (g.Procedure c.args.taken.now)) c.args.tokens.now)))) c.in_err-rest-3.ensures.takes

pub returns-in_err-vars-clause-reads : goal.returns-in_err-vars-clause-reads
returns-in_err-vars-clause-reads c =
    part_error proc_of _ _ c.from_residual-in_err-vars.ensures.1 (by_need c.in_ok-rest-3.ensures.takes (by_need c.in_ok-rest-2.ensures.takes (by_need c.in_ok-rest.ensures.takes (by_need c.in_ok-name.ensures.takes (start (g.rule (g.Procedure c.args.taken.now)) c.args.tokens.now))))) c.in_err-vars.ensures.reads

pub returns-in_err-body-clause-reads : goal.returns-in_err-body-clause-reads
returns-in_err-body-clause-reads c =
    part_error proc_of _ _ c.from_residual-in_err-body.ensures.1 (by_part c.in_ok-vars.ensures.reads (by_need c.in_ok-rest-3.ensures.takes (by_need c.in_ok-rest-2.ensures.takes (by_need c.in_ok-rest.ensures.takes (by_need c.in_ok-name.ensures.takes (start (g.rule (g.Procedure c.args.taken.now)) c.args.tokens.now)))))) (symbol_refuses_at (λ ns. g.Statements ns []) _ _ _ _ c.in_ok-vars.ensures.names c.in_err-body.ensures.reads)

pub returns-clause-reads : goal.returns-clause-reads
returns-clause-reads c =
    whole_as (by_part (symbol_at (λ ns. g.Statements ns []) c.in_ok-vars.ensures.names c.in_ok-body.ensures.reads) (by_part c.in_ok-vars.ensures.reads (by_need c.in_ok-rest-3.ensures.takes (by_need c.in_ok-rest-2.ensures.takes (by_need c.in_ok-rest.ensures.takes (by_need c.in_ok-name.ensures.takes (start (g.rule (g.Procedure c.args.taken.now)) c.args.tokens.now))))))) (procedure_is c.in_ok-name.name (locals_of c.in_ok-vars.vars.items) c.in_ok-body.body.items)

pub returns-clause-new : goal.returns-clause-new
returns-clause-new c =
    c.in_ok-name.ensures.takes.passes.2

pub returns-clause-shorter : goal.returns-clause-shorter
returns-clause-shorter c = less (less_end (less (less (less c.in_ok-name.ensures.shorter c.in_ok-rest.ensures.shorter) c.in_ok-rest-2.ensures.shorter) c.in_ok-rest-3.ensures.shorter) c.in_ok-vars.ensures.shorter) c.in_ok-body.ensures.shorter
