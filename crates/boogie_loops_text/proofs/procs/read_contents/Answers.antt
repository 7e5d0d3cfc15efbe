use Rattle.std.proofs.Common.{[]}
use Rattle.boogie_loops_grammar.specs.Grammar as g
use Rattle.boogie_loops_grammar.proofs.Reading.{wide_steps}
use Rattle.boogie_loops_text.proofs.Steps.{by_need, by_token, by_other, by_part, part_error, token_error, symbol_at, symbol_refuses_at}
use Rattle.boogie_tree.specs.Whole.{locals_of}
use Rattle.boogie_loops_grammar.specs.Trees.{no_clauses}
use Rattle.boogie_loops_text.specs.ClauseView.{contract_of}
use Rattle.boogie_loops_text.specs.Procedures.{contents_of}
use Rattle.boogie_loops_text.proofs.ProcedureLaws.{with_body}
use Rattle.boogie_loops_text.proofs.procs.read_contents.Goals as goal
open wide_steps use {start, whole, whole_as}

pub returns-in_err-contract-clause-reads : goal.returns-in_err-contract-clause-reads
returns-in_err-contract-clause-reads c =
    λ x params. part_error (contents_of x params (locals_of c.args.head.items)) _ _ c.from_residual.ensures.1 (by_token c.in-Some.ensures.eats (start (g.rest_of x params (locals_of c.args.head.items)) c.args.tokens.now)) (symbol_refuses_at (λ ns. g.Clauses ns no_clauses) _ _ _ _ c.requires.same c.in_err-contract.ensures.reads)

pub returns-in-Some-clause-reads : goal.returns-in-Some-clause-reads
returns-in-Some-clause-reads c =
    λ x params. whole (by_part (symbol_at (λ ns. g.Clauses ns no_clauses) c.requires.same c.in_ok-contract.ensures.reads) (by_token c.in-Some.ensures.eats (start (g.rest_of x params (locals_of c.args.head.items)) c.args.tokens.now)))

pub returns-in_err-contract-2-clause-reads : goal.returns-in_err-contract-2-clause-reads
returns-in_err-contract-2-clause-reads c =
    λ x params. part_error (contents_of x params (locals_of c.args.head.items)) _ _ c.from_residual-in_err-contract-2.ensures.1 (by_other c.in_default.ensures.eats (start (g.rest_of x params (locals_of c.args.head.items)) c.args.tokens.now)) (symbol_refuses_at (λ ns. g.Clauses ns no_clauses) _ _ _ _ c.requires.same c.in_err-contract-2.ensures.reads)

pub returns-in_err-rest-clause-reads : goal.returns-in_err-rest-clause-reads
returns-in_err-rest-clause-reads c =
    λ x params. token_error (contents_of x params (locals_of c.args.head.items)) _ _ c.from_residual-in_err-rest.ensures.1 (by_part (symbol_at (λ ns. g.Clauses ns no_clauses) c.requires.same c.in_ok-contract-2.ensures.reads) (by_other c.in_default.ensures.eats (start (g.rest_of x params (locals_of c.args.head.items)) c.args.tokens.now))) c.in_err-rest.ensures.takes

pub returns-in_err-locals-clause-reads : goal.returns-in_err-locals-clause-reads
returns-in_err-locals-clause-reads c =
    λ x params. part_error (contents_of x params (locals_of c.args.head.items)) _ _ c.from_residual-in_err-locals.ensures.1 (by_need c.in_ok-rest.ensures.takes (by_part (symbol_at (λ ns. g.Clauses ns no_clauses) c.requires.same c.in_ok-contract-2.ensures.reads) (by_other c.in_default.ensures.eats (start (g.rest_of x params (locals_of c.args.head.items)) c.args.tokens.now)))) (symbol_refuses_at (λ b. g.Vars b (locals_of c.args.head.items)) _ _ _ _ c.deref.ensures.value c.in_err-locals.ensures.reads)

pub returns-in_err-body-clause-reads : goal.returns-in_err-body-clause-reads
returns-in_err-body-clause-reads c =
    λ x params. part_error (contents_of x params (locals_of c.args.head.items)) _ _ c.from_residual-in_err-body.ensures.1 (by_part (symbol_at (λ b. g.Vars b (locals_of c.args.head.items)) c.deref.ensures.value c.in_ok-locals.ensures.reads) (by_need c.in_ok-rest.ensures.takes (by_part (symbol_at (λ ns. g.Clauses ns no_clauses) c.requires.same c.in_ok-contract-2.ensures.reads) (by_other c.in_default.ensures.eats (start (g.rest_of x params (locals_of c.args.head.items)) c.args.tokens.now))))) (symbol_refuses_at (λ ns. g.Statements ns []) _ _ _ _ c.in_ok-locals.ensures.names.same c.in_err-body.ensures.reads)

pub returns-clause-reads : goal.returns-clause-reads
returns-clause-reads c =
    λ x params. whole_as (by_part (symbol_at (λ ns. g.Statements ns []) c.in_ok-locals.ensures.names.same c.in_ok-body.ensures.reads) (by_part (symbol_at (λ b. g.Vars b (locals_of c.args.head.items)) c.deref.ensures.value c.in_ok-locals.ensures.reads) (by_need c.in_ok-rest.ensures.takes (by_part (symbol_at (λ ns. g.Clauses ns no_clauses) c.requires.same c.in_ok-contract-2.ensures.reads) (by_other c.in_default.ensures.eats (start (g.rest_of x params (locals_of c.args.head.items)) c.args.tokens.now)))))) (with_body x params (locals_of c.args.head.items) (locals_of c.in_ok-locals.locals.items) (contract_of [] c.in_ok-contract-2.contract) c.in_ok-body.body.items)
