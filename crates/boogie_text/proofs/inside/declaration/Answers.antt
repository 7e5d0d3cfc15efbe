use Rattle.boogie_grammar.proofs.Reading.{boogie_steps}
use Rattle.boogie_text.specs.Tail.{declaring, one_local}
use Rattle.boogie_text.proofs.inside.declaration.Goals as goal
open boogie_steps use {start, by_need, by_part, whole, token_error, part_error}

pub returns-in_err-name-clause-reads : goal.returns-in_err-name-clause-reads
returns-in_err-name-clause-reads c = token_error one_local _ _ c.from_residual.ensures.1 (start (declaring c.args.names.now) c.args.tokens.now) c.in_err-name.ensures.takes

pub returns-in_err-rest-clause-reads : goal.returns-in_err-rest-clause-reads
returns-in_err-rest-clause-reads c =
    token_error one_local _ _ c.from_residual-in_err-rest.ensures.1 (by_need c.in_ok-name.ensures.takes (start (declaring c.args.names.now) c.args.tokens.now)) c.in_err-rest.ensures.takes

pub returns-in_err-ty-clause-reads : goal.returns-in_err-ty-clause-reads
returns-in_err-ty-clause-reads c =
    part_error one_local _ _ c.from_residual-in_err-ty.ensures.1 (by_need c.in_ok-rest.ensures.takes (by_need c.in_ok-name.ensures.takes (start (declaring c.args.names.now) c.args.tokens.now))) c.in_err-ty.ensures.reads

pub returns-in_err-rest-2-clause-reads : goal.returns-in_err-rest-2-clause-reads
returns-in_err-rest-2-clause-reads c =
    token_error one_local _ _ c.from_residual-in_err-rest-2.ensures.1 (by_part c.in_ok-ty.ensures.reads (by_need c.in_ok-rest.ensures.takes (by_need c.in_ok-name.ensures.takes (start (declaring c.args.names.now) c.args.tokens.now)))) c.in_err-rest-2.ensures.takes

pub returns-clause-reads : goal.returns-clause-reads
returns-clause-reads c =
    whole (by_need c.in_ok-rest-2.ensures.takes (by_part c.in_ok-ty.ensures.reads (by_need c.in_ok-rest.ensures.takes (by_need c.in_ok-name.ensures.takes (start (declaring c.args.names.now) c.args.tokens.now)))))

pub returns-clause-new : goal.returns-clause-new
returns-clause-new c = c.in_ok-name.ensures.takes.passes.2
