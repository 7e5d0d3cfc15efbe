use Rattle.std.proofs.Common.{ap}
use Rattle.boogie_tree.specs.Program as p
use Rattle.boogie_tree.specs.Whole.{type_of}
use Rattle.boogie_grammar.specs.Grammar as g
use Rattle.boogie_grammar.proofs.Reading.{boogie_steps}
use Rattle.boogie_text.proofs.types.type_of.Goals as goal
open boogie_steps use {start, by_need, by_token, by_other, by_part, whole, token_error, part_error, whole_as}

pub returns-in_err-base-clause-reads : goal.returns-in_err-base-clause-reads
returns-in_err-base-clause-reads c = token_error type_of _ _ c.from_residual.ensures.1 (by_other c.in_default.ensures.eats (start (g.rule g.TypeOf) c.args.tokens.now)) c.in_err-base.ensures.takes

pub returns-in_default-clause-reads : goal.returns-in_default-clause-reads
returns-in_default-clause-reads c =
    whole_as (by_need c.in_ok-base.ensures.takes (by_other c.in_default.ensures.eats (start (g.rule g.TypeOf) c.args.tokens.now))) (ap (λ ks. let u : p.BType = record { keys = ks; base = c.in_ok-base.base } in u) c.new-keys.ensures.items)

pub returns-in_err-first-clause-reads : goal.returns-in_err-first-clause-reads
returns-in_err-first-clause-reads c = token_error type_of _ _ c.from_residual-in_err-first.ensures.1 (by_token c.in-Some.ensures.eats (start (g.rule g.TypeOf) c.args.tokens.now)) c.in_err-first.ensures.takes

pub returns-in_err-keys-clause-reads : goal.returns-in_err-keys-clause-reads
returns-in_err-keys-clause-reads c = part_error type_of _ _ c.from_residual-in_err-keys.ensures.1 (by_need c.in_ok-first.ensures.takes (by_token c.in-Some.ensures.eats (start (g.rule g.TypeOf) c.args.tokens.now))) c.in_err-keys.ensures.reads

pub returns-in_err-base-2-clause-reads : goal.returns-in_err-base-2-clause-reads
returns-in_err-base-2-clause-reads c = token_error type_of _ _ c.from_residual-in_err-base-2.ensures.1 (by_part c.in_ok-keys.ensures.reads (by_need c.in_ok-first.ensures.takes (by_token c.in-Some.ensures.eats (start (g.rule g.TypeOf) c.args.tokens.now)))) c.in_err-base-2.ensures.takes

pub returns-clause-reads : goal.returns-clause-reads
returns-clause-reads c = whole (by_need c.in_ok-base-2.ensures.takes (by_part c.in_ok-keys.ensures.reads (by_need c.in_ok-first.ensures.takes (by_token c.in-Some.ensures.eats (start (g.rule g.TypeOf) c.args.tokens.now)))))
