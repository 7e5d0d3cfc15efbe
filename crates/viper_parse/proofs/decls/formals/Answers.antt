use Rattle.std.proofs.Common.{ap, ◌∙◌, [], ◌∷◌, ◌++◌, arith}
use Rattle.viper_grammar.specs.Tests as v
use Rattle.viper_grammar.specs.Grammar as g
use Rattle.viper_parse.specs.View.{formals_of}
use Rattle.viper_grammar.proofs.Reading.{viper_steps}
use Rattle.viper_parse.proofs.decls.formals.Goals as goal
open viper_steps use {start, by_need, by_token, by_other, by_part, whole, part_error, token_error, tail, whole_as, goes_at}

pub returns-in-Some-clause-reads : goal.returns-in-Some-clause-reads
returns-in-Some-clause-reads c =
    whole_as (by_token c.in-Some.ensures.eats (start (g.rule g.Formals) c.args.tokens.now)) c.new-none.ensures.items

pub returns-in_err-first-clause-reads : goal.returns-in_err-first-clause-reads
returns-in_err-first-clause-reads c =
    part_error formals_of _ _ c.from_residual.ensures.1 (by_other c.in_default.ensures.eats (start (g.rule g.Formals) c.args.tokens.now)) c.in_err-first.ensures.reads

pub loop-after-init : goal.loop-after-init
loop-after-init c =
    record { shorter = c.in_ok-first.ensures.shorter; goes = goes_at v.formals (λ xs. g.rule (g.MoreFormals xs)) (c.in_ok-all.ensures ∙ ap (λ l. l ++ (c.in_ok-first.first ∷ [])) c.new.ensures.items) (tail (by_part c.in_ok-first.ensures.reads (by_other c.in_default.ensures.eats (start (g.rule g.Formals) c.args.tokens.now)))) }

pub returns-in_err-next-clause-reads : goal.returns-in_err-next-clause-reads
returns-in_err-next-clause-reads c =
    part_error formals_of _ _ c.from_residual-in_err-next.ensures.1 (by_token c.in-Some-eat_sign.ensures.eats (c.loop-after.invariant.goes)) c.in_err-next.ensures.reads

pub loop-after-preserved : goal.loop-after-preserved
loop-after-preserved c =
    record { shorter = omega (arith, c.in-Some-eat_sign.ensures.shorter, c.in_ok-next.ensures.shorter); goes = goes_at v.formals (λ xs. g.rule (g.MoreFormals xs)) c.in_ok-all-2.ensures (tail (by_part c.in_ok-next.ensures.reads (by_token c.in-Some-eat_sign.ensures.eats (c.loop-after.invariant.goes)))) }

pub returns-in_err-after-clause-reads : goal.returns-in_err-after-clause-reads
returns-in_err-after-clause-reads c =
    token_error formals_of _ _ c.from_residual-in_err-after.ensures.1 (by_other c.in_default-eat_sign.ensures.eats (c.loop-after.invariant.goes)) c.in_err-after.ensures.takes

pub returns-clause-reads : goal.returns-clause-reads
returns-clause-reads c =
    whole (by_need c.in_ok-after.ensures.takes (by_other c.in_default-eat_sign.ensures.eats (c.loop-after.invariant.goes)))
