use Rattle.std.proofs.Common.{arith}
use Rattle.viper_grammar.specs.Tests as v
use Rattle.viper_grammar.specs.Grammar as g
use Rattle.viper_parse.specs.View.{names_of}
use Rattle.viper_grammar.proofs.Reading.{viper_steps}
use Rattle.viper_parse.proofs.stmts.separated.Goals as goal
open viper_steps use {start, by_need, by_token, by_other, whole, token_error, tail, goes_at}

pub loop-after-init : goal.loop-after-init
loop-after-init c =
    record { shorter = omega arith; goes = start (g.rule (g.Separated c.args.separator c.args.first.items)) c.args.tokens.now }

pub returns-in_err-named-clause-reads : goal.returns-in_err-named-clause-reads
returns-in_err-named-clause-reads c =
    token_error names_of _ _ c.from_residual.ensures.1 (by_token c.in-Some.ensures.eats (c.loop-after.invariant.goes)) c.in_err-named.ensures.takes

pub loop-after-preserved : goal.loop-after-preserved
loop-after-preserved c =
    record { shorter = omega (arith, c.in-Some.ensures.shorter, c.in_ok-named.ensures.shorter); goes = goes_at v.names (λ xs. g.rule (g.Separated c.args.separator xs)) c.in_ok-names.ensures (tail (by_need c.in_ok-named.ensures.takes (by_token c.in-Some.ensures.eats (c.loop-after.invariant.goes)))) }

pub returns-clause-reads : goal.returns-clause-reads
returns-clause-reads c =
    whole (by_other c.in_default.ensures.eats (c.loop-after.invariant.goes))
