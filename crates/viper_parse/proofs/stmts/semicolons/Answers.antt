use Rattle.std.proofs.Common.{arith}
use Rattle.viper_grammar.specs.Grammar as g
use Rattle.viper_grammar.proofs.Reading.{viper_steps}
use Rattle.viper_parse.proofs.stmts.semicolons.Goals as goal
open viper_steps use {start, by_token, by_other, whole, tail}

pub loop-after-init : goal.loop-after-init
loop-after-init c =
    record { shorter = omega arith; goes = start (g.rule g.Semicolons) c.args.tokens.now }

pub loop-after-preserved : goal.loop-after-preserved
loop-after-preserved c =
    record { shorter = omega (arith, c.in-Some.ensures.shorter); goes = tail (by_token c.in-Some.ensures.eats (c.loop-after.invariant.goes)) }

pub returns-clause-reads : goal.returns-clause-reads
returns-clause-reads c =
    whole (by_other c.in_default.ensures.eats (c.loop-after.invariant.goes))
