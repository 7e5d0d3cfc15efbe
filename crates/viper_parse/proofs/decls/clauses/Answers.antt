use Rattle.std.proofs.Common.{ap, map, [], arith}
use Rattle.viper_syntax.specs.View.{term_of, clause_of}
use Rattle.viper_grammar.specs.Tests as v
use Rattle.viper_grammar.specs.Grammar as g
use Rattle.viper_parse.specs.View.{clauses_of}
use Rattle.viper_grammar.proofs.Reading.{viper_steps}
use Rattle.grammar.proofs.Pushed.{pushed_more}
use Rattle.viper_parse.proofs.decls.clauses.Goals as goal
open viper_steps use {start, by_token, by_other, by_part, whole, part_error, tail, goes_at}

pub loop-word-init : goal.loop-word-init
loop-word-init c =
    record { shorter = omega arith; goes = goes_at v.clauses (λ cs. g.rule (g.Clauses cs)) (ap (map clause_of) c.new-all.ensures.items) (start (g.rule (g.Clauses [])) c.args.tokens.now) }

pub returns-in_err-part-clause-reads : goal.returns-in_err-part-clause-reads
returns-in_err-part-clause-reads c =
    part_error clauses_of _ _ c.from_residual.ensures.1 (by_token c.in-Some.ensures.eats (c.loop-word.invariant.goes)) c.in_err-part.ensures.reads

pub loop-word-preserved : goal.loop-word-preserved
loop-word-preserved c =
    record { shorter = omega (arith, c.in-Some.ensures.shorter, c.in_ok-part.ensures.shorter, c.semicolons-after.ensures.shorter); goes = goes_at v.clauses (λ cs. g.rule (g.Clauses cs)) (pushed_more clause_of _ c.in_ok-all.ensures (ap (λ a. record { word = c.in-Some.word.0; term = a }) (ap term_of c.into_inner.ensures))) (tail (by_part c.semicolons-after.ensures.reads (by_part c.in_ok-part.ensures.reads (by_token c.in-Some.ensures.eats (c.loop-word.invariant.goes))))) }

pub returns-clause-reads : goal.returns-clause-reads
returns-clause-reads c =
    whole (by_other c.in_default.ensures.eats (c.loop-word.invariant.goes))
