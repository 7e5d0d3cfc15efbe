use Rattle.std.proofs.Common.{◌∙◌, ◌++◌, [], refl, ap}
use Rattle.boogie_loops.specs.View.{wstmt_of}
use Rattle.boogie_loops_grammar.specs.Grammar as g
use Rattle.boogie_loops_text.specs.View.{numbers_of}
use Rattle.boogie_loops_grammar.proofs.Reading.{wide_steps}
use Rattle.boogie_loops_text.proofs.Steps.{by_need, by_token, by_other, by_part, rest_error, part_error, token_error}
use Rattle.grammar.proofs.LessLaws.{less}
use Rattle.std.proofs.Common.{get_or}
use Rattle.boogie_loops_grammar.specs.Words.{wide_words}
use Rattle.boogie_loops_text.proofs.NameSets.{named_at, unnamed_at}
use Rattle.boogie_loops_grammar.specs.Trees.{name_at}
use Rattle.boogie_loops_text.proofs.WideStmts.{wstmt_of-Call, read_as, name_got}
use Rattle.boogie_loops_text.proofs.calls.targeted.Goals as goal
open wide_steps use {start}

pub returns-in_err-arguments-clause-reads : goal.returns-in_err-arguments-clause-reads
returns-in_err-arguments-clause-reads c =
    rest_error wstmt_of _ _ c.from_residual.ensures.1 (by_token c.in-Some.ensures.eats (start (g.targeted c.args.within.locals.now c.args.i) c.args.tokens.now)) (c.in_err-arguments.ensures.reads [] (name_at c.args.within.locals.now c.args.i))

pub returns-in-Some-clause-reads : goal.returns-in-Some-clause-reads
returns-in-Some-clause-reads c =
    read_as (wstmt_of-Call c.new-none.result c.in_ok-name.name c.in_ok-arguments.arguments c.new-none.ensures.items (c.in_ok-name.ensures ∙ c.index-all-i.is ∙ ap (λ l. get_or l c.args.i c.index-all-i.result) c.all.ensures ∙ name_got c.args.within.locals.now c.args.i c.index-all-i.result c.requires.there)) ((by_token c.in-Some.ensures.eats (start (g.targeted c.args.within.locals.now c.args.i) c.args.tokens.now)).reads _ _ (c.in_ok-arguments.ensures.reads [] (name_at c.args.within.locals.now c.args.i)))

pub returns-in-Some-clause-shorter : goal.returns-in-Some-clause-shorter
returns-in-Some-clause-shorter c = less c.in-Some.ensures.shorter c.in_ok-arguments.ensures.shorter

pub returns-in_err-all-clause-reads : goal.returns-in_err-all-clause-reads
returns-in_err-all-clause-reads c =
    part_error wstmt_of _ _ c.from_residual-in_err-all.ensures.1 (by_other c.in_default.ensures.eats (start (g.targeted c.args.within.locals.now c.args.i) c.args.tokens.now)) c.in_err-all.ensures.reads

pub returns-in_err-name-2-clause-reads : goal.returns-in_err-name-2-clause-reads
returns-in_err-name-2-clause-reads c =
    token_error wstmt_of _ _ c.from_residual-in_err-name-2.ensures.1 (by_part c.in_ok-all.ensures.reads (by_other c.in_default.ensures.eats (start (g.targeted c.args.within.locals.now c.args.i) c.args.tokens.now))) (unnamed_at _ _ _ _ (ap (λ l. l ++ wide_words) c.new-none-2.ensures) c.in_err-name-2.ensures.takes)

pub returns-in_err-rest-clause-reads : goal.returns-in_err-rest-clause-reads
returns-in_err-rest-clause-reads c =
    token_error wstmt_of _ _ c.from_residual-in_err-rest.ensures.1 (by_need (named_at (ap (λ l. l ++ wide_words) c.new-none-2.ensures) c.in_ok-name-2.ensures.takes) (by_part c.in_ok-all.ensures.reads (by_other c.in_default.ensures.eats (start (g.targeted c.args.within.locals.now c.args.i) c.args.tokens.now)))) c.in_err-rest.ensures.takes

pub returns-in_err-arguments-2-clause-reads : goal.returns-in_err-arguments-2-clause-reads
returns-in_err-arguments-2-clause-reads c =
    rest_error wstmt_of _ _ c.from_residual-in_err-arguments-2.ensures.1 (by_need c.in_ok-rest.ensures.takes (by_need (named_at (ap (λ l. l ++ wide_words) c.new-none-2.ensures) c.in_ok-name-2.ensures.takes) (by_part c.in_ok-all.ensures.reads (by_other c.in_default.ensures.eats (start (g.targeted c.args.within.locals.now c.args.i) c.args.tokens.now))))) (c.in_err-arguments-2.ensures.reads (numbers_of c.in_ok-all.all) c.in_ok-name-2.name)

pub returns-clause-reads : goal.returns-clause-reads
returns-clause-reads c =
    read_as (wstmt_of-Call c.in_ok-all.all c.in_ok-name-2.name c.in_ok-arguments-2.arguments refl refl) ((by_need c.in_ok-rest.ensures.takes (by_need (named_at (ap (λ l. l ++ wide_words) c.new-none-2.ensures) c.in_ok-name-2.ensures.takes) (by_part c.in_ok-all.ensures.reads (by_other c.in_default.ensures.eats (start (g.targeted c.args.within.locals.now c.args.i) c.args.tokens.now))))).reads _ _ (c.in_ok-arguments-2.ensures.reads (numbers_of c.in_ok-all.all) c.in_ok-name-2.name))

pub returns-clause-shorter : goal.returns-clause-shorter
returns-clause-shorter c = less (less (less c.in_ok-all.ensures.shorter c.in_ok-name-2.ensures.shorter) c.in_ok-rest.ensures.shorter) c.in_ok-arguments-2.ensures.shorter
