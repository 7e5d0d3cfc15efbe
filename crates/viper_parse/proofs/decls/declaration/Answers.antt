use Rattle.viper_grammar.specs.Grammar as g
use Rattle.viper_grammar.proofs.Reading.{viper_steps}
use Rattle.viper_parse.proofs.decls.declaration.Goals as goal
use Rattle.viper_parse.proofs.Whole.{declares_error}
open viper_steps use {start, by_token, by_other, by_part, whole, tail, wrong_part}

pub returns-in_err-declared-clause-reads : goal.returns-in_err-declared-clause-reads
returns-in_err-declared-clause-reads c =
    declares_error _ _ _ c.from_residual.ensures.1 (λ ds z f. wrong_part f (by_token c.in-Some.ensures.eats (start (g.rule (g.Program ds)) c.args.tokens.now))) c.in_err-declared.ensures.reads

pub returns-in-Some-clause-reads : goal.returns-in-Some-clause-reads
returns-in-Some-clause-reads c =
    λ ds. tail (by_part c.semicolons-rest.ensures.reads (by_part c.in_ok-declared.ensures.reads (by_token c.in-Some.ensures.eats (start (g.rule (g.Program ds)) c.args.tokens.now))))

pub returns-in_err-predicate-clause-reads : goal.returns-in_err-predicate-clause-reads
returns-in_err-predicate-clause-reads c =
    declares_error _ _ _ c.from_residual-in_err-predicate.ensures.1 (λ ds z f. wrong_part f (by_token c.in-Some-eat_word.ensures.eats (by_other c.in_default.ensures.eats (start (g.rule (g.Program ds)) c.args.tokens.now)))) c.in_err-predicate.ensures.reads

pub returns-in-Some-eat_word-clause-reads : goal.returns-in-Some-eat_word-clause-reads
returns-in-Some-eat_word-clause-reads c =
    λ ds. tail (by_part c.in_ok-predicate.ensures.reads (by_token c.in-Some-eat_word.ensures.eats (by_other c.in_default.ensures.eats (start (g.rule (g.Program ds)) c.args.tokens.now))))

pub returns-in_err-method-clause-reads : goal.returns-in_err-method-clause-reads
returns-in_err-method-clause-reads c =
    declares_error _ _ _ c.from_residual-in_err-method.ensures.1 (λ ds z f. wrong_part f (by_token c.in-Some-eat_word-2.ensures.eats (by_other c.in_default-eat_word.ensures.eats (by_other c.in_default.ensures.eats (start (g.rule (g.Program ds)) c.args.tokens.now))))) c.in_err-method.ensures.reads

pub returns-in-Some-eat_word-2-clause-reads : goal.returns-in-Some-eat_word-2-clause-reads
returns-in-Some-eat_word-2-clause-reads c =
    λ ds. tail (by_part c.in_ok-method.ensures.reads (by_token c.in-Some-eat_word-2.ensures.eats (by_other c.in_default-eat_word.ensures.eats (by_other c.in_default.ensures.eats (start (g.rule (g.Program ds)) c.args.tokens.now)))))

pub returns-clause-reads : goal.returns-clause-reads
returns-clause-reads c =
    λ ds. whole (by_other c.in_default-eat_word-2.ensures.eats (by_other c.in_default-eat_word.ensures.eats (by_other c.in_default.ensures.eats (start (g.rule (g.Program ds)) c.args.tokens.now))))
