use Rattle.std.proofs.Common.{ap, arith}
use Rattle.boogie_tree.specs.Whole.{expr_of}
use Rattle.boogie_grammar.specs.Tests as v
use Rattle.boogie_grammar.specs.Grammar as g
use Rattle.boogie_grammar.specs.ReadView.{scope_of, boxed_of, all_exprs_of, wrap_of, closing, chosen, quantifying}
use Rattle.boogie_grammar.proofs.Reading.{boogie_steps}
use Rattle.grammar.proofs.Pushed.{pushed_first, pushed_more}
use Rattle.boogie_grammar.proofs.EatLaws.{by_variable, by_no_variable}
use Rattle.boogie_text.proofs.ExprLaws.{at_pair, one_leaf, no_leaf, no_wrap}
use Rattle.grammar.proofs.LessLaws.{less, less_on, at_most_on, no_more_on}
use Rattle.boogie_text.proofs.exprs.+expressions.Goals as goal
open boogie_steps use {start, by_need, by_token, by_other, by_part, whole, token_error, part_error, tail, pass_on, whole_as, goes_at, goes_then, symbol_at, symbol_refuses_at}

pub expr-returns-in-Some-clause-reads : goal.expr-returns-in-Some-clause-reads
expr-returns-in-Some-clause-reads t c =
    one_leaf (scope_of c.args.scope) c.in-Some.ensures.eats (ap expr_of c.in_ok-whole.ensures)

pub expr-returns-in-Some-eat_wrap-clause-reads : goal.expr-returns-in-Some-eat_wrap-clause-reads
expr-returns-in-Some-eat_wrap-clause-reads t c =
    pass_on boxed_of _ (goes_then (no_leaf (scope_of c.args.scope) c.in_default.ensures.eats) (c.in-Some-eat_wrap.ensures.eats (scope_of c.args.scope) (at_pair (scope_of c.args.scope)))) c.wrapped.ensures.reads

pub expr-returns-in-Some-eat_word-clause-reads : goal.expr-returns-in-Some-eat_word-clause-reads
expr-returns-in-Some-eat_word-clause-reads t c =
    pass_on boxed_of _ (by_token c.in-Some-eat_word.ensures.eats (no_wrap (scope_of c.args.scope) c.in_default.ensures.eats c.in_default-eat_wrap.ensures.eats)) c.paired.ensures.reads

pub expr-returns-in-Some-eat_variable-clause-reads : goal.expr-returns-in-Some-eat_variable-clause-reads
expr-returns-in-Some-eat_variable-clause-reads t c =
    pass_on boxed_of _ (by_variable (λ i. g.named (scope_of c.args.scope) i) (g.in_parens (scope_of c.args.scope)) {names = c.args.scope.locals.now} c.in-Some-eat_variable.ensures.eats (by_other c.in_default-eat_word.ensures.eats (no_wrap (scope_of c.args.scope) c.in_default.ensures.eats c.in_default-eat_wrap.ensures.eats))) c.named.ensures.reads

pub expr-returns-clause-reads : goal.expr-returns-clause-reads
expr-returns-clause-reads t c =
    pass_on boxed_of _ (by_no_variable (λ i. g.named (scope_of c.args.scope) i) (g.in_parens (scope_of c.args.scope)) {names = c.args.scope.locals.now} c.in_default-eat_variable.ensures.eats (by_other c.in_default-eat_word.ensures.eats (no_wrap (scope_of c.args.scope) c.in_default.ensures.eats c.in_default-eat_wrap.ensures.eats))) c.in_parens.ensures.reads

pub wrapped-returns-in_err-rest-clause-reads : goal.wrapped-returns-in_err-rest-clause-reads
wrapped-returns-in_err-rest-clause-reads t c =
    token_error boxed_of _ _ c.from_residual.ensures.1 (start (g.wrapped (scope_of c.args.scope) (wrap_of c.args.form)) c.args.tokens.now) c.in_err-rest.ensures.takes

pub wrapped-returns-clause-reads : goal.wrapped-returns-clause-reads
wrapped-returns-clause-reads t c =
    pass_on boxed_of _ (by_need c.in_ok-rest.ensures.takes (start (g.wrapped (scope_of c.args.scope) (wrap_of c.args.form)) c.args.tokens.now)) c.closed.ensures.reads

pub closed-returns-in_err-inner-clause-reads : goal.closed-returns-in_err-inner-clause-reads
closed-returns-in_err-inner-clause-reads t c =
    part_error boxed_of _ _ c.from_residual.ensures.1 (start (closing (scope_of c.args.scope) (wrap_of c.args.form)) c.args.tokens.now) c.in_err-inner.ensures.reads

pub closed-returns-in_err-after-clause-reads : goal.closed-returns-in_err-after-clause-reads
closed-returns-in_err-after-clause-reads t c =
    token_error boxed_of _ _ c.from_residual-in_err-after.ensures.1 (by_part c.in_ok-inner.ensures.reads (start (closing (scope_of c.args.scope) (wrap_of c.args.form)) c.args.tokens.now)) c.in_err-after.ensures.takes

pub closed-returns-clause-reads : goal.closed-returns-clause-reads
closed-returns-clause-reads t c =
    whole_as (by_need c.in_ok-after.ensures.takes (by_part c.in_ok-inner.ensures.reads (start (closing (scope_of c.args.scope) (wrap_of c.args.form)) c.args.tokens.now))) c.in_ok-whole.ensures

pub paired-returns-in_err-rest-clause-reads : goal.paired-returns-in_err-rest-clause-reads
paired-returns-in_err-rest-clause-reads t c =
    token_error boxed_of _ _ c.from_residual.ensures.1 (start (g.paired (scope_of c.args.scope)) c.args.tokens.now) c.in_err-rest.ensures.takes

pub paired-returns-in_err-first-clause-reads : goal.paired-returns-in_err-first-clause-reads
paired-returns-in_err-first-clause-reads t c =
    part_error boxed_of _ _ c.from_residual-in_err-first.ensures.1 (by_need c.in_ok-rest.ensures.takes (start (g.paired (scope_of c.args.scope)) c.args.tokens.now)) c.in_err-first.ensures.reads

pub paired-returns-in_err-after-clause-reads : goal.paired-returns-in_err-after-clause-reads
paired-returns-in_err-after-clause-reads t c =
    token_error boxed_of _ _ c.from_residual-in_err-after.ensures.1 (by_part c.in_ok-first.ensures.reads (by_need c.in_ok-rest.ensures.takes (start (g.paired (scope_of c.args.scope)) c.args.tokens.now))) c.in_err-after.ensures.takes

pub paired-returns-in_err-second-clause-reads : goal.paired-returns-in_err-second-clause-reads
paired-returns-in_err-second-clause-reads t c =
    part_error boxed_of _ _ c.from_residual-in_err-second.ensures.1 (by_need c.in_ok-after.ensures.takes (by_part c.in_ok-first.ensures.reads (by_need c.in_ok-rest.ensures.takes (start (g.paired (scope_of c.args.scope)) c.args.tokens.now)))) c.in_err-second.ensures.reads

pub paired-returns-in_err-after-2-clause-reads : goal.paired-returns-in_err-after-2-clause-reads
paired-returns-in_err-after-2-clause-reads t c =
    token_error boxed_of _ _ c.from_residual-in_err-after-2.ensures.1 (by_part c.in_ok-second.ensures.reads (by_need c.in_ok-after.ensures.takes (by_part c.in_ok-first.ensures.reads (by_need c.in_ok-rest.ensures.takes (start (g.paired (scope_of c.args.scope)) c.args.tokens.now))))) c.in_err-after-2.ensures.takes

pub paired-returns-clause-reads : goal.paired-returns-clause-reads
paired-returns-clause-reads t c =
    whole_as (by_need c.in_ok-after-2.ensures.takes (by_part c.in_ok-second.ensures.reads (by_need c.in_ok-after.ensures.takes (by_part c.in_ok-first.ensures.reads (by_need c.in_ok-rest.ensures.takes (start (g.paired (scope_of c.args.scope)) c.args.tokens.now)))))) (ap expr_of c.in_ok-whole.ensures)

pub named-returns-in_default-clause-reads : goal.named-returns-in_default-clause-reads
named-returns-in_default-clause-reads t c =
    whole_as (by_other c.in_default.ensures.eats (start (g.named (scope_of c.args.scope) c.args.i) c.args.tokens.now)) (ap expr_of c.in_ok-whole.ensures)

pub named-returns-clause-reads : goal.named-returns-clause-reads
named-returns-clause-reads t c =
    pass_on boxed_of _ (tail (by_token c.in-Some.ensures.eats (start (g.named (scope_of c.args.scope) c.args.i) c.args.tokens.now))) c.indices.ensures.reads

pub indices-returns-in_err-after-clause-reads : goal.indices-returns-in_err-after-clause-reads
indices-returns-in_err-after-clause-reads t c =
    part_error boxed_of _ _ c.from_residual.ensures.1 (c.in-Some.ensures.eats c.args.i) c.in_err-after.ensures.reads

pub indices-returns-in-Some-clause-reads : goal.indices-returns-in-Some-clause-reads
indices-returns-in-Some-clause-reads t c =
    whole_as (by_part c.in_ok-after.ensures.reads (c.in-Some.ensures.eats c.args.i)) (ap expr_of c.in_ok-whole.ensures)

pub indices-returns-in_err-all-clause-reads : goal.indices-returns-in_err-all-clause-reads
indices-returns-in_err-all-clause-reads t c =
    part_error boxed_of _ _ c.from_residual-in_err-all.ensures.1 (c.in_default.ensures.eats c.args.i) c.in_err-all.ensures.reads

pub indices-returns-clause-reads : goal.indices-returns-clause-reads
indices-returns-clause-reads t c =
    whole_as (by_part c.in_ok-all.ensures.reads (c.in_default.ensures.eats c.args.i)) c.in_ok-whole-2.ensures

pub exprs-returns-in_err-first-clause-reads : goal.exprs-returns-in_err-first-clause-reads
exprs-returns-in_err-first-clause-reads t c =
    part_error all_exprs_of _ _ c.from_residual.ensures.1 (start (g.rule (g.Exprs (scope_of c.args.scope))) c.args.tokens.now) c.in_err-first.ensures.reads

pub exprs-loop-after-init : goal.exprs-loop-after-init
exprs-loop-after-init t c =
    record {
      shorter = c.in_ok-first.ensures.shorter;
      goes = goes_at v.exprs (λ es. g.rule (g.MoreExprs (scope_of c.args.scope) es)) (pushed_first expr_of c.new.ensures.items c.in_ok-all.ensures (ap expr_of c.into_inner.ensures)) (tail (by_part c.in_ok-first.ensures.reads (start (g.rule (g.Exprs (scope_of c.args.scope))) c.args.tokens.now)));
    }

pub exprs-returns-in_err-next-clause-reads : goal.exprs-returns-in_err-next-clause-reads
exprs-returns-in_err-next-clause-reads t c =
    part_error all_exprs_of _ _ c.from_residual-in_err-next.ensures.1 (by_token c.in-Some.ensures.eats c.loop-after.invariant.goes) c.in_err-next.ensures.reads

pub exprs-loop-after-preserved : goal.exprs-loop-after-preserved
exprs-loop-after-preserved t c =
    record {
      shorter = omega (arith, c.in-Some.ensures.shorter, c.in_ok-next.ensures.shorter);
      goes = goes_at v.exprs (λ es. g.rule (g.MoreExprs (scope_of c.args.scope) es)) (pushed_more expr_of _ c.in_ok-all-2.ensures (ap expr_of c.into_inner-in-Some.ensures)) (tail (by_part c.in_ok-next.ensures.reads (by_token c.in-Some.ensures.eats c.loop-after.invariant.goes)));
    }

pub exprs-returns-in_err-after-clause-reads : goal.exprs-returns-in_err-after-clause-reads
exprs-returns-in_err-after-clause-reads t c =
    token_error all_exprs_of _ _ c.from_residual-in_err-after.ensures.1 (by_other c.in_default.ensures.eats c.loop-after.invariant.goes) c.in_err-after.ensures.takes

pub exprs-returns-clause-reads : goal.exprs-returns-clause-reads
exprs-returns-clause-reads t c =
    whole (by_need c.in_ok-after.ensures.takes (by_other c.in_default.ensures.eats c.loop-after.invariant.goes))

pub in_parens-returns-in_err-rest-clause-reads : goal.in_parens-returns-in_err-rest-clause-reads
in_parens-returns-in_err-rest-clause-reads t c =
    token_error boxed_of _ _ c.from_residual.ensures.1 (start (g.in_parens (scope_of c.args.scope)) c.args.tokens.now) c.in_err-rest.ensures.takes

pub in_parens-returns-clause-reads : goal.in_parens-returns-clause-reads
in_parens-returns-clause-reads t c =
    pass_on boxed_of _ (tail (by_need c.in_ok-rest.ensures.takes (start (g.in_parens (scope_of c.args.scope)) c.args.tokens.now))) c.inside.ensures.reads

pub inside-returns-in-Some-clause-reads : goal.inside-returns-in-Some-clause-reads
inside-returns-in-Some-clause-reads t c =
    pass_on boxed_of _ (by_token c.in-Some.ensures.eats (start (g.rule (g.InParens (scope_of c.args.scope))) c.args.tokens.now)) c.closed.ensures.reads

pub inside-returns-in-Some-eat_sign-clause-reads : goal.inside-returns-in-Some-eat_sign-clause-reads
inside-returns-in-Some-eat_sign-clause-reads t c =
    pass_on boxed_of _ (by_token c.in-Some-eat_sign.ensures.eats (by_other c.in_default.ensures.eats (start (g.rule (g.InParens (scope_of c.args.scope))) c.args.tokens.now))) c.closed-in-Some-eat_sign.ensures.reads

pub inside-returns-in-Some-eat_word-clause-reads : goal.inside-returns-in-Some-eat_word-clause-reads
inside-returns-in-Some-eat_word-clause-reads t c =
    pass_on boxed_of _ (by_token c.in-Some-eat_word.ensures.eats (by_other c.in_default-eat_sign.ensures.eats (by_other c.in_default.ensures.eats (start (g.rule (g.InParens (scope_of c.args.scope))) c.args.tokens.now)))) c.choice.ensures.reads

pub inside-returns-in-Some-eat_forall-clause-reads : goal.inside-returns-in-Some-eat_forall-clause-reads
inside-returns-in-Some-eat_forall-clause-reads t c =
    pass_on boxed_of _ (goes_then (by_other c.in_default-eat_word.ensures.eats (by_other c.in_default-eat_sign.ensures.eats (by_other c.in_default.ensures.eats (start (g.rule (g.InParens (scope_of c.args.scope))) c.args.tokens.now)))) (c.in-Some-eat_forall.ensures.eats (quantifying (scope_of c.args.scope)) (g.binary (scope_of c.args.scope)))) c.quantified.ensures.reads

pub inside-returns-clause-reads : goal.inside-returns-clause-reads
inside-returns-clause-reads t c =
    pass_on boxed_of _ (goes_then (by_other c.in_default-eat_word.ensures.eats (by_other c.in_default-eat_sign.ensures.eats (by_other c.in_default.ensures.eats (start (g.rule (g.InParens (scope_of c.args.scope))) c.args.tokens.now)))) (c.in_default-eat_forall.ensures.eats (quantifying (scope_of c.args.scope)) (g.binary (scope_of c.args.scope)))) c.binary.ensures.reads

pub choice-returns-in_err-condition-clause-reads : goal.choice-returns-in_err-condition-clause-reads
choice-returns-in_err-condition-clause-reads t c =
    part_error boxed_of _ _ c.from_residual.ensures.1 (start (chosen (scope_of c.args.scope)) c.args.tokens.now) c.in_err-condition.ensures.reads

pub choice-returns-in_err-after-clause-reads : goal.choice-returns-in_err-after-clause-reads
choice-returns-in_err-after-clause-reads t c =
    token_error boxed_of _ _ c.from_residual-in_err-after.ensures.1 (by_part c.in_ok-condition.ensures.reads (start (chosen (scope_of c.args.scope)) c.args.tokens.now)) c.in_err-after.ensures.takes

pub choice-returns-in_err-first-clause-reads : goal.choice-returns-in_err-first-clause-reads
choice-returns-in_err-first-clause-reads t c =
    part_error boxed_of _ _ c.from_residual-in_err-first.ensures.1 (by_need c.in_ok-after.ensures.takes (by_part c.in_ok-condition.ensures.reads (start (chosen (scope_of c.args.scope)) c.args.tokens.now))) c.in_err-first.ensures.reads

pub choice-returns-in_err-after-2-clause-reads : goal.choice-returns-in_err-after-2-clause-reads
choice-returns-in_err-after-2-clause-reads t c =
    token_error boxed_of _ _ c.from_residual-in_err-after-2.ensures.1 (by_part c.in_ok-first.ensures.reads (by_need c.in_ok-after.ensures.takes (by_part c.in_ok-condition.ensures.reads (start (chosen (scope_of c.args.scope)) c.args.tokens.now)))) c.in_err-after-2.ensures.takes

pub choice-returns-in_err-second-clause-reads : goal.choice-returns-in_err-second-clause-reads
choice-returns-in_err-second-clause-reads t c =
    part_error boxed_of _ _ c.from_residual-in_err-second.ensures.1 (by_need c.in_ok-after-2.ensures.takes (by_part c.in_ok-first.ensures.reads (by_need c.in_ok-after.ensures.takes (by_part c.in_ok-condition.ensures.reads (start (chosen (scope_of c.args.scope)) c.args.tokens.now))))) c.in_err-second.ensures.reads

pub choice-returns-in_err-after-3-clause-reads : goal.choice-returns-in_err-after-3-clause-reads
choice-returns-in_err-after-3-clause-reads t c =
    token_error boxed_of _ _ c.from_residual-in_err-after-3.ensures.1 (by_part c.in_ok-second.ensures.reads (by_need c.in_ok-after-2.ensures.takes (by_part c.in_ok-first.ensures.reads (by_need c.in_ok-after.ensures.takes (by_part c.in_ok-condition.ensures.reads (start (chosen (scope_of c.args.scope)) c.args.tokens.now)))))) c.in_err-after-3.ensures.takes

pub choice-returns-clause-reads : goal.choice-returns-clause-reads
choice-returns-clause-reads t c =
    whole_as (by_need c.in_ok-after-3.ensures.takes (by_part c.in_ok-second.ensures.reads (by_need c.in_ok-after-2.ensures.takes (by_part c.in_ok-first.ensures.reads (by_need c.in_ok-after.ensures.takes (by_part c.in_ok-condition.ensures.reads (start (chosen (scope_of c.args.scope)) c.args.tokens.now))))))) (ap expr_of c.in_ok-whole.ensures)

pub binary-returns-in_err-left-clause-reads : goal.binary-returns-in_err-left-clause-reads
binary-returns-in_err-left-clause-reads t c =
    part_error boxed_of _ _ c.from_residual.ensures.1 (start (g.binary (scope_of c.args.scope)) c.args.tokens.now) c.in_err-left.ensures.reads

pub binary-returns-in_err-op-clause-reads : goal.binary-returns-in_err-op-clause-reads
binary-returns-in_err-op-clause-reads t c =
    token_error boxed_of _ _ c.from_residual-in_err-op.ensures.1 (by_part c.in_ok-left.ensures.reads (start (g.binary (scope_of c.args.scope)) c.args.tokens.now)) c.in_err-op.ensures.takes

pub binary-returns-in_err-right-clause-reads : goal.binary-returns-in_err-right-clause-reads
binary-returns-in_err-right-clause-reads t c =
    part_error boxed_of _ _ c.from_residual-in_err-right.ensures.1 (by_need c.in_ok-op.ensures.takes (by_part c.in_ok-left.ensures.reads (start (g.binary (scope_of c.args.scope)) c.args.tokens.now))) c.in_err-right.ensures.reads

pub binary-returns-in_err-after-clause-reads : goal.binary-returns-in_err-after-clause-reads
binary-returns-in_err-after-clause-reads t c =
    token_error boxed_of _ _ c.from_residual-in_err-after.ensures.1 (by_part c.in_ok-right.ensures.reads (by_need c.in_ok-op.ensures.takes (by_part c.in_ok-left.ensures.reads (start (g.binary (scope_of c.args.scope)) c.args.tokens.now)))) c.in_err-after.ensures.takes

pub binary-returns-clause-reads : goal.binary-returns-clause-reads
binary-returns-clause-reads t c =
    whole_as (by_need c.in_ok-after.ensures.takes (by_part c.in_ok-right.ensures.reads (by_need c.in_ok-op.ensures.takes (by_part c.in_ok-left.ensures.reads (start (g.binary (scope_of c.args.scope)) c.args.tokens.now))))) (ap expr_of c.in_ok-whole.ensures)

pub binding-returns-in_err-types-clause-reads : goal.binding-returns-in_err-types-clause-reads
binding-returns-in_err-types-clause-reads t c =
    part_error boxed_of _ _ c.from_residual.ensures.1 (start (quantifying (scope_of c.args.scope)) c.args.tokens.now) c.in_err-types.ensures.reads

pub binding-returns-in_err-after-clause-reads : goal.binding-returns-in_err-after-clause-reads
binding-returns-in_err-after-clause-reads t c =
    token_error boxed_of _ _ c.from_residual-in_err-after.ensures.1 (by_part c.in_ok-types.ensures.reads (start (quantifying (scope_of c.args.scope)) c.args.tokens.now)) c.in_err-after.ensures.takes

pub binding-returns-in_err-inner-clause-reads : goal.binding-returns-in_err-inner-clause-reads
binding-returns-in_err-inner-clause-reads t c =
    part_error boxed_of _ _ c.from_residual-in_err-inner.ensures.1 (by_need c.in_ok-after.ensures.takes (by_part c.in_ok-types.ensures.reads (start (quantifying (scope_of c.args.scope)) c.args.tokens.now))) (symbol_refuses_at (λ bs. g.Expr (g.binding_in (scope_of c.args.scope) bs)) _ _ _ _ c.all.ensures c.in_err-inner.ensures.reads)

pub binding-returns-in_err-after-2-clause-reads : goal.binding-returns-in_err-after-2-clause-reads
binding-returns-in_err-after-2-clause-reads t c =
    token_error boxed_of _ _ c.from_residual-in_err-after-2.ensures.1 (by_part (symbol_at (λ bs. g.Expr (g.binding_in (scope_of c.args.scope) bs)) c.all.ensures c.in_ok-inner.ensures.reads) (by_need c.in_ok-after.ensures.takes (by_part c.in_ok-types.ensures.reads (start (quantifying (scope_of c.args.scope)) c.args.tokens.now)))) c.in_err-after-2.ensures.takes

pub binding-returns-clause-reads : goal.binding-returns-clause-reads
binding-returns-clause-reads t c =
    whole_as (by_need c.in_ok-after-2.ensures.takes (by_part (symbol_at (λ bs. g.Expr (g.binding_in (scope_of c.args.scope) bs)) c.all.ensures c.in_ok-inner.ensures.reads) (by_need c.in_ok-after.ensures.takes (by_part c.in_ok-types.ensures.reads (start (quantifying (scope_of c.args.scope)) c.args.tokens.now))))) (ap expr_of c.in_ok-whole.ensures)

-- the tokens that are left

pub binary-returns-clause-shorter : goal.binary-returns-clause-shorter
binary-returns-clause-shorter t c = less (less (less c.in_ok-left.ensures.shorter c.in_ok-op.ensures.shorter) c.in_ok-right.ensures.shorter) c.in_ok-after.ensures.shorter

pub binding-returns-clause-shorter : goal.binding-returns-clause-shorter
binding-returns-clause-shorter t c = less (less (less c.in_ok-types.ensures.shorter c.in_ok-after.ensures.shorter) c.in_ok-inner.ensures.shorter) c.in_ok-after-2.ensures.shorter

pub choice-returns-clause-shorter : goal.choice-returns-clause-shorter
choice-returns-clause-shorter t c = less (less (less (less (less c.in_ok-condition.ensures.shorter c.in_ok-after.ensures.shorter) c.in_ok-first.ensures.shorter) c.in_ok-after-2.ensures.shorter) c.in_ok-second.ensures.shorter) c.in_ok-after-3.ensures.shorter

pub closed-returns-clause-shorter : goal.closed-returns-clause-shorter
closed-returns-clause-shorter t c = less c.in_ok-inner.ensures.shorter c.in_ok-after.ensures.shorter

pub expr-returns-in-Some-clause-shorter : goal.expr-returns-in-Some-clause-shorter
expr-returns-in-Some-clause-shorter t c = c.in-Some.ensures.shorter

pub expr-returns-in-Some-eat_wrap-clause-shorter : goal.expr-returns-in-Some-eat_wrap-clause-shorter
expr-returns-in-Some-eat_wrap-clause-shorter t c = less_on _ c.wrapped.result c.in-Some-eat_wrap.ensures.shorter c.wrapped.ensures.shorter

pub expr-returns-in-Some-eat_word-clause-shorter : goal.expr-returns-in-Some-eat_word-clause-shorter
expr-returns-in-Some-eat_word-clause-shorter t c = less_on _ c.paired.result c.in-Some-eat_word.ensures.shorter c.paired.ensures.shorter

pub expr-returns-in-Some-eat_variable-clause-shorter : goal.expr-returns-in-Some-eat_variable-clause-shorter
expr-returns-in-Some-eat_variable-clause-shorter t c = at_most_on _ c.named.result c.in-Some-eat_variable.ensures.shorter c.named.ensures.shorter

pub expr-returns-clause-shorter : goal.expr-returns-clause-shorter
expr-returns-clause-shorter t c = c.in_parens.ensures.shorter

pub exprs-returns-clause-shorter : goal.exprs-returns-clause-shorter
exprs-returns-clause-shorter t c = less c.loop-after.invariant.shorter c.in_ok-after.ensures.shorter

pub in_parens-returns-clause-shorter : goal.in_parens-returns-clause-shorter
in_parens-returns-clause-shorter t c = less_on _ c.inside.result c.in_ok-rest.ensures.shorter c.inside.ensures.shorter

pub indices-returns-in-Some-clause-shorter : goal.indices-returns-in-Some-clause-shorter
indices-returns-in-Some-clause-shorter t c = less c.in-Some.ensures.shorter c.in_ok-after.ensures.shorter

pub indices-returns-clause-shorter : goal.indices-returns-clause-shorter
indices-returns-clause-shorter t c = c.in_ok-all.ensures.shorter

pub inside-returns-in-Some-clause-shorter : goal.inside-returns-in-Some-clause-shorter
inside-returns-in-Some-clause-shorter t c = less_on _ c.closed.result c.in-Some.ensures.shorter c.closed.ensures.shorter

pub inside-returns-in-Some-eat_sign-clause-shorter : goal.inside-returns-in-Some-eat_sign-clause-shorter
inside-returns-in-Some-eat_sign-clause-shorter t c = less_on _ c.closed-in-Some-eat_sign.result c.in-Some-eat_sign.ensures.shorter c.closed-in-Some-eat_sign.ensures.shorter

pub inside-returns-in-Some-eat_word-clause-shorter : goal.inside-returns-in-Some-eat_word-clause-shorter
inside-returns-in-Some-eat_word-clause-shorter t c = less_on _ c.choice.result c.in-Some-eat_word.ensures.shorter c.choice.ensures.shorter

pub inside-returns-in-Some-eat_forall-clause-shorter : goal.inside-returns-in-Some-eat_forall-clause-shorter
inside-returns-in-Some-eat_forall-clause-shorter t c = less_on _ c.quantified.result c.in-Some-eat_forall.ensures.shorter c.quantified.ensures.shorter

pub inside-returns-clause-shorter : goal.inside-returns-clause-shorter
inside-returns-clause-shorter t c = c.binary.ensures.shorter

pub named-returns-clause-shorter : goal.named-returns-clause-shorter
named-returns-clause-shorter t c = no_more_on _ c.indices.result c.in-Some.ensures.shorter c.indices.ensures.shorter

pub paired-returns-clause-shorter : goal.paired-returns-clause-shorter
paired-returns-clause-shorter t c = less (less (less (less c.in_ok-rest.ensures.shorter c.in_ok-first.ensures.shorter) c.in_ok-after.ensures.shorter) c.in_ok-second.ensures.shorter) c.in_ok-after-2.ensures.shorter

pub quantified-returns-clause-shorter : goal.quantified-returns-clause-shorter
quantified-returns-clause-shorter t c = c.binding.ensures.shorter

pub wrapped-returns-clause-shorter : goal.wrapped-returns-clause-shorter
wrapped-returns-clause-shorter t c = less_on _ c.closed.result c.in_ok-rest.ensures.shorter c.closed.ensures.shorter

pub quantified-returns-clause-reads : goal.quantified-returns-clause-reads
quantified-returns-clause-reads t c = c.binding.ensures.reads
