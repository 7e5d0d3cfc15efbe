use Rattle.std.proofs.Common.{◌≡◌, sym, ap, ◌∙◌, map, arith}
use Rattle.viper_syntax.specs.View.{term_of, amount_of, call_of}
use Rattle.std.proofs.lemmas.Int.{to_z-of_z}
use mir.Val.{to_z, of_z}
use mir.Syntax.{w128}
use Rattle.viper_syntax.specs.Term.{Number}
use Rattle.viper_grammar.specs.Tests as v
use Rattle.viper_grammar.specs.Grammar as g
use Rattle.viper_grammar.specs.Greedy.{called, given}
use Rattle.viper_grammar.specs.View.{part_of, instance_of}
use Rattle.viper_parse.specs.View.{arguments_of}
use Rattle.viper_grammar.proofs.Reading.{viper_failing, viper_steps}
use Rattle.grammar.proofs.Pushed.{pushed_first, pushed_more}
use Rattle.viper_grammar.proofs.Steps.{stays, goes_further, level_longer, level_fails, longer_fails, level_at, level_refuses_at}
use Rattle.grammar.proofs.LessLaws.{less, less_on, at_most_on, no_more}
use Rattle.viper_parse.proofs.terms.+terms.Goals as goal
open viper_failing use {fails_in}
open viper_steps use {start, by_need, by_token, by_other, by_part, whole, error_as, part_error, token_error, tail, pass_on, whole_as, goes_at, once, again}

pub term-returns-in_err-part-clause-reads : goal.term-returns-in_err-part-clause-reads
term-returns-in_err-part-clause-reads t c =
    part_error part_of _ _ c.from_residual.ensures.1 (start (g.rule g.Term) c.args.tokens.now) c.in_err-part.ensures.reads

pub term-returns-clause-reads : goal.term-returns-clause-reads
term-returns-clause-reads t c =
    pass_on part_of _ (by_part c.in_ok-part.ensures.reads (start (g.rule g.Term) c.args.tokens.now)) c.choice.ensures.reads

pub choice-returns-then-is_open-clause-reads : goal.choice-returns-then-is_open-clause-reads
choice-returns-then-is_open-clause-reads t c =
    stays (part_of c.args.condition) _ c.if-is_open.ensures

pub choice-returns-in_default-clause-reads : goal.choice-returns-in_default-clause-reads
choice-returns-in_default-clause-reads t c =
    whole (by_other c.in_default.ensures.eats (goes_further (part_of c.args.condition) c.if-is_open.ensures (start (g.choice (part_of c.args.condition)) c.args.tokens.now)))

pub choice-returns-in_err-first-clause-reads : goal.choice-returns-in_err-first-clause-reads
choice-returns-in_err-first-clause-reads t c =
    part_error part_of _ _ c.from_residual.ensures.1 (by_token c.in-Some.ensures.eats (goes_further (part_of c.args.condition) c.if-is_open.ensures (start (g.choice (part_of c.args.condition)) c.args.tokens.now))) c.in_err-first.ensures.reads

pub choice-returns-in_err-after-clause-reads : goal.choice-returns-in_err-after-clause-reads
choice-returns-in_err-after-clause-reads t c =
    token_error part_of _ _ c.from_residual-in_err-after.ensures.1 (by_part c.in_ok-first.ensures.reads (by_token c.in-Some.ensures.eats (goes_further (part_of c.args.condition) c.if-is_open.ensures (start (g.choice (part_of c.args.condition)) c.args.tokens.now)))) c.in_err-after.ensures.takes

pub choice-returns-in_err-second-clause-reads : goal.choice-returns-in_err-second-clause-reads
choice-returns-in_err-second-clause-reads t c =
    part_error part_of _ _ c.from_residual-in_err-second.ensures.1 (by_need c.in_ok-after.ensures.takes (by_part c.in_ok-first.ensures.reads (by_token c.in-Some.ensures.eats (goes_further (part_of c.args.condition) c.if-is_open.ensures (start (g.choice (part_of c.args.condition)) c.args.tokens.now))))) c.in_err-second.ensures.reads

pub choice-returns-clause-reads : goal.choice-returns-clause-reads
choice-returns-clause-reads t c =
    whole_as (by_part c.in_ok-second.ensures.reads (by_need c.in_ok-after.ensures.takes (by_part c.in_ok-first.ensures.reads (by_token c.in-Some.ensures.eats (goes_further (part_of c.args.condition) c.if-is_open.ensures (start (g.choice (part_of c.args.condition)) c.args.tokens.now)))))) c.in_ok-whole.ensures

pub level-returns-in_err-part-clause-reads : goal.level-returns-in_err-part-clause-reads
level-returns-in_err-part-clause-reads t c =
    error_as part_of _ _ c.from_residual.ensures.1 (λ z f. level_fails 0 c.args.n (omega arith) (fails_in f)) c.in_err-part.ensures.reads

pub level-loop-m-init : goal.level-loop-m-init
level-loop-m-init t c =
    record { shorter = c.in_ok-part.ensures.shorter; reads = called c.in_ok-part.ensures.reads given }

pub level-returns-in_err-longer-clause-reads : goal.level-returns-in_err-longer-clause-reads
level-returns-in_err-longer-clause-reads t c =
    error_as part_of _ _ c.from_residual-in_err-longer.ensures.1 (λ z f. longer_fails _ c.args.n (omega arith) c.loop-m.invariant.reads f) c.in_err-longer.ensures.reads

pub level-loop-m-preserved : goal.level-loop-m-preserved
level-loop-m-preserved t c =
    record { shorter = omega (arith, c.in_ok-longer.ensures.shorter); reads = level_longer _ c.loop-m.invariant.reads c.in_ok-longer.ensures.reads }

pub level-returns-clause-reads : goal.level-returns-clause-reads
level-returns-clause-reads t c =
    let e : c.loop-m.m ≡ c.args.n = omega arith in level_at e c.loop-m.invariant.reads

pub chain-loop-operator-init : goal.chain-loop-operator-init
chain-loop-operator-init t c =
    record { shorter = omega arith; goes = start (g.rule (g.Chain c.args.n (part_of c.args.first))) c.args.tokens.now }

pub chain-returns-in_err-right-clause-reads : goal.chain-returns-in_err-right-clause-reads
chain-returns-in_err-right-clause-reads t c =
    part_error part_of _ _ c.from_residual.ensures.1 (by_token c.in-Some.ensures.goes_on.1 (goes_further (part_of c.loop-operator.part) (sym c.in-Some.ensures.goes_on.0) c.loop-operator.invariant.goes)) (level_refuses_at _ (g.right_level c.args.n) _ _ c.right_level.ensures c.in_err-right.ensures.reads)

pub chain-returns-then-not-repeats-clause-reads : goal.chain-returns-then-not-repeats-clause-reads
chain-returns-then-not-repeats-clause-reads t c =
    let h = whole_as (once (g.repeats c.args.n) _ c.if-not-repeats.ensures (by_part (level_at c.right_level.ensures c.in_ok-right.ensures.reads) (by_token c.in-Some.ensures.goes_on.1 (goes_further (part_of c.loop-operator.part) (sym c.in-Some.ensures.goes_on.0) c.loop-operator.invariant.goes)))) c.in_ok-part.ensures in h

pub chain-loop-operator-preserved : goal.chain-loop-operator-preserved
chain-loop-operator-preserved t c =
    record { shorter = omega (arith, c.in-Some.ensures.shorter, c.in_ok-right.ensures.shorter); goes = goes_at v.part (λ p. g.rule (g.Chain c.args.n p)) c.in_ok-part.ensures (tail (again (g.repeats c.args.n) _ c.if-not-repeats.ensures (by_part (level_at c.right_level.ensures c.in_ok-right.ensures.reads) (by_token c.in-Some.ensures.goes_on.1 (goes_further (part_of c.loop-operator.part) (sym c.in-Some.ensures.goes_on.0) c.loop-operator.invariant.goes))))) }

pub chain-returns-clause-reads : goal.chain-returns-clause-reads
chain-returns-clause-reads t c =
    c.loop-operator.invariant.goes.reads _ _ c.in_default.ensures.goes_on

pub unary-returns-in_err-operand-clause-reads : goal.unary-returns-in_err-operand-clause-reads
unary-returns-in_err-operand-clause-reads t c =
    part_error part_of _ _ c.from_residual.ensures.1 (by_token c.in-Some.ensures.eats (start (g.rule g.Unary) c.args.tokens.now)) c.in_err-operand.ensures.reads

pub unary-returns-in-Some-clause-reads : goal.unary-returns-in-Some-clause-reads
unary-returns-in-Some-clause-reads t c =
    whole_as (by_part c.in_ok-operand.ensures.reads (by_token c.in-Some.ensures.eats (start (g.rule g.Unary) c.args.tokens.now))) c.in_ok-whole.ensures

pub unary-returns-in-Some-eat_word-clause-reads : goal.unary-returns-in-Some-eat_word-clause-reads
unary-returns-in-Some-eat_word-clause-reads t c =
    pass_on part_of _ (by_token c.in-Some-eat_word.ensures.eats (by_other c.in_default.ensures.eats (start (g.rule g.Unary) c.args.tokens.now))) c.opening.ensures.reads

pub unary-returns-in_err-part-clause-reads : goal.unary-returns-in_err-part-clause-reads
unary-returns-in_err-part-clause-reads t c =
    part_error part_of _ _ c.from_residual-in_err-part.ensures.1 (by_other c.in_default-eat_word.ensures.eats (by_other c.in_default.ensures.eats (start (g.rule g.Unary) c.args.tokens.now))) c.in_err-part.ensures.reads

pub unary-returns-clause-reads : goal.unary-returns-clause-reads
unary-returns-clause-reads t c =
    pass_on part_of _ (tail (by_part c.in_ok-part.ensures.reads (by_other c.in_default-eat_word.ensures.eats (by_other c.in_default.ensures.eats (start (g.rule g.Unary) c.args.tokens.now))))) c.fields.ensures.reads

pub opening-returns-in_err-opened-clause-reads : goal.opening-returns-in_err-opened-clause-reads
opening-returns-in_err-opened-clause-reads t c =
    part_error part_of _ _ c.from_residual.ensures.1 (start (g.opening c.args.at) c.args.tokens.now) c.in_err-opened.ensures.reads

pub opening-returns-in_err-after-clause-reads : goal.opening-returns-in_err-after-clause-reads
opening-returns-in_err-after-clause-reads t c =
    token_error part_of _ _ c.from_residual-in_err-after.ensures.1 (by_part c.in_ok-opened.ensures.reads (start (g.opening c.args.at) c.args.tokens.now)) c.in_err-after.ensures.takes

pub opening-returns-in_err-inner-clause-reads : goal.opening-returns-in_err-inner-clause-reads
opening-returns-in_err-inner-clause-reads t c =
    part_error part_of _ _ c.from_residual-in_err-inner.ensures.1 (by_need c.in_ok-after.ensures.takes (by_part c.in_ok-opened.ensures.reads (start (g.opening c.args.at) c.args.tokens.now))) c.in_err-inner.ensures.reads

pub opening-returns-clause-reads : goal.opening-returns-clause-reads
opening-returns-clause-reads t c =
    whole_as (by_part c.in_ok-inner.ensures.reads (by_need c.in_ok-after.ensures.takes (by_part c.in_ok-opened.ensures.reads (start (g.opening c.args.at) c.args.tokens.now)))) c.in_ok-whole.ensures

pub first-returns-in-Some-clause-reads : goal.first-returns-in-Some-clause-reads
first-returns-in-Some-clause-reads t c =
    pass_on part_of _ (by_token (rw c.in-Some.is at c.in_ok-named.ensures.eats) (start (g.rule g.First) c.args.tokens.now)) c.name_or_call.ensures.reads

pub first-returns-in-Some-eat_number-clause-reads : goal.first-returns-in-Some-eat_number-clause-reads
first-returns-in-Some-eat_number-clause-reads t c =
    let value = c.in-Some-eat_number.value in
    let same : to_z w128 (of_z w128 value) ≡ value = grind (arith, to_z-of_z) in
    whole_as (by_token c.in-Some-eat_number.ensures.eats (by_other (rw c.in_default.is at c.in_ok-named.ensures.eats) (start (g.rule g.First) c.args.tokens.now)))
    (c.in_ok-part.ensures ∙ ap (λ n. g.plain (Number n c.in-Some-eat_number.at)) same)

pub first-returns-in-Some-eat_one_of-clause-reads : goal.first-returns-in-Some-eat_one_of-clause-reads
first-returns-in-Some-eat_one_of-clause-reads t c =
    whole_as (by_token c.in-Some-eat_one_of.ensures.eats (by_other c.in_default-eat_number.ensures.eats (by_other (rw c.in_default.is at c.in_ok-named.ensures.eats) (start (g.rule g.First) c.args.tokens.now)))) c.in_ok-part-2.ensures

pub first-returns-in_err-inner-clause-reads : goal.first-returns-in_err-inner-clause-reads
first-returns-in_err-inner-clause-reads t c =
    part_error part_of _ _ c.from_residual-in_err-inner.ensures.1 (by_token c.in-Some-eat_word.ensures.eats (by_other c.in_default-eat_one_of.ensures.eats (by_other c.in_default-eat_number.ensures.eats (by_other (rw c.in_default.is at c.in_ok-named.ensures.eats) (start (g.rule g.First) c.args.tokens.now))))) c.in_err-inner.ensures.reads

pub first-returns-in-Some-eat_word-clause-reads : goal.first-returns-in-Some-eat_word-clause-reads
first-returns-in-Some-eat_word-clause-reads t c =
    whole_as (by_part c.in_ok-inner.ensures.reads (by_token c.in-Some-eat_word.ensures.eats (by_other c.in_default-eat_one_of.ensures.eats (by_other c.in_default-eat_number.ensures.eats (by_other (rw c.in_default.is at c.in_ok-named.ensures.eats) (start (g.rule g.First) c.args.tokens.now)))))) c.in_ok-part-3.ensures

pub first-returns-in-Some-eat_word-2-clause-reads : goal.first-returns-in-Some-eat_word-2-clause-reads
first-returns-in-Some-eat_word-2-clause-reads t c =
    pass_on part_of _ (by_token c.in-Some-eat_word-2.ensures.eats (by_other c.in_default-eat_word.ensures.eats (by_other c.in_default-eat_one_of.ensures.eats (by_other c.in_default-eat_number.ensures.eats (by_other (rw c.in_default.is at c.in_ok-named.ensures.eats) (start (g.rule g.First) c.args.tokens.now)))))) c.access.ensures.reads

pub first-returns-in_err-inner-2-clause-reads : goal.first-returns-in_err-inner-2-clause-reads
first-returns-in_err-inner-2-clause-reads t c =
    part_error part_of _ _ c.from_residual-in_err-inner-2.ensures.1 (by_other c.in_default-eat_word-2.ensures.eats (by_other c.in_default-eat_word.ensures.eats (by_other c.in_default-eat_one_of.ensures.eats (by_other c.in_default-eat_number.ensures.eats (by_other (rw c.in_default.is at c.in_ok-named.ensures.eats) (start (g.rule g.First) c.args.tokens.now)))))) c.in_err-inner-2.ensures.reads

pub first-returns-clause-reads : goal.first-returns-clause-reads
first-returns-clause-reads t c =
    whole (by_part c.in_ok-inner-2.ensures.reads (by_other c.in_default-eat_word-2.ensures.eats (by_other c.in_default-eat_word.ensures.eats (by_other c.in_default-eat_one_of.ensures.eats (by_other c.in_default-eat_number.ensures.eats (by_other (rw c.in_default.is at c.in_ok-named.ensures.eats) (start (g.rule g.First) c.args.tokens.now)))))))

pub name_or_call-returns-in_default-clause-reads : goal.name_or_call-returns-in_default-clause-reads
name_or_call-returns-in_default-clause-reads t c =
    whole_as (by_other c.in_default.ensures.eats (start (g.name_or_call c.args.named) c.args.tokens.now)) c.in_ok-part.ensures

pub name_or_call-returns-in_err-args-clause-reads : goal.name_or_call-returns-in_err-args-clause-reads
name_or_call-returns-in_err-args-clause-reads t c =
    part_error part_of _ _ c.from_residual-in_err-args.ensures.1 (by_token c.in-Some.ensures.eats (start (g.name_or_call c.args.named) c.args.tokens.now)) c.in_err-args.ensures.reads

pub name_or_call-returns-clause-reads : goal.name_or_call-returns-clause-reads
name_or_call-returns-clause-reads t c =
    whole_as (by_part c.in_ok-args.ensures.reads (by_token c.in-Some.ensures.eats (start (g.name_or_call c.args.named) c.args.tokens.now))) c.in_ok-part-2.ensures

pub access-returns-in_err-rest-clause-reads : goal.access-returns-in_err-rest-clause-reads
access-returns-in_err-rest-clause-reads t c =
    token_error part_of _ _ c.from_residual.ensures.1 (start (g.access c.args.at) c.args.tokens.now) c.in_err-rest.ensures.takes

pub access-returns-in_err-place-clause-reads : goal.access-returns-in_err-place-clause-reads
access-returns-in_err-place-clause-reads t c =
    part_error part_of _ _ c.from_residual-in_err-place.ensures.1 (by_need c.in_ok-rest.ensures.takes (start (g.access c.args.at) c.args.tokens.now)) c.in_err-place.ensures.reads

pub access-returns-in_err-held-clause-reads : goal.access-returns-in_err-held-clause-reads
access-returns-in_err-held-clause-reads t c =
    part_error part_of _ _ c.from_residual-in_err-held.ensures.1 (by_part c.in_ok-place.ensures.reads (by_need c.in_ok-rest.ensures.takes (start (g.access c.args.at) c.args.tokens.now))) c.in_err-held.ensures.reads

pub access-returns-clause-reads : goal.access-returns-clause-reads
access-returns-clause-reads t c =
    whole_as (by_part c.in_ok-held.ensures.reads (by_part c.in_ok-place.ensures.reads (by_need c.in_ok-rest.ensures.takes (start (g.access c.args.at) c.args.tokens.now)))) c.in_ok-whole.ensures

pub group-returns-in_err-rest-clause-reads : goal.group-returns-in_err-rest-clause-reads
group-returns-in_err-rest-clause-reads t c =
    token_error part_of _ _ c.from_residual.ensures.1 (start (g.rule g.Group) c.args.tokens.now) c.in_err-rest.ensures.takes

pub group-returns-in_err-inner-clause-reads : goal.group-returns-in_err-inner-clause-reads
group-returns-in_err-inner-clause-reads t c =
    part_error part_of _ _ c.from_residual-in_err-inner.ensures.1 (by_need c.in_ok-rest.ensures.takes (start (g.rule g.Group) c.args.tokens.now)) c.in_err-inner.ensures.reads

pub group-returns-in_err-after-clause-reads : goal.group-returns-in_err-after-clause-reads
group-returns-in_err-after-clause-reads t c =
    token_error part_of _ _ c.from_residual-in_err-after.ensures.1 (by_part c.in_ok-inner.ensures.reads (by_need c.in_ok-rest.ensures.takes (start (g.rule g.Group) c.args.tokens.now))) c.in_err-after.ensures.takes

pub group-returns-clause-reads : goal.group-returns-clause-reads
group-returns-clause-reads t c =
    whole (by_need c.in_ok-after.ensures.takes (by_part c.in_ok-inner.ensures.reads (by_need c.in_ok-rest.ensures.takes (start (g.rule g.Group) c.args.tokens.now))))

pub amount-returns-in_err-part-clause-reads : goal.amount-returns-in_err-part-clause-reads
amount-returns-in_err-part-clause-reads t c =
    part_error amount_of _ _ c.from_residual.ensures.1 (by_token c.in-Some.ensures.eats (start (g.rule g.Amount) c.args.tokens.now)) c.in_err-part.ensures.reads

pub amount-returns-in_err-after-clause-reads : goal.amount-returns-in_err-after-clause-reads
amount-returns-in_err-after-clause-reads t c =
    token_error amount_of _ _ c.from_residual-in_err-after.ensures.1 (by_part c.in_ok-part.ensures.reads (by_token c.in-Some.ensures.eats (start (g.rule g.Amount) c.args.tokens.now))) c.in_err-after.ensures.takes

pub amount-returns-in-Some-clause-reads : goal.amount-returns-in-Some-clause-reads
amount-returns-in-Some-clause-reads t c =
    whole (by_need c.in_ok-after.ensures.takes (by_part c.in_ok-part.ensures.reads (by_token c.in-Some.ensures.eats (start (g.rule g.Amount) c.args.tokens.now))))

pub amount-returns-in_err-rest-clause-reads : goal.amount-returns-in_err-rest-clause-reads
amount-returns-in_err-rest-clause-reads t c =
    token_error amount_of _ _ c.from_residual-in_err-rest.ensures.1 (by_other c.in_default.ensures.eats (start (g.rule g.Amount) c.args.tokens.now)) c.in_err-rest.ensures.takes

pub amount-returns-clause-reads : goal.amount-returns-clause-reads
amount-returns-clause-reads t c =
    whole (by_need c.in_ok-rest.ensures.takes (by_other c.in_default.ensures.eats (start (g.rule g.Amount) c.args.tokens.now)))

pub instance-returns-in_err-rest-clause-reads : goal.instance-returns-in_err-rest-clause-reads
instance-returns-in_err-rest-clause-reads t c =
    token_error instance_of _ _ c.from_residual.ensures.1 (by_token c.in-Some.ensures.eats (start (g.rule g.InstanceOf) c.args.tokens.now)) c.in_err-rest.ensures.takes

pub instance-returns-in_err-named-clause-reads : goal.instance-returns-in_err-named-clause-reads
instance-returns-in_err-named-clause-reads t c =
    part_error instance_of _ _ c.from_residual-in_err-named.ensures.1 (by_need c.in_ok-rest.ensures.takes (by_token c.in-Some.ensures.eats (start (g.rule g.InstanceOf) c.args.tokens.now))) c.in_err-named.ensures.reads

pub instance-returns-in_err-held-clause-reads : goal.instance-returns-in_err-held-clause-reads
instance-returns-in_err-held-clause-reads t c =
    part_error instance_of _ _ c.from_residual-in_err-held.ensures.1 (by_part c.in_ok-named.ensures.reads (by_need c.in_ok-rest.ensures.takes (by_token c.in-Some.ensures.eats (start (g.rule g.InstanceOf) c.args.tokens.now)))) c.in_err-held.ensures.reads

pub instance-returns-in-Some-clause-reads : goal.instance-returns-in-Some-clause-reads
instance-returns-in-Some-clause-reads t c =
    whole (by_part c.in_ok-held.ensures.reads (by_part c.in_ok-named.ensures.reads (by_need c.in_ok-rest.ensures.takes (by_token c.in-Some.ensures.eats (start (g.rule g.InstanceOf) c.args.tokens.now)))))

pub instance-returns-in_err-named-2-clause-reads : goal.instance-returns-in_err-named-2-clause-reads
instance-returns-in_err-named-2-clause-reads t c =
    part_error instance_of _ _ c.from_residual-in_err-named-2.ensures.1 (by_other c.in_default.ensures.eats (start (g.rule g.InstanceOf) c.args.tokens.now)) c.in_err-named-2.ensures.reads

pub instance-returns-clause-reads : goal.instance-returns-clause-reads
instance-returns-clause-reads t c =
    whole (by_part c.in_ok-named-2.ensures.reads (by_other c.in_default.ensures.eats (start (g.rule g.InstanceOf) c.args.tokens.now)))

pub call-returns-in_err-named-clause-reads : goal.call-returns-in_err-named-clause-reads
call-returns-in_err-named-clause-reads t c =
    token_error call_of _ _ c.from_residual.ensures.1 (start (g.rule g.CallOf) c.args.tokens.now) c.in_err-named.ensures.takes

pub call-returns-in_err-rest-clause-reads : goal.call-returns-in_err-rest-clause-reads
call-returns-in_err-rest-clause-reads t c =
    token_error call_of _ _ c.from_residual-in_err-rest.ensures.1 (by_need c.in_ok-named.ensures.takes (start (g.rule g.CallOf) c.args.tokens.now)) c.in_err-rest.ensures.takes

pub call-returns-in_err-args-clause-reads : goal.call-returns-in_err-args-clause-reads
call-returns-in_err-args-clause-reads t c =
    part_error call_of _ _ c.from_residual-in_err-args.ensures.1 (by_need c.in_ok-rest.ensures.takes (by_need c.in_ok-named.ensures.takes (start (g.rule g.CallOf) c.args.tokens.now))) c.in_err-args.ensures.reads

pub call-returns-clause-reads : goal.call-returns-clause-reads
call-returns-clause-reads t c =
    whole (by_part c.in_ok-args.ensures.reads (by_need c.in_ok-rest.ensures.takes (by_need c.in_ok-named.ensures.takes (start (g.rule g.CallOf) c.args.tokens.now))))

pub arguments-returns-in-Some-clause-reads : goal.arguments-returns-in-Some-clause-reads
arguments-returns-in-Some-clause-reads t c =
    whole_as (by_token c.in-Some.ensures.eats (start (g.rule g.Arguments) c.args.tokens.now)) (ap (map term_of) c.new-none.ensures.items)

pub arguments-returns-in_err-part-clause-reads : goal.arguments-returns-in_err-part-clause-reads
arguments-returns-in_err-part-clause-reads t c =
    part_error arguments_of _ _ c.from_residual.ensures.1 (by_other c.in_default.ensures.eats (start (g.rule g.Arguments) c.args.tokens.now)) c.in_err-part.ensures.reads

pub arguments-loop-after-init : goal.arguments-loop-after-init
arguments-loop-after-init t c = record {
  shorter = c.in_ok-part.ensures.shorter;
  goes = goes_at v.arguments (λ es. g.rule (g.MoreArguments es)) (pushed_first term_of c.new.ensures.items c.in_ok-all.ensures (ap term_of c.into_inner.ensures))
      (tail (by_part c.in_ok-part.ensures.reads (by_other c.in_default.ensures.eats (start (g.rule g.Arguments) c.args.tokens.now))));
}

pub arguments-returns-in_err-part-2-clause-reads : goal.arguments-returns-in_err-part-2-clause-reads
arguments-returns-in_err-part-2-clause-reads t c =
    part_error arguments_of _ _ c.from_residual-in_err-part-2.ensures.1 (by_token c.in-Some-eat_sign.ensures.eats c.loop-after.invariant.goes) c.in_err-part-2.ensures.reads

pub arguments-loop-after-preserved : goal.arguments-loop-after-preserved
arguments-loop-after-preserved t c = record {
  shorter = omega (arith, c.in-Some-eat_sign.ensures.shorter, c.in_ok-part-2.ensures.shorter);
  goes = goes_at v.arguments (λ es. g.rule (g.MoreArguments es)) (pushed_more term_of _ c.in_ok-all-2.ensures (ap term_of c.into_inner-in-Some-eat_sign.ensures))
      (tail (by_part c.in_ok-part-2.ensures.reads (by_token c.in-Some-eat_sign.ensures.eats c.loop-after.invariant.goes)));
}

pub arguments-returns-in_err-after-clause-reads : goal.arguments-returns-in_err-after-clause-reads
arguments-returns-in_err-after-clause-reads t c =
    token_error arguments_of _ _ c.from_residual-in_err-after.ensures.1 (by_other c.in_default-eat_sign.ensures.eats c.loop-after.invariant.goes) c.in_err-after.ensures.takes

pub arguments-returns-clause-reads : goal.arguments-returns-clause-reads
arguments-returns-clause-reads t c = whole (by_need c.in_ok-after.ensures.takes (by_other c.in_default-eat_sign.ensures.eats c.loop-after.invariant.goes))

-- the tokens that are left

pub term-returns-clause-shorter : goal.term-returns-clause-shorter
term-returns-clause-shorter t c = at_most_on _ c.choice.result c.in_ok-part.ensures.shorter c.choice.ensures.shorter

pub choice-returns-clause-shorter : goal.choice-returns-clause-shorter
choice-returns-clause-shorter t c = no_more (less (less (less c.in-Some.ensures.shorter c.in_ok-first.ensures.shorter) c.in_ok-after.ensures.shorter) c.in_ok-second.ensures.shorter)

pub level-returns-clause-shorter : goal.level-returns-clause-shorter
level-returns-clause-shorter t c = c.loop-m.invariant.shorter

pub chain-returns-clause-shorter : goal.chain-returns-clause-shorter
chain-returns-clause-shorter t c = c.loop-operator.invariant.shorter

pub unary-returns-in-Some-clause-shorter : goal.unary-returns-in-Some-clause-shorter
unary-returns-in-Some-clause-shorter t c = less c.in-Some.ensures.shorter c.in_ok-operand.ensures.shorter

pub unary-returns-in-Some-eat_word-clause-shorter : goal.unary-returns-in-Some-eat_word-clause-shorter
unary-returns-in-Some-eat_word-clause-shorter t c = less_on _ c.opening.result c.in-Some-eat_word.ensures.shorter c.opening.ensures.shorter

pub unary-returns-clause-shorter : goal.unary-returns-clause-shorter
unary-returns-clause-shorter t c = at_most_on _ c.fields.result c.in_ok-part.ensures.shorter c.fields.ensures.shorter

pub opening-returns-clause-shorter : goal.opening-returns-clause-shorter
opening-returns-clause-shorter t c = less (less c.in_ok-opened.ensures.shorter c.in_ok-after.ensures.shorter) c.in_ok-inner.ensures.shorter

pub first-returns-in-Some-clause-shorter : goal.first-returns-in-Some-clause-shorter
first-returns-in-Some-clause-shorter t c = at_most_on _ c.name_or_call.result (rw c.in-Some.is at c.in_ok-named.ensures.shorter) c.name_or_call.ensures.shorter

pub first-returns-in-Some-eat_number-clause-shorter : goal.first-returns-in-Some-eat_number-clause-shorter
first-returns-in-Some-eat_number-clause-shorter t c = c.in-Some-eat_number.ensures.shorter

pub first-returns-in-Some-eat_one_of-clause-shorter : goal.first-returns-in-Some-eat_one_of-clause-shorter
first-returns-in-Some-eat_one_of-clause-shorter t c = c.in-Some-eat_one_of.ensures.shorter

pub first-returns-in-Some-eat_word-clause-shorter : goal.first-returns-in-Some-eat_word-clause-shorter
first-returns-in-Some-eat_word-clause-shorter t c = less c.in-Some-eat_word.ensures.shorter c.in_ok-inner.ensures.shorter

pub first-returns-in-Some-eat_word-2-clause-shorter : goal.first-returns-in-Some-eat_word-2-clause-shorter
first-returns-in-Some-eat_word-2-clause-shorter t c = less_on _ c.access.result c.in-Some-eat_word-2.ensures.shorter c.access.ensures.shorter

pub first-returns-clause-shorter : goal.first-returns-clause-shorter
first-returns-clause-shorter t c = c.in_ok-inner-2.ensures.shorter

pub name_or_call-returns-clause-shorter : goal.name_or_call-returns-clause-shorter
name_or_call-returns-clause-shorter t c = no_more (less c.in-Some.ensures.shorter c.in_ok-args.ensures.shorter)

pub access-returns-clause-shorter : goal.access-returns-clause-shorter
access-returns-clause-shorter t c = less (less c.in_ok-rest.ensures.shorter c.in_ok-place.ensures.shorter) c.in_ok-held.ensures.shorter

pub group-returns-clause-shorter : goal.group-returns-clause-shorter
group-returns-clause-shorter t c = less (less c.in_ok-rest.ensures.shorter c.in_ok-inner.ensures.shorter) c.in_ok-after.ensures.shorter

pub amount-returns-in-Some-clause-shorter : goal.amount-returns-in-Some-clause-shorter
amount-returns-in-Some-clause-shorter t c = less (less c.in-Some.ensures.shorter c.in_ok-part.ensures.shorter) c.in_ok-after.ensures.shorter

pub instance-returns-in-Some-clause-shorter : goal.instance-returns-in-Some-clause-shorter
instance-returns-in-Some-clause-shorter t c = less (less (less c.in-Some.ensures.shorter c.in_ok-rest.ensures.shorter) c.in_ok-named.ensures.shorter) c.in_ok-held.ensures.shorter

pub instance-returns-clause-shorter : goal.instance-returns-clause-shorter
instance-returns-clause-shorter t c = c.in_ok-named-2.ensures.shorter

pub call-returns-clause-shorter : goal.call-returns-clause-shorter
call-returns-clause-shorter t c = less (less c.in_ok-named.ensures.shorter c.in_ok-rest.ensures.shorter) c.in_ok-args.ensures.shorter

pub arguments-returns-in-Some-clause-shorter : goal.arguments-returns-in-Some-clause-shorter
arguments-returns-in-Some-clause-shorter t c = c.in-Some.ensures.shorter

pub arguments-returns-clause-shorter : goal.arguments-returns-clause-shorter
arguments-returns-clause-shorter t c = less c.loop-after.invariant.shorter c.in_ok-after.ensures.shorter
