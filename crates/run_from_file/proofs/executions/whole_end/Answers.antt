use Rattle.std.proofs.Common.{◌∙◌, sym, rules, arith}
use Rattle.std.proofs.lemmas.Bool.{true≢false}
use Rattle.run_from_file.proofs.FrontLaws.{all_built_so, some_behind_so}
use Rattle.run_from_file.proofs.executions.whole_end.Goals as goal

pub returns-then-more-eq0 : goal.returns-then-more-eq0
returns-then-more-eq0 c = λ r many choices ends count. all_built_so r many choices c.args.ended (omega (arith, c.if-more-eq0.true, count)) ends

pub returns-in-Some : goal.returns-in-Some
returns-in-Some c = λ r many choices ends count.
    some_behind_so r many c.args.more choices c.args.ended c.in-Some.unused (search rules) count (λ short. absurd (true≢false (sym (c.is_short.ensures.1 short) ∙ c.if-is_short.false))) ends
