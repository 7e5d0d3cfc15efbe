use Rattle.std.proofs.Common.{◌∙◌, sym, rules, arith}
use Rattle.std.proofs.lemmas.Bool.{true≢false}
use Rattle.run_from_file.proofs.FrontLaws.{all_built, some_behind}
use Rattle.run_from_file.proofs.runs.whole_end.Goals as goal

pub returns-then-more-eq0 : goal.returns-then-more-eq0
returns-then-more-eq0 c = λ r many choices ends count. all_built r many choices c.args.end (omega (arith, c.if-more-eq0.true, count)) ends

pub returns-in-Some : goal.returns-in-Some
returns-in-Some c = λ r many choices ends count.
    some_behind r many c.args.more choices c.args.end c.in-Some.unused (search rules) count (λ short. absurd (true≢false (sym (c.is_short.ensures.1 short) ∙ c.if-is_short.false))) ends
