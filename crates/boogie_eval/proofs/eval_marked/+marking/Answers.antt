use Rattle.std.proofs.Common.{sym, subst, OnOk, ◌≡◌, ◌++◌}
use Rattle.boogie_eval.specs.Columns.{numbers_in}
use Rattle.boogie_meaning.proofs.NodeLaws.{at_is}
use Rattle.boogie_eval.proofs.eval_marked.+marking.Goals as goal

pub mark-returns-in-At : goal.mark-returns-in-At
mark-returns-in-At t c =
    subst (λ e. OnOk c.mark_all.result (c.mark_all.new.numbers.items ≡ c.args.numbers.now.items ++ numbers_in e))
    (sym (at_is c.in-At.es c.in-At.is c.deref-in-At.ensures.value)) c.mark_all.ensures
