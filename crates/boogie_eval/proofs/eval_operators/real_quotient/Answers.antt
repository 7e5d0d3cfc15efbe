use Rattle.std.proofs.Common.{sym, ap, ◌∙◌, if◌then◌else◌}
use Rattle.vb_value.specs.Bound.{Bounded}
use Rattle.vb_value.specs.Fraction.{none, quotient, fits_quotient}
use Rattle.boogie_tree.specs.Value.{Real}
use Rattle.boogie_meaning.specs.Ends.{Is, fitting}
use Rattle.boogie_eval.specs.Answers.{is}
use Rattle.boogie_eval.proofs.eval_operators.real_quotient.Goals as goal

pub returns-then-is_none : goal.returns-then-is_none
returns-then-is_none c =
    let p = c.args.p in
    let q = c.args.q in
    is (ap (λ t. if t then Is (Real none) else fitting Bounded (fits_quotient p q) (Real (quotient p q))) (sym c.is_none.ensures ∙ c.if-is_none.true) ∙ ap (λ n. Is (Real n)) (sym c.none.ensures))
