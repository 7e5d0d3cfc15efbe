use Rattle.vb_value.specs.Bound.{Bounded}
use Rattle.boogie_tree.specs.Whole.{scalar_of}
use Rattle.boogie_meaning.specs.Operators.{plain}
use Rattle.boogie_eval.proofs.AnswerLaws.{answer_is, goes_then}
use Rattle.boogie_eval.proofs.eval_operators.plain_with.Goals as goal

pub returns : goal.returns
returns c e h = goes_then (λ w. plain Bounded c.args.op (scalar_of c.args.left.now) w) (answer_is c.in_ok-right.was h) c.plain.ensures
