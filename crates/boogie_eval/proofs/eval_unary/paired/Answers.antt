use Rattle.vb_value.specs.Bound.{Bounded}
use Rattle.boogie_tree.specs.Whole.{scalar_of}
use Rattle.boogie_meaning.specs.Operators.{pair_of}
use Rattle.boogie_eval.proofs.AnswerLaws.{answer_is, goes_then}
use Rattle.boogie_eval.proofs.eval_unary.paired.Goals as goal

pub returns : goal.returns
returns c e h = goes_then (λ w. pair_of Bounded (scalar_of c.args.left) w) (answer_is c.in_ok-right.was h) c.pair_of.ensures
