use Rattle.boogie_eval.specs.Unary.{unary_of}
use Rattle.boogie_eval.proofs.AnswerLaws.{answer_is, goes_then}
use Rattle.boogie_eval.proofs.eval_unary.applied.Goals as goal

pub returns : goal.returns
returns c e h = goes_then (unary_of c.args.op) (answer_is c.in_ok-value.was h) c.value_of.ensures
