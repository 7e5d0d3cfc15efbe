use Rattle.boogie_tree.specs.Whole.{scalar_of}
use Rattle.boogie_meaning.specs.Ends.{then_with}
use Rattle.boogie_meaning.specs.Operators.{snap_of}
use Rattle.boogie_eval.specs.Unary.{pair_in}
use Rattle.boogie_eval.proofs.AnswerLaws.{goes_then}
use Rattle.boogie_eval.proofs.eval_unary.pair_of.Goals as goal

pub returns : goal.returns
returns c = goes_then (λ a. then_with (snap_of (scalar_of c.args.right)) (λ d. pair_in a d)) c.in_ok-snap.ensures c.pair_with.ensures
