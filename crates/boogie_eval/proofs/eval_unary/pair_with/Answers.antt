use Rattle.vb_value.specs.View.{content_of}
use Rattle.boogie_eval.specs.Unary.{pair_in}
use Rattle.boogie_eval.proofs.AnswerLaws.{goes_then}
use Rattle.boogie_eval.proofs.eval_unary.pair_with.Goals as goal

pub returns : goal.returns
returns c = goes_then (λ d. pair_in (content_of c.args.left) d) c.in_ok-snap.ensures c.pair.ensures
