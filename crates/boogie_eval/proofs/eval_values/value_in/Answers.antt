use Rattle.std.proofs.Common.{sym, ap, ◌∙◌}
use Rattle.sparse.proofs.MeaningLaws.{get-meaning_of, IsMeaning-on}
use Rattle.vb_value.specs.Key.{key_cmp}
use Rattle.boogie_tree.specs.Value.{same_scalar}
use Rattle.boogie_tree.specs.Whole.{scalar_of}
use Rattle.boogie_meaning.specs.Ends.{Is}
use Rattle.boogie_eval.proofs.AnswerLaws.{same_answers}
use Rattle.boogie_eval.proofs.eval_values.value_in.Goals as goal

pub returns : goal.returns
returns c = same_answers (ap Is (get-meaning_of (IsMeaning-on (λ k. k) scalar_of key_cmp same_scalar) c.args.map.now c.args.key.now ∙ ap scalar_of (sym c.get.ensures.value))) c.copied.ensures
