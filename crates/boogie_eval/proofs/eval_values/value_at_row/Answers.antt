use Rattle.boogie_eval.specs.View.{values_of}
use Rattle.boogie_eval.proofs.AnswerLaws.{same_answers}
use Rattle.boogie_eval.proofs.ColumnLaws.{stands_is}
use Rattle.boogie_eval.proofs.eval_values.value_at_row.Goals as goal

pub returns-in-Some : goal.returns-in-Some
returns-in-Some c =
    same_answers (stands_is (values_of c.args.env.now) c.args.row.columns.now c.args.number c.args.row.key.now c.in-Some.value.now c.requires c.in-Some.ensures) c.copied.ensures
