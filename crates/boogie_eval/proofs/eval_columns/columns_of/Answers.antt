use Rattle.boogie_meaning.specs.Decided.{is_listed}
use Rattle.boogie_eval.specs.Columns.{keys_of_columns}
use Rattle.boogie_eval.specs.View.{values_of}
use Rattle.boogie_eval.proofs.ColumnLaws.{one_more_number}
use Rattle.boogie_eval.proofs.eval_columns.columns_of.Goals as goal

pub loop-number-preserved : goal.loop-number-preserved
loop-number-preserved c = record {
  columns = c.in_ok-add_column.ensures.stays;
  so_far = λ k.
      one_more_number (values_of c.args.env.now) c.args.numbers.now c.loop-number.number-index k (is_listed (keys_of_columns c.loop-number.columns.items) k) _ _ c.loop-number-test.true
      (c.loop-number.invariant.so_far k) (c.in_ok-add_column.ensures.added k);
}
