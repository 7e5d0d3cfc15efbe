use Rattle.std.proofs.Common.{ap, ◌∙◌, ◌+◌, ◌||◌, drop}
use Rattle.sparse.specs.Map.{borrowed, keys}
use Rattle.boogie_meaning.specs.Decided.{is_listed, same_key}
use Rattle.boogie_eval.proofs.BorrowedLaws.{next_borrowed}
use Rattle.boogie_eval.proofs.ColumnLaws.{one_more_list}
use Rattle.boogie_eval.proofs.eval_sets.set_of.Goals as goal

pub loop-key-preserved : goal.loop-key-preserved
loop-key-preserved c =
    let all = c.args.list.now in
    let i = c.loop-key.key-index in
    record {
      is_set = c.in_ok-add.ensures.stays;
      so_far = λ k.
          one_more_list (is_listed (keys c.loop-key.set) k) (same_key k c.key-item.result.now) (is_listed (drop (i + 1) (borrowed all)) k) (is_listed (borrowed all) k) _
          (c.loop-key.invariant.so_far k ∙ ap (λ xs. is_listed (keys c.loop-key.set) k || is_listed xs k) (next_borrowed all i c.key-item.result c.loop-key-test.true c.key-item.is)) (c.in_ok-add.ensures.added k);
    }
