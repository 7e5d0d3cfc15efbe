use Rattle.std.proofs.Common.{ap, ◌∙◌, ◌+◌, ◌++◌, ◌||◌, drop}
use Rattle.std.proofs.lemmas.List.{take_rest}
use Rattle.sparse.specs.Map.{borrowed}
use Rattle.boogie_meaning.specs.Decided.{is_listed}
use Rattle.boogie_eval.proofs.BorrowedLaws.{next_borrowed, none_left, pushed, joined}
use Rattle.boogie_eval.proofs.ColumnLaws.{merged_more, all_merged}
use Rattle.boogie_eval.proofs.eval_columns.merged.Goals as goal

pub loop-key-preserved : goal.loop-key-preserved
loop-key-preserved c =
    let left = borrowed c.args.left.now in
    let right = borrowed c.args.right.now in
    let i = c.loop-key.key-index in
    let copied = c.copy_below.new.list.items in
    let behind = drop c.beyond-next.result left in
    record {
      inside = c.beyond-next.ensures.inside;
      so_far = λ k.
          ap (λ ks. is_listed (ks ++ behind) k || is_listed (drop (i + 1) right) k) (pushed copied c.push.new.self.items c.key-item.result c.in_ok-push.ensures.items)
          ∙ merged_more k c.key-item.result.now (borrowed c.loop-key.list.items) (drop c.loop-key.next left) (borrowed copied) (drop c.in_ok-end.end left) behind (drop i right) (drop (i + 1) right) _
          c.in_ok-end.ensures.copied (c.beyond-next.ensures.same k) (next_borrowed c.args.right.now i c.key-item.result c.loop-key-test.true c.key-item.is) (c.loop-key.invariant.so_far k);
    }

pub returns : goal.returns
returns c = λ k.
    let left = c.args.left.now in
    let i = c.loop-key.key-index in
    ap (λ ks. is_listed ks k) (joined c.loop-key.list.items c.extend_from_slice.new.self.items left c.loop-key.next (c.in_ok-extend_from_slice.ensures.items ∙ ap (λ xs. c.loop-key.list.items ++ xs) (take_rest left c.loop-key.next)))
    ∙ all_merged k (borrowed c.loop-key.list.items ++ drop c.loop-key.next (borrowed left)) (drop i (borrowed c.args.right.now)) _
    (none_left c.args.right.now i c.loop-key-test.false c.loop-key.auto.key-index-end) (c.loop-key.invariant.so_far k)
