use Rattle.std.proofs.Common.{◌≡◌, refl, subst, ◌+◌, [], ◌∷◌, drop}
use Rattle.std.specs.Map.{keys_of}
use Rattle.sparse.specs.Map.{borrowed}
use Rattle.boogie_eval.specs.Columns.{entries_in}
use Rattle.boogie_eval.proofs.BorrowedLaws.{next_borrowed, none_left}
use Rattle.boogie_eval.proofs.ColumnLaws.{one_more_key, no_more_keys}
use Rattle.boogie_eval.proofs.eval_columns.keys_of_column.Goals as goal

pub loop-entry-preserved : goal.loop-entry-preserved
loop-entry-preserved c =
    let i = c.loop-entry.entry-index in
    let x = c.entry-item.result in
    let all = entries_in c.args.column.now in
    let first = subst (λ xs. drop i (borrowed xs) ≡ x.now ∷ drop (i + 1) (borrowed xs)) c.deref-entry-items.ensures.value (next_borrowed c.deref-entry-items.result.now i x c.loop-entry-test.true c.entry-item.is) in
    record { so_far = one_more_key all i x.now c.loop-entry.list.items c.push.new.self.items _ (keys_of all) first c.in_ok-push.ensures.items refl c.loop-entry.invariant.so_far }

pub returns : goal.returns
returns c =
    let i = c.loop-entry.entry-index in
    let all = entries_in c.args.column.now in
    let none = subst (λ xs. drop i (borrowed xs) ≡ []) c.deref-entry-items.ensures.value (none_left c.deref-entry-items.result.now i c.loop-entry-test.false c.loop-entry.auto.entry-index-end) in
    no_more_keys (drop i all) c.loop-entry.list.items (keys_of all) none c.loop-entry.invariant.so_far
