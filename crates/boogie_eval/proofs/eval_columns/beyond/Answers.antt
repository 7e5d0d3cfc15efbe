use Rattle.std.proofs.Common.{sym, ◌+◌, drop}
use Rattle.sparse.specs.Map.{borrowed}
use Rattle.vb_value.proofs.KeyLaws.{same_from_key_cmp}
use Rattle.boogie_eval.proofs.BorrowedLaws.{next_borrowed}
use Rattle.boogie_eval.proofs.ColumnLaws.{passed_key}
use Rattle.boogie_eval.proofs.eval_columns.beyond.Goals as goal

pub returns-in-Equal-clause-same : goal.returns-in-Equal-clause-same
returns-in-Equal-clause-same c = λ k.
    let x = c.index-keys-at in
    let all = borrowed c.args.keys.now in
    passed_key k c.args.key.now x.result.now (drop c.args.at all) (drop (c.args.at + 1) all) (same_from_key_cmp x.result.now c.args.key.now (sym c.in-Equal.ensures))
    (next_borrowed c.args.keys.now c.args.at x.result c.if-at-keys.false x.is)
