use Rattle.std.proofs.Common.{sym, ◌∙◌, length}
use Rattle.std.proofs.Math.Nat.{le_of_eq}
use Rattle.sparse.specs.Map.{borrowed}
use Rattle.boogie_eval.proofs.KeyLaws.{left_out}
use Rattle.boogie_eval.proofs.ColumnLaws.{bools_are_keys, others_are_keys}
use Rattle.boogie_eval.proofs.BorrowedLaws.{borrowed_length}
use Rattle.boogie_eval.proofs.eval_keys.has_other.Goals as goal

pub returns-then-not-are_bools : goal.returns-then-not-are_bools
returns-then-not-are_bools c = c.are_keys.ensures ∙ sym (others_are_keys c.args.bases.now _ (sym c.are_bools.ensures ∙ c.if-not-are_bools.true))

pub returns-then-outnumbers : goal.returns-then-outnumbers
returns-then-outnumbers c =
    sym
    (left_out c.args.bases.now (borrowed c.args.list.now) (length c.args.list.now) (le_of_eq (borrowed_length c.args.list.now)) (sym c.outnumbers.ensures ∙ c.if-outnumbers.true)
    ∙ bools_are_keys c.args.bases.now (sym c.are_bools.ensures ∙ c.if-not-are_bools.false))
