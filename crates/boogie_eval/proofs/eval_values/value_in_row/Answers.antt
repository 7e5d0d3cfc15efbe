use Rattle.std.proofs.Common.{refl}
use Rattle.std.proofs.lemmas.Option.{IfSome_then, slice_get_read}
use Rattle.boogie_eval.proofs.eval_values.value_in_row.Goals as goal

pub returns-then-column-number : goal.returns-then-column-number
returns-then-column-number c =
    let item = c.in_ok-column.ensures.lookup in
    let columns = c.args.row.columns.now in
    let column = c.in_ok-column.column.now in
    let at = c.partition_point-at.result in
    IfSome_then c.value_here.result c.value_here.ensures
    (λ x there. (at, c.in_ok-next.next.now, column, slice_get_read columns _ at column refl item.3.0 item.1, c.if-column-number.true, there))
