use Rattle.std.proofs.Common.{ap, ◌∙◌, ◌||◌, subst}
use Rattle.boogie_meaning.specs.Decided.{is_listed}
use Rattle.boogie_meaning.specs.Marked.{keys_in}
use Rattle.boogie_meaning.specs.Value.{the_map}
use Rattle.boogie_eval.specs.Columns.{HasColumn, IsColumn, keys_of_columns}
use Rattle.boogie_eval.specs.View.{map_of, values_of}
use Rattle.boogie_eval.proofs.AnswerLaws.{the_value}
use Rattle.boogie_eval.proofs.ColumnLaws.{is_column, nothing_new, one_column, one_more_column}
use Rattle.boogie_eval.proofs.eval_columns.add_column.Goals as goal

pub returns-then-is_last-clause-added : goal.returns-then-is_last-clause-added
returns-then-is_last-clause-added c = λ k.
    nothing_new (values_of c.args.env.now) c.args.columns.now.items c.args.number k c.requires (subst (λ cs. HasColumn cs c.args.number) c.deref.ensures.value (c.is_last.ensures c.if-is_last.true))

new_column : (c : goal.In_ok-push-in-Ok) → IsColumn (values_of c.args.env.now) c.in_ok-column_of-in-Ok.field-0
new_column c =
    let column = c.in_ok-column_of-in-Ok in
    is_column (values_of c.args.env.now) column.field-0 c.args.number (map_of c.in-Ok.map.now) column.ensures.number (the_value c.in-Ok.ensures) column.ensures.keys column.ensures.values

pub returns-in_ok-push-in-Ok-clause-stays : goal.returns-in_ok-push-in-Ok-clause-stays
returns-in_ok-push-in-Ok-clause-stays c =
    one_more_column (values_of c.args.env.now) c.args.columns.now.items c.push.new.self.items c.in_ok-column_of-in-Ok.field-0 c.in_ok-push-in-Ok.ensures.items c.requires (new_column c)

pub returns-in_ok-push-in-Ok-clause-added : goal.returns-in_ok-push-in-Ok-clause-added
returns-in_ok-push-in-Ok-clause-added c = λ k.
    let env = values_of c.args.env.now in
    let old = c.args.columns.now.items in
    let column = c.in_ok-column_of-in-Ok in
    ap (λ cs. is_listed (keys_of_columns cs) k) c.in_ok-push-in-Ok.ensures.items ∙ one_column old column.field-0 k
    ∙ ap (λ ks. is_listed ks k || is_listed (keys_of_columns old) k) ((new_column c).keys ∙ ap (λ n. keys_in (the_map env n)) column.ensures.number)
