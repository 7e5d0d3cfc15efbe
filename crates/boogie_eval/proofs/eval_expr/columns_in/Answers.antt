use Rattle.std.proofs.Common.{◌≡◌, ap, ◌∙◌, ◌++◌, IfOk, subst}
use Rattle.boogie_tree.specs.Value.{Key}
use Rattle.boogie_tree.specs.Whole.{expr_of}
use Rattle.boogie_meaning.specs.Decided.{is_listed}
use Rattle.boogie_meaning.specs.Marked.{marked}
use Rattle.boogie_eval.specs.Columns.{keys_of_columns, keys_of_maps, numbers_in}
use Rattle.boogie_eval.specs.View.{values_of}
use Rattle.boogie_eval.proofs.ColumnLaws.{in_any_order, marked_by}
use Rattle.boogie_eval.proofs.eval_expr.columns_in.Goals as goal

pub returns-clause-marked : goal.returns-clause-marked
returns-clause-marked c =
    let env = values_of c.args.env.now in
    let e = expr_of c.args.e.now in
    let is_marked : (k : Key) → is_listed (keys_of_maps env c.deref.result.now) k ≡ is_listed (marked e env) k = λ k.
    ap (λ ns. is_listed (keys_of_maps env ns) k) c.deref.ensures.value
    ∙ in_any_order env c.mark.new.numbers.items c.sort.new.self.items k c.in_ok-sort.ensures.permutation
    ∙ ap (λ ns. is_listed (keys_of_maps env ns) k) (c.in_ok-mark.ensures ∙ ap (λ ns. ns ++ numbers_in e) c.new-numbers.ensures.items)
    ∙ ap (λ ks. is_listed ks k) (marked_by env e) in
    subst (λ (listed : Key → _). IfOk c.columns_of.result (λ cs. (k : Key) → is_listed (keys_of_columns cs.items) k ≡ listed k)) (λ i k. is_marked k i) c.columns_of.ensures.keys
