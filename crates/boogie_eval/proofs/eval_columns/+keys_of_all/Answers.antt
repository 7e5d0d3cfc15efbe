use Rattle.std.proofs.Common.{◌≡◌, ap, ◌∙◌, ◌/◌, ◌||◌, IfOk, length, subst}
use Rattle.sparse.specs.Map.{borrowed}
use Rattle.boogie_tree.specs.Value.{Key}
use Rattle.boogie_meaning.specs.Decided.{is_listed}
use Rattle.boogie_eval.specs.Columns.{keys_of_columns}
use Rattle.boogie_eval.proofs.ColumnLaws.{columns_halved}
use Rattle.boogie_eval.proofs.eval_columns.+keys_of_all.Goals as goal

pub returns-in_ok-back-in_default : goal.returns-in_ok-back-in_default
returns-in_ok-back-in_default t c =
    let all = c.args.columns.now in
    let front : (k : Key) → is_listed (borrowed c.deref.result.now) k ≡ is_listed (keys_of_columns c.split_at.result.0.now) k = λ k. ap (λ xs. is_listed (borrowed xs) k) c.deref.ensures.value ∙ c.in_ok-front-in_default.ensures k in
    let back : (k : Key) → is_listed (borrowed c.deref-in_default.result.now) k ≡ is_listed (keys_of_columns c.split_at.result.1.now) k = λ k. ap (λ xs. is_listed (borrowed xs) k) c.deref-in_default.ensures.value ∙ c.in_ok-back-in_default.ensures k in
    subst (λ (listed : Key → _). IfOk c.merged.result (λ list. (k : Key) → is_listed (borrowed list.items) k ≡ listed k))
    (λ i k. ((λ j. front k j || back k j) ∙ (λ j. is_listed (keys_of_columns (c.split_at.ensures.front j)) k || is_listed (keys_of_columns (c.split_at.ensures.back j)) k) ∙ columns_halved all (length all / 2) k) i)
    c.merged.ensures
