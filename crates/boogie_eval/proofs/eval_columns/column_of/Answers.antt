use Rattle.std.proofs.Common.{sym, ap, subst, ◌∙◌, ◌≡◌, Some, slice_get}
use Rattle.std.specs.Map.{keys_of}
use Rattle.boogie_eval.proofs.MapLaws.{keys_mean}
use Rattle.boogie_eval.proofs.ColumnLaws.{values_mean}
use Rattle.boogie_eval.proofs.eval_columns.column_of.Goals as goal

pub returns-clause-keys : goal.returns-clause-keys
returns-clause-keys c = ap keys_of c.in_ok-entries.ensures.entries ∙ sym (keys_mean c.args.map.now)

pub returns-clause-values : goal.returns-clause-values
returns-clause-values c = λ i e h.
    values_mean c.args.map.now c.in_ok-entries.ensures.reduced i e (subst (λ es. slice_get es i ≡ Some e) c.in_ok-entries.ensures.entries h)
