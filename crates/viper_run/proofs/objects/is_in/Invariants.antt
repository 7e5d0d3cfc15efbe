-- The places that are left tell as much as all.
use Rattle.std.proofs.Common.{◌≡◌, drop}
use Rattle.std.specs.List.{list_any}
use Rattle.std.specs.Ordering.{nat_cmp}
use Rattle.sparse.specs.Map.{get, keys}
use Rattle.vb_value.specs.Value.{value_eq}
use Rattle.vb_value.specs.declared.values.Value.TheVariants as v
use Rattle.viper_run.proofs.objects.is_in.Given as goal

abbrev pub invariant-loop-i : goal.invariant-loop-i
invariant-loop-i l =
    list_any (λ k. value_eq (get nat_cmp l.heap k) (v.Ref l.reference)) (drop l.i (keys l.mask)) ≡ list_any (λ k. value_eq (get nat_cmp l.heap k) (v.Ref l.reference)) (keys l.mask)
