-- How a key compares to the last of a list.
use Rattle.std.specs.Prelude.{List, [], ◌∷◌}
use Rattle.std.specs.declared.cmp.Ordering.{Ordering}
use Rattle.std.specs.declared.cmp.Ordering.TheVariants.{Greater}

-- a key is above an empty list
abbrev pub order_above : {K : Type 0} → (K → K → Ordering) → List K → K → Ordering
order_above cmp [] k = Greater
order_above cmp (x ∷ []) k = cmp k x
order_above cmp (x ∷ y ∷ ys) k = order_above cmp (y ∷ ys) k
