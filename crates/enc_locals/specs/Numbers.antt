-- Locals that follow each other in the order of a unit's fixed locals.
use Rattle.std.specs.Prelude.{ℕ, ◌+◌, [], length, replicate}
use Rattle.std.specs.List.{range_with_len}
use Rattle.vb_value.specs.Layout.{Layout}
use Rattle.enc_expr.specs.Place.{Maps}

-- the present state: heaps and contents, which an opening sets, and then masks and amounts
abbrev pub present_from : Layout → ℕ → Maps
present_from layout n =
    let fields = length layout.fields in let predicates = length layout.keys in
    record {
      heap = range_with_len n fields;
      mask = range_with_len (n + fields + predicates) fields;
      amount = range_with_len (n + fields + predicates + fields) predicates;
      content = range_with_len (n + fields) predicates;
    }

-- the zero maps: one of all masks, and then those of the amounts of each predicate
abbrev pub nothing_from : Layout → ℕ → Maps
nothing_from layout n =
    record { heap = []; mask = replicate (length layout.fields) n; amount = range_with_len (n + 1) (length layout.keys); content = [] }
