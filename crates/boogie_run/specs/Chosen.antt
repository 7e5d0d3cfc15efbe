-- What a choice gives, by the kind of the choice.
use Rattle.std.specs.Prelude.{List, Option, Some, None, if◌then◌else◌}
use Rattle.sparse.specs.Map.{empty}
use Rattle.boogie_tree.specs.Value.{BScalar, BValue, One, Many, Entry}
use Rattle.boogie_tree.specs.declared.exprs.BBase.{BBase}
use Rattle.boogie_meaning.specs.Run.{fits_entries, filled}
use Rattle.boogie_tree.specs.Values.{same_base, base_of_scalar, default_of}

abbrev pub chosen_entries : List BBase → BBase → List Entry → Option BValue
chosen_entries us u es = if fits_entries us u es then Some (Many (filled (empty (default_of u)) es)) else None

abbrev pub chosen_scalar : BBase → BScalar → Option BValue
chosen_scalar u v = if same_base (base_of_scalar v) u then Some (One v) else None
