-- What is said of the keys and values of a map, and not of its default.
use Rattle.std.specs.Prelude.{All}
use Rattle.sparse.specs.Map.{Map, keys, values}

pub record AreNamed {K V : Type 0} (P : K → Type 0) (Q : V → Type 0) (m : Map K V) : Type 0 where
  pub keys : All P (keys m)
  pub values : All Q (values m)
