-- The longest prefix of a text whose bytes are of one kind, and what is behind it.
use Rattle.std.specs.Prelude.{ℕ, Bool, List, take, drop}
use Rattle.std.specs.List.{prefix_len}

abbrev pub front : (ℕ → Bool) → List ℕ → List ℕ
front p bytes = take (prefix_len p bytes) bytes

abbrev pub behind : (ℕ → Bool) → List ℕ → List ℕ
behind p bytes = drop (prefix_len p bytes) bytes
