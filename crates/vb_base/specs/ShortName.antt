-- How long a short name is.
use Rattle.std.specs.Prelude.{ℕ}

-- the most bytes of a name that takes no memory of its own
abbrev pub max_short_name : ℕ
max_short_name = 14
