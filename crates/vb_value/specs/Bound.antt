-- The bound of a run: every number has magnitude at most MAX, which is 2 ^ 127 - 1.
use Rattle.std.specs.Prelude.{⊤, ◌^◌, ◌<◌, ℤ, Bool, true, false, nat_lt, unsigned_abs, Result, Ok, Err}
use Rattle.vb_value.specs.declared.numbers.Over.{Over}

-- With no bound a number may be of any size, and a content too. Within the bound a number has magnitude at most MAX, and a
-- content at most `max_content_nodes` nodes; what leaves it is Over.
pub data Bound : Type 0 where
  Unbounded : Bound
  Bounded : Bound

-- what has to hold where there is a bound
abbrev pub IfBounded : Bound → Type 0 → Type 0
IfBounded Unbounded P = ⊤
IfBounded Bounded P = P

-- the magnitude of a whole number is at most MAX
abbrev pub IsWithin : ℤ → Type 0
IsWithin z = unsigned_abs z < 2 ^ 127

-- the same as a test
abbrev pub is_within : ℤ → Bool
is_within z = nat_lt (unsigned_abs z) (2 ^ 127)

abbrev pub over : Over
over = record {}

-- the answer of an operation: its value where its numbers fit, and else Over
abbrev pub value_if : {T : Type 0} → Bool → T → Result T Over
value_if true x = Ok x
value_if false x = Err over
