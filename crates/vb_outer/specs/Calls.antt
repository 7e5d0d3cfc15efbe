-- The calls of a device in memory, which fails those whose numbers it was given.
use Rattle.std.specs.Prelude.{ℕ, ◌+◌, Bool, List, ◌==◌}
use Rattle.std.specs.List.{list_any}
use Rattle.vb_outer.specs.Faults.{one_more}

pub record Calls : Type 0 where
  -- the numbers of the calls that fail, from 1 on
  pub failing : List ℕ
  -- how many calls were made; the count stops at the greatest u64, past which no number is given
  pub made : ℕ
  pub faults : ℕ

-- the next call is one of those that fail
abbrev pub fails_next : Calls → Bool
fails_next calls = list_any (λ number. number == calls.made + 1) calls.failing

-- after one call more
abbrev pub called : Calls → Calls
called calls = record calls { made = one_more calls.made }

-- after one call more, which the device failed
abbrev pub call_failed : Calls → Calls
call_failed calls = record calls { made = one_more calls.made; faults = one_more calls.faults }
