-- Laws of a count of faults over several calls.
use Rattle.std.proofs.Common.{ℕ, ◌≤◌, arith}
use Rattle.vb_outer.specs.Faults.{Rose}

-- a count that rose has risen later as well
pub rose_later : (before now later : ℕ) → Rose before now → now ≤ later → Rose before later
rose_later before now later rose after = omega (arith, rose, after)

-- a count that rose since some moment rose since each earlier one
pub rose_earlier : (earlier before now : ℕ) → earlier ≤ before → Rose before now → Rose earlier now
rose_earlier earlier before now first rose = omega (arith, rose, first)
