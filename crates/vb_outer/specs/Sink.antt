-- What a sink tells of the bytes that were written to it, and what a call may do to them.
use Rattle.std.specs.Prelude.{◌≡◌, ℕ, ◌<◌, ◌≤◌, List, ◌++◌, length, take, Option, Result, MatchResult}
use Rattle.std.specs.Io.KnownBytes.{append_known}

-- where the sink tells, it holds what it held and then the bytes; it tells exactly where it told before
abbrev pub Appends : Option (List ℕ) → Option (List ℕ) → List ℕ → Type 0
Appends before now bytes = now ≡ append_known before bytes

-- the same of a prefix of a text, which may be nothing or all of it
abbrev pub AppendsPrefix : Option (List ℕ) → Option (List ℕ) → List ℕ → Type 0
AppendsPrefix before now text = (front rest : List ℕ) × (text ≡ front ++ rest) × Appends before now front

-- n bytes of a piece: one at least, unless it is empty, and at most all
pub record TakesSome (n : ℕ) (piece : List ℕ) : Type 0 where
  pub within : n ≤ length piece
  pub some : 0 < length piece → 0 < n

-- what a write does: at `Ok(n)` the first n bytes were appended, and at `Err` nothing was
abbrev pub Writes : {E : Type 0} → Option (List ℕ) → Option (List ℕ) → Result ℕ E → List ℕ → Type 0
Writes before now result piece = MatchResult result (λ n. TakesSome n piece × Appends before now (take n piece)) (λ _. now ≡ before)
