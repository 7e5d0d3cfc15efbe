-- What contracts see of the files of a shelf, and what a call of it may do to that.
use Rattle.std.specs.Prelude.{◌≡◌, ℕ, ◌<◌, ◌≤◌, List, [], ◌++◌, length, take, ⊤, Option, None, Some, Result, MatchResult}
use Rattle.std.specs.Io.KnownBytes.{prepend_known, IsAtEnd}

-- files by name: the bytes under a name, or None where there is no such file
abbrev pub Files : Type 0
Files = List ℕ → Option (List ℕ)

-- the shelf is transparent, and has no file of that name
abbrev pub IsMissing : Option Files → List ℕ → Type 0
IsMissing None name = ⊥
IsMissing (Some files) name = files name ≡ None

-- the shelf is transparent, and these bytes are the file of that name
abbrev pub IsFile : Option Files → List ℕ → List ℕ → Type 0
IsFile None name bytes = ⊥
IsFile (Some files) name bytes = files name ≡ Some bytes

-- where the shelf is transparent, these bytes are the file of that name
abbrev pub IsWhole : Option Files → List ℕ → List ℕ → Type 0
IsWhole None name bytes = ⊤
IsWhole (Some files) name bytes = files name ≡ Some bytes

-- where the shelf is transparent, the file of that name has more than `limit` bytes
abbrev pub IsLonger : Option Files → List ℕ → ℕ → Type 0
IsLonger None name limit = ⊤
IsLonger (Some files) name limit = (bytes : List ℕ) × (files name ≡ Some bytes) × (limit < length bytes)

-- no file is begun, so nothing is left to read
abbrev pub IsClosed : Option (List ℕ) → Type 0
IsClosed left = left ≡ Some []

-- where the shelf is transparent, all of the file of that name is left to read
abbrev pub IsBegun : Option Files → List ℕ → Option (List ℕ) → Type 0
IsBegun None name left = ⊤
IsBegun (Some files) name left = (bytes : List ℕ) × (files name ≡ Some bytes) × (left ≡ Some bytes)

-- the bytes were the next ones of what was left, where that is known
abbrev pub Takes : Option (List ℕ) → Option (List ℕ) → List ℕ → Type 0
Takes before now bytes = before ≡ prepend_known bytes now

-- so many bytes were taken
abbrev pub TakesLen : Option (List ℕ) → Option (List ℕ) → ℕ → Type 0
TakesLen before now n = (bytes : List ℕ) × (length bytes ≡ n) × Takes before now bytes

-- so many bytes at most
abbrev pub TakesAtMost : Option (List ℕ) → Option (List ℕ) → ℕ → Type 0
TakesAtMost before now most = (bytes : List ℕ) × (length bytes ≤ most) × Takes before now bytes

-- n bytes were taken, and appended to `front`
abbrev pub GrowsBy : Option (List ℕ) → Option (List ℕ) → List ℕ → List ℕ → ℕ → Type 0
GrowsBy before now front whole n = (bytes : List ℕ) × (length bytes ≡ n) × Takes before now bytes × (whole ≡ front ++ bytes)

-- what a read does to what is left: at `Ok(n)` the first n bytes of the buffer were the next ones, and n is 0
-- only at the end or where the buffer has no room; at `Err` some bytes may have been taken, as many as the buffer has room for
abbrev pub Reads : {E : Type 0} → Option (List ℕ) → Option (List ℕ) → Result ℕ E → List ℕ → Type 0
Reads before now result buf = MatchResult result (λ n. Takes before now (take n buf) × (n ≡ 0 → 0 < length buf → IsAtEnd now)) (λ _. TakesAtMost before now (length buf))

-- where the shelf is transparent, at most so many first bytes of the file of that name were taken
abbrev pub TakesOfFile : Option Files → List ℕ → Option (List ℕ) → ℕ → Type 0
TakesOfFile None name left most = ⊤
TakesOfFile (Some files) name left most = (bytes : List ℕ) × (files name ≡ Some bytes) × TakesAtMost (Some bytes) left most
