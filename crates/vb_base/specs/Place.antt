-- Places in a text, and the place of a refusal.
use Rattle.std.specs.Prelude.{◌≡◌, ℕ, ◌+◌, ◌<◌, ◌≤◌, ◌==◌, ◌⊎◌, not, List, ◌++◌, length, take, count_by}
use Rattle.std.specs.List.{suffix_len}
use Rattle.vb_base.specs.declared.places.Pos.{Pos}

-- the line after these bytes: one more than the number of bytes 10
abbrev pub line_after : List ℕ → ℕ
line_after bs = count_by (λ b. b == 10) bs + 1

-- the column after these bytes: one more than the number of bytes after the last byte 10
abbrev pub col_after : List ℕ → ℕ
col_after bs = suffix_len (λ b. not (b == 10)) bs + 1

-- the place after these bytes
pub record IsPlaceAfter (before : List ℕ) (at : Pos) : Type 0 where
  pub line : at.line ≡ line_after before
  pub col : at.col ≡ col_after before

-- one place stands before another in the text
abbrev pub IsBefore : Pos → Pos → Type 0
IsBefore p q = (p.line < q.line) ⊎ ((p.line ≡ q.line) × (p.col < q.col))

-- The place of a refusal, for any kind of token and for whatever lists of them count as texts.

-- some text begins with these tokens
abbrev pub Begins : {T : Type 0} → (List T → Type 0) → List T → Type 0
Begins P ts = (us : List _) × P (ts ++ us)

-- Of these tokens the first i begin a text, and with one more they begin none. Where i is the number of the tokens,
-- all of them begin one.
pub record IsPlace {T : Type 0} (P : List T → Type 0) (ts : List T) (i : ℕ) : Type 0 where
  pub within : i ≤ length ts
  pub before : Begins P (take i ts)
  pub after : i < length ts → Begins P (take (i + 1) ts) → ⊥
