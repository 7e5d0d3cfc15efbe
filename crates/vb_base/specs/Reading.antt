-- What the reader of labels finds at the beginning of its bytes, and what it leaves.
use Rattle.std.specs.Prelude.{◌≡◌, ◌∷◌, ◌++◌, ◌^◌, ◌<◌, ◌≤◌, ℕ, List}
use Rattle.std.specs.Char.{is_ascii_digit}
use Rattle.std.specs.Fmt.{decimal}
use Rattle.std.specs.List.{prefix_len}
use Rattle.vb_base.specs.declared.places.Pos.{Pos}

-- how many digits stand at the beginning
abbrev pub digit_count : List ℕ → ℕ
digit_count bytes = prefix_len is_ascii_digit bytes

-- the decimal text, without leading zeros, of a number from 1 to 2^32 - 1
pub record IsNumber (text : List ℕ) (n : ℕ) : Type 0 where
  pub from_one : 1 ≤ n
  pub in_reach : n < 2 ^ 32
  pub digits : text ≡ decimal n

-- such a number, and then these, which begin with no digit
pub record StartsWithNumber (bytes : List ℕ) (n : ℕ) (rest : List ℕ) : Type 0 where
  pub from_one : 1 ≤ n
  pub in_reach : n < 2 ^ 32
  pub text : bytes ≡ decimal n ++ rest
  pub ends : digit_count rest ≡ 0

-- `line:col`, and then these
pub record StartsWithPlace (bytes : List ℕ) (p : Pos) (rest : List ℕ) : Type 0 where
  pub after_line : List ℕ
  pub line : StartsWithNumber bytes p.line (58 ∷ after_line)
  pub col : StartsWithNumber after_line p.col rest

abbrev pub StartsWithByte : ℕ → List ℕ → Type 0
StartsWithByte byte bytes = (rest : List ℕ) × (bytes ≡ byte ∷ rest)
