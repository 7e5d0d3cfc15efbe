-- How much is written: bytes and `assert` statements. Each count stops at the greatest u64.
use Rattle.std.specs.Prelude.{◌≡◌, ℕ, ◌+◌, ◌-◌, ◌^◌, ◌++◌, min, List, length}
use Rattle.boogie_grammar.specs.Printed.{Naming, locals_text}
use Rattle.boogie_print.specs.Asserts.{asserts_in}
use Rattle.boogie_print.specs.Pieces.{pieces_text}
use Rattle.enc_expr.specs.Code.{Emitting}
use Rattle.enc_expr.specs.Emits.{temporaries}
use Rattle.enc_units.specs.Rows.{code_pieces, row_lines, row_text, row_asserts}
use Rattle.enc_units.specs.Steps.{RowStep, Bracket}
use Rattle.enc_stream.specs.declared.counts.Written.{Written}

-- so many more of each
abbrev pub counts : Written → ℕ → ℕ → Written
counts old bytes asserts = record { bytes = min (old.bytes + bytes) (2 ^ 64 - 1); asserts = min (old.asserts + asserts) (2 ^ 64 - 1) }

-- the lines of the locals of a step whose first new local has the number n were made; the next local has the number m
pub record Lists (code : RowStep → Emitting Bracket) (x : RowStep) (n m : ℕ) (text : List ℕ) : Type 0 where
  pub text_is : text ≡ locals_text (temporaries n (code x n).locals)
  pub next : m ≡ (code x n).next
  pub many : m ≡ n + length (code x n).locals

-- the text of a step whose first new local has the number n was made and counted; the next local has the number m
pub record Puts (code : RowStep → Emitting Bracket) (names : Naming) (x : RowStep) (n m : ℕ) (old new : Written) (text : List ℕ) : Type 0 where
  pub text_is : text ≡ pieces_text names (code_pieces (code x n))
  pub next : m ≡ (code x n).next
  pub counted : new ≡ counts old (length text) (asserts_in (code x n).stmts)

-- the same behind lines and a text, of which only asserts were counted
pub record Adds (code : RowStep → Emitting Bracket) (names : Naming) (x : RowStep) (n m : ℕ) (before lines front text : List ℕ) (old new : Written) : Type 0 where
  pub lines_are : lines ≡ before ++ locals_text (temporaries n (code x n).locals)
  pub text_is : text ≡ front ++ pieces_text names (code_pieces (code x n))
  pub next : m ≡ (code x n).next
  pub many : m ≡ n + length (code x n).locals
  pub counted : new ≡ counts old 0 (asserts_in (code x n).stmts)

-- Of a row whose first new local has the number n, all but the rest was made behind lines and a text, and its asserts were counted. The
-- next local has the number m.
pub record Holds (code : RowStep → Emitting Bracket) (names : Naming) (row : List RowStep) (n : ℕ) (rest : List RowStep) (m : ℕ) (before lines front text : List ℕ) (old new : Written) : Type 0 where
  pub asserts : ℕ
  pub lines_are : lines ++ row_lines code rest m ≡ before ++ row_lines code row n
  pub text_is : text ++ row_text code names rest m ≡ front ++ row_text code names row n
  pub asserts_are : asserts + row_asserts code rest m ≡ row_asserts code row n
  pub counted : new ≡ counts old 0 asserts

-- so many bytes were sent and counted, and the text of the first steps was made, whose asserts were counted too
pub record Leaves (code : RowStep → Emitting Bracket) (names : Naming) (row : List RowStep) (n : ℕ) (rest : List RowStep) (m : ℕ) (bytes : ℕ) (text : List ℕ) (old new : Written) : Type 0 where
  pub asserts : ℕ
  pub text_is : text ++ row_text code names rest m ≡ row_text code names row n
  pub asserts_are : asserts + row_asserts code rest m ≡ row_asserts code row n
  pub counted : new ≡ counts old bytes asserts
