-- What a row of steps writes, where it is put together of two.
use Rattle.std.proofs.Common.{◌≡◌, ◌∙◌, ◌++◌, ℕ, List, [], ◌∷◌, refl, ap, sym, append_assoc}
use Rattle.boogie_print.specs.Pieces.{Piece}
use Rattle.boogie_tree.specs.Program.{BType}
use Rattle.enc_expr.specs.Code.{Emitting}
use Rattle.enc_units.specs.Rows.{code_pieces, row_next, row_types, row_pieces}
use Rattle.enc_units.specs.Steps.{RowStep, Bracket}

module _ (code : RowStep → Emitting Bracket) where
  pub next-append : (xs ys : List RowStep) (n : ℕ) → row_next code (xs ++ ys) n ≡ row_next code ys (row_next code xs n)
  next-append [] ys n = refl
  next-append (x ∷ xs) ys n = next-append xs ys (code x n).next

  pub types-append : (xs ys : List RowStep) (n : ℕ) → row_types code (xs ++ ys) n ≡ row_types code xs n ++ row_types code ys (row_next code xs n)
  types-append [] ys n = refl
  types-append (x ∷ xs) ys n =
      ap (λ (more : List BType). (code x n).locals ++ more) (types-append xs ys (code x n).next)
      ∙ sym (append_assoc (code x n).locals (row_types code xs (code x n).next) (row_types code ys (row_next code xs (code x n).next)))

  pub pieces-append : (xs ys : List RowStep) (n : ℕ) → row_pieces code (xs ++ ys) n ≡ row_pieces code xs n ++ row_pieces code ys (row_next code xs n)
  pieces-append [] ys n = refl
  pieces-append (x ∷ xs) ys n =
      ap (λ (more : List Piece). code_pieces (code x n) ++ more) (pieces-append xs ys (code x n).next)
      ∙ sym (append_assoc (code_pieces (code x n)) (row_pieces code xs (code x n).next) (row_pieces code ys (row_next code xs (code x n).next)))
