-- The pieces that a text of Viper is made of: tokens, blanks and comments. (The Viper tutorial; both forms of comment
-- are those of C.)
use Rattle.std.specs.Prelude.{◌≡◌, ◌≢◌, ℕ, ◌+◌, ◌≤◌, pos, IsTrue, List, [], ◌∷◌, ◌++◌, length, take, slice_get, Some, ◌==◌, not, codes}
use Rattle.std.specs.Char.{is_ascii_digit}
use Rattle.std.specs.List.{list_all}
use Rattle.vb_base.specs.Names.{is_name}
use Rattle.viper_syntax.specs.declared.tokens.Sign.{Sign}
use Rattle.viper_syntax.specs.declared.tokens.Word.{Word}
use Rattle.viper_syntax.specs.Spelling.{word_text, sign_text, is_blank, decimal}
use Rattle.viper_syntax.specs.declared.tokens.Tok.{Tok}
use Rattle.viper_syntax.specs.declared.tokens.Tok.TheVariants as k

-- at least one digit, and digits only
abbrev pub IsDigits : List ℕ → Type 0
IsDigits [] = ⊥
IsDigits (b ∷ bs) = IsTrue (list_all is_ascii_digit (b ∷ bs))

-- these bytes spell this token
pub data IsToken (bs : List ℕ) : Tok → Type 0 where
  word : (w : Word) → bs ≡ word_text w → IsToken bs (k.Word w)
  name : IsTrue (is_name bs) → ((w : Word) → bs ≢ word_text w) → IsToken bs (k.Name bs)
  number : IsDigits bs → IsToken bs (k.Number (pos (decimal bs)))
  sign : (s : Sign) → bs ≡ sign_text s → IsToken bs (k.Sign s)

-- a `*` and then a `/` stand at this index
abbrev pub ClosesAt : List ℕ → ℕ → Type 0
ClosesAt bs i = (slice_get bs i ≡ Some 42) × (slice_get bs (i + 1) ≡ Some 47)

-- `*/` stands nowhere in these bytes
abbrev pub HasNoClose : List ℕ → Type 0
HasNoClose bs = (i : ℕ) → ClosesAt bs i → ⊥

-- what a piece is: a blank or a comment; a comment that is not closed; a token
pub data Piece : Type 0 where
  Skipped : Piece
  Unclosed : Piece
  Taken : Tok → Piece

-- these bytes are a comment. One of the second form ends with the first `*/` after its `/*`, which may not share its
-- `*` with it; one that is not closed is a `/*` and what comes after it, without `*/`
pub data IsComment (bs : List ℕ) : Piece → Type 0 where
  line : (text : List ℕ) → bs ≡ 47 ∷ 47 ∷ text → IsTrue (list_all (λ b. not (b == 10)) text) → IsComment bs Skipped
  closed : (text : List ℕ) → bs ≡ 47 ∷ 42 ∷ text ++ codes "*/" → HasNoClose (text ++ codes "*") → IsComment bs Skipped
  unclosed : (text : List ℕ) → bs ≡ 47 ∷ 42 ∷ text → HasNoClose text → IsComment bs Unclosed

-- these bytes are this piece
pub data IsPiece (bs : List ℕ) : Piece → Type 0 where
  blank : (b : ℕ) → bs ≡ b ∷ [] → IsTrue (is_blank b) → IsPiece bs Skipped
  comment : {p : Piece} → IsComment bs p → IsPiece bs p
  token : {t : Tok} → IsToken bs t → IsPiece bs (Taken t)

-- the first n bytes are this piece, and no prefix of these bytes that is longer is a piece
pub record IsLongest (bs : List ℕ) (n : ℕ) (p : Piece) : Type 0 where
  pub within : n ≤ length bs
  pub piece : IsPiece (take n bs) p
  pub longest : (m : ℕ) (q : Piece) → m ≤ length bs → IsPiece (take m bs) q → m ≤ n

-- no prefix of these bytes is a piece
abbrev pub BeginsNoPiece : List ℕ → Type 0
BeginsNoPiece bs = (n : ℕ) (p : Piece) → n ≤ length bs → IsPiece (take n bs) p → ⊥
