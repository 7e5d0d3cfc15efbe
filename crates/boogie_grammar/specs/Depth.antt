-- How many brackets are unclosed at once.
use Rattle.std.specs.Prelude.{◌≡◌, ℕ, ◌+◌, ◌-◌, ◌<◌, ◌≤◌, List, take, slice_get, Some, fold}
use Rattle.vb_base.specs.Limits.{max_unclosed_brackets}
use Rattle.vb_base.specs.declared.places.Pos.{Pos}
use Rattle.boogie_grammar.specs.declared.tokens.BSign.TheVariants as sign
use Rattle.boogie_grammar.specs.declared.tokens.Lexeme.{Lexeme}
use Rattle.boogie_grammar.specs.declared.tokens.Lexeme.TheVariants as tok
use Rattle.boogie_grammar.specs.declared.tokens.PlacedLexeme.{PlacedLexeme}

-- how many `(`, `[` and `{` are unclosed after a further token: each closing sign closes the last one, of whatever kind,
-- and nothing where there is none
abbrev pub unclosed_with : ℕ → Lexeme → ℕ
unclosed_with n (tok.Sign sign.OpenParen) = n + 1
unclosed_with n (tok.Sign sign.OpenBracket) = n + 1
unclosed_with n (tok.Sign sign.OpenBrace) = n + 1
unclosed_with n (tok.Sign sign.CloseParen) = n - 1
unclosed_with n (tok.Sign sign.CloseBracket) = n - 1
unclosed_with n (tok.Sign sign.CloseBrace) = n - 1
unclosed_with n _ = n

-- how many are unclosed after these tokens
abbrev pub unclosed : List PlacedLexeme → ℕ
unclosed ts = fold (λ n t. unclosed_with n t.tok) 0 ts

-- after no prefix of these tokens too many are unclosed
abbrev pub IsShallow : List PlacedLexeme → Type 0
IsShallow ts = (n : ℕ) → unclosed (take n ts) ≤ max_unclosed_brackets

-- the first token with which more are unclosed stands at this place
pub record IsTooDeep (ts : List PlacedLexeme) (at : Pos) : Type 0 where
  pub index : ℕ
  pub token : PlacedLexeme
  pub here : slice_get ts index ≡ Some token
  pub place : token.pos ≡ at
  pub above : max_unclosed_brackets < unclosed (take (index + 1) ts)
  pub before : (n : ℕ) → n ≤ index → unclosed (take n ts) ≤ max_unclosed_brackets
