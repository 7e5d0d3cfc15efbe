-- The tokens of a text part by part.
use Rattle.std.specs.Prelude.{◌++◌, ◌<◌, ◌≤◌, ℕ, List, [], All, Some, length, take, fold}
use Rattle.vb_base.specs.Limits.{max_unclosed_brackets}
use Rattle.boogie_grammar.specs.declared.parts.NextPart.{NextPart}
use Rattle.boogie_grammar.specs.declared.parts.NextPart.TheVariants as part
use Rattle.boogie_grammar.specs.declared.tokens.PlacedLexeme.{PlacedLexeme}
use Rattle.boogie_grammar.specs.Cut.{IsRow}
use Rattle.boogie_grammar.specs.Depth.{unclosed_with}
use Rattle.boogie_grammar.specs.Step.{IsPiece}

-- how many brackets are unclosed after these tokens, where so many are before them
abbrev pub unclosed_from : ℕ → List PlacedLexeme → ℕ
unclosed_from n ts = fold (λ m t. unclosed_with m t.tok) n ts

-- where so many brackets are unclosed before these tokens, too many are so after no prefix of them
abbrev pub IsShallowFrom : ℕ → List PlacedLexeme → Type 0
IsShallowFrom n ts = (i : ℕ) → unclosed_from n (take i ts) ≤ max_unclosed_brackets

-- some bytes begin with this token
pub record IsToken (t : PlacedLexeme) : Type 0 where
  pub bytes : List ℕ
  pub len : ℕ
  pub begins : IsPiece bytes (Some t.tok) len

-- These tokens are read off a text: in front of the tokens of what is left, they make the tokens of the text. Where `before` brackets
-- are unclosed before the text, too many are so nowhere in it, if that is so in what is left, counted from `after`.
pub record IsPart (before : ℕ) (text : List ℕ) (ts : List PlacedLexeme) (after : ℕ) (rest : List ℕ) : Type 0 where
  pub row : (us : List PlacedLexeme) → IsRow rest us → IsRow text (ts ++ us)
  pub shallow : (us : List PlacedLexeme) → IsShallowFrom after us → IsShallowFrom before (ts ++ us)
  pub are_tokens : All IsToken ts
  pub shorter : length rest < length text

-- what is found of the next part of a text, and its tokens
abbrev pub IsNextPart : ℕ → List ℕ → List PlacedLexeme → NextPart → Type 0
IsNextPart before text ts part.End = IsRow text []
IsNextPart before text ts (part.Tokens rest after) = IsPart before text ts after rest.now
IsNextPart before text ts part.Unread = Unit {0}
