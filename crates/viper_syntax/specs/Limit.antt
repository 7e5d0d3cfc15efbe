-- The limits that a list of tokens keeps.
use Rattle.std.specs.Prelude.{◌≡◌, ℕ, ◌+◌, ◌-◌, ◌<◌, ◌≤◌, Bool, true, false, not, List, take, slice_get, Some, fold, count_by}
use Rattle.std.specs.List.{suffix_len, list_any}
use Rattle.std.specs.Str.{bytes_eq}
use Rattle.vb_base.specs.Limits.{max_unclosed_braces, max_group_tokens}
use Rattle.vb_base.specs.declared.places.Pos.{Pos}
use Rattle.vb_base.specs.Names.{refused_words}
use Rattle.viper_syntax.specs.declared.tokens.LexFault.{LexFault}
use Rattle.viper_syntax.specs.declared.tokens.LexFault.TheVariants as f
use Rattle.viper_syntax.specs.declared.tokens.Sign.{Sign}
use Rattle.viper_syntax.specs.declared.tokens.Sign.TheVariants as s
use Rattle.viper_syntax.specs.declared.tokens.Word.{Word}
use Rattle.viper_syntax.specs.declared.tokens.Word.TheVariants as w
use Rattle.viper_syntax.specs.declared.tokens.Tok.{Tok}
use Rattle.viper_syntax.specs.declared.tokens.Tok.TheVariants as k
use Rattle.viper_syntax.specs.declared.tokens.Token.{Token}

-- how many `{` are unclosed after a further token: a `}` closes the last unclosed one, and nothing where there is none
abbrev pub unclosed_with : ℕ → Tok → ℕ
unclosed_with n (k.Sign s.OpenBrace) = n + 1
unclosed_with n (k.Sign s.CloseBrace) = n - 1
unclosed_with n _ = n

-- how many `{` are unclosed after these tokens
abbrev pub unclosed : List Token → ℕ
unclosed ts = fold (λ n t. unclosed_with n t.tok) 0 ts

abbrev pub is_dividing_sign : Sign → Bool
is_dividing_sign s.OpenBrace = true
is_dividing_sign s.CloseBrace = true
is_dividing_sign s.Semicolon = true
is_dividing_sign s.Assign = true
is_dividing_sign _ = false

abbrev pub is_dividing_word : Word → Bool
is_dividing_word w.Field = true
is_dividing_word w.Predicate = true
is_dividing_word w.Method = true
is_dividing_word w.Returns = true
is_dividing_word w.Requires = true
is_dividing_word w.Ensures = true
is_dividing_word w.Invariant = true
is_dividing_word w.Var = true
is_dividing_word w.If = true
is_dividing_word w.Elseif = true
is_dividing_word w.Else = true
is_dividing_word w.While = true
is_dividing_word w.Inhale = true
is_dividing_word w.Exhale = true
is_dividing_word w.Assert = true
is_dividing_word w.Assume = true
is_dividing_word w.Fold = true
is_dividing_word w.Unfold = true
is_dividing_word _ = false

-- what divides groups
abbrev pub is_divider : Tok → Bool
is_divider (k.Name x) = false
is_divider (k.Number n) = false
is_divider (k.Word w) = is_dividing_word w
is_divider (k.Sign s) = is_dividing_sign s

-- how many tokens of the group that is being read stand at the end of these: those after the last divider
abbrev pub in_group : List Token → ℕ
in_group ts = suffix_len (λ t. not (is_divider t.tok)) ts

-- a name that is a refused word
abbrev pub is_refused : Tok → Bool
is_refused (k.Name x) = list_any (bytes_eq x) refused_words
is_refused (k.Number n) = false
is_refused (k.Word w) = false
is_refused (k.Sign s) = false

-- how many refused words these are
abbrev pub refused : List Token → ℕ
refused ts = count_by (λ t. is_refused t.tok) ts

-- after no prefix of these tokens the count is above the limit
abbrev pub StaysWithin : (List Token → ℕ) → ℕ → List Token → Type 0
StaysWithin count limit ts = (n : ℕ) → count (take n ts) ≤ limit

-- the first token with which the count is above the limit stands at this place
pub record IsFirstAbove (count : List Token → ℕ) (limit : ℕ) (ts : List Token) (at : Pos) : Type 0 where
  pub index : ℕ
  pub token : Token
  pub here : slice_get ts index ≡ Some token
  pub place : token.pos ≡ at
  pub above : limit < count (take (index + 1) ts)
  pub before : (n : ℕ) → n ≤ index → count (take n ts) ≤ limit

-- not too many `{` are unclosed at once, no group has too many tokens, and no word is refused
pub record KeepsLimits (ts : List Token) : Type 0 where
  pub braces : StaysWithin unclosed max_unclosed_braces ts
  pub groups : StaysWithin in_group max_group_tokens ts
  pub supported : StaysWithin refused 0 ts

-- the first of these that does not hold, in this order, with the place of the first token that breaks it
pub data BreaksLimit (ts : List Token) : LexFault → Type 0 where
  deep_brace : {at : Pos} → IsFirstAbove unclosed max_unclosed_braces ts at → BreaksLimit ts (f.Braces at)
  long_group : {at : Pos} → StaysWithin unclosed max_unclosed_braces ts → IsFirstAbove in_group max_group_tokens ts at → BreaksLimit ts (f.LongGroup at)
  refused_word : {at : Pos} → StaysWithin unclosed max_unclosed_braces ts → StaysWithin in_group max_group_tokens ts →
      IsFirstAbove refused 0 ts at → BreaksLimit ts (f.Unsupported at)

-- no token of these is a divider
abbrev pub IsUndivided : List Token → Type 0
IsUndivided ts = (i : ℕ) (t : Token) → slice_get ts i ≡ Some t → is_divider t.tok ≡ false
