-- What a text is as a list of tokens, or why it is none.
use Rattle.std.specs.Prelude.{◌≡◌, ℕ, ◌<◌, ◌^◌, pos, ◌≤ℤ◌, ◌⊎◌, IsTrue, Result, Ok, Err, List, [], length, slice_get, Some, Vec}
use Rattle.std.specs.declared.alloc.Global.{Global}
use Rattle.vb_base.specs.Names.{is_viper_name}
use Rattle.vb_base.specs.Place.{IsBefore}
use Rattle.viper_syntax.specs.declared.tokens.LexFault.{LexFault}
use Rattle.viper_syntax.specs.declared.tokens.LexFault.TheVariants as f
use Rattle.viper_syntax.specs.declared.tokens.Tok.{Tok}
use Rattle.viper_syntax.specs.declared.tokens.Tok.TheVariants as k
use Rattle.viper_syntax.specs.declared.tokens.Token.{Token}
use Rattle.viper_syntax.specs.Cut.{IsCut, Meets, MAX}
use Rattle.viper_syntax.specs.Limit.{KeepsLimits, BreaksLimit}

-- the text is cut into these tokens, and they keep the limits
pub record IsLexed (bytes : List ℕ) (ts : List Token) : Type 0 where
  pub cut : IsCut [] bytes ts
  pub limits : KeepsLimits ts

-- this fault is the first of the text: the first that the cut meets, or else the first limit that the tokens break
pub data HasFault (bytes : List ℕ) : LexFault → Type 0 where
  in_cut : {fault : LexFault} → Meets [] bytes fault → HasFault bytes fault
  in_limits : {ts : List Token} {fault : LexFault} → IsCut [] bytes ts → BreaksLimit ts fault → HasFault bytes fault

-- a name is one and no word, and a number is from 0 to MAX
abbrev pub IsProper : Tok → Type 0
IsProper (k.Name x) = IsTrue (is_viper_name x)
IsProper (k.Number n) = (pos 0 ≤ℤ n) × (n ≤ℤ MAX)
IsProper (k.Word w) = Unit {0}
IsProper (k.Sign s) = Unit {0}

-- what a parser may rely on
pub record IsWellFormed (ts : List Token) : Type 0 where
  pub few : length ts < 2 ^ 32
  pub proper : (i : ℕ) (t : Token) → slice_get ts i ≡ Some t → IsProper t.tok
  pub limits : KeepsLimits ts
  pub in_order : (i j : ℕ) (t u : Token) → i < j → slice_get ts i ≡ Some t → slice_get ts j ≡ Some u → IsBefore t.pos u.pos

-- the result has these tokens, unless memory was refused
abbrev pub GivesTokens : List Token → Result (Vec Token Global) LexFault → Type 0
GivesTokens ts (Ok v) = v.items ≡ ts
GivesTokens ts (Err e) = e ≡ f.Memory

-- the result is this fault, unless memory was refused
abbrev pub GivesFault : LexFault → Result (Vec Token Global) LexFault → Type 0
GivesFault fault (Ok v) = ⊥
GivesFault fault (Err e) = (e ≡ fault) ⊎ (e ≡ f.Memory)
