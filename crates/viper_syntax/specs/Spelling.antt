-- How words and signs are spelled, and what blanks and numbers are made of.
use Rattle.std.specs.Prelude.{ℕ, ◌+◌, ◌*◌, ◌-◌, Bool, ◌==◌, ◌||◌, List, [], ◌∷◌, codes}
use Rattle.viper_syntax.specs.declared.tokens.Word.{Word}
use Rattle.viper_syntax.specs.declared.tokens.Word.TheVariants as w
use Rattle.viper_syntax.specs.declared.tokens.Sign.{Sign}
use Rattle.viper_syntax.specs.declared.tokens.Sign.TheVariants as s

-- the bytes of a word
abbrev pub word_text : Word → List ℕ
word_text w.Field = codes "field"
word_text w.Predicate = codes "predicate"
word_text w.Method = codes "method"
word_text w.Returns = codes "returns"
word_text w.Requires = codes "requires"
word_text w.Ensures = codes "ensures"
word_text w.Invariant = codes "invariant"
word_text w.Var = codes "var"
word_text w.New = codes "new"
word_text w.If = codes "if"
word_text w.Elseif = codes "elseif"
word_text w.Else = codes "else"
word_text w.While = codes "while"
word_text w.Inhale = codes "inhale"
word_text w.Exhale = codes "exhale"
word_text w.Assert = codes "assert"
word_text w.Assume = codes "assume"
word_text w.Fold = codes "fold"
word_text w.Unfold = codes "unfold"
word_text w.Unfolding = codes "unfolding"
word_text w.In = codes "in"
word_text w.Acc = codes "acc"
word_text w.Old = codes "old"
word_text w.Null = codes "null"
word_text w.True = codes "true"
word_text w.False = codes "false"
word_text w.Write = codes "write"
word_text w.None = codes "none"
word_text w.Wildcard = codes "wildcard"
word_text w.Int = codes "Int"
word_text w.Bool = codes "Bool"
word_text w.Ref = codes "Ref"
word_text w.Perm = codes "Perm"

-- the bytes of a sign
abbrev pub sign_text : Sign → List ℕ
sign_text s.OpenParen = codes "("
sign_text s.CloseParen = codes ")"
sign_text s.OpenBrace = codes "{"
sign_text s.CloseBrace = codes "}"
sign_text s.OpenBracket = codes "["
sign_text s.CloseBracket = codes "]"
sign_text s.Comma = codes ","
sign_text s.Semicolon = codes ";"
sign_text s.Dot = codes "."
sign_text s.Colon = codes ":"
sign_text s.Assign = codes ":="
sign_text s.Question = codes "?"
sign_text s.Iff = codes "<==>"
sign_text s.Implies = codes "==>"
sign_text s.Or = codes "||"
sign_text s.And = codes "&&"
sign_text s.Equal = codes "=="
sign_text s.NotEqual = codes "!="
sign_text s.AtMost = codes "<="
sign_text s.AtLeast = codes ">="
sign_text s.Less = codes "<"
sign_text s.Greater = codes ">"
sign_text s.Plus = codes "+"
sign_text s.Minus = codes "-"
sign_text s.Star = codes "*"
sign_text s.Slash = codes "/"
sign_text s.Backslash = codes "\\"
sign_text s.Percent = codes "%"
sign_text s.Not = codes "!"

-- a tab, the end of a line, a carriage return, a space
abbrev pub is_blank : ℕ → Bool
is_blank b = b == 9 || b == 10 || b == 13 || b == 32

-- the number that a row of digits spells: what was read before is worth ten times as much at each further digit
abbrev pub decimal_from : ℕ → List ℕ → ℕ
decimal_from n [] = n
decimal_from n (d ∷ ds) = decimal_from (n * 10 + (d - 48)) ds

abbrev pub decimal : List ℕ → ℕ
decimal ds = decimal_from 0 ds
