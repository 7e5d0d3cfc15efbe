-- How words and signs are spelled, and which names are reserved (Leino, This is Boogie 2, section 1).
use Rattle.std.specs.Prelude.{ℕ, Bool, List, [], ◌∷◌, codes}
use Rattle.std.specs.List.{list_any}
use Rattle.std.specs.Str.{bytes_eq}
use Rattle.boogie_tree.specs.declared.exprs.BBase.{BBase}
use Rattle.boogie_tree.specs.declared.exprs.BBase.TheVariants as base
use Rattle.boogie_tree.specs.declared.exprs.BOp.{BOp}
use Rattle.boogie_tree.specs.declared.exprs.BOp.TheVariants as op
use Rattle.boogie_grammar.specs.declared.tokens.BSign.{BSign}
use Rattle.boogie_grammar.specs.declared.tokens.BSign.TheVariants as sign
use Rattle.boogie_grammar.specs.declared.tokens.Lexeme.{Lexeme}
use Rattle.boogie_grammar.specs.declared.tokens.Lexeme.TheVariants as tok
use Rattle.boogie_grammar.specs.declared.tokens.BoogieWord.{BoogieWord}
use Rattle.boogie_grammar.specs.declared.tokens.BoogieWord.TheVariants as w

abbrev pub word_text : BoogieWord → List ℕ
word_text w.Procedure = codes "procedure"
word_text w.Var = codes "var"
word_text w.Havoc = codes "havoc"
word_text w.Assume = codes "assume"
word_text w.Assert = codes "assert"
word_text w.If = codes "if"
word_text w.Then = codes "then"
word_text w.Else = codes "else"
word_text w.Forall = codes "forall"
word_text w.True = codes "true"
word_text w.False = codes "false"
word_text w.Int = codes "int"
word_text w.Bool = codes "bool"
word_text w.Real = codes "real"
word_text w.Div = codes "div"
word_text w.Mod = codes "mod"
word_text w.Ref = codes "Ref"
word_text w.Null = codes "null"
word_text w.Snap = codes "Snap"
word_text w.SUnit = codes "sUnit"
word_text w.SInt = codes "sInt"
word_text w.SBool = codes "sBool"
word_text w.SRef = codes "sRef"
word_text w.SPerm = codes "sPerm"
word_text w.SPair = codes "sPair"
word_text w.Msg = codes "msg"

-- words that are no names: those of the language, and what the prelude declares
abbrev pub reserved : List (List ℕ)
reserved =
    codes "procedure" ∷ codes "var" ∷ codes "havoc" ∷ codes "assume" ∷ codes "assert" ∷ codes "if" ∷ codes "then" ∷ codes "else" ∷ codes "forall" ∷
    codes "true" ∷ codes "false" ∷ codes "int" ∷ codes "bool" ∷ codes "real" ∷ codes "div" ∷ codes "mod" ∷
    codes "Ref" ∷ codes "null" ∷ codes "Snap" ∷ codes "sTag" ∷ codes "sUnit" ∷ codes "sInt" ∷ codes "sBool" ∷ codes "sRef" ∷ codes "sPerm" ∷ codes "sPair" ∷
    codes "sIntOf" ∷ codes "sBoolOf" ∷ codes "sRefOf" ∷ codes "sPermOf" ∷ codes "sFirst" ∷ codes "sSecond" ∷ []

-- whether a name is one of these
abbrev pub is_among : List ℕ → List (List ℕ) → Bool
is_among name names = list_any (bytes_eq name) names

abbrev pub is_reserved : List ℕ → Bool
is_reserved name = is_among name reserved

abbrev pub sign_text : BSign → List ℕ
sign_text sign.OpenParen = codes "("
sign_text sign.CloseParen = codes ")"
sign_text sign.OpenBrace = codes "{"
sign_text sign.CloseBrace = codes "}"
sign_text sign.OpenBracket = codes "["
sign_text sign.CloseBracket = codes "]"
sign_text sign.Comma = codes ","
sign_text sign.Semicolon = codes ";"
sign_text sign.Colon = codes ":"
sign_text sign.Bounds = codes "::"
sign_text sign.Assign = codes ":="
sign_text sign.Iff = codes "<==>"
sign_text sign.Implies = codes "==>"
sign_text sign.Or = codes "||"
sign_text sign.And = codes "&&"
sign_text sign.Equal = codes "=="
sign_text sign.NotEqual = codes "!="
sign_text sign.AtMost = codes "<="
sign_text sign.AtLeast = codes ">="
sign_text sign.Less = codes "<"
sign_text sign.Greater = codes ">"
sign_text sign.Plus = codes "+"
sign_text sign.Minus = codes "-"
sign_text sign.Star = codes "*"
sign_text sign.Slash = codes "/"
sign_text sign.Not = codes "!"

-- a word as a token
abbrev pub word_tok : BoogieWord → Lexeme
word_tok w = tok.Name (word_text w)

-- the word of a type
abbrev pub base_word : BBase → BoogieWord
base_word base.Int = w.Int
base_word base.Bool = w.Bool
base_word base.Ref = w.Ref
base_word base.Real = w.Real
base_word base.Snap = w.Snap

-- the token of an operator: a sign, but for `div` and `mod`
abbrev pub operator_tok : BOp → Lexeme
operator_tok op.Iff = tok.Sign sign.Iff
operator_tok op.Implies = tok.Sign sign.Implies
operator_tok op.Or = tok.Sign sign.Or
operator_tok op.And = tok.Sign sign.And
operator_tok op.Eq = tok.Sign sign.Equal
operator_tok op.Ne = tok.Sign sign.NotEqual
operator_tok op.Lt = tok.Sign sign.Less
operator_tok op.Le = tok.Sign sign.AtMost
operator_tok op.Gt = tok.Sign sign.Greater
operator_tok op.Ge = tok.Sign sign.AtLeast
operator_tok op.Add = tok.Sign sign.Plus
operator_tok op.Sub = tok.Sign sign.Minus
operator_tok op.Mul = tok.Sign sign.Star
operator_tok op.Divide = tok.Sign sign.Slash
operator_tok op.IntDiv = word_tok w.Div
operator_tok op.IntMod = word_tok w.Mod
