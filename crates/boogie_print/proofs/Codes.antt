-- A means of proof: a number for each token, with which tokens each symbol begins, and which could go on with what it
-- spelled. No token is among both where one symbol follows another, so the next token always tells how to read on.
use Rattle.std.proofs.Common.{◌≡◌, ℕ, ◌+◌, Bool, true, false, ◌||◌, List, [], ◌∷◌, ◌++◌, Option, Some, None, if◌then◌else◌, refl}
use Rattle.std.specs.Str.{bytes_eq}
use Rattle.grammar.proofs.Sets.{among}
use Rattle.grammar.proofs.Complete.{Table}
use Rattle.boogie_tree.specs.Stmt as s
use Rattle.boogie_grammar.specs.declared.tokens.BSign.{BSign}
use Rattle.boogie_grammar.specs.declared.tokens.BSign.TheVariants as sign
use Rattle.boogie_grammar.specs.declared.tokens.Lexeme.{Lexeme}
use Rattle.boogie_grammar.specs.declared.tokens.Lexeme.TheVariants as tok
use Rattle.boogie_grammar.specs.declared.tokens.BoogieWord.{BoogieWord}
use Rattle.boogie_grammar.specs.declared.tokens.BoogieWord.TheVariants as w
use Rattle.boogie_grammar.specs.Words.{word_text, is_reserved, is_among, reserved}
use Rattle.boogie_grammar.specs.Tests.{Kind, Value, Test, the_sign, the_word, the_name, a_new_name, a_variable, a_number, a_real, a_label, a_base, a_key, an_operator}
use Rattle.boogie_grammar.specs.Grammar as g
use Rattle.boogie_grammar.specs.Grammar.{Symbol, boogie}

abbrev pub word_code : BoogieWord → ℕ
word_code w.Procedure = 10
word_code w.Var = 11
word_code w.Havoc = 12
word_code w.Assume = 13
word_code w.Assert = 14
word_code w.If = 15
word_code w.Then = 16
word_code w.Else = 17
word_code w.Forall = 18
word_code w.True = 19
word_code w.False = 20
word_code w.Int = 21
word_code w.Bool = 22
word_code w.Real = 23
word_code w.Div = 24
word_code w.Mod = 25
word_code w.Ref = 26
word_code w.Null = 27
word_code w.Snap = 28
word_code w.SUnit = 30
word_code w.SInt = 31
word_code w.SBool = 32
word_code w.SRef = 33
word_code w.SPerm = 34
word_code w.SPair = 35
word_code w.Msg = 1

abbrev pub sign_code : BSign → ℕ
sign_code sign.OpenParen = 50
sign_code sign.CloseParen = 51
sign_code sign.OpenBrace = 52
sign_code sign.CloseBrace = 53
sign_code sign.OpenBracket = 54
sign_code sign.CloseBracket = 55
sign_code sign.Comma = 56
sign_code sign.Semicolon = 57
sign_code sign.Colon = 58
sign_code sign.Bounds = 59
sign_code sign.Assign = 60
sign_code sign.Iff = 61
sign_code sign.Implies = 62
sign_code sign.Or = 63
sign_code sign.And = 64
sign_code sign.Equal = 65
sign_code sign.NotEqual = 66
sign_code sign.AtMost = 67
sign_code sign.AtLeast = 68
sign_code sign.Less = 69
sign_code sign.Greater = 70
sign_code sign.Plus = 71
sign_code sign.Minus = 72
sign_code sign.Star = 73
sign_code sign.Slash = 74
sign_code sign.Not = 75

-- the place of a name among these, from n on; 1 for another
abbrev pub code_in : List ℕ → List (List ℕ) → ℕ → ℕ
code_in x [] n = 1
code_in x (y ∷ ys) n = if bytes_eq x y then n else code_in x ys (n + 1)

abbrev pub name_code : List ℕ → ℕ
name_code x = code_in x reserved 10

abbrev pub code : Lexeme → ℕ
code (tok.Name x) = name_code x
code (tok.Number n) = 2
code (tok.Real n) = 3
code (tok.Text l) = 4
code (tok.Sign o) = sign_code o

pub word_is : (x : BoogieWord) → name_code (word_text x) ≡ word_code x
word_is w.Procedure = refl
word_is w.Var = refl
word_is w.Havoc = refl
word_is w.Assume = refl
word_is w.Assert = refl
word_is w.If = refl
word_is w.Then = refl
word_is w.Else = refl
word_is w.Forall = refl
word_is w.True = refl
word_is w.False = refl
word_is w.Int = refl
word_is w.Bool = refl
word_is w.Real = refl
word_is w.Div = refl
word_is w.Mod = refl
word_is w.Ref = refl
word_is w.Null = refl
word_is w.Snap = refl
word_is w.SUnit = refl
word_is w.SInt = refl
word_is w.SBool = refl
word_is w.SRef = refl
word_is w.SPerm = refl
word_is w.SPair = refl
word_is w.Msg = refl

free_at : (x : List ℕ) (names : List (List ℕ)) (n : ℕ) (b : Bool) (k : ℕ) → (b || is_among x names) ≡ false → (is_among x names ≡ false → code_in x names (n + 1) ≡ 1) → (if b then n else code_in x names (n + 1)) ≡ 1
free_at x names n true k h ih = cc
free_at x names n false k h ih = ih h

free_in : (x : List ℕ) (names : List (List ℕ)) (n : ℕ) → is_among x names ≡ false → code_in x names n ≡ 1
free_in x [] n h = refl
free_in x (y ∷ ys) n h = free_at x ys n (bytes_eq x y) n h (λ i. free_in x ys (n + 1) i)

pub free_code : (x : List ℕ) → is_reserved x ≡ false → name_code x ≡ 1
free_code x h = free_in x reserved 10 h

-- the codes of tokens

abbrev pub words : List BoogieWord → List ℕ
words [] = []
words (x ∷ xs) = word_code x ∷ words xs

abbrev pub signs : List BSign → List ℕ
signs [] = []
signs (x ∷ xs) = sign_code x ∷ signs xs

abbrev pub names : List ℕ
names = 1 ∷ []

abbrev pub keys : List ℕ
keys = words (w.Int ∷ w.Bool ∷ w.Ref ∷ [])

abbrev pub bases : List ℕ
bases = words (w.Int ∷ w.Bool ∷ w.Ref ∷ w.Real ∷ w.Snap ∷ [])

abbrev pub operators : List ℕ
operators =
    signs (sign.Iff ∷ sign.Implies ∷ sign.Or ∷ sign.And ∷ sign.Equal ∷ sign.NotEqual ∷ sign.Less ∷ sign.AtMost ∷ sign.Greater ∷ sign.AtLeast ∷
    sign.Plus ∷ sign.Minus ∷ sign.Star ∷ sign.Slash ∷ []) ++ words (w.Div ∷ w.Mod ∷ [])

abbrev pub codes : {b : Bool} {r : Kind} → Test b r → List ℕ
codes (the_sign o) = sign_code o ∷ []
codes (the_word x) = word_code x ∷ []
codes (the_name x) = name_code x ∷ []
codes (a_new_name taken) = names
codes (a_variable xs some) = names
codes a_number = 2 ∷ []
codes a_real = 3 ∷ []
codes a_label = 4 ∷ []
codes a_base = bases
codes a_key = keys
codes an_operator = operators

-- with which tokens a symbol begins, where it is not empty

abbrev pub statement_starts : List ℕ
statement_starts = words (w.Assume ∷ w.Assert ∷ w.Havoc ∷ w.If ∷ []) ++ names

abbrev pub expr_starts : List ℕ
expr_starts =
    2 ∷ 3 ∷ words (w.True ∷ w.False ∷ w.Null ∷ w.SUnit ∷ w.Real ∷ w.SInt ∷ w.SBool ∷ w.SRef ∷ w.SPerm ∷ w.SPair ∷ []) ++ (names ++ signs (sign.OpenParen ∷ []))

abbrev pub first_codes : {s : Kind} → Symbol s → List ℕ
first_codes (g.Program ps) = words (w.Procedure ∷ [])
first_codes (g.Procedure taken) = names
first_codes (g.Locals ls) = words (w.Var ∷ [])
first_codes g.TypeOf = signs (sign.OpenBracket ∷ []) ++ bases
first_codes (g.MoreKeys ks) = signs (sign.Comma ∷ sign.CloseBracket ∷ [])
first_codes (g.Statements ls ss) = signs (sign.CloseBrace ∷ []) ++ statement_starts
first_codes (g.Statement ls) = statement_starts
first_codes (g.Block ls) = signs (sign.OpenBrace ∷ [])
first_codes (g.Else ls) = words (w.Else ∷ [])
first_codes (g.Expr x) = expr_starts
first_codes (g.InParens x) = signs (sign.Minus ∷ sign.Not ∷ []) ++ (words (w.If ∷ w.Forall ∷ []) ++ expr_starts)
first_codes (g.Binders x b) = names
first_codes (g.Indices x i) = expr_starts
first_codes (g.BoundRest qs) = signs (sign.Comma ∷ sign.CloseBracket ∷ [])
first_codes (g.Exprs x) = expr_starts
first_codes (g.MoreExprs x es) = signs (sign.Comma ∷ sign.CloseBracket ∷ [])

-- what a symbol spells where it is empty
abbrev pub empty : {s : Kind} → Symbol s → Option (Value s)
empty (g.Program ps) = Some ps
empty (g.Procedure taken) = None
empty (g.Locals ls) = Some ls
empty g.TypeOf = None
empty (g.MoreKeys ks) = None
empty (g.Statements ls ss) = None
empty (g.Statement ls) = None
empty (g.Block ls) = None
empty (g.Else ls) = Some s.skip
empty (g.Expr x) = None
empty (g.InParens x) = None
empty (g.Binders x b) = None
empty (g.Indices x i) = None
empty (g.BoundRest qs) = None
empty (g.Exprs x) = None
empty (g.MoreExprs x es) = None

-- the tokens that could go on with what a symbol spelled
abbrev pub ext_codes : {s : Kind} → Symbol s → List ℕ
ext_codes (g.Program ps) = words (w.Procedure ∷ [])
ext_codes (g.Procedure taken) = []
ext_codes (g.Locals ls) = words (w.Var ∷ [])
ext_codes g.TypeOf = []
ext_codes (g.MoreKeys ks) = []
ext_codes (g.Statements ls ss) = []
ext_codes (g.Statement ls) = words (w.Else ∷ [])
ext_codes (g.Block ls) = []
ext_codes (g.Else ls) = words (w.Else ∷ [])
ext_codes (g.Expr x) = signs (sign.OpenBracket ∷ [])
ext_codes (g.InParens x) = []
ext_codes (g.Binders x b) = signs (sign.Comma ∷ [])
ext_codes (g.Indices x i) = []
ext_codes (g.BoundRest qs) = []
ext_codes (g.Exprs x) = []
ext_codes (g.MoreExprs x es) = []

abbrev pub table : Table boogie
table = record {
  code = λ k. code k.tok;
  codes = λ b r c. codes c;
  first_codes = λ s a. first_codes a;
  empty = λ s a. empty a;
  Ext = λ s a y k. among (code k.tok) (ext_codes a) ≡ true;
  ext_codes = λ s a y. ext_codes a;
}
