-- A means of proof: with which tokens each symbol begins, and which could go on with what it spelled. No token is
-- among both where one symbol follows another, so the next token always tells how to read on.
use Rattle.std.proofs.Common.{◌≡◌, ℕ, Bool, true, List, [], ◌∷◌, ◌++◌, map, Option, Some, None, cond, ◌≤◌}
use Rattle.grammar.proofs.Sets.{among}
use Rattle.grammar.proofs.Complete.{Table}
use Rattle.viper_syntax.specs.declared.tokens.Token.{Token}
use Rattle.viper_syntax.specs.declared.tokens.Tok.{Tok}
use Rattle.viper_syntax.specs.declared.tokens.Tok.TheVariants as tok
use Rattle.viper_syntax.specs.declared.tokens.Word.{Word}
use Rattle.viper_syntax.specs.declared.tokens.Word.TheVariants as word
use Rattle.viper_syntax.specs.declared.tokens.Sign.{Sign}
use Rattle.viper_syntax.specs.declared.tokens.Sign.TheVariants as sign
use Rattle.viper_grammar.specs.declared.parts.WordClass.{WordClass}
use Rattle.viper_grammar.specs.declared.parts.WordClass.TheVariants as class
use Rattle.viper_syntax.specs.Stmt as s
use Rattle.viper_grammar.specs.Tests as v
use Rattle.viper_grammar.specs.Tests.{Kind, Value, Test, this, a_name, a_number, one_of, a_negation, an_operator}
use Rattle.viper_grammar.specs.Grammar as g
use Rattle.viper_grammar.specs.Grammar.{Symbol, viper}

-- a number for each token, names and numbers alike
abbrev pub word_code : Word → ℕ
word_code word.Field = 10
word_code word.Predicate = 11
word_code word.Method = 12
word_code word.Returns = 13
word_code word.Requires = 14
word_code word.Ensures = 15
word_code word.Invariant = 16
word_code word.Var = 17
word_code word.New = 18
word_code word.If = 19
word_code word.Elseif = 20
word_code word.Else = 21
word_code word.While = 22
word_code word.Inhale = 23
word_code word.Exhale = 24
word_code word.Assert = 25
word_code word.Assume = 26
word_code word.Fold = 27
word_code word.Unfold = 28
word_code word.Unfolding = 29
word_code word.In = 30
word_code word.Acc = 31
word_code word.Old = 32
word_code word.Null = 33
word_code word.True = 34
word_code word.False = 35
word_code word.Write = 36
word_code word.None = 37
word_code word.Wildcard = 38
word_code word.Int = 39
word_code word.Bool = 40
word_code word.Ref = 41
word_code word.Perm = 42

abbrev pub sign_code : Sign → ℕ
sign_code sign.OpenParen = 50
sign_code sign.CloseParen = 51
sign_code sign.OpenBrace = 52
sign_code sign.CloseBrace = 53
sign_code sign.OpenBracket = 54
sign_code sign.CloseBracket = 55
sign_code sign.Comma = 56
sign_code sign.Semicolon = 57
sign_code sign.Dot = 58
sign_code sign.Colon = 59
sign_code sign.Assign = 60
sign_code sign.Question = 61
sign_code sign.Iff = 62
sign_code sign.Implies = 63
sign_code sign.Or = 64
sign_code sign.And = 65
sign_code sign.Equal = 66
sign_code sign.NotEqual = 67
sign_code sign.AtMost = 68
sign_code sign.AtLeast = 69
sign_code sign.Less = 70
sign_code sign.Greater = 71
sign_code sign.Plus = 72
sign_code sign.Minus = 73
sign_code sign.Star = 74
sign_code sign.Slash = 75
sign_code sign.Backslash = 76
sign_code sign.Percent = 77
sign_code sign.Not = 78

abbrev pub code : Tok → ℕ
code (tok.Name x) = 1
code (tok.Number n) = 2
code (tok.Word w) = word_code w
code (tok.Sign o) = sign_code o

-- the codes of words and of signs
abbrev pub words : List Word → List ℕ
words ws = map word_code ws

abbrev pub signs : List Sign → List ℕ
signs os = map sign_code os

-- the codes of a name and of a number
abbrev pub names : List ℕ
names = 1 ∷ []

abbrev pub numbers : List ℕ
numbers = 2 ∷ []

-- the tokens that may pass a test
abbrev pub class_codes : WordClass → List ℕ
class_codes class.Type = words (word.Int ∷ word.Bool ∷ word.Ref ∷ word.Perm ∷ [])
class_codes class.Constant = words (word.True ∷ word.False ∷ word.Null ∷ word.Write ∷ word.None ∷ word.Wildcard ∷ [])
class_codes class.Check = words (word.Inhale ∷ word.Exhale ∷ word.Assert ∷ word.Assume ∷ [])
class_codes class.Clause = words (word.Requires ∷ word.Ensures ∷ [])

abbrev pub negations : List ℕ
negations = signs (sign.Not ∷ sign.Minus ∷ [])

abbrev pub operators : List ℕ
operators = signs (
    sign.Iff ∷ sign.Implies ∷ sign.Or ∷ sign.And ∷ sign.Equal ∷ sign.NotEqual ∷ sign.AtMost ∷ sign.AtLeast ∷ sign.Less ∷
    sign.Greater ∷ sign.Plus ∷ sign.Minus ∷ sign.Star ∷ sign.Slash ∷ sign.Backslash ∷ sign.Percent ∷ [])

abbrev pub codes : {b : Bool} {r : Kind} → Test b r → List ℕ
codes (this x) = code x ∷ []
codes a_name = names
codes a_number = numbers
codes (one_of c) = class_codes c
codes a_negation = negations
codes (an_operator n) = operators

-- the tokens with which declarations, statements and terms begin
abbrev pub decl_starts : List ℕ
decl_starts = words (word.Field ∷ word.Predicate ∷ word.Method ∷ [])

abbrev pub statement_starts : List ℕ
statement_starts = words (word.Var ∷ []) ++ (class_codes class.Check ++ (words (word.Fold ∷ word.Unfold ∷ word.If ∷ word.While ∷ []) ++ names))

abbrev pub first_starts : List ℕ
first_starts = names ++ (numbers ++ (class_codes class.Constant ++ (words (word.Old ∷ word.Acc ∷ []) ++ signs (sign.OpenParen ∷ []))))

abbrev pub term_starts : List ℕ
term_starts = negations ++ (words (word.Unfolding ∷ []) ++ first_starts)

-- the tokens with which a symbol begins, where it is not empty
abbrev pub first_codes : {s : Kind} → Symbol s → List ℕ
first_codes (g.Program ds) = decl_starts
first_codes (g.Predicate at) = names
first_codes (g.Method at) = names
first_codes g.Returns = words (word.Returns ∷ [])
first_codes (g.Clauses cs) = class_codes class.Clause
first_codes g.Body = signs (sign.OpenBrace ∷ [])
first_codes g.Formals = signs (sign.CloseParen ∷ []) ++ names
first_codes (g.MoreFormals xs) = signs (sign.Comma ∷ sign.CloseParen ∷ [])
first_codes g.FormalOf = names
first_codes g.Block = signs (sign.OpenBrace ∷ [])
first_codes (g.Statements ss) = signs (sign.CloseBrace ∷ []) ++ statement_starts
first_codes g.Statement = statement_starts
first_codes (g.Variable at) = names
first_codes (g.AfterName x) = signs (sign.OpenParen ∷ sign.Comma ∷ sign.Dot ∷ sign.Assign ∷ [])
first_codes (g.Arm at) = signs (sign.OpenParen ∷ [])
first_codes (g.Arms bs) = words (word.Elseif ∷ word.Else ∷ [])
first_codes (g.WhileLoop at) = signs (sign.OpenParen ∷ [])
first_codes (g.Invariants is) = words (word.Invariant ∷ [])
first_codes g.Rhs = words (word.New ∷ []) ++ term_starts
first_codes (g.Creation at) = signs (sign.OpenParen ∷ [])
first_codes (g.Separated o xs) = signs (o ∷ [])
first_codes g.Semicolons = signs (sign.Semicolon ∷ [])
first_codes g.InstanceOf = words (word.Acc ∷ []) ++ names
first_codes g.CallOf = names
first_codes g.Arguments = signs (sign.CloseParen ∷ []) ++ term_starts
first_codes (g.MoreArguments es) = signs (sign.Comma ∷ sign.CloseParen ∷ [])
first_codes g.Amount = signs (sign.Comma ∷ sign.CloseParen ∷ [])
first_codes g.Group = signs (sign.OpenParen ∷ [])
first_codes g.Term = term_starts
first_codes (g.Level n) = term_starts
first_codes (g.Chain n p) = operators
first_codes g.Unary = term_starts
first_codes (g.Fields p) = signs (sign.Dot ∷ [])
first_codes g.First = first_starts

-- what a symbol spells where it is empty
abbrev pub empty : {s : Kind} → Symbol s → Option (Value s)
empty (g.Program ds) = Some ds
empty (g.Predicate at) = None
empty (g.Method at) = None
empty g.Returns = Some []
empty (g.Clauses cs) = Some cs
empty g.Body = Some None
empty g.Formals = None
empty (g.MoreFormals xs) = None
empty g.FormalOf = None
empty g.Block = None
empty (g.Statements ss) = None
empty g.Statement = None
empty (g.Variable at) = None
empty (g.AfterName x) = None
empty (g.Arm at) = None
empty (g.Arms bs) = Some (s.If (s.arms bs) s.no_else)
empty (g.WhileLoop at) = None
empty (g.Invariants is) = Some is
empty g.Rhs = None
empty (g.Creation at) = None
empty (g.Separated o xs) = Some xs
empty g.Semicolons = Some tt
empty g.InstanceOf = None
empty g.CallOf = None
empty g.Arguments = None
empty (g.MoreArguments es) = None
empty g.Amount = None
empty g.Group = None
empty g.Term = None
empty (g.Level n) = None
empty (g.Chain n p) = Some p
empty g.Unary = None
empty (g.Fields p) = Some p
empty g.First = None

-- the tokens that may go on with a name, with a term, and with the clauses of a method
abbrev pub name_tail : List ℕ
name_tail = signs (sign.Dot ∷ sign.OpenParen ∷ [])

abbrev pub term_tail : List ℕ
term_tail = signs (sign.Question ∷ []) ++ (name_tail ++ operators)

abbrev pub method_tail : List ℕ
method_tail = words (word.Returns ∷ []) ++ (class_codes class.Clause ++ (signs (sign.Semicolon ∷ sign.OpenBrace ∷ []) ++ term_tail))

-- the tokens that could go on with what a symbol spelled
abbrev pub ext_codes : {s : Kind} → Symbol s → Value s → List ℕ
ext_codes (g.Program ds) y = decl_starts ++ method_tail
ext_codes (g.Predicate at) y = signs (sign.OpenBrace ∷ [])
ext_codes (g.Method at) y = method_tail
ext_codes g.Returns y = words (word.Returns ∷ [])
ext_codes (g.Clauses cs) y = class_codes class.Clause ++ (signs (sign.Semicolon ∷ []) ++ term_tail)
ext_codes g.Body y = signs (sign.OpenBrace ∷ [])
ext_codes g.Statement y = words (word.Else ∷ word.Elseif ∷ []) ++ (signs (sign.Assign ∷ []) ++ term_tail)
ext_codes (g.Variable at) y = signs (sign.Assign ∷ []) ++ term_tail
ext_codes (g.AfterName x) y = term_tail
ext_codes (g.Arms bs) y = words (word.Elseif ∷ word.Else ∷ [])
ext_codes (g.Invariants is) y = words (word.Invariant ∷ []) ++ (signs (sign.Semicolon ∷ []) ++ term_tail)
ext_codes g.Rhs y = term_tail
ext_codes g.Semicolons y = signs (sign.Semicolon ∷ [])
ext_codes g.Term y = term_tail
ext_codes g.First y = signs (sign.OpenParen ∷ [])
ext_codes (g.Separated o xs) y = signs (o ∷ [])
ext_codes (g.Fields p) y = name_tail
ext_codes g.Unary y = name_tail ++ cond (g.is_open y.shape) term_tail []
ext_codes _ y = []

-- how loose what a token goes on with is: a field or a call 0, an operator its level, a choice 9, every other token 10
abbrev pub sign_reach : Sign → ℕ
sign_reach sign.OpenParen = 0
sign_reach sign.Dot = 0
sign_reach sign.Question = 9
sign_reach sign.Iff = 8
sign_reach sign.Implies = 7
sign_reach sign.Or = 6
sign_reach sign.And = 5
sign_reach sign.Equal = 4
sign_reach sign.NotEqual = 4
sign_reach sign.AtMost = 3
sign_reach sign.AtLeast = 3
sign_reach sign.Less = 3
sign_reach sign.Greater = 3
sign_reach sign.Plus = 2
sign_reach sign.Minus = 2
sign_reach sign.Star = 1
sign_reach sign.Slash = 1
sign_reach sign.Backslash = 1
sign_reach sign.Percent = 1
sign_reach _ = 10

abbrev pub reach : Tok → ℕ
reach (tok.Sign o) = sign_reach o
reach _ = 10

abbrev pub bound : ℕ → v.WrittenTerm → ℕ
bound n p = cond (g.is_open p.shape) 9 n

-- what goes on with what a symbol spelled: of terms by level, what is no looser
abbrev pub Ext : {s : Kind} → Symbol s → Value s → Token → Type 0
Ext (g.Level n) p k = reach k.tok ≤ bound n p
Ext (g.Chain n p) q k = reach k.tok ≤ bound n q
Ext a y k = among (code k.tok) (ext_codes a y) ≡ true

abbrev pub table : Table viper
table = record {
  code = λ k. code k.tok;
  codes = λ b r c. codes c;
  first_codes = λ s a. first_codes a;
  empty = λ s a. empty a;
  Ext = λ s a y k. Ext a y k;
  ext_codes = λ s a y. ext_codes a y;
}
