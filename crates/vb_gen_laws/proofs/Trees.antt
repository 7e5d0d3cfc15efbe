-- The tokens of the generated programs, and the trees that they spell. Places are a function from the number of a token.
use Rattle.std.proofs.Common.{ℕ, zero, suc, ◌+◌, ◌-◌, ◌%◌, List, [], ◌∷◌, ◌++◌, Some, pos}
use Rattle.std.specs.Prelude.{codes, ◌==◌, if◌then◌else◌}
use Rattle.std.specs.Fmt.{decimal}
use Rattle.vb_base.specs.declared.places.Pos.{Pos}
use Rattle.viper_syntax.specs.declared.tokens.Token.{Token}
use Rattle.viper_syntax.specs.declared.tokens.Tok.{Tok}
use Rattle.viper_syntax.specs.declared.tokens.Tok.TheVariants as tok
use Rattle.viper_syntax.specs.declared.tokens.Word.{Word}
use Rattle.viper_syntax.specs.declared.tokens.Word.TheVariants as word
use Rattle.viper_syntax.specs.declared.tokens.Sign.TheVariants as sign
use Rattle.viper_syntax.specs.declared.stmts.Named.{Named}
use Rattle.viper_syntax.specs.declared.stmts.Formal.{Formal}
use Rattle.viper_syntax.specs.Term as t
use Rattle.viper_syntax.specs.Stmt as s
use Rattle.viper_syntax.specs.Decl as d
use Rattle.vb_gen.specs.Generated.{odd_of}

-- tokens at these places
abbrev pub placed : (ℕ → Pos) → List Tok → List Token
placed p [] = []
placed p (t ∷ ts) = record { tok = t; pos = p 0 } ∷ placed (λ i. p (suc i)) ts

-- the places after a front
abbrev pub behind : (ℕ → Pos) → List Tok → ℕ → Pos
behind p [] = p
behind p (t ∷ ts) = behind (λ i. p (suc i)) ts

-- ---- tokens

abbrev pub x_name : List ℕ
x_name = codes "x"

abbrev pub r_name : List ℕ
r_name = codes "r"

abbrev pub f_name : List ℕ
f_name = codes "f"

-- the name of the method of a number
abbrev pub m_name : ℕ → List ℕ
m_name i = 109 ∷ decimal i

-- `field f: Int`
abbrev pub field_toks : List Tok
field_toks = tok.Word word.Field ∷ tok.Name f_name ∷ tok.Sign sign.Colon ∷ tok.Word word.Int ∷ []

-- `(x: Ref) returns (r: Int)`
abbrev formals_toks : List Tok
formals_toks =
    tok.Sign sign.OpenParen ∷ tok.Name x_name ∷ tok.Sign sign.Colon ∷ tok.Word word.Ref ∷ tok.Sign sign.CloseParen ∷
    tok.Word word.Returns ∷ tok.Sign sign.OpenParen ∷ tok.Name r_name ∷ tok.Sign sign.Colon ∷ tok.Word word.Int ∷ tok.Sign sign.CloseParen ∷ []

-- `acc(x.f, 1/2)`
abbrev access_toks : List Tok
access_toks =
    tok.Word word.Acc ∷ tok.Sign sign.OpenParen ∷ tok.Name x_name ∷ tok.Sign sign.Dot ∷ tok.Name f_name ∷ tok.Sign sign.Comma ∷
    tok.Number (pos 1) ∷ tok.Sign sign.Slash ∷ tok.Number (pos 2) ∷ tok.Sign sign.CloseParen ∷ []

-- `x.f +`
abbrev pub plus_toks : List Tok
plus_toks = tok.Name x_name ∷ tok.Sign sign.Dot ∷ tok.Name f_name ∷ tok.Sign sign.Plus ∷ []

-- from behind the name of a method up to the number in its postcondition
abbrev pub head_toks : List Tok
head_toks =
    formals_toks ++ (tok.Word word.Requires ∷ access_toks) ++ (tok.Word word.Ensures ∷ access_toks) ++
    (tok.Sign sign.And ∷ tok.Name r_name ∷ tok.Sign sign.Equal ∷ plus_toks)

-- `{ r :=`
abbrev pub body_toks : List Tok
body_toks = tok.Sign sign.OpenBrace ∷ tok.Name r_name ∷ tok.Sign sign.Assign ∷ []

-- `(x) }`
abbrev pub call_toks : List Tok
call_toks = tok.Sign sign.OpenParen ∷ tok.Name x_name ∷ tok.Sign sign.CloseParen ∷ tok.Sign sign.CloseBrace ∷ []

-- a method behind its first word: an odd one, and an even one that calls another
abbrev pub odd_toks : List ℕ → ℕ → List Tok
odd_toks name k =
    (tok.Name name ∷ head_toks) ++ (tok.Number (pos k) ∷ body_toks) ++ plus_toks ++ (tok.Number (pos k) ∷ tok.Sign sign.CloseBrace ∷ [])

abbrev pub even_toks : List ℕ → ℕ → List ℕ → List Tok
even_toks name k callee = (tok.Name name ∷ head_toks) ++ (tok.Number (pos k) ∷ body_toks) ++ (tok.Name callee ∷ call_toks)

-- the method of a number, behind its first word and whole
abbrev pub method_rest : ℕ → List Tok
method_rest i = if i % 2 == 1 then odd_toks (m_name i) i else even_toks (m_name i) (i - 1) (m_name (i - 1))

abbrev pub method_toks : ℕ → List Tok
method_toks i = tok.Word word.Method ∷ method_rest i

-- the methods from 1 to n
abbrev pub methods_toks : ℕ → List Tok
methods_toks zero = []
methods_toks (suc i) = methods_toks i ++ method_toks (suc i)

-- ---- trees

abbrev named : List ℕ → Pos → Named
named x at = record { name = x; pos = at }

abbrev formal : Named → Word → Formal
formal x w = record { name = x; ty = w }

abbrev number : ℕ → Pos → t.Term
number n at = t.Number (pos n) at

-- the terms whose first token has this number
abbrev receiver : (ℕ → Pos) → ℕ → t.Term
receiver p i = t.Field (t.Name x_name (p i)) f_name (p (i + 2))

abbrev access : (ℕ → Pos) → ℕ → t.Term
access p i = t.Acc (receiver p (i + 2)) (t.given (t.Binary sign.Slash (number 1 (p (i + 6))) (number 2 (p (i + 8))) (p (i + 7)))) (p i)

abbrev sum : (ℕ → Pos) → ℕ → ℕ → t.Term
sum p i k = t.Binary sign.Plus (receiver p i) (number k (p (i + 4))) (p (i + 3))

abbrev pub clauses : (ℕ → Pos) → ℕ → List d.SClause
clauses p k =
    record { word = word.Requires; term = access p 13 } ∷
    record { word = word.Ensures; term = t.Binary sign.And (access p 24) (t.Binary sign.Equal (t.Name r_name (p 35)) (sum p 37 k) (p 36)) (p 34) } ∷ []

-- a method whose body assigns this to its result
abbrev pub tree : (ℕ → Pos) → Pos → List ℕ → ℕ → s.SRhs → d.SMethod
tree p at name k rhs = record {
  at = at;
  name = named name (p 0);
  params = formal (named x_name (p 2)) word.Ref ∷ [];
  returns = formal (named r_name (p 8)) word.Int ∷ [];
  clauses = clauses p k;
  body = Some (s.block (p 42) (s.more_stmts (s.Assign (named r_name (p 43) ∷ []) rhs) s.no_stmts));
}

abbrev pub odd_rhs : (ℕ → Pos) → ℕ → s.SRhs
odd_rhs p k = s.TermRhs (sum p 45 k)

abbrev pub even_rhs : (ℕ → Pos) → List ℕ → s.SRhs
even_rhs p callee = s.CallRhs (record { name = named callee (p 45); args = t.Name x_name (p 47) ∷ [] })

abbrev rhs : (ℕ → Pos) → ℕ → s.SRhs
rhs p i = if i % 2 == 1 then odd_rhs p i else even_rhs p (m_name (i - 1))

-- the method of a number, whose first word has the place of number 0
abbrev pub method_tree : (ℕ → Pos) → ℕ → d.SMethod
method_tree q i = tree (λ j. q (suc j)) (q 0) (m_name i) (odd_of i) (rhs (λ j. q (suc j)) i)

abbrev pub methods_trees : (ℕ → Pos) → ℕ → List d.Decl
methods_trees p zero = []
methods_trees p (suc i) = methods_trees p i ++ d.Method (method_tree (behind p (methods_toks i)) (suc i)) ∷ []

abbrev pub field_formal : (ℕ → Pos) → Formal
field_formal p = formal (named f_name (p 1)) word.Int

abbrev pub source_of : (ℕ → Pos) → ℕ → d.SourceProgram
source_of p n = record { decls = d.Field (field_formal p) ∷ methods_trees (behind p field_toks) n }
