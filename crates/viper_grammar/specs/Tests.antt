-- What the grammar builds, and what it asks of a single token.
use Rattle.std.specs.Prelude.{◌≡◌, ℕ, ℤ, Bool, true, false, List, Option, IsTrue, ◌≤◌}
use Rattle.vb_base.specs.declared.places.Pos.{Pos}
use Rattle.viper_syntax.specs.declared.tokens.Token.{Token}
use Rattle.viper_syntax.specs.declared.tokens.Tok.{Tok}
use Rattle.viper_syntax.specs.declared.tokens.Tok.TheVariants as tok
use Rattle.viper_syntax.specs.declared.tokens.Word.{Word}
use Rattle.viper_syntax.specs.declared.tokens.Word.TheVariants as word
use Rattle.viper_syntax.specs.declared.tokens.Sign.{Sign}
use Rattle.viper_syntax.specs.declared.tokens.Sign.TheVariants as sign
use Rattle.viper_syntax.specs.declared.stmts.Named.{Named}
use Rattle.viper_syntax.specs.declared.stmts.Formal.{Formal}
use Rattle.viper_syntax.specs.Term.{Term, Amount}
use Rattle.viper_syntax.specs.Stmt.{SCall, SRhs, SStmt, SBlock, SArm}
use Rattle.viper_syntax.specs.Decl.{SClause, Decl}
use Rattle.viper_grammar.specs.declared.parts.Shape.{Shape}
use Rattle.viper_grammar.specs.declared.parts.WordClass.{WordClass}
use Rattle.viper_grammar.specs.declared.parts.WordClass.TheVariants as class

-- a term as it is written
pub record WrittenTerm : Type 0 where
  pub shape : Shape
  pub tree : Term

-- a call with its amount, as `fold`, `unfold` and `unfolding` take it
pub record WrittenInstance : Type 0 where
  pub call : SCall
  pub amount : Amount

-- the kinds of what the grammar builds
pub data Kind : Type 0 where
  nothing : Kind
  place : Kind
  name : Kind
  number : Kind
  a_word : Kind
  a_sign : Kind
  part : Kind
  arguments : Kind
  amount : Kind
  call : Kind
  instance : Kind
  names : Kind
  formal : Kind
  formals : Kind
  rhs : Kind
  stmt : Kind
  stmts : Kind
  block : Kind
  arm : Kind
  clauses : Kind
  body : Kind
  decl : Kind
  decls : Kind

abbrev pub Value : Kind → Type 0
Value nothing = Unit {0}
Value place = Pos
Value name = Named
Value number = ℤ × Pos
Value a_word = Word × Pos
Value a_sign = Sign × Pos
Value part = WrittenTerm
Value arguments = List Term
Value amount = Amount
Value call = SCall
Value instance = WrittenInstance
Value names = List Named
Value formal = Formal
Value formals = List Formal
Value rhs = SRhs
Value stmt = SStmt
Value stmts = List SStmt
Value block = SBlock
Value arm = SArm
Value clauses = List SClause
Value body = Option SBlock
Value decl = Decl
Value decls = List Decl

-- the level of a binary operator, the tightest first; 0 for every other sign
abbrev pub level_of : Sign → ℕ
level_of sign.Star = 1
level_of sign.Slash = 1
level_of sign.Backslash = 1
level_of sign.Percent = 1
level_of sign.Plus = 2
level_of sign.Minus = 2
level_of sign.Less = 3
level_of sign.AtMost = 3
level_of sign.Greater = 3
level_of sign.AtLeast = 3
level_of sign.Equal = 4
level_of sign.NotEqual = 4
level_of sign.And = 5
level_of sign.Or = 6
level_of sign.Implies = 7
level_of sign.Iff = 8
level_of _ = 0

abbrev pub is_negation : Sign → Bool
is_negation sign.Not = true
is_negation sign.Minus = true
is_negation _ = false

abbrev pub is_type : Word → Bool
is_type word.Int = true
is_type word.Bool = true
is_type word.Ref = true
is_type word.Perm = true
is_type _ = false

abbrev pub is_constant : Word → Bool
is_constant word.True = true
is_constant word.False = true
is_constant word.Null = true
is_constant word.Write = true
is_constant word.None = true
is_constant word.Wildcard = true
is_constant _ = false

abbrev pub is_check : Word → Bool
is_check word.Inhale = true
is_check word.Exhale = true
is_check word.Assert = true
is_check word.Assume = true
is_check _ = false

abbrev pub is_clause : Word → Bool
is_clause word.Requires = true
is_clause word.Ensures = true
is_clause _ = false

-- the words of a class
abbrev pub belongs : WordClass → Word → Bool
belongs class.Type w = is_type w
belongs class.Constant w = is_constant w
belongs class.Check w = is_check w
belongs class.Clause w = is_clause w

-- What may be asked of a token. The first argument says that some token passes, whatever the level is.
pub data Test : Bool → Kind → Type 0 where
  -- this word or sign
  this : Tok → Test true place
  a_name : Test true name
  a_number : Test true number
  -- a word of this class
  one_of : WordClass → Test true a_word
  -- `!` or `-`
  a_negation : Test true a_sign
  -- a binary operator of this level
  an_operator : ℕ → Test false a_sign

-- a token passes a test, and this is what is taken from it
abbrev pub Passes : {b : Bool} {r : Kind} → Test b r → Token → Value r → Type 0
Passes (this x) k at = (k.tok ≡ x) × (k.pos ≡ at)
Passes a_name k x = (k.tok ≡ tok.Name x.name) × (k.pos ≡ x.pos)
Passes a_number k n = (k.tok ≡ tok.Number n.0) × (k.pos ≡ n.1)
Passes (one_of c) k w = (k.tok ≡ tok.Word w.0) × (k.pos ≡ w.1) × IsTrue (belongs c w.0)
Passes a_negation k o = (k.tok ≡ tok.Sign o.0) × (k.pos ≡ o.1) × IsTrue (is_negation o.0)
Passes (an_operator n) k o = (k.tok ≡ tok.Sign o.0) × (k.pos ≡ o.1) × (level_of o.0 ≡ n) × (1 ≤ n)
