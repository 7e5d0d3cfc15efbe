-- What the grammar builds, and what it asks of a single token. The conditions on names are such questions, which depend on
-- the names in scope: so they count as spelling.
use Rattle.std.specs.Prelude.{◌≡◌, ℕ, ℤ, zero, suc, Bool, true, false, not, List, [], ◌∷◌, Option, Some, None, if◌then◌else◌}
use Rattle.std.specs.Option.{option_map}
use Rattle.std.specs.List.{list_any}
use Rattle.std.specs.Str.{bytes_eq}
use Rattle.vb_base.specs.declared.labels.Label.{Label}
use Rattle.boogie_tree.specs.Expr.{BExpr}
use Rattle.boogie_tree.specs.Stmt.{BStmt, BStmts}
use Rattle.boogie_tree.specs.Program.{BType, Local, Proc}
use Rattle.boogie_tree.specs.Values.{is_key}
use Rattle.boogie_tree.specs.declared.exprs.BBase.{BBase}
use Rattle.boogie_tree.specs.declared.exprs.BOp.{BOp}
use Rattle.boogie_grammar.specs.declared.tokens.BSign.{BSign}
use Rattle.boogie_grammar.specs.declared.tokens.Lexeme.{Lexeme}
use Rattle.boogie_grammar.specs.declared.tokens.Lexeme.TheVariants as tok
use Rattle.boogie_grammar.specs.declared.tokens.PlacedLexeme.{PlacedLexeme}
use Rattle.boogie_grammar.specs.declared.tokens.BoogieWord.{BoogieWord}
use Rattle.boogie_grammar.specs.Words.{is_among, is_reserved, word_tok, base_word, operator_tok}

-- what a `forall` binds: its names and their types
pub record Binding : Type 0 where
  pub names : List (List ℕ)
  pub types : List BBase

-- the kinds of what the grammar builds
pub data Kind : Type 0 where
  nothing : Kind
  name : Kind
  variable : Kind
  integer : Kind
  label : Kind
  base_type : Kind
  bases : Kind
  a_type : Kind
  operator : Kind
  expr : Kind
  exprs : Kind
  binding : Kind
  stmt : Kind
  stmts : Kind
  block : Kind
  locals : Kind
  proc : Kind
  procs : Kind

abbrev pub Value : Kind → Type 0
Value nothing = Unit {0}
Value name = List ℕ
Value variable = ℕ
Value integer = ℤ
Value label = Label
Value base_type = BBase
Value bases = List BBase
Value a_type = BType
Value operator = BOp
Value expr = BExpr
Value exprs = List BExpr
Value binding = Binding
Value stmt = BStmt
Value stmts = List BStmt
Value block = BStmts
Value locals = List Local
Value proc = Proc
Value procs = List Proc

-- the number of the first of these names that is this one
abbrev pub number_of : List ℕ → List (List ℕ) → Option ℕ
number_of x [] = None
number_of x (y ∷ ys) = if bytes_eq x y then Some zero else option_map suc (number_of x ys)

-- whether one of these names is not reserved, so that it can be named
abbrev pub some_free : List (List ℕ) → Bool
some_free names = list_any (λ x. not (is_reserved x)) names

-- What may be asked of a token.
pub data Test : Bool → Kind → Type 0 where
  the_sign : BSign → Test true nothing
  the_word : BoogieWord → Test true nothing
  -- this name
  the_name : List ℕ → Test true nothing
  -- a name that is not reserved, and none of these
  a_new_name : List (List ℕ) → Test true name
  -- one of these names, some of which can be named
  a_variable : (names : List (List ℕ)) → some_free names ≡ true → Test true variable
  a_number : Test true integer
  a_real : Test true integer
  a_label : Test true label
  -- the word of a type, and of a type of keys
  a_base : Test true base_type
  a_key : Test true base_type
  an_operator : Test true operator

-- the token is a name that is not reserved, and of these the first that is so has this number
pub record IsVariable (names : List (List ℕ)) (k : Lexeme) (i : ℕ) : Type 0 where
  pub name : List ℕ
  pub is : k ≡ tok.Name name
  pub free : is_reserved name ≡ false
  pub there : number_of name names ≡ Some i

-- a token passes a test, and this is what is taken from it
abbrev pub Passes : {b : Bool} {r : Kind} → Test b r → PlacedLexeme → Value r → Type 0
Passes (the_sign o) k v = k.tok ≡ tok.Sign o
Passes (the_word w) k v = k.tok ≡ word_tok w
Passes (the_name x) k v = k.tok ≡ tok.Name x
Passes (a_new_name taken) k x = (k.tok ≡ tok.Name x) × (is_reserved x ≡ false) × (is_among x taken ≡ false)
Passes (a_variable names some) k i = IsVariable names k.tok i
Passes a_number k n = k.tok ≡ tok.Number n
Passes a_real k n = k.tok ≡ tok.Real n
Passes a_label k l = k.tok ≡ tok.Text l
Passes a_base k u = k.tok ≡ word_tok (base_word u)
Passes a_key k u = (k.tok ≡ word_tok (base_word u)) × (is_key u ≡ true)
Passes an_operator k o = k.tok ≡ operator_tok o
