-- Which bytes spell which formula, and which conditions. A text is lines, each ended by the byte 10. That of a formula is
-- `vc NAME LABEL`, a line for each variable, a line for each definition, and the goal; that of conditions is `conditions NAME`, the
-- same lines of variables and definitions, and a line for each assertion. Types and expressions are those of the language of
-- programs, in its tokens and by its grammar; the names in scope are those of the variables and of the definitions before. Beside
-- these a definition may be the update of a map, or a choice between maps.
use Rattle.std.specs.Prelude.{◌≡◌, ◌+◌, ◌++◌, ℕ, true, List, [], ◌∷◌, Some, codes}
use Rattle.std.specs.List.{list_all}
use Rattle.vb_base.specs.Labels.{text_of}
use Rattle.vb_base.specs.Names.{is_name}
use Rattle.vb_base.specs.declared.labels.Label.{Label}
use Rattle.grammar.specs.Spells.{Derives}
use Rattle.boogie_tree.specs.Expr as t
use Rattle.boogie_tree.specs.Program.{BType}
use Rattle.boogie_grammar.specs.Cut.{IsRow}
use Rattle.boogie_grammar.specs.Grammar.{Expr, TypeOf, outside, rule, rules}
use Rattle.boogie_grammar.specs.Pieces.{is_in_line}
use Rattle.boogie_grammar.specs.Tests.{a_type, expr, number_of, IsVariable}
use Rattle.boogie_grammar.specs.Words.{word_tok}
use Rattle.boogie_grammar.specs.declared.tokens.BSign.TheVariants as sign
use Rattle.boogie_grammar.specs.declared.tokens.Lexeme.TheVariants as tok
use Rattle.boogie_grammar.specs.declared.tokens.PlacedLexeme.{PlacedLexeme}
use Rattle.boogie_grammar.specs.declared.tokens.BoogieWord.TheVariants as w
use Rattle.boogie_print.specs.Printable.{IsFreeName}
use Rattle.boogie_formula.specs.Formula.{FExpr, If, With, FExprs, none, more, Formula, Conditions}
use Rattle.boogie_formula.specs.Value.{plain}
use Rattle.boogie_formula.specs.declared.formulas.Fail.{Fail}
use Rattle.boogie_formula_text.specs.Names.{variable_name, definition_name, numbered, names_in_scope}

-- ---- expressions

-- the tokens spell an expression of a program
pub record SpellsScalar (names : List (List ℕ)) (ts : List PlacedLexeme) (e : FExpr) : Type 0 where
  pub tree : t.BExpr
  pub derived : Derives rules expr (rule (Expr (outside names))) ts tree
  pub is : plain e ≡ Some tree

-- bexpr { "," bexpr }
pub data SpellsKeys (names : List (List ℕ)) : List PlacedLexeme → FExprs → Type 0 where
  last : {ts : List PlacedLexeme} {e : FExpr} → SpellsScalar names ts e → SpellsKeys names ts (more e none)
  before : {ts us : List PlacedLexeme} (comma : PlacedLexeme) {e : FExpr} {es : FExprs} →
      SpellsScalar names ts e → comma.tok ≡ tok.Sign sign.Comma → SpellsKeys names us es →
      SpellsKeys names (ts ++ comma ∷ us) (more e es)

-- value = bexpr
--       | name "[" bexpr { "," bexpr } ":=" bexpr "]"
--       | "(" "if" bexpr "then" value "else" value ")"
pub data SpellsValue (names : List (List ℕ)) : List PlacedLexeme → FExpr → Type 0 where
  scalar : {ts : List PlacedLexeme} {e : FExpr} → SpellsScalar names ts e → SpellsValue names ts e
  update : {ts us : List PlacedLexeme} (name opening assign closing : PlacedLexeme) {i : ℕ} {es : FExprs} {e : FExpr} →
      IsVariable names name.tok i → opening.tok ≡ tok.Sign sign.OpenBracket → SpellsKeys names ts es →
      assign.tok ≡ tok.Sign sign.Assign → SpellsScalar names us e → closing.tok ≡ tok.Sign sign.CloseBracket →
      SpellsValue names (name ∷ opening ∷ (ts ++ assign ∷ (us ++ closing ∷ []))) (With (FExpr.Var i) es e)
  choice : {ts us vs : List PlacedLexeme} (opening word_if word_then word_else closing : PlacedLexeme) {c x y : FExpr} →
      opening.tok ≡ tok.Sign sign.OpenParen → word_if.tok ≡ word_tok w.If → SpellsScalar names ts c →
      word_then.tok ≡ word_tok w.Then → SpellsValue names us x →
      word_else.tok ≡ word_tok w.Else → SpellsValue names vs y → closing.tok ≡ tok.Sign sign.CloseParen →
      SpellsValue names (opening ∷ word_if ∷ (ts ++ word_then ∷ (us ++ word_else ∷ (vs ++ closing ∷ [])))) (If c x y)

-- ---- lines

-- the bytes have no byte that ends a line, and are tokens and blanks that spell this
pub record Line {X : Type 0} (Says : List PlacedLexeme → X → Type 0) (bytes : List ℕ) (x : X) : Type 0 where
  pub tokens : List PlacedLexeme
  pub in_line : list_all is_in_line bytes ≡ true
  pub cut : IsRow bytes tokens
  pub says : Says tokens x

-- after n variables and k definitions: `let dK := E` for each further one, and then what stands at the end
pub data SpellsLets {X : Type 0} (SpellsEnd : ℕ → ℕ → List ℕ → X → Type 0) (n : ℕ) : ℕ → List ℕ → List FExpr → X → Type 0 where
  end : {k : ℕ} {bytes : List ℕ} {x : X} → SpellsEnd n k bytes x → SpellsLets SpellsEnd n k bytes [] x
  define : {k : ℕ} {line rest : List ℕ} {e : FExpr} {x : X} {es : List FExpr} → Line (SpellsValue (names_in_scope n k)) line e →
      SpellsLets SpellsEnd n (k + 1) rest es x → SpellsLets SpellsEnd n k (codes "let " ++ definition_name (k + 1) ++ codes " := " ++ line ++ 10 ∷ rest) (e ∷ es) x

-- after n variables: `var vK: TYPE` for each further one, and then definitions and what stands at the end
pub data SpellsVars {X : Type 0} (SpellsEnd : ℕ → ℕ → List ℕ → X → Type 0) : ℕ → List ℕ → List BType → List FExpr → X → Type 0 where
  lets : {n : ℕ} {bytes : List ℕ} {es : List FExpr} {x : X} → SpellsLets SpellsEnd n 0 bytes es x → SpellsVars SpellsEnd n bytes [] es x
  variable : {n : ℕ} {line rest : List ℕ} {u : BType} {us : List BType} {es : List FExpr} {x : X} →
      Line (λ ts u. Derives rules a_type (rule TypeOf) ts u) line u → SpellsVars SpellsEnd (n + 1) rest us es x →
      SpellsVars SpellsEnd n (codes "var " ++ variable_name (n + 1) ++ codes ": " ++ line ++ 10 ∷ rest) (u ∷ us) es x

-- ---- a formula

-- after n variables and k definitions: `goal E`
pub data SpellsGoal (n k : ℕ) : List ℕ → FExpr → Type 0 where
  goal : {line : List ℕ} {e : FExpr} → Line (SpellsScalar (names_in_scope n k)) line e → SpellsGoal n k (codes "goal " ++ line ++ 10 ∷ []) e

-- the bytes spell the formula, as that of the procedure of this name and of this label
pub record SpellsFormula (bytes : List ℕ) (name : List ℕ) (label : Label) (f : Formula) : Type 0 where
  pub rest : List ℕ
  pub text : bytes ≡ codes "vc " ++ name ++ codes " " ++ text_of label ++ 10 ∷ rest
  pub free : IsFreeName name
  pub lines : SpellsVars SpellsGoal 0 rest f.vars f.lets f.goal

-- ---- conditions

-- the word is the name of a definition, which has this number
pub record IsDefinition (n k : ℕ) (word : List ℕ) (number : ℕ) : Type 0 where
  pub form : is_name word ≡ true
  pub place : ℕ
  pub is_there : number_of word (numbered definition_name 1 k) ≡ Some place
  pub is : number ≡ n + place

-- after n variables and k definitions: `fails LABEL dK` for each assertion
pub data SpellsFails (n k : ℕ) : List ℕ → List Fail → Type 0 where
  done : SpellsFails n k [] []
  fail : {word rest : List ℕ} {a : Fail} {fs : List Fail} → IsDefinition n k word a.name → SpellsFails n k rest fs →
      SpellsFails n k (codes "fails " ++ text_of a.label ++ codes " " ++ word ++ 10 ∷ rest) (a ∷ fs)

-- the bytes spell the conditions, as those of the procedure of this name
pub record SpellsConditions (bytes : List ℕ) (name : List ℕ) (x : Conditions) : Type 0 where
  pub rest : List ℕ
  pub text : bytes ≡ codes "conditions " ++ name ++ 10 ∷ rest
  pub free : IsFreeName name
  pub lines : SpellsVars SpellsFails 0 rest x.vars x.lets x.fails
