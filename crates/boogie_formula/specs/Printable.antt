-- Which formulas and conditions have a text that is read back as them: literals are from 0 to the greatest, each number names a variable or a
-- definition before it, no `forall` stands in another, lists of keys and of bound variables are what a text can show, and each
-- map that is changed has a name.
use Rattle.std.specs.Prelude.{◌≡◌, ◌≢◌, ◌+◌, ◌<◌, ◌≤◌, ⊤, ℕ, false, All, List, [], ◌∷◌, Some, length}
use Rattle.boogie_tree.specs.Expr as t
use Rattle.boogie_tree.specs.Fits.{FitsExpr, FitExprs}
use Rattle.boogie_meaning.specs.Programs.{HaveKeys}
use Rattle.boogie_formula.specs.Formula as f
use Rattle.boogie_formula.specs.Formula.{FExpr, FExprs, Formula, Conditions}
use Rattle.boogie_formula.specs.declared.formulas.Fail.{Fail}
use Rattle.boogie_formula.specs.Value.{plain, plain_all}

-- an expression of a program that has a text, where n names are in scope
pub record FitsScalar (n : ℕ) (e : FExpr) : Type 0 where
  pub tree : t.BExpr
  pub is : plain e ≡ Some tree
  pub fits : FitsExpr n false tree

-- such keys, at least one
pub record FitKeys (n : ℕ) (es : FExprs) : Type 0 where
  pub trees : t.BExprs
  pub is : plain_all es ≡ Some trees
  pub some : trees ≢ t.none
  pub fits : FitExprs n false trees

-- what may be a map: an expression of a program, a map that has a name but for one value, or a choice between two of these
pub data FitsValue (n : ℕ) : FExpr → Type 0 where
  scalar : {e : FExpr} → FitsScalar n e → FitsValue n e
  update : {i : ℕ} {es : FExprs} {e : FExpr} → i < n → FitKeys n es → FitsScalar n e → FitsValue n (f.With (f.Var i) es e)
  choice : {c x y : FExpr} → FitsScalar n c → FitsValue n x → FitsValue n y → FitsValue n (f.If c x y)

-- definitions, where n names are in scope of the first
abbrev pub FitLets : ℕ → List FExpr → Type 0
FitLets n [] = ⊤
FitLets n (e ∷ es) = FitsValue n e × FitLets (n + 1) es

pub record IsPrintableFormula (x : Formula) : Type 0 where
  pub keys : HaveKeys x.vars
  pub lets : FitLets (length x.vars) x.lets
  pub goal : FitsScalar (length x.vars + length x.lets) x.goal

-- it names a definition
pub record NamesDefinition (x : Conditions) (a : Fail) : Type 0 where
  pub behind : length x.vars ≤ a.name
  pub there : a.name < length x.vars + length x.lets

pub record IsPrintableConditions (x : Conditions) : Type 0 where
  pub keys : HaveKeys x.vars
  pub lets : FitLets (length x.vars) x.lets
  pub fails : All (NamesDefinition x) x.fails
