-- The text that is written for a formula, and for conditions.
use Rattle.std.specs.Prelude.{◌+◌, ◌++◌, ℕ, List, [], ◌∷◌, length, codes}
use Rattle.std.specs.Fmt.{signed_decimal}
use Rattle.vb_base.specs.Labels.{text_of}
use Rattle.vb_base.specs.declared.labels.Label.{Label}
use Rattle.boogie_tree.specs.Program.{BType}
use Rattle.boogie_grammar.specs.Printed.{Naming, name_at, operator_text, truth_text, names_text, binders_text, bound_names, under, type_text}
use Rattle.boogie_formula.specs.Formula as f
use Rattle.boogie_formula.specs.Formula.{FExpr, FExprs, Formula, Conditions}
use Rattle.boogie_formula.specs.declared.formulas.Fail.{Fail}
use Rattle.boogie_formula_text.specs.Names.{variable_name, definition_name, names_in_scope}

-- the names of n variables and k definitions
abbrev pub scope_naming : ℕ → ℕ → Naming
scope_naming n k = record { locals = names_in_scope n k; taken = []; bound = [] }

abbrev mutual
  pub fexpr_text : Naming → FExpr → List ℕ
  fexpr_text x (f.Var i) = name_at x.locals i
  fexpr_text x (f.Int n) = signed_decimal n
  fexpr_text x (f.Real n) = signed_decimal n ++ codes ".0"
  fexpr_text x (f.Bool b) = truth_text b
  fexpr_text x f.Null = codes "null"
  fexpr_text x f.Unit = codes "sUnit"
  fexpr_text x (f.Neg a) = codes "(- " ++ fexpr_text x a ++ codes ")"
  fexpr_text x (f.Not a) = codes "(! " ++ fexpr_text x a ++ codes ")"
  fexpr_text x (f.Bin o a b) = codes "(" ++ fexpr_text x a ++ codes " " ++ operator_text o ++ codes " " ++ fexpr_text x b ++ codes ")"
  fexpr_text x (f.If a b c) = codes "(if " ++ fexpr_text x a ++ codes " then " ++ fexpr_text x b ++ codes " else " ++ fexpr_text x c ++ codes ")"
  fexpr_text x (f.Forall us a) = codes "(forall " ++ binders_text [] (bound_names x.taken [] us) us ++ codes " :: " ++ fexpr_text (under x us) a ++ codes ")"
  fexpr_text x (f.ToReal a) = codes "real(" ++ fexpr_text x a ++ codes ")"
  fexpr_text x (f.SInt a) = codes "sInt(" ++ fexpr_text x a ++ codes ")"
  fexpr_text x (f.SBool a) = codes "sBool(" ++ fexpr_text x a ++ codes ")"
  fexpr_text x (f.SRef a) = codes "sRef(" ++ fexpr_text x a ++ codes ")"
  fexpr_text x (f.SPerm a) = codes "sPerm(" ++ fexpr_text x a ++ codes ")"
  fexpr_text x (f.Pair a b) = codes "sPair(" ++ fexpr_text x a ++ codes ", " ++ fexpr_text x b ++ codes ")"
  fexpr_text x (f.At i es) = name_at x.locals i ++ codes "[" ++ fexprs_text x [] es ++ codes "]"
  fexpr_text x (f.AtBound i) = name_at x.locals i ++ codes "[" ++ names_text [] x.bound ++ codes "]"
  fexpr_text x (f.With m es e) = fexpr_text x m ++ codes "[" ++ fexprs_text x [] es ++ codes " := " ++ fexpr_text x e ++ codes "]"

  pub fexprs_text : Naming → List ℕ → FExprs → List ℕ
  fexprs_text x before f.none = []
  fexprs_text x before (f.more a es) = before ++ fexpr_text x a ++ fexprs_text x (codes ", ") es

-- a line for each variable, where n are before them
abbrev pub variables_text : ℕ → List BType → List ℕ
variables_text n [] = []
variables_text n (u ∷ us) = codes "var " ++ variable_name (n + 1) ++ codes ": " ++ type_text u ++ codes "\n" ++ variables_text (n + 1) us

-- a line for each definition, where n variables and k definitions are before them
abbrev pub definitions_text : ℕ → ℕ → List FExpr → List ℕ
definitions_text n k [] = []
definitions_text n k (e ∷ es) =
    codes "let " ++ definition_name (k + 1) ++ codes " := " ++ fexpr_text (scope_naming n k) e ++ codes "\n" ++ definitions_text n (k + 1) es

abbrev pub goal_text : ℕ → ℕ → FExpr → List ℕ
goal_text n k e = codes "goal " ++ fexpr_text (scope_naming n k) e ++ codes "\n"

abbrev pub formula_text : List ℕ → Label → Formula → List ℕ
formula_text name label x =
    codes "vc " ++ name ++ codes " " ++ text_of label ++ codes "\n" ++ variables_text 0 x.vars ++ definitions_text (length x.vars) 0 x.lets ++
    goal_text (length x.vars) (length x.lets) x.goal

-- a line for each assertion, where there are n variables and k definitions
abbrev pub fails_text : ℕ → ℕ → List Fail → List ℕ
fails_text n k [] = []
fails_text n k (a ∷ fs) = codes "fails " ++ text_of a.label ++ codes " " ++ name_at (names_in_scope n k) a.name ++ codes "\n" ++ fails_text n k fs

abbrev pub conditions_text : List ℕ → Conditions → List ℕ
conditions_text name x =
    codes "conditions " ++ name ++ codes "\n" ++ variables_text 0 x.vars ++ definitions_text (length x.vars) 0 x.lets ++
    fails_text (length x.vars) (length x.lets) x.fails
