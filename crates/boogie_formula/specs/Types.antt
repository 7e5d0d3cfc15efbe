-- Types of formulas and conditions: an expression has the type of the expression of a program that it is, and a definition may be a map.
use Rattle.std.specs.Prelude.{◌≡◌, All, List, [], ◌∷◌, ◌++◌, Option, Some, None, slice_get, if◌then◌else◌}
use Rattle.boogie_tree.specs.Program.{BType}
use Rattle.boogie_tree.specs.Values.{same_type, plain_type}
use Rattle.boogie_tree.specs.declared.exprs.BBase.{BBase}
use Rattle.boogie_tree.specs.declared.exprs.BBase.TheVariants as base
use Rattle.boogie_meaning.specs.Programs.{HaveKeys}
use Rattle.boogie_meaning.specs.Types.{then_some, base_of, bases_of, is_base, is_put}
use Rattle.boogie_formula.specs.Formula as f
use Rattle.boogie_formula.specs.Formula.{FExpr, FExprs, Formula, Conditions}
use Rattle.boogie_formula.specs.declared.formulas.Fail.{Fail}
use Rattle.boogie_formula.specs.Value.{plain, plain_all}

-- the type of an expression that is no map, by the types of all that is named so far, if it has one
abbrev pub fbase : List BType → FExpr → Option BBase
fbase ls e = then_some (plain e) (base_of ls None)

abbrev pub fbases : List BType → FExprs → Option (List BBase)
fbases ls es = then_some (plain_all es) (bases_of ls None)

-- the type of both
abbrev pub one_type : BType → BType → Option BType
one_type u w = if same_type u w then Some u else None

-- the type of a definition, which may be that of a map
abbrev pub whole_type : List BType → FExpr → Option BType
whole_type ls (f.Var i) = slice_get ls i
whole_type ls (f.If c x y) =
    if is_base (fbase ls c) base.Bool then then_some (whole_type ls x) (λ u. then_some (whole_type ls y) (one_type u)) else None
whole_type ls (f.With m es e) =
    then_some (whole_type ls m) (λ u. if is_put (Some u) (fbases ls es) (fbase ls e) then Some u else None)
whole_type ls e = then_some (fbase ls e) (λ u. Some (plain_type u))

-- the types of the variables, and behind them those of the definitions, one after the other
abbrev pub defined_types : List FExpr → List BType → Option (List BType)
defined_types [] ls = Some ls
defined_types (e ∷ es) ls = then_some (whole_type ls e) (λ u. defined_types es (ls ++ u ∷ []))

-- the types of the variables are types, each definition has one, and the goal is a bool
pub record IsTypedFormula (f : Formula) : Type 0 where
  pub keys : HaveKeys f.vars
  pub all : List BType
  pub lets : defined_types f.lets f.vars ≡ Some all
  pub goal : fbase all f.goal ≡ Some base.Bool

-- the name is that of a bool
abbrev pub IsBool : List BType → Fail → Type 0
IsBool ls a = slice_get ls a.name ≡ Some (plain_type base.Bool)

-- the types of the variables are types, each definition has one, and that which says that an assertion fails is a bool
pub record IsTypedConditions (x : Conditions) : Type 0 where
  pub keys : HaveKeys x.vars
  pub all : List BType
  pub lets : defined_types x.lets x.vars ≡ Some all
  pub fails : All (IsBool all) x.fails
