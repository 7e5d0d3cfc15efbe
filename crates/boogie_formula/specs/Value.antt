-- The value of a formula (Leino, This is Boogie 2, section 4): an expression has the value of the expression of a program that it
-- is, and two forms stand beside these, since a definition may be a map: a map but for one value, and a choice between maps.
use Rattle.std.specs.Prelude.{◌≡◌, ℕ, Bool as Truth, true, List, [], ◌∷◌, ◌++◌, Option, Some, None, slice_get, if◌then◌else◌}
use Rattle.std.specs.Option.{option_map}
use Rattle.sparse.specs.Map.{set}
use Rattle.vb_value.specs.Bound.{Unbounded}
use Rattle.vb_value.specs.Key.{key_cmp}
use Rattle.boogie_tree.specs.Expr as t
use Rattle.boogie_tree.specs.Value.{Key, BScalar, same_scalar, BValue, Many}
use Rattle.boogie_tree.specs.Values.{IsEnvironment}
use Rattle.boogie_meaning.specs.Ends.{End, Is, then_with, found}
use Rattle.boogie_meaning.specs.Operators.{as_truth}
use Rattle.boogie_meaning.specs.Value.{map_in}
use Rattle.boogie_meaning.specs.Quantified.{bvalue, bkey, one_of}
use Rattle.boogie_formula.specs.Formula as f
use Rattle.vb_base.specs.declared.labels.Label.{Label}
use Rattle.boogie_formula.specs.Formula.{FExpr, FExprs, Formula, Conditions}
use Rattle.boogie_formula.specs.declared.formulas.Fail.{Fail}

-- ---- the expression of a program that an expression is: each but the update of a map

abbrev pub two : {X Y Z : Type 0} → (X → Y → Z) → Option X → Option Y → Option Z
two go (Some x) o = option_map (go x) o
two go None o = None

abbrev pub three : {W X Y Z : Type 0} → (W → X → Y → Z) → Option W → Option X → Option Y → Option Z
three go (Some w) o p = two (go w) o p
three go None o p = None

abbrev mutual
  pub plain : FExpr → Option t.BExpr
  plain (f.Var i) = Some (t.Var i)
  plain (f.Int n) = Some (t.Int n)
  plain (f.Real n) = Some (t.Real n)
  plain (f.Bool p) = Some (t.Bool p)
  plain f.Null = Some t.Null
  plain f.Unit = Some t.Unit
  plain (f.Neg a) = option_map t.Neg (plain a)
  plain (f.Not a) = option_map t.Not (plain a)
  plain (f.Bin o x y) = two (t.Bin o) (plain x) (plain y)
  plain (f.If c x y) = three t.If (plain c) (plain x) (plain y)
  plain (f.Forall us a) = option_map (t.Forall us) (plain a)
  plain (f.ToReal a) = option_map t.ToReal (plain a)
  plain (f.SInt a) = option_map t.SInt (plain a)
  plain (f.SBool a) = option_map t.SBool (plain a)
  plain (f.SRef a) = option_map t.SRef (plain a)
  plain (f.SPerm a) = option_map t.SPerm (plain a)
  plain (f.Pair x y) = two t.Pair (plain x) (plain y)
  plain (f.At m es) = option_map (t.At m) (plain_all es)
  plain (f.AtBound m) = Some (t.AtBound m)
  plain (f.With m es e) = None

  pub plain_all : FExprs → Option t.BExprs
  plain_all f.none = Some t.none
  plain_all (f.more a es) = two t.more (plain a) (plain_all es)

-- ---- values

-- a value that is no map, by the values of all that is named so far
abbrev pub fvalue : FExpr → List BValue → End BScalar
fvalue e env = then_with (found (plain e)) (λ a. bvalue Unbounded a env)

-- the key that expressions make
abbrev pub fkey : FExprs → List BValue → End Key
fkey es env = then_with (found (plain_all es)) (λ a. bkey Unbounded a env)

-- the value of a definition, which may be a map
abbrev pub whole : FExpr → List BValue → End BValue
whole (f.Var i) env = found (slice_get env i)
whole (f.If c x y) env = then_with (as_truth (fvalue c env)) (λ p. if p then whole x env else whole y env)
whole (f.With m es e) env =
    then_with (whole m env) (λ w. then_with (map_in w) (λ n. then_with (fkey es env) (λ k. then_with (fvalue e env) (λ v.
    Is (Many (set key_cmp same_scalar n k v))))))
whole e env = one_of (fvalue e env)

-- the values of the variables, and behind them those of the definitions, one after the other
abbrev pub defined : List FExpr → List BValue → End (List BValue)
defined [] env = Is env
defined (e ∷ es) env = then_with (whole e env) (λ v. defined es (env ++ v ∷ []))

-- the truth of the goal where the variables have these values, without a bound
abbrev pub formula_value : Formula → List BValue → End Truth
formula_value f env = then_with (defined f.lets env) (λ all. as_truth (fvalue f.goal all))

-- it is true at all values of its variables' types
pub record Valid (f : Formula) : Type 0 where
  pub holds : (env : List BValue) → IsEnvironment f.vars env → formula_value f env ≡ Is true

-- ---- conditions

-- the truth of what has this name, where the variables have these values
abbrev pub truth_named : Conditions → List BValue → ℕ → End Truth
truth_named x env j = then_with (defined x.lets env) (λ all. as_truth (fvalue (f.Var j) all))

-- where the variables have these values, an assertion with this label fails
pub record FailsIn (x : Conditions) (env : List BValue) (label : Label) : Type 0 where
  pub number : ℕ
  pub assertion : Fail
  pub is_there : slice_get x.fails number ≡ Some assertion
  pub is_labelled : assertion.label ≡ label
  pub fails : truth_named x env assertion.name ≡ Is true

-- an assertion with this label fails at some values of the variables' types
pub record CanFail (x : Conditions) (label : Label) : Type 0 where
  pub values : List BValue
  pub are_typed : IsEnvironment x.vars values
  pub fails : FailsIn x values label
