-- What expressions that are well-typed mean without a bound: they have a value, and it is theirs wherever the variables that they
-- look at have the same values.
use Rattle.std.proofs.Common.{◌≡◌, ℕ, Some, None, List, slice_get, refl, sym, ap, ◌∙◌}
use Rattle.vb_value.specs.Bound.{Unbounded}
use Rattle.boogie_tree.specs.Expr as t
use Rattle.boogie_tree.specs.Program.{BType}
use Rattle.boogie_tree.specs.Value.{BValue}
use Rattle.boogie_tree.specs.Values.{plain_type, IsEnvironment, IsOfType}
use Rattle.boogie_tree.specs.declared.exprs.BBase.{BBase}
use Rattle.boogie_meaning.specs.Ends.{Is, found}
use Rattle.boogie_meaning.specs.Quantified.{bvalue, bkey, one_of, side}
use Rattle.boogie_meaning.specs.Renamed.{renamed, renamed_in}
use Rattle.boogie_meaning.specs.Types.{HasType, var, at, HaveTypes, none, more, SideHasType, whole as whole_variable, value as expression}
use Rattle.boogie_meaning.proofs.RenamedLaws.{bvalue_same, bkey_same, variables, variables_in}
use Rattle.boogie_meaning.proofs.TypedLaws.{side_keeps}
use Rattle.boogie_meaning.proofs.BoundLaws.{is_value, goes_not_over, side_bounded}

-- ---- the same numbers

abbrev pub own : ℕ → ℕ
own i = i

mutual
  pub renamed_own : (e : t.BExpr) → renamed own e ≡ e
  renamed_own (t.Var i) = refl
  renamed_own (t.Int n) = refl
  renamed_own (t.Real n) = refl
  renamed_own (t.Bool p) = refl
  renamed_own t.Null = refl
  renamed_own t.Unit = refl
  renamed_own (t.Neg a) = ap t.Neg (renamed_own a)
  renamed_own (t.Not a) = ap t.Not (renamed_own a)
  renamed_own (t.Bin o x y) = let p = renamed_own x in let q = renamed_own y in λ i. t.Bin o (p i) (q i)
  renamed_own (t.If c x y) = let o = renamed_own c in let p = renamed_own x in let q = renamed_own y in λ i. t.If (o i) (p i) (q i)
  renamed_own (t.Forall us a) = ap (t.Forall us) (renamed_own a)
  renamed_own (t.ToReal a) = ap t.ToReal (renamed_own a)
  renamed_own (t.SInt a) = ap t.SInt (renamed_own a)
  renamed_own (t.SBool a) = ap t.SBool (renamed_own a)
  renamed_own (t.SRef a) = ap t.SRef (renamed_own a)
  renamed_own (t.SPerm a) = ap t.SPerm (renamed_own a)
  renamed_own (t.Pair x y) = let p = renamed_own x in let q = renamed_own y in λ i. t.Pair (p i) (q i)
  renamed_own (t.At m es) = ap (t.At m) (renamed_own_in es)
  renamed_own (t.AtBound m) = refl

  pub renamed_own_in : (es : t.BExprs) → renamed_in own es ≡ es
  renamed_own_in t.none = refl
  renamed_own_in (t.more a es) = let p = renamed_own a in let q = renamed_own_in es in λ i. t.more (p i) (q i)

-- ---- without a bound there is a value

module _ (ls : List BType) (env : List BValue) (h : IsEnvironment ls env) where
  pub side_there : (e : t.BExpr) (u : BType) → SideHasType ls e u → (v : BValue) × (side Unbounded e env ≡ Is v) × IsOfType v u
  side_there e u w = is_value (side_keeps Unbounded ls env h e u w) (goes_not_over (side_bounded e env))

-- ---- among other values, under the same numbers and under others

module _ (ls : List BType) (env all : List BValue) (f : ℕ → ℕ) (same : (i : ℕ) (u : BType) → slice_get ls i ≡ Some u → slice_get all (f i) ≡ slice_get env i) where
  pub renamed_value : (e : t.BExpr) (u : BBase) → HasType ls None e u → bvalue Unbounded (renamed f e) all ≡ bvalue Unbounded e env
  renamed_value e u h = bvalue_same Unbounded f env all e (variables ls (λ i. slice_get all (f i) ≡ slice_get env i) same h)

module _ (ls : List BType) (env all : List BValue) (same : (i : ℕ) (u : BType) → slice_get ls i ≡ Some u → slice_get all i ≡ slice_get env i) where
  pub own_value : (e : t.BExpr) (u : BBase) → HasType ls None e u → bvalue Unbounded e all ≡ bvalue Unbounded e env
  own_value e u h = ap (λ a. bvalue Unbounded a all) (sym (renamed_own e)) ∙ renamed_value ls env all own same e u h

  pub own_key : (es : t.BExprs) (us : List BBase) → HaveTypes ls None es us → bkey Unbounded es all ≡ bkey Unbounded es env
  own_key es us h =
      ap (λ a. bkey Unbounded a all) (sym (renamed_own_in es))
      ∙ bkey_same Unbounded own env all es (variables_in ls (λ i. slice_get all i ≡ slice_get env i) same h)

  pub own_side : (e : t.BExpr) (u : BType) → SideHasType ls e u → side Unbounded e all ≡ side Unbounded e env
  own_side (t.Var i) u (whole_variable l) = ap found (same i u l)
  own_side (t.Var i) _ (expression {u = u} (var l)) = ap found (same i (plain_type u) l)
  own_side e _ (expression {u = u} w) = ap one_of (own_value e u w)
