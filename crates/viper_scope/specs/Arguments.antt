-- Typed arguments against their parameters: first their number is compared (rule 9), then the types, from left to right (3).
use Rattle.std.specs.Prelude.{Bool, true, false, if◌then◌else◌, Option, Some, None, List, [], ◌∷◌}
use Rattle.vb_base.specs.declared.places.Pos.{Pos}
use Rattle.vb_value.specs.Value.{same_type}
use Rattle.vb_value.specs.declared.values.Ty.{Ty}
use Rattle.viper_core.specs.Expr as e
use Rattle.viper_syntax.specs.Term as t
use Rattle.viper_scope.specs.declared.rules.Rule.TheVariants as rule
use Rattle.viper_scope.specs.Outcome.{Judged, Found, obeys, clear_of}

-- a typed expression
abbrev pub Typing : Type 0
Typing = e.Expr × Ty

-- the leftmost token of a term, parentheses not counted
abbrev pub start : t.Term → Pos
start (t.Name x at) = at
start (t.Number n at) = at
start (t.Constant w at) = at
start (t.Unary o a at) = at
start (t.Binary o a b at) = start a
start (t.Choose a b c at) = start a
start (t.Field a f at) = start a
start (t.Old a at) = at
start (t.Acc a m at) = at
start (t.Inst x args at) = at
start (t.Unfolding x args m a at name_at) = at

-- whether there are as many arguments as parameters
abbrev pub as_many : {X Y : Type 0} → List X → List Y → Bool
as_many [] [] = true
as_many [] (y ∷ ys) = false
as_many (x ∷ xs) [] = false
as_many (x ∷ xs) (y ∷ ys) = as_many xs ys

-- the start of the first argument that is not of its parameter's type
abbrev pub misfit : t.Terms → List Typing → List Ty → Option Pos
misfit t.none xs us = None
misfit (t.more a rest) [] us = None
misfit (t.more a rest) (x ∷ xs) [] = None
misfit (t.more a rest) (x ∷ xs) (u ∷ us) = if same_type x.1 u then misfit rest xs us else Some (start a)

-- the expressions of typed arguments
abbrev pub exprs_in : List Typing → e.Exprs
exprs_in [] = e.none
exprs_in (x ∷ xs) = e.more x.0 (exprs_in xs)

-- typed arguments for these parameters
abbrev pub fitted : t.Terms → List Ty → Pos → List Typing → Judged e.Exprs
fitted args params at xs = obeys (as_many xs params) at rule.ArgumentCount (clear_of (misfit args xs params) rule.WrongType (Found (exprs_in xs)))
