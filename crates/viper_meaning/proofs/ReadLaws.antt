-- What is read in a proper state is proper, without a bound.
use Rattle.std.specs.Prelude.{All}
use Rattle.vb_value.specs.Bound.{Unbounded}
use Rattle.vb_value.specs.Content.{Content, IsProperContent}
use Rattle.vb_value.specs.Fraction.{IsReduced, IsProperFraction}
use Rattle.vb_value.specs.Key.{IsProperKey}
use Rattle.vb_value.specs.Value.{IsProperValue}
use Rattle.viper_core.specs.Expr as t
use Rattle.viper_core.specs.Literals.{IsProperExpr, AreProperExprs, IsProperAmount}
use Rattle.viper_state.specs.State.{State}
use Rattle.viper_state.specs.Run.{Scene}
use Rattle.viper_state.specs.Within.{IsProperEvent, IsProperState, IsProperScene}
use Rattle.viper_meaning.specs.Ends.{Evaluated}
use Rattle.viper_meaning.specs.Kept.{Keeps}
use Rattle.viper_meaning.specs.Places.{pair_of}
use Rattle.viper_meaning.specs.Value.{values, perm_in, amount_of}
use Rattle.viper_meaning.proofs.ClosedLaws.{proper_closed}
use Rattle.viper_meaning.proofs.KeptLaws as k

abbrev pub IsProperRead : {X : Type 0} → (X → Type 0) → Evaluated X → Type 0
IsProperRead P e = Keeps (IsProperEvent Unbounded) P e

pub values_proper : (es : t.Exprs) (s : State) (sc : Scene) → AreProperExprs Unbounded es → IsProperState Unbounded s → IsProperScene Unbounded sc → IsProperRead (All (IsProperValue Unbounded)) (values Unbounded es s sc)
values_proper = k.values_kept Unbounded (IsProperFraction Unbounded) IsReduced (IsProperValue Unbounded) (IsProperKey Unbounded) (IsProperContent Unbounded) (proper_closed Unbounded)

pub perm_proper : (e : t.Expr) (s : State) (sc : Scene) → IsProperExpr Unbounded e → IsProperState Unbounded s → IsProperScene Unbounded sc → IsProperRead (IsProperFraction Unbounded) (perm_in Unbounded e s sc)
perm_proper e s sc i h g =
    k.perm_kept Unbounded (IsProperFraction Unbounded) IsReduced (IsProperValue Unbounded) (IsProperKey Unbounded) (IsProperContent Unbounded) (proper_closed Unbounded)
    (k.value_kept Unbounded (IsProperFraction Unbounded) IsReduced (IsProperValue Unbounded) (IsProperKey Unbounded) (IsProperContent Unbounded) (proper_closed Unbounded) e s sc i h g)

pub amount_proper : (m : t.Amt) (s : State) (sc : Scene) → IsProperAmount Unbounded m → IsProperState Unbounded s → IsProperScene Unbounded sc → IsProperRead (IsProperFraction Unbounded) (amount_of Unbounded m s sc)
amount_proper = k.amount_kept Unbounded (IsProperFraction Unbounded) IsReduced (IsProperValue Unbounded) (IsProperKey Unbounded) (IsProperContent Unbounded) (proper_closed Unbounded)

pub parts_proper : (c : Content) → IsProperContent Unbounded c → IsProperRead (λ p. IsProperContent Unbounded p.0 × IsProperContent Unbounded p.1) (pair_of c)
parts_proper = k.pair_kept Unbounded (IsProperFraction Unbounded) IsReduced (IsProperValue Unbounded) (IsProperKey Unbounded) (IsProperContent Unbounded) (proper_closed Unbounded)
