-- The test of equality tells values apart exactly. (These laws stand here and not in proofs/ since the impls of `PartialEq`
-- cite them.)
use Rattle.std.specs.Prelude.{◌≡◌, Bool as Truth, true, false}
use Rattle.std.proofs.Common.{ap, refl}
use Rattle.std.proofs.lemmas.Bool.Decides.{Decides-int_eq, Decides-eqb}
use Rattle.std.specs.Bool.{beq, Decides}
use Rattle.std.specs.Cmp.{IsEquivalence, decided}
use Rattle.std.proofs.lemmas.Cmp.{on_equiv}
use Rattle.std.specs.Ordering.{on}
use Rattle.vb_value.specs.Equality.{Decides-fraction_eq, Decides-same_content}
use Rattle.boogie_tree.specs.Value.{BScalar, Int, Bool, Ref, Real, Snap, same_scalar}
use Rattle.boogie_tree.specs.Whole.{scalar_of}

Decides-beq : (a b : Truth) → Decides (beq a b) (a ≡ b)
Decides-beq true true = (λ _. refl, λ _. refl)
Decides-beq true false = (λ e. cc, λ e. cc)
Decides-beq false true = (λ e. cc, λ e. cc)
Decides-beq false false = (λ _. refl, λ _. refl)

pub Decides-same_scalar : (v w : BScalar) → Decides (same_scalar v w) (v ≡ w)
Decides-same_scalar (Int a) (Int b) = let d = Decides-int_eq a b in (λ e. ap Int (d.0 e), λ e. d.1 cc)
Decides-same_scalar (Bool a) (Bool b) = let d = Decides-beq a b in (λ e. ap Bool (d.0 e), λ e. d.1 cc)
Decides-same_scalar (Ref a) (Ref b) = let d = Decides-eqb a b in (λ e. ap Ref (d.0 e), λ e. d.1 cc)
Decides-same_scalar (Real a) (Real b) = let d = Decides-fraction_eq a b in (λ e. ap Real (d.0 e), λ e. d.1 cc)
Decides-same_scalar (Snap a) (Snap b) = let d = Decides-same_content a b in (λ e. ap Snap (d.0 e), λ e. d.1 cc)
Decides-same_scalar _ _ = (λ e. cc, λ e. cc)

pub same_scalar_equiv : IsEquivalence (on scalar_of same_scalar)
same_scalar_equiv = on_equiv scalar_of (decided same_scalar Decides-same_scalar)
