-- The tests of equality tell fractions, values and contents apart exactly. (These laws stand here and not in proofs/
-- since the impls of `PartialEq` cite them.)
use Rattle.std.specs.Prelude.{◌≡◌, Bool, true, false, ◌&&◌}
use Rattle.std.proofs.Common.{refl, ap}
use Rattle.std.proofs.lemmas.Bool.Decides.{Decides-int_eq, Decides-eqb}
use Rattle.std.specs.Bool.{beq, Decides}
use Rattle.std.specs.Cmp.{IsEquivalence, decided}
use Rattle.std.proofs.lemmas.Cmp.{on_equiv}
use Rattle.std.specs.Ordering.{on}
use Rattle.vb_value.specs.Fraction.{Fraction}
use Rattle.vb_value.specs.Value.{fraction_eq, value_eq}
use Rattle.vb_value.specs.declared.values.Value.{Value}
use Rattle.vb_value.specs.declared.values.Value.TheVariants.{Int, Bool as Truth, Ref, Perm}
use Rattle.vb_value.specs.Content.{Content, Unit, Leaf, Pair, same_content}
use Rattle.vb_value.specs.View.{content_of}

Decides-beq : (a b : Bool) → Decides (beq a b) (a ≡ b)
Decides-beq true true = (λ _. refl, λ _. refl)
Decides-beq true false = (λ e. cc, λ e. cc)
Decides-beq false true = (λ e. cc, λ e. cc)
Decides-beq false false = (λ _. refl, λ _. refl)

-- a test of two parts decides two equations
both : {P Q : Type 0} (s t : Bool) → Decides s P → Decides t Q → Decides (s && t) (P × Q)
both true true p q = (λ e. (p.0 refl, q.0 refl), λ h. refl)
both true false p q = (λ e. cc, λ h. q.1 h.1)
both false t p q = (λ e. cc, λ h. p.1 h.0)

pub same_fraction : (p q : Fraction) → p.num ≡ q.num → p.den ≡ q.den → p ≡ q
same_fraction p q n d = λ i. record { num = n i; den = d i }

pub Decides-fraction_eq : (p q : Fraction) → Decides (fraction_eq p q) (p ≡ q)
Decides-fraction_eq p q =
    let d = both _ _ (Decides-int_eq p.num q.num) (Decides-eqb p.den q.den) in
    (λ e. same_fraction p q (d.0 e).0 (d.0 e).1, λ e. d.1 (ap (λ f. f.num) e, ap (λ f. f.den) e))

pub Decides-value_eq : (v w : Value) → Decides (value_eq v w) (v ≡ w)
Decides-value_eq (Int a) (Int b) = let d = Decides-int_eq a b in (λ e. ap Int (d.0 e), λ e. d.1 cc)
Decides-value_eq (Truth a) (Truth b) = let d = Decides-beq a b in (λ e. ap Truth (d.0 e), λ e. d.1 cc)
Decides-value_eq (Ref a) (Ref b) = let d = Decides-eqb a b in (λ e. ap Ref (d.0 e), λ e. d.1 cc)
Decides-value_eq (Perm a) (Perm b) = let d = Decides-fraction_eq a b in (λ e. ap Perm (d.0 e), λ e. d.1 cc)
Decides-value_eq _ _ = (λ e. cc, λ e. cc)

pub Decides-same_content : (a b : Content) → Decides (same_content a b) (a ≡ b)
Decides-same_content Unit Unit = (λ _. refl, λ _. refl)
Decides-same_content (Leaf v) (Leaf w) = let d = Decides-value_eq v w in (λ e. ap Leaf (d.0 e), λ e. d.1 cc)
Decides-same_content (Pair a b) (Pair c d) =
    let e = both _ _ (Decides-same_content a c) (Decides-same_content b d) in
    (λ h. let k = e.0 h in cc, λ h. e.1 (cc, cc))
Decides-same_content _ _ = (λ e. cc, λ e. cc)

pub same_content_equiv : IsEquivalence (on content_of same_content)
same_content_equiv = on_equiv content_of (decided same_content Decides-same_content)
