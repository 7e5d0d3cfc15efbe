-- The tests of lowest terms are exact, and what is in lowest terms and within the bound is proper.
use Rattle.std.proofs.Common.{◌≡◌, ◌==◌, nat_lt, refl, Bool, pos, unsigned_abs, List, [], ◌∷◌}
use Rattle.std.specs.Bool.{Decides}
use Rattle.std.proofs.lemmas.Bool.Decides.{Decides-and, Decides-eqb, Decides-ltb}
use Rattle.std.proofs.lemmas.List.Elements.{All-nil, All-cons, All-head, All-tail}
use Rattle.vb_value.specs.Bound.{Unbounded, Bounded}
use Rattle.vb_value.specs.Fraction.{Fraction, IsReduced, is_reduced, IsWithinFraction, IsProperFraction, none}
use Rattle.vb_value.specs.Gcd.{gcd}
use Rattle.vb_value.specs.Value.{IsReducedValue, is_reduced_value, IsWithinValue, IsProperValue, type_of, same_type, default_of}
use Rattle.vb_value.specs.Content.{Content, Unit, Leaf, Pair, AllValues, all_values, IsReducedContent, IsWithinContent, IsProperContent}
use Rattle.vb_value.specs.Key.{IsWithinPart, IsWithinKey, IsProperPart, IsProperKey}
use Rattle.vb_value.specs.declared.keys.KeyPart.{KeyPart}
use Rattle.vb_value.specs.declared.keys.KeyPart.TheVariants as part
use Rattle.vb_value.specs.declared.values.Ty.{Ty}
use Rattle.vb_value.specs.declared.values.Ty.TheVariants as ty
use Rattle.vb_value.specs.declared.values.Value.{Value}
use Rattle.vb_value.specs.declared.values.Value.TheVariants.{Int, Bool as Truth, Ref, Perm}
use Rattle.vb_value.proofs.FractionLaws.{IsReduced-whole}

-- ---- the tests

pub Decides-is_reduced : (q : Fraction) → Decides (is_reduced q) (IsReduced q)
Decides-is_reduced q =
    let d = Decides-and (nat_lt 0 q.den) (gcd (unsigned_abs q.num) q.den == 1) (Decides-ltb 0 q.den) (Decides-eqb (gcd (unsigned_abs q.num) q.den) 1) in
    (λ e. record { positive = (d.0 e).0; coprime = (d.0 e).1 }, λ r. d.1 (r.positive, r.coprime))

pub Decides-is_reduced_value : (v : Value) → Decides (is_reduced_value v) (IsReducedValue v)
Decides-is_reduced_value (Int a) = (λ e. tt, λ h. refl)
Decides-is_reduced_value (Truth a) = (λ e. tt, λ h. refl)
Decides-is_reduced_value (Ref a) = (λ e. tt, λ h. refl)
Decides-is_reduced_value (Perm a) = Decides-is_reduced a

pub Decides-all_values : (test : Value → Bool) (P : Value → Type 0) → ((v : Value) → Decides (test v) (P v)) → (c : Content) → Decides (all_values test c) (AllValues P c)
Decides-all_values test P each Unit = (λ e. tt, λ h. refl)
Decides-all_values test P each (Leaf v) = each v
Decides-all_values test P each (Pair a b) = Decides-and (all_values test a) (all_values test b) (Decides-all_values test P each a) (Decides-all_values test P each b)

pub Decides-same_type : (t u : Ty) → Decides (same_type t u) (t ≡ u)
Decides-same_type ty.Int ty.Int = (λ e. refl, λ h. refl)
Decides-same_type ty.Bool ty.Bool = (λ e. refl, λ h. refl)
Decides-same_type ty.Ref ty.Ref = (λ e. refl, λ h. refl)
Decides-same_type ty.Perm ty.Perm = (λ e. refl, λ h. refl)
Decides-same_type _ _ = (λ e. cc, λ h. cc)

-- ---- defaults

pub type_of-default : (u : Ty) → type_of (default_of u) ≡ u
type_of-default ty.Int = refl
type_of-default ty.Bool = refl
type_of-default ty.Ref = refl
type_of-default ty.Perm = refl

pub IsReduced-none : IsReduced none
IsReduced-none = IsReduced-whole (pos 0)

pub IsReducedValue-default : (u : Ty) → IsReducedValue (default_of u)
IsReducedValue-default ty.Int = tt
IsReducedValue-default ty.Bool = tt
IsReducedValue-default ty.Ref = tt
IsReducedValue-default ty.Perm = IsReduced-none

-- ---- with no bound, to be proper is to be in lowest terms

pub proper_fraction : (q : Fraction) → IsReduced q → IsProperFraction Unbounded q
proper_fraction q r = record { reduced = r; within = tt }

pub proper_value : (v : Value) → IsReducedValue v → IsProperValue Unbounded v
proper_value (Int a) r = tt
proper_value (Truth a) r = tt
proper_value (Ref a) r = tt
proper_value (Perm a) r = proper_fraction a r

proper_leaves : (c : Content) → IsReducedContent c → AllValues (IsProperValue Unbounded) c
proper_leaves Unit r = tt
proper_leaves (Leaf v) r = proper_value v r
proper_leaves (Pair a b) r = (proper_leaves a r.0, proper_leaves b r.1)

pub proper_content : (c : Content) → IsReducedContent c → IsProperContent Unbounded c
proper_content c r = record { small = tt; values = proper_leaves c r }

proper_part : (a : KeyPart) → IsProperPart Unbounded a
proper_part (part.Int a) = tt
proper_part (part.Bool a) = tt
proper_part (part.Ref a) = tt

pub proper_key : (k : List KeyPart) → IsProperKey Unbounded k
proper_key [] = All-nil (IsProperPart Unbounded)
proper_key (a ∷ k) = All-cons (IsProperPart Unbounded) a k (proper_part a) (proper_key k)

-- ---- what is proper with no bound, and within it, is proper under it; and the other way round

pub bounded_fraction : (q : Fraction) → IsProperFraction Unbounded q → IsWithinFraction q → IsProperFraction Bounded q
bounded_fraction q p w = record { reduced = p.reduced; within = w }

pub bounded_value : (v : Value) → IsProperValue Unbounded v → IsWithinValue v → IsProperValue Bounded v
bounded_value (Int a) p w = w
bounded_value (Truth a) p w = tt
bounded_value (Ref a) p w = tt
bounded_value (Perm a) p w = bounded_fraction a p w

bounded_leaves : (c : Content) → AllValues (IsProperValue Unbounded) c → AllValues IsWithinValue c → AllValues (IsProperValue Bounded) c
bounded_leaves Unit p w = tt
bounded_leaves (Leaf v) p w = bounded_value v p w
bounded_leaves (Pair a b) p w = (bounded_leaves a p.0 w.0, bounded_leaves b p.1 w.1)

pub bounded_content : (c : Content) → IsProperContent Unbounded c → IsWithinContent c → IsProperContent Bounded c
bounded_content c p w = record { small = w.small; values = bounded_leaves c p.values w.values }

bounded_part : (a : KeyPart) → IsWithinPart a → IsProperPart Bounded a
bounded_part (part.Int a) w = w
bounded_part (part.Bool a) w = tt
bounded_part (part.Ref a) w = tt

pub bounded_key : (k : List KeyPart) → IsProperKey Unbounded k → IsWithinKey k → IsProperKey Bounded k
bounded_key [] p w = All-nil (IsProperPart Bounded)
bounded_key (a ∷ k) p w = All-cons (IsProperPart Bounded) a k (bounded_part a (All-head IsWithinPart a k w)) (bounded_key k (proper_key k) (All-tail IsWithinPart a k w))

pub within_fraction : (q : Fraction) → IsProperFraction Bounded q → IsWithinFraction q
within_fraction q p = p.within

pub within_value : (v : Value) → IsProperValue Bounded v → IsWithinValue v
within_value (Int a) p = p
within_value (Truth a) p = tt
within_value (Ref a) p = tt
within_value (Perm a) p = p.within

within_leaves : (c : Content) → AllValues (IsProperValue Bounded) c → AllValues IsWithinValue c
within_leaves Unit p = tt
within_leaves (Leaf v) p = within_value v p
within_leaves (Pair a b) p = (within_leaves a p.0, within_leaves b p.1)

pub within_content : (c : Content) → IsProperContent Bounded c → IsWithinContent c
within_content c p = record { small = p.small; values = within_leaves c p.values }

within_part : (a : KeyPart) → IsProperPart Bounded a → IsWithinPart a
within_part (part.Int a) p = p
within_part (part.Bool a) p = tt
within_part (part.Ref a) p = tt

pub within_key : (k : List KeyPart) → IsProperKey Bounded k → IsWithinKey k
within_key [] p = All-nil IsWithinPart
within_key (a ∷ k) p = All-cons IsWithinPart a k (within_part a (All-head (IsProperPart Bounded) a k p)) (within_key k (All-tail (IsProperPart Bounded) a k p))
