-- Tests: and, or, not.
use Rattle.std.proofs.Common.{Bool, ap, cond, false, if◌then◌else◌, not, refl, sym, true, ◌&&◌, ◌||◌, ◌∙◌, ◌≡◌}
use Rattle.std.specs.Bool.{Decides}

pub or_assoc : (a b c : Bool) → ((a || b) || c) ≡ (a || (b || c))
or_assoc true b c = refl
or_assoc false b c = refl

pub or_false : (b : Bool) → (b || false) ≡ b
or_false true = refl
or_false false = refl

pub cond_or : (a b : Bool) → cond a true b ≡ (a || b)
cond_or true b = refl
cond_or false b = refl

pub and_parts : (p q : Bool) → (p && q) ≡ true → (p ≡ true) × (q ≡ true)
and_parts true q h = (refl, h)
and_parts false q h = absurd (cc)

-- a test of which the last part is left, or a part before it is false
pub last_of_two : {p q r : Bool} → p ≡ true → r ≡ q → r ≡ (p && q)
last_of_two h g = rw h g

pub first_of_two : {p r : Bool} (q : Bool) → r ≡ p → r ≡ false → r ≡ (p && q)
first_of_two q h g = g ∙ sym (ap (λ x. x && q) (sym h ∙ g))

pub not_twice : (p : Bool) → not (not p) ≡ p
not_twice true = refl
not_twice false = refl

pub false_from_not : (p : Bool) → not p ≡ true → p ≡ false
false_from_not true h = absurd (cc)
false_from_not false h = refl

pub true_from_not : (q : Bool) → not q ≡ false → q ≡ true
true_from_not true h = refl
true_from_not false h = sym h

-- of the fractions in lowest terms only 0/1 is none
pub first_decides : (p q : Bool) → (p ≡ true → q ≡ true) → (p && q) ≡ p
first_decides true q h = h refl
first_decides false q h = refl

pub if_same : {X : Type 0} (b : Bool) {r u p q : X} → r ≡ p → u ≡ q → (if b then r else u) ≡ (if b then p else q)
if_same true e f = e
if_same false e f = f

pub not_both : {b : Bool} → b ≡ false → b ≡ true → ⊥
not_both e f = cc

-- a test is false where what it decides is
pub refuted : {P : Type 0} (b : Bool) → Decides b P → (P → ⊥) → b ≡ false
refuted true d h = absurd (h (d.0 refl))
refuted false d h = refl

pub or_twice : (a b : Bool) → (a || b) ≡ (a || (a || b))
or_twice true b = refl
or_twice false b = refl

pub or_turned : (a b d : Bool) → (a || (b || d)) ≡ (b || (a || d))
or_turned true true d = refl
or_turned true false d = refl
or_turned false b d = refl

pub or_moved : (a b d : Bool) → (b || (a || d)) ≡ ((a || b) || d)
or_moved true true d = refl
or_moved true false d = refl
or_moved false b d = refl

pub left_true : (p q : Bool) → (p && q) ≡ true → p ≡ true
left_true true q h = refl
left_true false q h = cc
