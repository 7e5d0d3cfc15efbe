-- What a typing that finds something tells of it. Each way to go on keeps this.
use Rattle.std.proofs.Common.{◌≡◌, ◌∙◌, Bool, true, false, Option, Some, None, if◌then◌else◌, refl, sym, is_some, not, subst}
use Rattle.viper_scope.proofs.Judged.{found_same}
use Rattle.vb_base.specs.declared.places.Pos.{Pos}
use Rattle.vb_value.specs.Value.{same_type}
use Rattle.vb_value.specs.declared.values.Ty.{Ty}
use Rattle.vb_value.specs.declared.values.Ty.TheVariants as ty
use Rattle.viper_scope.specs.declared.rules.Rule.{Rule}
use Rattle.viper_scope.specs.Outcome.{Judged, Found, Broken, then_typed, known, obeys, clear_of}

pub data Tells {X : Type 0} (P : X → Type 0) : Judged X → Type 0 where
  tells : {x : X} → P x → Tells P (Found x)
  broken : {p : Pos} {r : Rule} → Tells P (Broken p r)

pub tell_then : {X Y : Type 0} {P : X → Type 0} {Q : Y → Type 0} {j : Judged X} {k : X → Judged Y} →
    Tells P j → ((x : X) → P x → Tells Q (k x)) → Tells Q (then_typed j k)
tell_then (tells {x = x} h) g = g x h
tell_then broken g = broken

pub tell_so : {X : Type 0} {P Q : X → Type 0} {j : Judged X} → Tells P j → ((x : X) → P x → Q x) → Tells Q j
tell_so (tells {x = x} h) g = tells (g x h)
tell_so broken g = broken

pub tell_known : {X Y : Type 0} {Q : Y → Type 0} (o : Option X) (p : Pos) (r : Rule) {k : X → Judged Y} →
    ((x : X) → o ≡ Some x → Tells Q (k x)) → Tells Q (known o p r k)
tell_known (Some x) p r h = h x refl
tell_known None p r h = broken

pub tell_obeys : {Y : Type 0} {Q : Y → Type 0} (b : Bool) (p : Pos) (r : Rule) {j : Judged Y} → (b ≡ true → Tells Q j) → Tells Q (obeys b p r j)
tell_obeys true p r h = h refl
tell_obeys false p r h = broken

pub tell_clear : {Y : Type 0} {Q : Y → Type 0} (o : Option Pos) (r : Rule) {j : Judged Y} → (o ≡ None → Tells Q j) → Tells Q (clear_of o r j)
tell_clear None r h = h refl
tell_clear (Some p) r h = broken

pub tell_if : {Y : Type 0} {Q : Y → Type 0} (b : Bool) {j k : Judged Y} → (b ≡ true → Tells Q j) → (b ≡ false → Tells Q k) →
    Tells Q (if b then j else k)
tell_if true h g = h refl
tell_if false h g = g refl

pub told : {X : Type 0} {P : X → Type 0} {j : Judged X} {x : X} → Tells P j → j ≡ Found x → P x
told {P = P} (tells h) is = subst P (found_same is) h
told broken is = absurd (cc)

-- two things that one typing finds are one
pub one_found : {X : Type 0} {j : Judged X} {x y : X} → j ≡ Found x → j ≡ Found y → x ≡ y
one_found h g = found_same (sym h ∙ g)

-- tests of types

pub same_types : (u v : Ty) → same_type u v ≡ true → u ≡ v
same_types ty.Int ty.Int h = refl
same_types ty.Bool ty.Bool h = refl
same_types ty.Ref ty.Ref h = refl
same_types ty.Perm ty.Perm h = refl
same_types _ _ h = absurd (cc)

pub type_is_same : (u : Ty) → same_type u u ≡ true
type_is_same ty.Int = refl
type_is_same ty.Bool = refl
type_is_same ty.Ref = refl
type_is_same ty.Perm = refl

pub none_is : {X : Type 0} (o : Option X) → not (is_some o) ≡ true → o ≡ None
none_is None h = refl
none_is (Some x) h = absurd (cc)

pub if_none : {X : Type 0} (b : Bool) (o : Option X) (x : X) → (if b then o else Some x) ≡ None → (b ≡ true) × (o ≡ None)
if_none true o x h = (refl, h)
if_none false o x h = absurd (cc)
