-- The places of fields, one name after the other.
use Rattle.std.proofs.Common.{◌≡◌, ◌∙◌, ap, sym, refl, ◌-◌, List, [], ◌∷◌, Some, length, slice_get, suc, arith}
use Rattle.vb_base.specs.declared.places.Pos.{Pos}
use Rattle.viper_core.specs.Expr as e
use Rattle.viper_syntax.specs.declared.stmts.Named.{Named}
use Rattle.viper_scope.specs.declared.rules.RuleFault.{RuleFault}
use Rattle.viper_scope.specs.declared.rules.RuleFault.TheVariants as fault
use Rattle.viper_scope.specs.Answers.{Refuses}
use Rattle.viper_scope.specs.Context.{World}
use Rattle.viper_scope.specs.Outcome.{Judged, Found}
use Rattle.viper_scope.specs.Arguments.{Typing}
use Rattle.viper_types.specs.Typing.{Located, located}
use Rattle.viper_types.specs.Stepping.{dotted, last_place}

-- the place of these further names after a place
abbrev pub dotted_on : World → Located → Pos → List Named → Judged Located
dotted_on w l at [] = Found l
dotted_on w l at (g ∷ gs) = dotted w (e.Field l.receiver l.field at, l.ty) g gs

pub dotted_found : (w : World) (x : Typing) (f : Named) (gs : List Named) (l : Located) → located w f.name f.pos x ≡ Found l → dotted w x f gs ≡ dotted_on w l f.pos gs
dotted_found w x f [] l h = h
dotted_found w x f (g ∷ gs) l h = rw h refl

pub dotted_refused : (w : World) (x : Typing) (f : Named) (gs : List Named) (t : RuleFault) → Refuses (located w f.name f.pos x) t → Refuses (dotted w x f gs) t
dotted_refused w x f gs fault.Memory h = tt
dotted_refused w x f [] (fault.Broken p r) h = h
dotted_refused w x f (g ∷ gs) (fault.Broken p r) h = rw h refl

-- the last name is that of the last place
pub last_place_of : (x : Named) (fs : List Named) (f : Named) → slice_get fs (length fs - 1) ≡ Some f → last_place x fs ≡ f.pos
last_place_of x [] f h = absurd (cc)
last_place_of x (g ∷ []) f h = let e : g ≡ f = cc in ap (λ (y : Named). y.pos) e
last_place_of x (g ∷ k ∷ ks) f h =
    let more : length (g ∷ k ∷ ks) - 1 ≡ suc (length ks) = omega arith in
    let fewer : length (k ∷ ks) - 1 ≡ length ks = omega arith in
    last_place_of g (k ∷ ks) f (ap (slice_get (k ∷ ks)) fewer ∙ sym (ap (slice_get (g ∷ k ∷ ks)) more) ∙ h)
