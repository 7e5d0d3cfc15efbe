-- The targets of a call, one after the other.
use Rattle.std.proofs.Common.{◌≡◌, ◌∙◌, sym, ap, refl, ℕ, Bool, true, false, not, List, [], ◌∷◌, ◌++◌}
use Rattle.viper_syntax.specs.declared.stmts.Named.{Named}
use Rattle.viper_scope.specs.declared.rules.Rule.TheVariants as rule
use Rattle.viper_scope.specs.Outcome.{Found, Broken}
use Rattle.viper_scope.specs.Scope.{VariableScope}
use Rattle.viper_types.specs.Stepping.{AssignedVariable, target, call_targets, is_target, is_listed, numbers_in}
use Rattle.viper_types.proofs.Listing.{is_listed-numbers}

-- how the code sees that a target is new
pub new_target : (v : AssignedVariable) (before : List AssignedVariable) (seen : List ℕ) (added b : Bool) → seen ≡ numbers_in before → added ≡ not (is_listed v.number seen) → added ≡ b → not (is_target v.number before) ≡ b
new_target v before seen added b is h g =
    ap not (sym (is_listed-numbers v.number before)) ∙ ap (λ ns. not (is_listed v.number ns)) (sym is) ∙ sym h ∙ g

pub same_target : (sc : VariableScope) (before : List AssignedVariable) (x : Named) (xs : List Named) (v : AssignedVariable) → target sc x ≡ Found v → not (is_target v.number before) ≡ false →
    call_targets sc before (x ∷ xs) ≡ Broken x.pos rule.TargetTwice
same_target sc before x xs v h g = rw (h, g) refl

pub next_target : (sc : VariableScope) (before : List AssignedVariable) (x : Named) (xs : List Named) (v : AssignedVariable) → target sc x ≡ Found v → not (is_target v.number before) ≡ true →
    call_targets sc before (x ∷ xs) ≡ call_targets sc (before ++ v ∷ []) xs
next_target sc before x xs v h g = rw (h, g) refl
