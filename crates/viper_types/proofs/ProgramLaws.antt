-- A file is a program, or its walk tells the first broken rule, and never both.
use Rattle.std.proofs.Common.{◌≡◌, ◌∙◌, ◌⊎◌, inl, inr, sym, ap, refl}
use Rattle.vb_base.specs.declared.places.Pos.{Pos}
use Rattle.viper_core.specs.Program as p
use Rattle.viper_syntax.specs.Decl as d
use Rattle.viper_scope.specs.declared.rules.Rule.{Rule}
use Rattle.viper_scope.specs.Outcome.{Judged, Found, Broken}
use Rattle.viper_types.specs.Declaring.{program_typing}
use Rattle.viper_types.specs.Program.{IsProgram}
use Rattle.viper_types.proofs.Tells.{told}
use Rattle.viper_types.proofs.ProgramSound.{program_told}
use Rattle.viper_types.proofs.ProgramFinds.{program_finds}

-- what is found is the program
pub found_program : (source : d.SourceProgram) {q : p.Program} → program_typing source ≡ Found q → IsProgram source q
found_program source h = told (program_told source) h

pub found_or_broken : {X : Type 0} {x : X} {at : Pos} {r : Rule} → Found x ≡ Broken at r → ⊥
found_or_broken h = cc

-- where a rule is broken, the file is no program
pub broken_is_no_program : {source : d.SourceProgram} {at : Pos} {r : Rule} → program_typing source ≡ Broken at r → (q : p.Program) →
    IsProgram source q → ⊥
broken_is_no_program h q g = found_or_broken (sym (program_finds g) ∙ h)

abbrev told_rule : {X : Type 0} → Judged X → Pos × Rule → Pos × Rule
told_rule (Found x) other = other
told_rule (Broken at r) other = (at, r)

-- one rule is the first
pub one_broken_rule : (source : d.SourceProgram) {at place : Pos} {r q : Rule} → program_typing source ≡ Broken at r → program_typing source ≡ Broken place q →
    (at ≡ place) × (r ≡ q)
one_broken_rule source {at} {place} {r} {q} h g =
    let same : ◌≡◌ {A = Pos × Rule} (at, r) (place, q) = ap (λ j. told_rule j (at, r)) (sym h ∙ g) in
    (ap (λ x. x.0) same, ap (λ x. x.1) same)

found_or_told : {X : Type 0} (j : Judged X) → ((x : X) × (j ≡ Found x)) ⊎ ((at : Pos) × (r : Rule) × (j ≡ Broken at r))
found_or_told (Found x) = inl (x, refl)
found_or_told (Broken at r) = inr (at, r, refl)

pub typed_or_broken : (source : d.SourceProgram) → ((q : p.Program) × IsProgram source q) ⊎ ((at : Pos) × (r : Rule) × (program_typing source ≡ Broken at r))
typed_or_broken source =
    elim (found_or_told (program_typing source)) [
      | inl found ↦ inl (found.0, found_program source found.1)
      | inr told ↦ inr told
    ]
