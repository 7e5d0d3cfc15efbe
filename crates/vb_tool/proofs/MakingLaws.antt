-- Each generated program is accepted, so `make` refuses a number alone.
use Rattle.std.proofs.Common.{◌≡◌, ◌≤◌, ◌<◌, ◌⊎◌, inl, inr, ℕ, List, length, sym, subst}
use Rattle.std.proofs.lemmas.Bool.{cases_lt}
use Rattle.vb_base.specs.Limits.{max_viper_bytes, max_weight, max_made_methods}
use Rattle.vb_gen_laws.proofs.Weighed.{light as is_light}
use Rattle.vb_gen.specs.Generated.{program_text, IsOutOfRange}
use Rattle.vb_gen_laws.specs.Made.{generated_weight, IsMade}
use Rattle.vb_gen_laws.proofs.MadePrograms.{is_made}
use Rattle.viper_core.specs.Program as p
use Rattle.viper_core.specs.Weight.{weight}
use Rattle.vb_tool.proofs.Verdicts.{accepted_text}
use Rattle.viper_file.specs.Accepted.{IsAccepted}
use Rattle.vb_tool.specs.Accepted.{IsTextRefusal}
use Rattle.vb_tool.specs.declared.status.Refusal.{Refusal}

module _ (n : ℕ) (few : n ≤ max_made_methods) where
  accepted_by : (m : IsMade n) → IsAccepted (program_text n) m.typed
  accepted_by m = record {
    small = m.small;
    tokens = m.tokens;
    lexed = m.lexed;
    source = m.source;
    spelled = m.spelled;
    is_typed = m.is_typed;
    light = subst (λ k. k ≤ max_weight) (sym m.weighs) (is_light n few);
  }

  pub made_accepted : (program : p.Program) × IsAccepted (program_text n) program × (weight program ≡ generated_weight n)
  made_accepted = let m = is_made n few in (m.typed, accepted_by m, m.weighs)

few_by : (n : ℕ) → (IsOutOfRange n → ⊥) → (max_made_methods < n) ⊎ (n ≤ max_made_methods) → n ≤ max_made_methods
few_by n within (inl above) = absurd (within (inr above))
few_by n within (inr few) = few

pub few_in_range : (n : ℕ) → (IsOutOfRange n → ⊥) → n ≤ max_made_methods
few_in_range n within = few_by n within (cases_lt max_made_methods n)

-- its text is short enough
pub made_short : (n : ℕ) (text : List ℕ) → (IsOutOfRange n → ⊥) → text ≡ program_text n → length text ≤ max_viper_bytes
made_short n text within is = subst (λ t. length t ≤ max_viper_bytes) (sym is) (is_made n (few_in_range n within)).small

-- and never refused
pub made_not_refused : {X : Type 0} (n : ℕ) (text : List ℕ) (r : Refusal) → (IsOutOfRange n → ⊥) → text ≡ program_text n → IsTextRefusal text r → X
made_not_refused n text r within is refused =
    let (program, accepts, weighs) = made_accepted n (few_in_range n within) in
    absurd (accepted_text accepts (subst (λ t. IsTextRefusal t r) is refused))
