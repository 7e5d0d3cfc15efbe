-- Bytes are a program, or are refused for one reason.
use Rattle.std.proofs.Common.{◌≡◌, ◌⊎◌, inl, inr, ◌<◌, ◌≤◌, ℕ, List, length, refl, ap, subst, arith}
use Rattle.std.proofs.lemmas.Bool.{cases_lt}
use Rattle.vb_base.specs.Limits.{max_viper_bytes}
use Rattle.viper_core.specs.Program as p
use Rattle.viper_file.proofs.Verdicts as file
use Rattle.viper_file.specs.Accepted as viper
use Rattle.viper_file.specs.Accepted.{IsAccepted}
use Rattle.viper_file.specs.declared.fault.ViperFault.{ViperFault}
use Rattle.viper_file.specs.declared.fault.ViperFault.TheVariants as fault
use Rattle.viper_file.specs.declared.fault.ViperRefusal.{ViperRefusal}
use Rattle.vb_tool.specs.Accepted as accepted
use Rattle.vb_tool.specs.Accepted.{IsTextRefusal, of_viper, IsRefusal, HasOneAnswer, is_accepted, is_refused}
use Rattle.vb_tool.specs.Converted.{trouble_of_viper_file}
use Rattle.vb_tool.specs.ViperRefusals.{refusal_of_viper}
use Rattle.vb_tool.specs.declared.status.Refusal.{Refusal}
use Rattle.vb_tool.specs.declared.trouble.Trouble.TheVariants as trouble

-- ---- a text

-- it is refused for one reason
pub one_text_refusal : {bytes : List ℕ} {r q : Refusal} → IsTextRefusal bytes r → IsTextRefusal bytes q → r ≡ q
one_text_refusal (of_viper is) (of_viper other) = ap refusal_of_viper (file.one_text_refusal is other)

-- and not where it is a program
pub accepted_text : {bytes : List ℕ} {q : p.Program} {r : Refusal} → IsAccepted bytes q → IsTextRefusal bytes r → ⊥
accepted_text a (of_viper is) = file.accepted_text a is

pub viper_refused : (bytes : List ℕ) (f : ViperFault) (r : Refusal) → ((q : ViperRefusal) → f ≡ fault.Refused q → viper.IsTextRefusal bytes q) → trouble_of_viper_file f ≡ trouble.Refused r → IsTextRefusal bytes r
viper_refused bytes fault.Memory r why is_r = absurd (cc)
viper_refused bytes (fault.Refused q) r why is_r = let same : refusal_of_viper q ≡ r = cc in subst (IsTextRefusal bytes) same (of_viper (why q refl))

pub never_unread : (f : ViperFault) → trouble_of_viper_file f ≡ trouble.Read → ⊥
never_unread fault.Memory is = absurd (cc)
never_unread (fault.Refused q) is = absurd (cc)

-- ---- what `translate` accepts and refuses

pub one_refusal : {bytes : List ℕ} {r q : Refusal} → IsRefusal bytes r → IsRefusal bytes q → r ≡ q
one_refusal (accepted.size above) (accepted.size also) = refl
one_refusal (accepted.size above) (accepted.of_text small is) = absurd (omega (arith, above, small))
one_refusal (accepted.of_text small is) (accepted.size above) = absurd (omega (arith, above, small))
one_refusal (accepted.of_text small is) (accepted.of_text also other) = one_text_refusal is other

pub accepted_not_refused : {bytes : List ℕ} {program : p.Program} {r : Refusal} → IsAccepted bytes program → IsRefusal bytes r → ⊥
accepted_not_refused h (accepted.size above) = omega (arith, above, h.small)
accepted_not_refused h (accepted.of_text small is) = accepted_text h is

-- ---- each text has an answer

told_text : {bytes : List ℕ} → ((q : p.Program) × IsAccepted bytes q) ⊎ ((r : ViperRefusal) × viper.IsTextRefusal bytes r) → ((q : p.Program) × IsAccepted bytes q) ⊎ ((r : Refusal) × IsTextRefusal bytes r)
told_text (inl typed) = inl typed
told_text (inr refused) = inr (refusal_of_viper refused.0, of_viper refused.1)

-- a text within the limit is a program, or is refused
pub text_answer : (bytes : List ℕ) → length bytes ≤ max_viper_bytes → ((q : p.Program) × IsAccepted bytes q) ⊎ ((r : Refusal) × IsTextRefusal bytes r)
text_answer bytes small = told_text (file.text_answer bytes small)

accepted_once : {bytes : List ℕ} {program : p.Program} → IsAccepted bytes program → HasOneAnswer (IsAccepted bytes) (IsRefusal bytes)
accepted_once h = is_accepted h (λ other i. file.one_accepted i h) (λ r is. accepted_not_refused h is)

refused_once : {bytes : List ℕ} {r : Refusal} → IsRefusal bytes r → HasOneAnswer (IsAccepted bytes) (IsRefusal bytes)
refused_once h = is_refused h (λ other is. one_refusal is h) (λ program accepts. accepted_not_refused accepts h)

of_text : (bytes : List ℕ) → length bytes ≤ max_viper_bytes → ((q : p.Program) × IsAccepted bytes q) ⊎ ((r : Refusal) × IsTextRefusal bytes r) → HasOneAnswer (IsAccepted bytes) (IsRefusal bytes)
of_text bytes small (inl typed) = accepted_once typed.1
of_text bytes small (inr refused) = refused_once (accepted.of_text small refused.1)

of_size : (bytes : List ℕ) → (max_viper_bytes < length bytes) ⊎ (length bytes ≤ max_viper_bytes) → HasOneAnswer (IsAccepted bytes) (IsRefusal bytes)
of_size bytes (inl above) = refused_once (accepted.size above)
of_size bytes (inr small) = of_text bytes small (text_answer bytes small)

pub one_answer : (bytes : List ℕ) → HasOneAnswer (IsAccepted bytes) (IsRefusal bytes)
one_answer bytes = of_size bytes (cases_lt max_viper_bytes (length bytes))
