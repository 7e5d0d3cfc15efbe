-- A text is refused for one reason, and not where it is accepted.
use Rattle.std.proofs.Common.{◌≡◌, ◌<◌, ◌≤◌, ℕ, List, length, refl, arith}
use Rattle.vb_base.specs.Limits.{max_boogie_bytes}
use Rattle.boogie_tree.specs.Program.{BProgram}
use Rattle.boogie_file.specs.Accepted.{IsBoogie}
use Rattle.boogie_file.specs.declared.refusal.BoogieRefusal.{BoogieRefusal}
use Rattle.boogie_file.proofs.Verdicts.{one_text_refusal, boogie_text}
use Rattle.boogie_proof.specs.Shown.{IsRefusal, size, of_text}

pub one_refusal : {source : List ℕ} {r q : BoogieRefusal} → IsRefusal source r → IsRefusal source q → r ≡ q
one_refusal (size above) (size also) = refl
one_refusal (size above) (of_text small is) = absurd (omega (arith, above, small))
one_refusal (of_text small is) (size above) = absurd (omega (arith, above, small))
one_refusal (of_text small is) (of_text also other) = one_text_refusal is other

pub accepted_not_refused : {source : List ℕ} {q : BProgram} {r : BoogieRefusal} → IsBoogie source q → IsRefusal source r → ⊥
accepted_not_refused accepted (size above) = let small = accepted.small in omega (arith, above, small)
accepted_not_refused accepted (of_text small is) = boogie_text accepted is
