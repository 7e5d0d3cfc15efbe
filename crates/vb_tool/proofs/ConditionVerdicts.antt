-- A file of Boogie and a name are a procedure, or are refused for one reason.
use Rattle.std.proofs.Common.{◌≡◌, ℕ, List, ap}
use Rattle.boogie_tree.specs.Program.{Proc}
use Rattle.boogie_file.specs.Accepted as file
use Rattle.boogie_file.proofs.Verdicts.{one_refusal, accepted_not_refused, one_accepted, has_one_answer}
use Rattle.vb_tool.specs.Accepted.{HasOneAnswer, is_accepted, is_refused}
use Rattle.vb_tool.specs.AcceptedCondition.{AcceptsCondition, IsConditionRefusal, of_file}
use Rattle.vb_tool.specs.BoogieRefusals.{refusal_of_boogie}
use Rattle.vb_tool.specs.declared.status.Refusal.{Refusal}

module _ {bytes name : List ℕ} where
  pub one_condition_refusal : {r q : Refusal} → IsConditionRefusal bytes name r → IsConditionRefusal bytes name q → r ≡ q
  one_condition_refusal (of_file is) (of_file also) = ap refusal_of_boogie (one_refusal is also)

  pub condition_not_refused : {d : Proc} {r : Refusal} → AcceptsCondition bytes name d → IsConditionRefusal bytes name r → ⊥
  condition_not_refused h (of_file is) = accepted_not_refused h is

  pub one_condition : {d e : Proc} → AcceptsCondition bytes name d → AcceptsCondition bytes name e → d ≡ e
  one_condition h i = one_accepted h i

  of_answer : file.HasOneAnswer bytes name → HasOneAnswer (AcceptsCondition bytes name) (IsConditionRefusal bytes name)
  of_answer (file.is_accepted accepts only never) = is_accepted accepts only (λ r is. condition_not_refused accepts is)
  of_answer (file.is_refused {r = r} denied only never) = is_refused (of_file denied) (λ other is. one_condition_refusal is (of_file denied)) never

pub one_condition_answer : (bytes name : List ℕ) → HasOneAnswer (AcceptsCondition bytes name) (IsConditionRefusal bytes name)
one_condition_answer bytes name = of_answer (has_one_answer bytes name)
