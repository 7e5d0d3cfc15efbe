-- Of which procedure a formula is asked, by the bytes of a file of Boogie and a name, and why they are refused.
use Rattle.std.specs.Prelude.{ℕ, List}
use Rattle.boogie_tree.specs.Program.{Proc}
use Rattle.boogie_file.specs.Accepted.{Accepts, IsRefusal}
use Rattle.boogie_file.specs.declared.refusal.BoogieRefusal as b
use Rattle.vb_tool.specs.BoogieRefusals.{refusal_of_boogie}
use Rattle.vb_tool.specs.declared.status.Refusal.{Refusal}

-- the bytes are the text of a well-typed program, which has this procedure under the name
abbrev pub AcceptsCondition : List ℕ → List ℕ → Proc → Type 0
AcceptsCondition bytes name procedure = Accepts bytes name procedure

-- `vc` refuses the bytes of its file and the name of its procedure as a file of Boogie is refused
pub data IsConditionRefusal (bytes name : List ℕ) : Refusal → Type 0 where
  of_file : {r : b.BoogieRefusal} → IsRefusal bytes name r → IsConditionRefusal bytes name (refusal_of_boogie r)
