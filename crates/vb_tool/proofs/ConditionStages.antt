-- What the stages of a verification condition refuse, and what they tell.
use Rattle.std.proofs.Common.{◌≡◌, ◌∙◌, ℕ, List, get_or, slice_get, Some, refl, sym, ap, subst}
use Rattle.vb_base.specs.declared.labels.Label.{Label}
use Rattle.boogie_tree.specs.Program.{Proc, BProgram}
use Rattle.boogie_tree.specs.Whole.{proc_of, program_of}
use Rattle.boogie_tree.specs.declared.programs.BProgram.{BProgram as Program}
use Rattle.boogie_tree.specs.declared.programs.Proc as declared
use Rattle.boogie_formula.specs.Follows.{Follows, IsExact}
use Rattle.boogie_formula.specs.Formula.{Formula}
use Rattle.boogie_formula.specs.Types.{IsTypedFormula}
use Rattle.boogie_wp.specs.Build.{formula_for}
use Rattle.boogie_formula_text.specs.Printed.{formula_text}
use Rattle.boogie_formula_text.specs.Spells.{SpellsFormula}
use Rattle.boogie_file.specs.Accepted.{IsBoogie, procedure_named, IsRefusal}
use Rattle.boogie_file.specs.declared.refusal.BoogieRefusal as why
use Rattle.boogie_file.specs.declared.trouble.BoogieTrouble.{BoogieTrouble}
use Rattle.boogie_file.specs.declared.trouble.BoogieTrouble.TheVariants as boogie
use Rattle.tool_procedure.specs.Alone.{IsAlone}
use Rattle.tool_procedure.proofs.KeptLaws.{alone_at}
use Rattle.vb_tool.specs.BoogieRefusals.{refusal_of_boogie}
use Rattle.vb_tool.specs.Converted.{trouble_of_boogie_file}
use Rattle.vb_tool.specs.AcceptedCondition.{IsConditionRefusal, of_file}
use Rattle.vb_tool.specs.Parts.{ConditionOf}
use Rattle.vb_tool.specs.declared.status.Refusal.{Refusal}
use Rattle.vb_tool.specs.declared.status.Status.{Status}
use Rattle.vb_tool.specs.declared.status.Status.TheVariants as status
use Rattle.vb_tool.specs.declared.trouble.Trouble.TheVariants as trouble

pub file_refused : (bytes name : List ℕ) (t : BoogieTrouble) (r : Refusal) → ((q : why.BoogieRefusal) → t ≡ boogie.Refused q → IsRefusal bytes name q) → trouble_of_boogie_file t ≡ trouble.Refused r →
    IsConditionRefusal bytes name r
file_refused bytes name boogie.Memory r refuses is_r = absurd cc
file_refused bytes name boogie.Read r refuses is_r = absurd cc
file_refused bytes name (boogie.Refused q) r refuses is_r =
    let same : refusal_of_boogie q ≡ r = cc in
    subst (IsConditionRefusal bytes name) same (of_file (refuses q refl))

pub condition_is : (bytes name : List ℕ) (label : Label) (q : BProgram) (n : ℕ) (d : Proc) (f : Formula) (s : Status) (text : List ℕ) → IsBoogie bytes q →
    procedure_named q name ≡ Some n → slice_get q.procs n ≡ Some d → f ≡ formula_for d label → IsTypedFormula f → Follows d label f → IsExact d label f →
    text ≡ formula_text d.name label f → SpellsFormula text d.name label f →
    ((m : List ℕ) (l : Label) (g : Formula) → SpellsFormula text m l g → (m ≡ d.name) × (l ≡ label) × (g ≡ f)) → s ≡ status.Done → ConditionOf bytes name label s text
condition_is bytes name label q n d f s text is named there built typed follows exact is_text spelled only is_s = record {
  procedure = d;
  accepted = record { program = q; accepted = is; number = n; named = named; is_there = there };
  status_is = is_s;
  text_is = is_text ∙ ap (formula_text d.name label) built;
  condition = record { formula = f; typed = typed; spelled = spelled; only = only; follows = follows; exact = exact };
}

-- the same where the text is read part by part
pub alone_states : {bytes name : List ℕ} (b : Program) (a : IsAlone bytes name (program_of b)) (label : Label) (d : declared.Proc) (f : Formula) (s : Status) (text : List ℕ) →
    d ≡ get_or b.procs.items 0 d → f ≡ formula_for (proc_of d) label → IsTypedFormula f → Follows (proc_of d) label f → IsExact (proc_of d) label f →
    text ≡ formula_text (proc_of d).name label f → SpellsFormula text (proc_of d).name label f →
    ((m : List ℕ) (l : Label) (g : Formula) → SpellsFormula text m l g → (m ≡ (proc_of d).name) × (l ≡ label) × (g ≡ f)) → s ≡ status.Done → ConditionOf bytes name label s text
alone_states {bytes} {name} b a label d f s text at built typed follows exact is_text spelled only is_s =
    condition_is bytes name label a.accepted.program a.accepted.number (proc_of d) f s text a.accepted.accepted a.accepted.named
    (a.accepted.is_there ∙ ap (λ (e : Proc). Some e) (sym (alone_at b a d at))) built typed follows exact is_text spelled only is_s
