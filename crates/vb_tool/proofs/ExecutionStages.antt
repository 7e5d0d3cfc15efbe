-- What the stages of an execution refuse, and what they tell.
use Rattle.std.proofs.Common.{◌≡◌, ◌∙◌, ◌≤◌, ℕ, List, length, Some, None, sym, ap, subst}
use Rattle.vb_base.specs.declared.places.Pos.{Pos}
use Rattle.vb_base.specs.Limits.{max_viper_bytes}
use Rattle.viper_core.specs.Program as p
use Rattle.viper_exec_subset.specs.Unframed.{first_unframed}
use Rattle.viper_exec.specs.Outcome.{end_of}
use Rattle.run_file_words.specs.Answers.{UnlessMemory}
use Rattle.run_file.specs.Run.{GoesWrongAt}
use Rattle.run_file_words.specs.declared.faults.RunFileFault.{RunFileFault}
use Rattle.run_file_words.specs.declared.faults.RunFileFault.TheVariants as fault
use Rattle.run_from_file.specs.Ends.{EndsSo}
use Rattle.run_from_file.specs.declared.executions.EndedExecution.{EndedExecution}
use Rattle.viper_file.specs.Accepted.{IsAccepted}
use Rattle.viper_file.specs.Framed.{IsFramed}
use Rattle.vb_tool.specs.AcceptedExecution.{IsUnframedRefusal, unframed, AcceptsExecution, IsExecutionRefusal, unread, no_method, run_syntax}
use Rattle.vb_tool.specs.Converted.{trouble_of_run}
use Rattle.vb_tool.specs.Executions.{body_named, MethodRun, execution_end, status_of, ended_text, execution_status, execution_text}
use Rattle.vb_tool.specs.Parts.{ExecutionOf}
use Rattle.vb_tool.specs.declared.status.Refusal.{Refusal}
use Rattle.vb_tool.specs.declared.status.Refusal.TheVariants as refusal
use Rattle.vb_tool.specs.declared.status.Status.{Status}
use Rattle.vb_tool.specs.declared.trouble.Trouble.TheVariants as trouble

pub text_refused : {bytes name run : List ℕ} {r : Refusal} → length bytes ≤ max_viper_bytes → length run ≤ max_viper_bytes → IsUnframedRefusal bytes r → IsExecutionRefusal bytes name run r
text_refused small few is = unread small few is

pub method_refused : (bytes name run : List ℕ) (q : p.Program) (r : Refusal) → IsFramed bytes q → length run ≤ max_viper_bytes → body_named q name ≡ None →
    trouble.Refused refusal.NoUnit ≡ trouble.Refused r → IsExecutionRefusal bytes name run r
method_refused bytes name run q r is few none is_r =
    let same : refusal.NoUnit ≡ r = cc in
    subst (IsExecutionRefusal bytes name run) same (no_method is few none)

pub run_refused : (bytes name run : List ℕ) (q : p.Program) (n : ℕ) (f : RunFileFault) (r : Refusal) → IsFramed bytes q → length run ≤ max_viper_bytes → body_named q name ≡ Some n →
    UnlessMemory (GoesWrongAt run q n) f → trouble_of_run f ≡ trouble.Refused r → IsExecutionRefusal bytes name run r
run_refused bytes name run q n fault.Memory r is few named wrong is_r = absurd (cc)
run_refused bytes name run q n (fault.Syntax at) r is few named wrong is_r =
    let same : refusal.RunSyntax at ≡ r = cc in
    subst (IsExecutionRefusal bytes name run) same (run_syntax is few named wrong)

pub execution_is : (bytes name run : List ℕ) (u : MethodRun) (n : ℕ) (s : Status) (text : List ℕ) (x : EndedExecution) → AcceptsExecution bytes name run u →
    EndsSo (execution_end n u) x → s ≡ status_of x.end → text ≡ ended_text x.end x.unused → ExecutionOf bytes name run n s text
execution_is bytes name run u n s text x accepts ends is_s is_text = record {
  run = u;
  accepted = accepts;
  status_is = is_s ∙ ap status_of ends.end ∙ sym (ap execution_status ends.runs);
  text_is = is_text ∙ ap (λ e. ended_text e x.unused) ends.end ∙ ap (λ k. ended_text (end_of ends.step) k) ends.unused ∙ sym (ap execution_text ends.runs);
}

-- ---- the text

pub unframed_refused : (bytes : List ℕ) (q : p.Program) (at : Pos) (r : Refusal) (accepted : IsAccepted bytes q) → first_unframed accepted.tokens ≡ Some at → trouble.Refused (refusal.Unframed at) ≡ trouble.Refused r → IsUnframedRefusal bytes r
unframed_refused bytes q at r accepted there is_r =
    let same : refusal.Unframed at ≡ r = cc in
    subst (IsUnframedRefusal bytes) same (unframed accepted there)
