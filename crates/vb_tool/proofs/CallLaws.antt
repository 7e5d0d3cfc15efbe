-- What the parts of a call, one after the other, make of it.
use Rattle.std.proofs.Common.{◌≡◌, ◌⊎◌, inl, inr, ℕ, List, [], Option, Result, Ok, Err, IfOk, MatchResult, refl, sym, subst}
use Rattle.vb_outer.specs.Faults.{Rose}
use Rattle.vb_outer.specs.Shelf.{Files, IsWhole}
use Rattle.tool_common.specs.Ends.{Stops}
use Rattle.tool_common.specs.Kind as kind
use Rattle.tool_common.specs.Written.{Reports}
use Rattle.tool_common.proofs.EndLaws.{delivered_cause, delivered_out, delivered_err, reported_cause, reported_out, reported_err}
use Rattle.boogie_run.specs.declared.replaying.BOutcome.{BOutcome}
use Rattle.boogie_run.specs.declared.replaying.BOutcome.TheVariants as boogie
use Rattle.vb_tool.specs.Call as call
use Rattle.vb_tool.specs.Call.{Misses, NamesFile, Refuses, Does, Promises, HasDone, IsCause, OutAfter, ErrAfter, Causes}
use Rattle.vb_tool.specs.Command.{Command, Asks}
use Rattle.vb_tool.specs.Converted.{status_of_trouble}
use Rattle.vb_tool.specs.Outcome.{status_of, run_status}
use Rattle.vb_tool.specs.Parts as parts
use Rattle.vb_tool.specs.Executions.{execution_end, execution_status, status_of as status_of_end}
use Rattle.vb_tool.specs.Parts.{Delivers, work_status, work_text}
use Rattle.vb_tool.specs.ReplayOutcome.{replay_status}
use Rattle.vb_tool.specs.Status.{kind_of, line_of}
use Rattle.vb_tool.specs.Units.{end_of}
use Rattle.vb_tool.specs.declared.status.Refusal.{Refusal}
use Rattle.vb_tool.specs.declared.status.Status.{Status}
use Rattle.vb_tool.specs.declared.status.Status.TheVariants as status
use Rattle.vb_tool.specs.declared.outcome.Work.{Work}
use Rattle.vb_tool.specs.declared.trouble.Trouble.{Trouble}
use Rattle.vb_tool.specs.declared.trouble.Trouble.TheVariants as trouble
use Rattle.viper_meaning.specs.Run.{Ran, ran}
use Rattle.viper_state.specs.State.{State}
use Rattle.viper_state.specs.declared.runs.Outcome.{Outcome}
use Rattle.viper_state.specs.declared.runs.Outcome.TheVariants as outcome
use Rattle.viper_run.specs.Outcome.{outcome_of}
use Rattle.viper_exec_meaning.specs.Execution.{Went}
use Rattle.viper_exec.specs.Outcome.{end_of as end_of_step}
use Rattle.viper_exec.specs.declared.executions.ExecEnd.{ExecEnd}
use Rattle.viper_exec.specs.declared.executions.ExecEnd.TheVariants as ends

-- ---- what was done

pub has_done : {words : List (List ℕ)} {files : Option Files} {command : Command} {s : Status} {text : List ℕ} → Asks words command → Does (IsWhole files) command s text →
    Promises (IsWhole files) command s text → HasDone words files s text
has_done {command = c} asks does promises = record { command = c; asked = asks; does = does; promises = promises }

-- a trouble is told by the status that has its cause
pub trouble_stops : (words : List (List ℕ)) (files : Option Files) (first last : ℕ) {command : Command} → Asks words command → (t : Trouble) (s : Status) → status_of_trouble t ≡ s →
    (t ≡ trouble.Read → NamesFile command) → (t ≡ trouble.Read → Misses files command ⊎ Rose first last) → ((r : Refusal) → t ≡ trouble.Refused r → Refuses (IsWhole files) command r) →
    Stops kind_of (IsCause words files first last) s
trouble_stops words files first last asks trouble.Memory s is names read refused = subst (Stops kind_of (IsCause words files first last)) is tt
trouble_stops words files first last asks trouble.Read s is names read refused = subst (Stops kind_of (IsCause words files first last)) is (call.read asks (names refl) (read refl))
trouble_stops words files first last asks (trouble.Refused r) s is names read refused = subst (Stops kind_of (IsCause words files first last)) is (call.refused asks (refused r refl))

-- ---- how the call ends

outcome_done : (o : Outcome) → kind_of (status_of o) ≡ kind.Answered
outcome_done outcome.Done = refl
outcome_done (outcome.Failed label) = refl
outcome_done outcome.Blocked = refl
outcome_done outcome.Short = refl
outcome_done (outcome.Over at) = refl

run_done : (r : Ran State) → kind_of (run_status r) ≡ kind.Answered
run_done (ran events step left) = outcome_done (outcome_of step)

replay_done : (o : BOutcome) → kind_of (replay_status o) ≡ kind.Answered
replay_done boogie.Done = refl
replay_done (boogie.Failed label) = refl
replay_done boogie.Blocked = refl
replay_done boogie.Short = refl
replay_done boogie.Over = refl

end_done : (e : ExecEnd) → kind_of (status_of_end e) ≡ kind.Answered
end_done ends.Done = refl
end_done (ends.Failed label) = refl
end_done ends.Blocked = refl
end_done ends.Short = refl
end_done (ends.Over at) = refl
end_done ends.Spent = refl

execution_done : (r : Ran (Went State)) → kind_of (execution_status r) ≡ kind.Answered
execution_done (ran events step left) = end_done (end_of_step step)

-- what a command does ends with an answer
pub does_end : {Has : List ℕ → List ℕ → Type 0} {command : Command} {s : Status} {text : List ℕ} → Does Has command s text → kind_of s ≡ kind.Answered
does_end (call.translated bytes is accepts) = refl
does_end (call.ran {u = u} bytes run_bytes is run_is accepts there) = run_done (end_of u)
does_end (call.replayed {o = o} bytes run_bytes is run_is accepts ends) = replay_done o
does_end (call.made some few accepts) = refl
does_end (call.executed {n = n} {u = u} bytes run_bytes few is run_is accepts) = execution_done (execution_end n u)
does_end (call.was_cut bytes is accepts) = refl
does_end (call.stated bytes is accepts) = refl

quiet : (s : Status) → kind_of s ≡ kind.NoMemory → line_of s ≡ []
quiet status.NoMemory is = refl
quiet (status.Refused r) is = absurd (cc)
quiet status.Usage is = absurd (cc)
quiet status.ReadFault is = absurd (cc)
quiet status.WriteFault is = refl
quiet status.Done is = refl
quiet (status.Failed label) is = refl
quiet status.Blocked is = refl
quiet status.Short is = refl
quiet status.Over is = refl
quiet status.Spent is = refl

module _ (words : List (List ℕ)) (files : Option Files) (first last : ℕ) (out_before out_now err_before err_now : Option (List ℕ)) (out_first out_last err_first err_last : ℕ) where
  -- what was done is written, or the line that says why nothing was
  abbrev pub Ended : Status → Result Work Status → Type 0
  Ended ended done = MatchResult done
      (λ w. Delivers out_before out_now out_first out_last (work_text w) (work_status w) ended × (err_now ≡ err_before))
      (λ s. Reports kind_of err_before err_now err_first err_last (line_of s) s ended × (out_now ≡ out_before))

  abbrev IsDone : Result Work Status → Type 0
  IsDone done = IfOk done (λ w. HasDone words files (work_status w) (work_text w))

  abbrev IsStop : Result Work Status → Type 0
  IsStop done = (s : Status) → done ≡ Err s → Stops kind_of (IsCause words files first last) s

  pub done_cause : (ended : Status) (r : Result Work Status) → Ended ended r → IsDone r → IsStop r → Causes words files first last (Rose out_first out_last ⊎ Rose err_first err_last) ended
  done_cause ended (Ok w) (parts.of_text d, same) h stops = delivered_cause {kind = kind_of} (does_end h.does) (IsCause words files first last) (Rose err_first err_last) d (call.done h)
  done_cause _ (Ok w) (parts.no_memory front, same) h stops = tt
  done_cause ended (Err s) e h stops = reported_cause (IsCause words files first last) (Rose out_first out_last) e.0 (stops s refl)

  pub done_out : (ended : Status) (r : Result Work Status) → Ended ended r → IsDone r → IsStop r → OutAfter out_before out_now (HasDone words files) ended
  done_out ended (Ok w) (parts.of_text d, same) h stops =
      delivered_out {kind = kind_of} (does_end h.does) (call.Written out_before out_now (HasDone words files)) (out_now ≡ out_before)
      (call.FrontWritten out_before out_now (HasDone words files)) (call.FrontWritten out_before out_now (HasDone words files)) d
      (λ appends. (work_text w, h, appends)) (λ front. inr (work_status w, work_text w, h, front))
  done_out _ (Ok w) (parts.no_memory front, same) h stops = inr (work_status w, work_text w, h, front)
  done_out ended (Err s) e h stops =
      reported_out (IsCause words files first last) (call.Written out_before out_now (HasDone words files))
      {Unfinished = call.FrontWritten out_before out_now (HasDone words files)} {Forgotten = call.FrontWritten out_before out_now (HasDone words files)} e.0 (stops s refl) e.1 (inl e.1) (inl e.1)

  pub done_err : (ended : Status) (r : Result Work Status) → Ended ended r → IsDone r → IsStop r → ErrAfter err_before err_now (IsCause words files first last) ended
  done_err ended (Ok w) (parts.of_text d, same) h stops =
      subst (λ x. ErrAfter err_before x (IsCause words files first last) ended) (sym same) (delivered_err {kind = kind_of} (does_end h.does) line_of err_before (IsCause words files first last) d)
  done_err _ (Ok w) (parts.no_memory front, same) h stops = same
  done_err ended (Err s) e h stops = reported_err (IsCause words files first last) line_of quiet e.0 (stops s refl)
