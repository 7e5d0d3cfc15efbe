-- What the stages of a replay refuse, and what they tell.
use Rattle.std.proofs.Common.{◌≡◌, ◌≤◌, ℕ, List, length, get_or, Some, None, refl, subst}
use Rattle.vb_base.specs.Limits.{max_boogie_bytes}
use Rattle.boogie_tree.specs.Program as p
use Rattle.boogie_tree.specs.Program.{BProgram}
use Rattle.boogie_tree.specs.Value.{BRun}
use Rattle.boogie_tree.specs.Whole.{proc_of, program_of}
use Rattle.boogie_tree.specs.declared.programs.BProgram.{BProgram as Program}
use Rattle.boogie_tree.specs.declared.programs.Proc.{Proc}
use Rattle.boogie_meaning.specs.Programs.{types_of}
use Rattle.boogie_run.specs.Start.{start_of, outcome_of}
use Rattle.boogie_run.specs.declared.replaying.BOutcome.{BOutcome}
use Rattle.run_file_boogie.specs.BoogieRun.{NamesNothingAt, SpellsName, SpellsBoogieRun, GoesWrongAt}
use Rattle.tool_procedure.specs.Alone.{Replays}
use Rattle.run_file_words.specs.Answers as run_file_words
use Rattle.run_file_words.specs.declared.faults.RunFileFault.{RunFileFault}
use Rattle.run_file_words.specs.declared.faults.RunFileFault.TheVariants as run
use Rattle.vb_tool.specs.AcceptedReplay.{NamesProcedure, IsBoogieRefusal, header, no_procedure, run_syntax, IsReplayRefusal, of_text, of_run, of_boogie}
use Rattle.vb_tool.specs.Converted.{trouble_of_run, trouble_of_boogie_file}
use Rattle.boogie_file.specs.Accepted.{IsBoogie, procedure_named, IsTextRefusal}
use Rattle.boogie_file.specs.declared.refusal.BoogieRefusal as why
use Rattle.boogie_file.specs.declared.trouble.BoogieTrouble.{BoogieTrouble}
use Rattle.boogie_file.specs.declared.trouble.BoogieTrouble.TheVariants as boogie
use Rattle.boogie_file.proofs.StageLaws.{named_there}
use Rattle.vb_tool.specs.BoogieRefusals.{refusal_of_boogie}
use Rattle.vb_tool.specs.Parts.{ReplayOf}
use Rattle.vb_tool.specs.Procedures.{procedure_end}
use Rattle.vb_tool.specs.ReplayOutcome.{replay_status, replay_text}
use Rattle.vb_tool.specs.declared.status.Refusal.{Refusal}
use Rattle.vb_tool.specs.declared.status.Refusal.TheVariants as refusal
use Rattle.vb_tool.specs.declared.status.Status.{Status}
use Rattle.vb_tool.specs.declared.trouble.Trouble.TheVariants as trouble

-- ---- the program

pub file_refused : (bytes : List ℕ) (t : BoogieTrouble) (r : Refusal) → ((q : why.BoogieRefusal) → t ≡ boogie.Refused q → IsTextRefusal bytes q) → trouble_of_boogie_file t ≡ trouble.Refused r →
    IsBoogieRefusal bytes r
file_refused bytes boogie.Memory r refuses is_r = absurd cc
file_refused bytes boogie.Read r refuses is_r = absurd cc
file_refused bytes (boogie.Refused q) r refuses is_r = let same : refusal_of_boogie q ≡ r = cc in subst (IsBoogieRefusal bytes) same (of_boogie (refuses q refl))

pub never_unread : (t : BoogieTrouble) → (t ≡ boogie.Read → ⊥) → trouble_of_boogie_file t ≡ trouble.Read → ⊥
never_unread boogie.Memory never is = absurd cc
never_unread boogie.Read never is = never refl
never_unread (boogie.Refused q) never is = absurd cc

-- ---- the procedure of a name

pub names_it : (run_bytes : List ℕ) (b : Program) (name : List ℕ) (n : ℕ) (d : Proc) → SpellsName run_bytes name → procedure_named (program_of b) name ≡ Some n → d ≡ get_or b.procs.items n d →
    NamesProcedure run_bytes (program_of b) (proc_of d)
names_it run_bytes b name n d said named at = record { name = name; header = said; number = n; named = named; is_there = named_there b name n d named at }

-- ---- the run

module _ {bytes run_bytes : List ℕ} (small : length bytes ≤ max_boogie_bytes) (few : length run_bytes ≤ max_boogie_bytes) where
  pub text_refused : {r : Refusal} → IsBoogieRefusal bytes r → IsReplayRefusal bytes run_bytes r
  text_refused is = of_text small few is

module _ (bytes run_bytes : List ℕ) (q : BProgram) (is : IsBoogie bytes q) (few : length run_bytes ≤ max_boogie_bytes) where
  pub header_refused : (f : RunFileFault) (r : Refusal) → run_file_words.UnlessMemory (NamesNothingAt run_bytes) f → trouble_of_run f ≡ trouble.Refused r → IsReplayRefusal bytes run_bytes r
  header_refused run.Memory r wrong is_r = absurd cc
  header_refused (run.Syntax at) r wrong is_r = let same : refusal.RunSyntax at ≡ r = cc in subst (IsReplayRefusal bytes run_bytes) same (of_run is few (header wrong))

  pub name_refused : (name : List ℕ) (r : Refusal) → SpellsName run_bytes name → procedure_named q name ≡ None → trouble.Refused refusal.NoProcedure ≡ trouble.Refused r → IsReplayRefusal bytes run_bytes r
  name_refused name r named none is_r = let same : refusal.NoProcedure ≡ r = cc in subst (IsReplayRefusal bytes run_bytes) same (of_run is few (no_procedure named none))

  pub run_refused : (d : p.Proc) (f : RunFileFault) (r : Refusal) → NamesProcedure run_bytes q d → run_file_words.UnlessMemory (GoesWrongAt run_bytes d) f → trouble_of_run f ≡ trouble.Refused r →
      IsReplayRefusal bytes run_bytes r
  run_refused d run.Memory r names wrong is_r = absurd cc
  run_refused d (run.Syntax at) r names wrong is_r = let same : refusal.RunSyntax at ≡ r = cc in subst (IsReplayRefusal bytes run_bytes) same (of_run is few (run_syntax names wrong))

  pub replay_is : (d : p.Proc) (x : BRun) (o : BOutcome) (status : Status) (text : List ℕ) → NamesProcedure run_bytes q d → SpellsBoogieRun run_bytes d x →
      outcome_of (procedure_end (record { program = q; procedure = d; environment = start_of (types_of d) x.settings; choices = x.choices })) ≡ Some o →
      status ≡ replay_status o → text ≡ replay_text o → ReplayOf bytes run_bytes status text
  replay_is d x o status text names spelled ends is_status is_text = record {
    run = record { program = q; procedure = d; environment = start_of (types_of d) x.settings; choices = x.choices };
    accepted = record { accepted = is; small = few; names = names; run = x; spelled = spelled; begins = refl; takes = refl };
    outcome = o;
    ends = ends;
    status_is = is_status;
    text_is = is_text;
  }

-- the same where the text is read part by part
pub replayed_is : {bytes run_bytes : List ℕ} {o : BOutcome} (status : Status) (text : List ℕ) → length run_bytes ≤ max_boogie_bytes → Replays bytes run_bytes o → status ≡ replay_status o → text ≡ replay_text o →
    ReplayOf bytes run_bytes status text
replayed_is {bytes} {run_bytes} {o} status text few h is_status is_text =
    replay_is bytes run_bytes h.accepted.program h.accepted.accepted few h.procedure h.ends.run o status text
    (record { name = h.name; header = h.header; number = h.accepted.number; named = h.accepted.named; is_there = h.accepted.is_there }) h.ends.spelled h.ends.ends is_status is_text
