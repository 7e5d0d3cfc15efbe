-- What becomes of one command: its files are read, and then it is refused, or something is told.
use Rattle.std.proofs.Common.{◌≡◌, ◌⊎◌, inl, inr, ◌∙◌, ◌<◌, ◌≤◌, ℕ, zero, suc, List, [], ◌∷◌, length, Contains, Option, Some, None, Result, Ok, Err, IfOk, IsErrAnd, refl, sym, ap, subst, arith}
use Rattle.vb_base.specs.declared.labels.Label.{Label}
use Rattle.vb_base.specs.Limits.{max_viper_bytes, max_made_methods}
use Rattle.vb_outer.specs.Faults.{Rose}
use Rattle.vb_outer.specs.Shelf.{Files, IsFile, IsMissing, IsWhole, IsLonger}
use Rattle.vb_outer.proofs.FaultLaws.{rose_earlier}
use Rattle.vb_outer.specs.declared.fault.FileFault.{FileFault}
use Rattle.vb_outer.specs.declared.fault.FileFault.TheVariants as unread
use Rattle.tool_common.proofs.FileLaws.{error_is, long_bytes}
use Rattle.vb_gen.specs.Generated.{IsOutOfRange}
use Rattle.viper_core.specs.Formed.{IsFormed}
use Rattle.viper_core.specs.View.{program_of}
use Rattle.viper_core.specs.declared.programs.Program.{Program}
use Rattle.enc_units.proofs.ProgramLaws.{translates}
use Rattle.vb_tool.proofs.FramedLaws.{framed_ends}
use Rattle.vb_tool.proofs.MakingLaws.{few_in_range}
use Rattle.vb_tool.proofs.ProvedLaws.{decides_named}
use Rattle.vb_tool.proofs.VerifiedLaws.{text_verified}
use Rattle.viper_file.specs.Accepted.{IsAccepted}
use Rattle.vb_tool.specs.Accepted.{IsTextRefusal, IsRunRefusal, of_text}
use Rattle.vb_tool.specs.AcceptedCondition.{IsConditionRefusal}
use Rattle.vb_tool.specs.AcceptedCut.{IsCutRefusal}
use Rattle.vb_tool.specs.AcceptedExecution.{IsExecutionRefusal}
use Rattle.vb_tool.specs.AcceptedReplay.{IsReplayRefusal}
use Rattle.vb_tool.specs.Call as call
use Rattle.vb_tool.specs.Call.{MissesOf, Misses, NamesFile, Refuses, Does, Promises}
use Rattle.vb_tool.specs.Command.{Command, Translate, Run, Replay, Make, Execute, Cut, Condition, files_of, limit_of, HasBudget}
use Rattle.vb_tool.specs.Converted.{trouble_of_file}
use Rattle.vb_tool.specs.Executions.{execution_end, execution_status}
use Rattle.vb_tool.specs.Outcome.{run_status}
use Rattle.vb_tool.specs.Parts.{OutcomeOf, ReplayOf, SummaryOf, ExecutionOf, CutOf, ConditionOf}
use Rattle.vb_tool.specs.ReplayOutcome.{replay_status}
use Rattle.vb_tool.specs.Units.{end_of}
use Rattle.vb_tool.specs.Works.{Works, told_of}
use Rattle.vb_tool.specs.declared.status.Refusal.{Refusal}
use Rattle.vb_tool.specs.declared.status.Refusal.TheVariants as refusal
use Rattle.vb_tool.specs.declared.status.Status.{Status}
use Rattle.vb_tool.specs.declared.status.Status.TheVariants as status
use Rattle.vb_tool.specs.declared.outcome.Ending.{Ending}
use Rattle.vb_tool.specs.declared.outcome.Work.{Work}
use Rattle.vb_tool.specs.declared.outcome.Work.TheVariants as a_work
use Rattle.vb_tool.specs.declared.trouble.Trouble.{Trouble}
use Rattle.vb_tool.specs.declared.trouble.Trouble.TheVariants as trouble
use Rattle.vb_tool.specs.Budget.{max_execution_budget}

-- ---- files that are read

is_file : (files : Option Files) (name other bytes : List ℕ) → IsMissing files other → IsWhole files name bytes → IsFile files name bytes
is_file None name other bytes missing whole = absurd missing
is_file (Some files) name other bytes missing whole = whole

-- the bytes of a file, as code has them, by what the shelf tells later
pub seen_whole : {files later : Option Files} {bytes seen : List ℕ} (name : List ℕ) → later ≡ files → seen ≡ bytes → IsWhole later name bytes → IsWhole files name seen
seen_whole {files} {later} {bytes} {seen} name same is whole = subst (λ f. IsWhole f name seen) same (subst (IsWhole later name) (sym is) whole)

-- a command names the first of its files
names_first : (command : Command) (file : List ℕ) (files : List (List ℕ)) → files_of command ≡ file ∷ files → NamesFile command
names_first command file files first = (file, subst (λ names. Contains names file) (sym first) (0, omega arith, refl))

-- a trouble, as that of some result
abbrev troubled : (T : Type 0) → Trouble → Result T Trouble
troubled T t = Err t

abbrev faulty : (T : Type 0) → FileFault → Result T FileFault
faulty T fault = Err fault

module _ {files now : Option Files} {first last : ℕ} (command : Command) (same : now ≡ files) where
  -- it stops at a trouble
  pub stopped : (t : Trouble) {r : Result Work Trouble} → IsErrAnd r (λ e. e ≡ t) → ((q : Refusal) → t ≡ trouble.Refused q → Refuses (IsWhole files) command q) →
      (t ≡ trouble.Read → Misses files command ⊎ Rose first last) → (t ≡ trouble.Read → NamesFile command) → Works files now first last command r
  stopped t {r = Ok w} is refused read names = absurd is
  stopped t {r = Err e} is refused read names = record {
    work = tt;
    promises = tt;
    can_be_written = tt;
    refused = λ q is_q. refused q (sym is ∙ error_is refl is_q);
    read = λ is_read. read (sym is ∙ error_is refl is_read);
    names = λ is_read. names (sym is ∙ error_is refl is_read);
    files = same;
  }

  -- its first file is too long, or is missing, or the shelf failed
  pub first_unread : {T : Type 0} {limit : ℕ} (file : List ℕ) (others : List (List ℕ)) (fault : FileFault) {r : Result Work Trouble} → files_of command ≡ file ∷ others → HasBudget command →
      IsErrAnd r (λ e. e ≡ trouble_of_file fault) → (faulty T fault ≡ Err unread.Long → IsLonger files file limit) →
      (faulty T fault ≡ Err unread.Failed → IsMissing files file ⊎ Rose first last) →
      ((bytes : List ℕ) → IsWhole files file bytes → limit < length bytes → Refuses (IsWhole files) command refusal.Size) → Works files now first last command r
  first_unread {limit = limit} file others unread.Memory names may is long failed refuses = stopped trouble.Memory is (λ q e. absurd cc) (λ e. absurd cc) (λ e. absurd cc)
  first_unread {limit = limit} file others unread.Failed names may is long failed refuses = stopped trouble.Read is (λ q e. absurd cc) (λ e. missing (failed refl)) (λ e. names_first command file others names) where
    missing : IsMissing files file ⊎ Rose first last → Misses files command ⊎ Rose first last
    missing (inl m) = inl (may, subst (MissesOf files (limit_of command)) (sym names) (call.first m))
    missing (inr rose) = inr rose
  first_unread {limit = limit} file others unread.Long names may is long failed refuses = stopped (trouble.Refused refusal.Size) is refused (λ e. absurd cc) (λ e. absurd cc) where
    refused : (q : Refusal) → trouble.Refused refusal.Size ≡ trouble.Refused q → Refuses (IsWhole files) command q
    refused q e =
        let (bytes, whole, above) = long_bytes files file limit (long refl) in
        let same_refusal : refusal.Size ≡ q = cc in
        subst (Refuses (IsWhole files) command) same_refusal (refuses bytes whole above)

  -- and so its second one, where the first was read
  pub second_unread : {T : Type 0} {between : Option Files} {middle limit : ℕ} (file other bytes : List ℕ) (t : Trouble) {r : Result Work Trouble} → files_of command ≡ file ∷ other ∷ [] → HasBudget command →
      IsWhole files file bytes → length bytes ≤ limit_of command → between ≡ files → first ≤ middle → IsErrAnd r (λ e. e ≡ t) →
      ((q : Refusal) → troubled T t ≡ Err (trouble.Refused q) → (q ≡ refusal.RunSize) × IsLonger between other limit) →
      (troubled T t ≡ Err trouble.Read → IsMissing between other ⊎ Rose middle last) →
      ((run_bytes : List ℕ) → IsWhole files other run_bytes → limit < length run_bytes → Refuses (IsWhole files) command refusal.RunSize) → Works files now first last command r
  second_unread {between = between} {middle = middle} {limit = limit} file other bytes t names may whole small kept later is refused read refuses =
      stopped t is (λ q e. long q (refused q (ap (λ u. Err u) e))) (λ e. missing (read (ap (λ u. Err u) e))) (λ e. names_first command file (other ∷ []) names) where
        long : (q : Refusal) → (q ≡ refusal.RunSize) × IsLonger between other limit → Refuses (IsWhole files) command q
        long q h =
            let (run_bytes, run_whole, above) = long_bytes files other limit (subst (λ f. IsLonger f other limit) kept h.1) in
            subst (Refuses (IsWhole files) command) (sym h.0) (refuses run_bytes run_whole above)

        missing : IsMissing between other ⊎ Rose middle last → Misses files command ⊎ Rose first last
        missing (inl m) =
            let there : IsMissing files other = subst (λ f. IsMissing f other) kept m in
            inl (may, subst (MissesOf files (limit_of command)) (sym names) (call.later bytes (is_file files file other bytes there whole) small (call.first there)))
        missing (inr rose) = inr (rose_earlier first middle last later rose)

  -- its files are read, and something is told of them, or they are refused
  pub tells : {P : Ending → Type 0} (told : Result Ending Trouble) {r : Result Work Trouble} → r ≡ told_of told → IfOk told P →
      ((t : Ending) → P t → Does (IsWhole files) command t.status t.text.items × Promises (IsWhole files) command t.status t.text.items) →
      ((q : Refusal) → told ≡ Err (trouble.Refused q) → Refuses (IsWhole files) command q) → (told ≡ Err trouble.Read → ⊥) → Works files now first last command r
  tells {P} (Ok t) {r} is h does refused read = subst (λ q. Works files now first last command q) (sym is) (record {
    work = (does t h).0;
    promises = (does t h).1;
    can_be_written = tt;
    refused = λ q e. absurd cc;
    read = λ e. absurd cc;
    names = λ e. absurd cc;
    files = same;
  })
  tells {P} (Err t) {r} is h does refused read = subst (λ q. Works files now first last command q) (sym is) (stopped t refl (λ q e. refused q (ap (λ u. Err u) e)) (λ e. absurd (read (ap (λ u. Err u) e))) (λ e. absurd (read (ap (λ u. Err u) e))))

-- ---- what each command does

run_does : (files : Option Files) (file unit run_file bytes run_bytes text : List ℕ) (s : Status) → IsWhole files file bytes → IsWhole files run_file run_bytes →
    OutcomeOf bytes unit run_bytes s text → Does (IsWhole files) (Run file unit run_file) s text
run_does files file unit run_file bytes run_bytes text s whole run_whole o =
    let Deed : Status → List ℕ → Type 0 = Does (IsWhole files) (Run file unit run_file) in
    subst (λ x. Deed x text) (sym o.status_is) (subst (Deed (run_status (end_of o.run))) (sym o.text_is) (call.ran bytes run_bytes whole run_whole o.accepted o.exists))

replay_does : (files : Option Files) (file run_file bytes run_bytes text : List ℕ) (s : Status) → IsWhole files file bytes → IsWhole files run_file run_bytes →
    ReplayOf bytes run_bytes s text → Does (IsWhole files) (Replay file run_file) s text
replay_does files file run_file bytes run_bytes text s whole run_whole o =
    let Deed : Status → List ℕ → Type 0 = Does (IsWhole files) (Replay file run_file) in
    subst (λ x. Deed x text) (sym o.status_is) (subst (Deed (replay_status o.outcome)) (sym o.text_is) (call.replayed bytes run_bytes whole run_whole o.accepted o.ends))

execution_does : (files : Option Files) (file method run_file bytes run_bytes text : List ℕ) (n : ℕ) (s : Status) → n ≤ max_execution_budget → IsWhole files file bytes →
    IsWhole files run_file run_bytes → ExecutionOf bytes method run_bytes n s text → Does (IsWhole files) (Execute file method run_file n) s text
execution_does files file method run_file bytes run_bytes text n s few whole run_whole o =
    let Deed : Status → List ℕ → Type 0 = Does (IsWhole files) (Execute file method run_file n) in
    subst (λ x. Deed x text) (sym o.status_is) (subst (Deed (execution_status (execution_end n o.run))) (sym o.text_is) (call.executed bytes run_bytes few whole run_whole o.accepted))

condition_does : (files : Option Files) (file procedure bytes text : List ℕ) (label : Label) (s : Status) → IsWhole files file bytes → ConditionOf bytes procedure label s text →
    Does (IsWhole files) (Condition file procedure label) s text
condition_does files file procedure bytes text label s whole o =
    let Deed : Status → List ℕ → Type 0 = Does (IsWhole files) (Condition file procedure label) in
    subst (λ x. Deed x text) (sym o.status_is) (subst (Deed status.Done) (sym o.text_is) (call.stated bytes whole o.accepted))

cut_does : (files : Option Files) (file bytes text : List ℕ) (s : Status) → IsWhole files file bytes → CutOf bytes s text → Does (IsWhole files) (Cut file) s text
cut_does files file bytes text s whole o =
    let Deed : Status → List ℕ → Type 0 = Does (IsWhole files) (Cut file) in
    subst (λ x. Deed x text) (sym o.status_is) (subst (Deed status.Done) (sym o.text_is) (call.was_cut bytes whole o.accepted))

-- a number that is not out of range is one from 1 on, and not too great
in_range : (n : ℕ) → (IsOutOfRange n → ⊥) → (1 ≤ n) × (n ≤ max_made_methods)
in_range zero within = absurd (within (inl refl))
in_range (suc n) within = (omega arith, few_in_range (suc n) within)

made_does : (files : Option Files) (n : ℕ) (text : List ℕ) (s : Status) → SummaryOf n s text → Does (IsWhole files) (Make n) s text
made_does files n text s o =
    let range = in_range n o.in_range in
    let Deed : Status → List ℕ → Type 0 = Does (IsWhole files) (Make n) in
    subst (λ x. Deed x text) (sym o.status_is) (subst (Deed status.Done) (sym o.text_is) (call.made range.0 range.1 o.accepted))

summary_refused : (files : Option Files) (n : ℕ) (r : Refusal) → (refusal.Range ≡ r) × IsOutOfRange n → Refuses (IsWhole files) (Make n) r
summary_refused files n r why = subst (Refuses (IsWhole files) (Make n)) why.0 (call.makes why.1)

-- ---- what becomes of each command, where its files are read

module _ {files now : Option Files} {first last : ℕ} (same : now ≡ files) where
  pub translation_works : (file bytes : List ℕ) (p : Program) → IsWhole files file bytes → IsAccepted bytes (program_of p) → IsFormed (program_of p) →
      Works files now first last (Translate file) (Ok (a_work.Translate p))
  translation_works file bytes p whole accepted formed = record {
    work = call.translated bytes whole accepted;
    promises = (
      record { bytes = bytes; is = whole; program = program_of p; accepted = accepted; translates = translates (program_of p) formed },
      record { bytes = bytes; is = whole; program = program_of p; accepted = accepted; verified = text_verified (program_of p) formed },
    );
    can_be_written = formed;
    refused = λ q e. absurd cc;
    read = λ e. absurd cc;
    names = λ e. absurd cc;
    files = same;
  }

  pub translation_refused : (file bytes : List ℕ) (t : Trouble) {r : Result Work Trouble} → IsWhole files file bytes → length bytes ≤ max_viper_bytes → IsErrAnd r (λ e. e ≡ t) →
      ((q : Refusal) → troubled Program t ≡ Err (trouble.Refused q) → IsTextRefusal bytes q) → (troubled Program t ≡ Err trouble.Read → ⊥) → Works files now first last (Translate file) r
  translation_refused file bytes t whole small is refused read =
      stopped (Translate file) same t is (λ q e. call.translates bytes whole (of_text small (refused q (ap (λ u. Err u) e))))
      (λ e. absurd (read (ap (λ u. Err u) e))) (λ e. absurd (read (ap (λ u. Err u) e)))

  -- where it failed, a run of Boogie stands in the text
  pub run_works : (file unit run_file bytes run_bytes : List ℕ) (told : Result Ending Trouble) {r : Result Work Trouble} → r ≡ told_of told → IsWhole files file bytes → IsWhole files run_file run_bytes →
      IfOk told (λ t. OutcomeOf bytes unit run_bytes t.status t.text.items) → ((q : Refusal) → told ≡ Err (trouble.Refused q) → IsRunRefusal bytes unit run_bytes q) → (told ≡ Err trouble.Read → ⊥) →
      Works files now first last (Run file unit run_file) r
  run_works file unit run_file bytes run_bytes told is whole run_whole done refused read =
      tells (Run file unit run_file) same told is done
      (λ t o. (
        run_does files file unit run_file bytes run_bytes t.text.items t.status whole run_whole o,
        λ label failed. record { bytes = bytes; run_bytes = run_bytes; is = whole; run_is = run_whole; run = o.run; accepted = o.accepted; transferred = o.transferred label failed },
      ))
      (λ q e. call.runs bytes run_bytes whole run_whole (refused q e)) read

  pub replay_works : (file run_file bytes run_bytes : List ℕ) (told : Result Ending Trouble) {r : Result Work Trouble} → r ≡ told_of told → IsWhole files file bytes → IsWhole files run_file run_bytes →
      IfOk told (λ t. ReplayOf bytes run_bytes t.status t.text.items) → ((q : Refusal) → told ≡ Err (trouble.Refused q) → IsReplayRefusal bytes run_bytes q) → (told ≡ Err trouble.Read → ⊥) →
      Works files now first last (Replay file run_file) r
  replay_works file run_file bytes run_bytes told is whole run_whole done refused read =
      tells (Replay file run_file) same told is done (λ t o. (replay_does files file run_file bytes run_bytes t.text.items t.status whole run_whole o, tt))
      (λ q e. call.replays bytes run_bytes whole run_whole (refused q e)) read

  -- an execution is framed
  pub execution_works : (file method run_file bytes run_bytes : List ℕ) (n : ℕ) (told : Result Ending Trouble) {r : Result Work Trouble} → n ≤ max_execution_budget → r ≡ told_of told → IsWhole files file bytes → IsWhole files run_file run_bytes →
      IfOk told (λ t. ExecutionOf bytes method run_bytes n t.status t.text.items) → ((q : Refusal) → told ≡ Err (trouble.Refused q) → IsExecutionRefusal bytes method run_bytes q) → (told ≡ Err trouble.Read → ⊥) →
      Works files now first last (Execute file method run_file n) r
  execution_works file method run_file bytes run_bytes n told few is whole run_whole done refused read =
      tells (Execute file method run_file n) same told is done
      (λ t o. (
        execution_does files file method run_file bytes run_bytes t.text.items n t.status few whole run_whole o,
        record {
          bytes = bytes;
          run_bytes = run_bytes;
          is = whole;
          run_is = run_whole;
          run = o.run;
          accepted = o.accepted;
          framed = λ boogie spelled nothing label at. framed_ends o.accepted boogie spelled nothing n label (sym o.status_is ∙ at);
        },
      ))
      (λ q e. call.executes bytes run_bytes few whole run_whole (refused q e)) read

  pub budget_works : (file method run_file : List ℕ) (n : ℕ) → max_execution_budget < n → Works files now first last (Execute file method run_file n) (Err (trouble.Refused refusal.Range))
  budget_works file method run_file n above =
      stopped (Execute file method run_file n) same (trouble.Refused refusal.Range) refl
      (λ q e. let is : refusal.Range ≡ q = cc in subst (Refuses (IsWhole files) (Execute file method run_file n)) is (call.over_budget above)) (λ e. absurd cc) (λ e. absurd cc)

  -- what is written for loops and calls follows them
  pub cut_works : (file bytes : List ℕ) (told : Result Ending Trouble) {r : Result Work Trouble} → r ≡ told_of told → IsWhole files file bytes →
      IfOk told (λ t. CutOf bytes t.status t.text.items) → ((q : Refusal) → told ≡ Err (trouble.Refused q) → IsCutRefusal bytes q) → (told ≡ Err trouble.Read → ⊥) →
      Works files now first last (Cut file) r
  cut_works file bytes told is whole done refused read =
      tells (Cut file) same told is done
      (λ t o. (cut_does files file bytes t.text.items t.status whole o, record { bytes = bytes; is = whole; program = o.program; accepted = o.accepted; cut = o.cut }))
      (λ q e. call.cuts bytes whole (refused q e)) read

  -- what is stated of a procedure and a label is a condition for them
  pub condition_works : (file procedure bytes : List ℕ) (label : Label) (told : Result Ending Trouble) {r : Result Work Trouble} → r ≡ told_of told → IsWhole files file bytes →
      IfOk told (λ t. ConditionOf bytes procedure label t.status t.text.items) → ((q : Refusal) → told ≡ Err (trouble.Refused q) → IsConditionRefusal bytes procedure q) → (told ≡ Err trouble.Read → ⊥) →
      Works files now first last (Condition file procedure label) r
  condition_works file procedure bytes label told is whole done refused read =
      tells (Condition file procedure label) same told is done
      (λ t o. (
        condition_does files file procedure bytes t.text.items label t.status whole o,
        record {
          bytes = bytes;
          is = whole;
          procedure = o.procedure;
          accepted = o.accepted;
          condition = o.condition;
          decides = decides_named bytes o.accepted.program o.accepted.accepted.text.spelled procedure o.accepted.number o.procedure label o.condition.formula o.accepted.named o.accepted.is_there o.condition.exact;
        },
      ))
      (λ q e. call.conditions bytes whole (refused q e)) read

  pub making_works : (n : ℕ) (told : Result Ending Trouble) {r : Result Work Trouble} → r ≡ told_of told → IfOk told (λ t. SummaryOf n t.status t.text.items) →
      ((q : Refusal) → told ≡ Err (trouble.Refused q) → (refusal.Range ≡ q) × IsOutOfRange n) → (told ≡ Err trouble.Read → ⊥) → Works files now first last (Make n) r
  making_works n told is done refused read =
      tells (Make n) same told is done (λ t o. (made_does files n t.text.items t.status o, tt)) (λ q e. summary_refused files n q (refused q e)) read
