-- Two files are a run of a procedure of Boogie, or are refused for one reason.
use Rattle.std.proofs.Common.{◌≡◌, ◌∙◌, ◌⊎◌, inl, inr, ◌<◌, ◌≤◌, ℕ, List, length, All, Option, Some, None, slice_get, refl, sym, ap, subst, arith}
use Rattle.std.proofs.lemmas.Bool.{cases_lt}
use Rattle.lemmas.proofs.Lists.{all_at, item_there}
use Rattle.lemmas.proofs.Options.{some_same, none_some}
use Rattle.vb_base.specs.Names.{NamesDiffer}
use Rattle.vb_base.specs.declared.places.Pos.{Pos}
use Rattle.vb_base.specs.Limits.{max_boogie_bytes}
use Rattle.vb_value.specs.Bound.{Bounded}
use Rattle.boogie_tree.specs.Program.{Proc, BProgram}
use Rattle.boogie_tree.specs.Value.{BChoice, BRun}
use Rattle.boogie_tree.specs.Values.{IsEnvironment, IsReducedChoice}
use Rattle.boogie_meaning.specs.Programs.{types_of}
use Rattle.boogie_meaning.specs.Run.{Run, Done, Stops, Failed, Blocked, Short, Over, Wrong}
use Rattle.boogie_meaning.proofs.RunTypedLaws as runs
use Rattle.boogie_grammar.specs.declared.faults.BoogieFault.{BoogieFault}
use Rattle.boogie_grammar.specs.declared.faults.BoogieFault.TheVariants as fault
use Rattle.boogie_print.specs.Read.{IsRead}
use Rattle.boogie_print.specs.Printable.{FitsProc}
use Rattle.boogie_print.proofs.SpelledLaws.{spelled_printable}
use Rattle.boogie_run.specs.Start.{start_of, outcome_of}
use Rattle.boogie_run.specs.declared.replaying.BOutcome.{BOutcome}
use Rattle.boogie_run.specs.declared.replaying.BOutcome.TheVariants as outcome
use Rattle.run_file_boogie.specs.BoogieLines.{known}
use Rattle.run_file_boogie.specs.BoogieRun.{SpellsName, NamesNothingAt, SpellsBoogieRun, GoesWrongAt}
use Rattle.run_file_words.specs.Text.{lines_of}
use Rattle.run_file_words.proofs.AnswerLaws as answers
use Rattle.run_file_boogie.proofs.BoogieFileLaws.{is_reader}
use Rattle.run_file_boogie.proofs.BoogieNameLaws.{one_name, never_wrong}
use Rattle.run_file_boogie.proofs.HeaderLaws.{header_or_place, one_header_place}
use Rattle.run_file_laws.proofs.BoogieRunLaws.{start_is, can_run}
use Rattle.boogie_file.specs.Accepted.{IsBoogie, procedure_named, IsTextRefusal}
use Rattle.boogie_file.specs.declared.refusal.BoogieRefusal as why
use Rattle.boogie_file.proofs.Verdicts.{one_boogie, one_text_refusal, boogie_text, boogie_answer, named_within}
use Rattle.vb_tool.specs.BoogieRefusals.{refusal_of_boogie}
use Rattle.vb_tool.specs.Accepted.{HasOneAnswer, is_accepted, is_refused}
use Rattle.vb_tool.specs.AcceptedReplay.{NamesProcedure, AcceptsReplay, IsBoogieRefusal, of_boogie, IsBoogieRunRefusal, header, no_procedure, run_syntax, IsReplayRefusal, size, run_size, of_text, of_run}
use Rattle.vb_tool.specs.Procedures.{ProcedureRun, procedure_end}
use Rattle.vb_tool.specs.declared.status.Refusal.{Refusal}
use Rattle.vb_tool.specs.declared.status.Refusal.TheVariants as refusal

-- ---- the text of a program

-- the refusal for a fault
abbrev pub for_fault : BoogieFault → Refusal
for_fault fault.Memory = refusal.Size
for_fault (fault.Prelude at) = refusal.Prelude at
for_fault (fault.Syntax at) = refusal.BoogieSyntax at
for_fault (fault.Deep at) = refusal.Deep at

module _ {bytes : List ℕ} where
  pub one_boogie_refusal : {r q : Refusal} → IsBoogieRefusal bytes r → IsBoogieRefusal bytes q → r ≡ q
  one_boogie_refusal (of_boogie is) (of_boogie also) = ap refusal_of_boogie (one_text_refusal is also)

  pub boogie_not_refused : {q : BProgram} {r : Refusal} → IsBoogie bytes q → IsBoogieRefusal bytes r → ⊥
  boogie_not_refused h (of_boogie is) = boogie_text h is

-- ---- the procedure that a run file names

pub names_differ : {bytes : List ℕ} {q : BProgram} (n : ℕ) (d : Proc) → IsRead bytes q → slice_get q.procs n ≡ Some d → NamesDiffer (known d.locals).names
names_differ {bytes} {q} n d h there = (all_at FitsProc q.procs n d (spelled_printable bytes q h.spelled).procs there).locals_differ

module _ {run_bytes : List ℕ} {q r : BProgram} (same : q ≡ r) where
  one_procedure : {d e : Proc} → NamesProcedure run_bytes q d → NamesProcedure run_bytes r e → d ≡ e
  one_procedure {d} {e} h k =
      let name = one_name (lines_of run_bytes) h.header k.header in
      let number = some_same (sym h.named ∙ (λ t. procedure_named (same t) (name t)) ∙ k.named) in
      some_same (sym h.is_there ∙ (λ t. slice_get (same t).procs (number t)) ∙ k.is_there)

  named_or_not : {name : List ℕ} {d : Proc} → SpellsName run_bytes name → procedure_named q name ≡ None → NamesProcedure run_bytes r d → ⊥
  named_or_not {name} h none k =
      let also = one_name (lines_of run_bytes) h k.header in
      none_some (sym none ∙ (λ t. procedure_named (same t) (also t)) ∙ k.named)

-- ---- a run file

module _ {bytes run_bytes : List ℕ} {q r : BProgram} (h : IsBoogie bytes q) (same : q ≡ r) where
  differ : {d : Proc} → NamesProcedure run_bytes q d → NamesDiffer (known d.locals).names
  differ {d} k = names_differ k.number d h.text k.is_there

  one_run_refusal : {a b : Refusal} → IsBoogieRunRefusal q run_bytes a → IsBoogieRunRefusal r run_bytes b → a ≡ b
  one_run_refusal (header k) (header l) = ap refusal.RunSyntax (one_header_place run_bytes _ _ k l)
  one_run_refusal (header k) (no_procedure l none) = absurd (never_wrong run_bytes _ _ l k)
  one_run_refusal (header k) (run_syntax l wrong) = absurd (never_wrong run_bytes _ _ l.header k)
  one_run_refusal (no_procedure k none) (header l) = absurd (never_wrong run_bytes _ _ k l)
  one_run_refusal (no_procedure k none) (no_procedure l also) = refl
  one_run_refusal (no_procedure k none) (run_syntax l wrong) = absurd (named_or_not same k none l)
  one_run_refusal (run_syntax k wrong) (header l) = absurd (never_wrong run_bytes _ _ k.header l)
  one_run_refusal (run_syntax k wrong) (no_procedure l none) = absurd (named_or_not (sym same) l none k)
  one_run_refusal (run_syntax {procedure = d} {at = at} k wrong) (run_syntax {at = to} l also) =
      ap refusal.RunSyntax (answers.one_place (is_reader d (differ k)) run_bytes at to wrong (subst (λ x. GoesWrongAt run_bytes x to) (sym (one_procedure same k l)) also))

  run_not_refused : {d : Proc} {run : BRun} {a : Refusal} → NamesProcedure run_bytes q d → SpellsBoogieRun run_bytes d run → IsBoogieRunRefusal r run_bytes a → ⊥
  run_not_refused k spelled (header l) = never_wrong run_bytes _ _ k.header l
  run_not_refused k spelled (no_procedure l none) = named_or_not (sym same) l none k
  run_not_refused {d} {run} k spelled (run_syntax {at = at} l wrong) =
      answers.not_both (is_reader d (differ k)) run_bytes run at spelled (subst (λ x. GoesWrongAt run_bytes x at) (sym (one_procedure same k l)) wrong)

-- ---- what `replay` accepts and refuses

module _ {bytes run : List ℕ} where
  pub one_replay_refusal : {r q : Refusal} → IsReplayRefusal bytes run r → IsReplayRefusal bytes run q → r ≡ q
  one_replay_refusal (size above) (size also) = refl
  one_replay_refusal (size above) (run_size small more) = absurd (omega (arith, above, small))
  one_replay_refusal (size above) (of_text small few is) = absurd (omega (arith, above, small))
  one_replay_refusal (size above) (of_run a few is) = absurd (omega (arith, above, a.small))
  one_replay_refusal (run_size small more) (size above) = absurd (omega (arith, above, small))
  one_replay_refusal (run_size small more) (run_size also other) = refl
  one_replay_refusal (run_size small more) (of_text also few is) = absurd (omega (arith, more, few))
  one_replay_refusal (run_size small more) (of_run a few is) = absurd (omega (arith, more, few))
  one_replay_refusal (of_text small few is) (size above) = absurd (omega (arith, above, small))
  one_replay_refusal (of_text small few is) (run_size also more) = absurd (omega (arith, more, few))
  one_replay_refusal (of_text small few is) (of_text also less other) = one_boogie_refusal is other
  one_replay_refusal (of_text small few is) (of_run a less other) = absurd (boogie_not_refused a is)
  one_replay_refusal (of_run a few is) (size above) = absurd (omega (arith, above, a.small))
  one_replay_refusal (of_run a few is) (run_size also more) = absurd (omega (arith, more, few))
  one_replay_refusal (of_run a few is) (of_text also less other) = absurd (boogie_not_refused a other)
  one_replay_refusal (of_run a few is) (of_run b less other) = one_run_refusal a (one_boogie a b) is other

  pub replay_not_refused : {u : ProcedureRun} {r : Refusal} → AcceptsReplay bytes run u → IsReplayRefusal bytes run r → ⊥
  replay_not_refused h (size above) = omega (arith, above, h.accepted.small)
  replay_not_refused h (run_size small more) = omega (arith, more, h.small)
  replay_not_refused h (of_text small few is) = boogie_not_refused h.accepted is
  replay_not_refused h (of_run a few is) = run_not_refused h.accepted (one_boogie h.accepted a) h.names h.spelled is

same_run : (v w : ProcedureRun) → v.program ≡ w.program → v.procedure ≡ w.procedure → v.environment ≡ w.environment → v.choices ≡ w.choices → v ≡ w
same_run v w program procedure environment choices = λ t. record { program = program t; procedure = procedure t; environment = environment t; choices = choices t }

pub one_procedure_run : {bytes run : List ℕ} {v w : ProcedureRun} → AcceptsReplay bytes run v → AcceptsReplay bytes run w → v ≡ w
one_procedure_run {run = run} {v} {w} h i =
    let program = one_boogie h.accepted i.accepted in
    let procedure = one_procedure program h.names i.names in
    let spelled = subst (λ d. SpellsBoogieRun run d i.run) (sym procedure) i.spelled in
    let same = answers.one_run (is_reader v.procedure (differ h.accepted program h.names)) run h.run i.run h.spelled spelled in
    let environment =
    h.begins ∙ sym (start_is v.procedure h.run.settings) ∙ same.environment ∙ start_is v.procedure i.run.settings ∙
    ap (λ d. start_of (types_of d) i.run.settings) procedure ∙ sym i.begins in
    same_run v w program procedure environment (h.takes ∙ same.choices ∙ sym i.takes)

-- ---- there is an answer

module _ (bytes run : List ℕ) where
  abbrev Answer : Type 0
  Answer = HasOneAnswer (AcceptsReplay bytes run) (IsReplayRefusal bytes run)

  accepted_once : {u : ProcedureRun} → AcceptsReplay bytes run u → Answer
  accepted_once h = is_accepted h (λ other i. one_procedure_run i h) (λ r is. replay_not_refused h is)

  refused_once : {r : Refusal} → IsReplayRefusal bytes run r → Answer
  refused_once h = is_refused h (λ other is. one_replay_refusal is h) (λ u accepts. replay_not_refused accepts h)

  module _ (q : BProgram) (a : IsBoogie bytes q) (few : length run ≤ max_boogie_bytes) where
    of_lines : (d : Proc) → NamesProcedure run q d → ((x : BRun) × SpellsBoogieRun run d x) ⊎ ((at : Pos) × GoesWrongAt run d at) → Answer
    of_lines d k (inl (x, spelled)) =
        accepted_once {u = record { program = q; procedure = d; environment = start_of (types_of d) x.settings; choices = x.choices }}
        (record { accepted = a; small = few; names = k; run = x; spelled = spelled; begins = refl; takes = refl })
    of_lines d k (inr (at, wrong)) = refused_once (of_run a few (run_syntax k wrong))

    of_name : (name : List ℕ) → SpellsName run name → (o : Option ℕ) → procedure_named q name ≡ o → Answer
    of_name name h None none = refused_once (of_run a few (no_procedure h none))
    of_name name h (Some n) named =
        let (d, there) = item_there q.procs n (named_within q name n named) in
        let k : NamesProcedure run q d = record { name = name; header = h; number = n; named = named; is_there = there } in
        of_lines d k (answers.run_or_place (is_reader d (names_differ n d a.text there)) run few)

    of_header : ((name : List ℕ) × SpellsName run name) ⊎ ((at : Pos) × NamesNothingAt run at) → Answer
    of_header (inl (name, h)) = of_name name h (procedure_named q name) refl
    of_header (inr (at, wrong)) = refused_once (of_run a few (header wrong))

  of_bytes : length bytes ≤ max_boogie_bytes → length run ≤ max_boogie_bytes → ((q : BProgram) × IsBoogie bytes q) ⊎ ((r : why.BoogieRefusal) × IsTextRefusal bytes r) → Answer
  of_bytes small few (inl (q, a)) = of_header q a few (header_or_place run few)
  of_bytes small few (inr (r, is)) = refused_once (of_text small few (of_boogie is))

  of_run_size : length bytes ≤ max_boogie_bytes → (max_boogie_bytes < length run) ⊎ (length run ≤ max_boogie_bytes) → Answer
  of_run_size small (inl above) = refused_once (run_size small above)
  of_run_size small (inr few) = of_bytes small few (boogie_answer bytes small)

  of_size : (max_boogie_bytes < length bytes) ⊎ (length bytes ≤ max_boogie_bytes) → Answer
  of_size (inl above) = refused_once (size above)
  of_size (inr small) = of_run_size small (cases_lt max_boogie_bytes (length run))

pub one_replay_answer : (bytes run : List ℕ) → HasOneAnswer (AcceptsReplay bytes run) (IsReplayRefusal bytes run)
one_replay_answer bytes run = of_size bytes run (cases_lt max_boogie_bytes (length bytes))

-- ---- each run has an outcome

outcome_by : (r : Run) → ((left : List BChoice) → r ≡ Stops Wrong left → ⊥) → (o : BOutcome) × (outcome_of r ≡ Some o)
outcome_by (Done env cs) h = (outcome.Done, refl)
outcome_by (Stops (Failed l) cs) h = (outcome.Failed l, refl)
outcome_by (Stops Blocked cs) h = (outcome.Blocked, refl)
outcome_by (Stops Short cs) h = (outcome.Short, refl)
outcome_by (Stops Over cs) h = (outcome.Over, refl)
outcome_by (Stops Wrong cs) h = absurd (h cs refl)

pub has_outcome : (bytes run : List ℕ) (u : ProcedureRun) → AcceptsReplay bytes run u → (o : BOutcome) × (outcome_of (procedure_end u) ≡ Some o)
has_outcome bytes run u h =
    let can = can_run run u.procedure h.run h.spelled in
    outcome_by (procedure_end u) (λ left e.
    runs.never_wrong u.program h.accepted.is_typed Bounded h.names.number u.procedure u.environment u.choices left h.names.is_there
    (subst (IsEnvironment (types_of u.procedure)) (sym h.begins) can.environment) (subst (All IsReducedChoice) (sym h.takes) can.reduced) e)
