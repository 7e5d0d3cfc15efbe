-- How a call ends, by how the command ends that its words ask for.
use Rattle.std.proofs.Common.{◌≡◌, ◌∙◌, ◌⊎◌, inl, inr, ◌+◌, ◌<◌, ◌≤◌, ℕ, zero, suc, Bool, List, [], Option, None, Some, Result, Ok, Err, IsTrue, MatchResult, refl, sym, ap, subst, arith}
use Rattle.std.proofs.lemmas.Bool.{and_parts}
use Rattle.std.specs.Prelude.{true, false}
use Rattle.lemmas.proofs.Options.{some_same, none_some}
use Rattle.vb_outer.specs.Faults.{Rose}
use Rattle.vb_outer.specs.Shelf.{Files, IsMissing, IsFile, IsWhole}
use Rattle.vb_outer.specs.Sink.{Appends, AppendsPrefix}
use Rattle.unit_proof.specs.Shown.{NeverFails}
use Rattle.tool_common.specs.Ends.{CauseOf, EndsAs, as_expected, fault, Stops, OutOf, ErrOf, FrontWritten}
use Rattle.tool_common.specs.Kind as kind
use Rattle.tool_common.specs.Written.{Reports}
use Rattle.tool_common.proofs.EndLaws.{from_causes, reported_cause, reported_out, reported_err}
use Rattle.prove_tool.specs.Call.{Refuses, StopsAt, StopsAtFile, StopsAtCheck, memory, read, refused, at_file, missing, sections, IsCause, usage}
use Rattle.prove_tool.specs.Call as call
use Rattle.prove_tool.specs.Command.{Command, Prove, Certificates, Certify, Conditions, Values, IsProof, command_for, file_of, language_of}
use Rattle.prove_tool.specs.Command as command
use Rattle.prove_tool.specs.Ends as ends
use Rattle.prove_tool.specs.Ends.{Answers, Causes, Ends, written, unwritten, no_memory, OutAfter, ErrAfter}
use Rattle.prove_tool.specs.Status.{kind_of, line_of}
use Rattle.prove_tool.specs.Subject.{Subject, count_of, UnitFails}
use Rattle.prove_tool.specs.Written.{Accepts, AreAnswersOf, AreFound, IsFound, IsTold, IsThere, NothingFailsIn, Tells, Writes, HasWritten, HasBegun}
use Rattle.prove_tool.specs.Written as w
use Rattle.prove_tool.specs.declared.language.Language.{Language}
use Rattle.prove_tool.specs.declared.refusal.ProveRefusal.{ProveRefusal}
use Rattle.prove_tool.specs.declared.status.ProveStatus.{ProveStatus}
use Rattle.prove_tool.specs.declared.status.ProveStatus.TheVariants as status
use Rattle.prove_tool.proofs.FileLaws.{there_not_missing, accepted_not_missing, refused_not_missing, refusals_same, refused_not_accepted, accepted_not_refused_again}
use Rattle.prove_tool.proofs.SubjectLaws.{answered_accepted, all_fine, nothing_fails}

-- ---- what is written

tells_kind : {Has : List ℕ → List ℕ → Type 0} {l : Language} {file text : List ℕ} (s : ProveStatus) → IsTold Has l file s text → kind_of s ≡ kind.Answered
tells_kind status.Done h = refl
tells_kind status.Open h = refl
tells_kind (status.Refused r) h = absurd h.tells
tells_kind status.Usage h = absurd h.tells
tells_kind status.ReadFault h = absurd h.tells
tells_kind status.WriteFault h = absurd h.tells
tells_kind status.NoMemory h = absurd h.tells

writes_kind : {files : Option Files} {c : Command} {s : ProveStatus} {text : List ℕ} → Writes files c s text → kind_of s ≡ kind.Answered
writes_kind {s = s} (w.searched h) = tells_kind s h
writes_kind {s = s} (w.checked h there) = tells_kind s h
writes_kind (w.found h) = refl
writes_kind (w.not_found h) = refl
writes_kind (w.stated h) = refl
writes_kind (w.valued h) = refl

-- what is written is of a file that is accepted
told_accepts : {Has : List ℕ → List ℕ → Type 0} {l : Language} {file text : List ℕ} {s : ProveStatus} → IsTold Has l file s text → Accepts Has l file
told_accepts {l = l} h =
    let a = h.of in
    let accepted = answered_accepted a.bytes l h.answers a.answered in
    record { program = accepted.0; of = record { bytes = a.bytes; is = a.is; accepted = accepted.1 } }

writes_accepts : {files : Option Files} {c : Command} {s : ProveStatus} {text : List ℕ} → Writes files c s text → Accepts (IsWhole files) (language_of c) (file_of c)
writes_accepts (w.searched h) = told_accepts h
writes_accepts (w.checked h there) = told_accepts h
writes_accepts (w.found h) = record { program = h.program; of = h.of }
writes_accepts (w.not_found h) = record { program = h.program; of = h.of }
writes_accepts (w.stated h) = record { program = h.program; of = h.of }
writes_accepts (w.valued h) = h

-- ---- where a proof is done, nothing fails

below_or_same : (m j : ℕ) → m ≤ j → (m < j) ⊎ (m ≡ j)
below_or_same zero zero h = inr refl
below_or_same zero (suc j) h = inl (omega arith)
below_or_same (suc m) zero h = absurd (omega (arith, h))
below_or_same (suc m) (suc j) h = next (below_or_same m j (omega (arith, h)))
  where
    next : (m < j) ⊎ (m ≡ j) → (suc m < suc j) ⊎ (suc m ≡ suc j)
    next (inl less) = inl (omega (arith, less))
    next (inr same) = inr (ap suc same)

module _ (program : Subject) where
  one_more_shown : (k : ℕ) → ((n : ℕ) → n < k → NeverFails (UnitFails program) n) → NeverFails (UnitFails program) k → (n : ℕ) → n < k + 1 → NeverFails (UnitFails program) n
  one_more_shown k before this n within = by_case (below_or_same n k (omega (arith, within)))
    where
      by_case : (n < k) ⊎ (n ≡ k) → NeverFails (UnitFails program) n
      by_case (inl less) = before n less
      by_case (inr same) = subst (NeverFails (UnitFails program)) (sym same) this

  one_shown : (n : ℕ) (found : Bool) (text : List ℕ) → IsFound program n found text → IsTrue found → NeverFails (UnitFails program) n
  one_shown n true text h flag = h
  one_shown n false text h flag = absurd (cc)

  -- where none of the first units is left open, no run of one fails
  all_shown : {k : ℕ} {all : Bool} {text : List ℕ} → AreFound program k all text → IsTrue all → (n : ℕ) → n < k → NeverFails (UnitFails program) n
  all_shown w.no_unit flag n within = absurd (omega (arith, within))
  all_shown (w.one_unit_more {n = k} {all = all} found text exists before this) flag n within =
      let both = and_parts all found flag in
      one_more_shown k (all_shown before both.0) (one_shown k found text this both.1) n within

told_nothing_fails : {Has : List ℕ → List ℕ → Type 0} {l : Language} {file text : List ℕ} → IsTold Has l file status.Done text → NothingFailsIn Has l file
told_nothing_fails {l = l} h = let a = h.of in record { bytes = a.bytes; is = a.is; shown = nothing_fails a.bytes l h.answers a.answered h.tells }

writes_nothing_fails : {files : Option Files} {c : Command} {text : List ℕ} → IsProof c → Writes files c status.Done text → NothingFailsIn (IsWhole files) (language_of c) (file_of c)
writes_nothing_fails command.prove (w.searched h) = told_nothing_fails h
writes_nothing_fails command.certify (w.checked h there) = told_nothing_fails h
writes_nothing_fails command.certificates (w.found {l = l} h) =
    let of = h.of in record { bytes = of.bytes; is = of.is; shown = all_fine of.bytes l h.program of.accepted (all_shown h.program h.found refl) }

-- ---- how a call ends

-- that a text was written, or a front of one, has its cause and leaves this in the sinks
module _ (words : List (List ℕ)) (files : Option Files) (first last : ℕ) (out_before out_now : Option (List ℕ)) (out_first out_last : ℕ) where
  abbrev Ended : ProveStatus → Type 0
  Ended s = Ends (HasWritten words files) (HasBegun words files) out_before out_now out_first out_last s

  ends_cause : (ErrFailed : Type 0) (s : ProveStatus) → Ended s → Causes words files first last (Rose out_first out_last ⊎ ErrFailed) s
  ends_cause ErrFailed s (written h appends) = subst (λ k. CauseOf k (Rose out_first out_last ⊎ ErrFailed) (IsCause words files first last s)) (sym (writes_kind h.writes)) (call.written h)
  ends_cause ErrFailed s (unwritten front rose) = inl rose
  ends_cause ErrFailed s (no_memory front) = tt

  ends_out : (s : ProveStatus) → Ended s → OutAfter out_before out_now words files s
  ends_out s (written {text = text} h appends) =
      subst (λ k. OutOf k ((t : List ℕ) × HasWritten words files s t × Appends out_before out_now t) (out_now ≡ out_before) (FrontWritten out_before out_now (HasBegun words files))
      (FrontWritten out_before out_now (HasBegun words files))) (sym (writes_kind h.writes)) (text, h, appends)
  ends_out s (unwritten front rose) = front
  ends_out s (no_memory front) = front

  ends_err : (err : Option (List ℕ)) (s : ProveStatus) → Ended s → ErrAfter err err (IsCause words files first last) s
  ends_err err s (written h appends) =
      subst (λ k. ErrOf k (Appends err err (line_of s)) (err ≡ err) ((err ≡ err) ⊎ ((t : ProveStatus) × IsCause words files first last t × AppendsPrefix err err (line_of t)))) (sym (writes_kind h.writes)) refl
  ends_err err s (unwritten front rose) = inl refl
  ends_err err s (no_memory front) = refl

-- nothing is written for want of memory
quiet : (s : ProveStatus) → kind_of s ≡ kind.NoMemory → line_of s ≡ []
quiet status.Done is = refl
quiet (status.Refused r) is = absurd (cc)
quiet status.Usage is = absurd (cc)
quiet status.ReadFault is = absurd (cc)
quiet status.WriteFault is = refl
quiet status.NoMemory is = refl
quiet status.Open is = refl

module _ (words : List (List ℕ)) (files : Option Files) (first last : ℕ) (out_before out_now err_before err_now : Option (List ℕ)) (out_first out_last err_first err_last : ℕ) (ended : ProveStatus) where
  -- the command has ended, or the line is written that says why it was not carried out
  abbrev pub IsEnd : Result ProveStatus ProveStatus → Type 0
  IsEnd answer = MatchResult answer (λ s. (ended ≡ s) × (err_now ≡ err_before)) (λ s. Reports kind_of err_before err_now err_first err_last (line_of s) s ended)

  abbrev IsAnswer : Result ProveStatus ProveStatus → Type 0
  IsAnswer answer = Answers words files first last out_before out_now out_first out_last answer

  pub end_cause : (r : Result ProveStatus ProveStatus) → IsEnd r → IsAnswer r → Causes words files first last (Rose out_first out_last ⊎ Rose err_first err_last) ended
  end_cause (Ok s) e h = subst (Causes words files first last (Rose out_first out_last ⊎ Rose err_first err_last)) (sym e.0) (ends_cause words files first last out_before out_now out_first out_last (Rose err_first err_last) s h)
  end_cause (Err s) e h = reported_cause (IsCause words files first last) (Rose out_first out_last) e h.0

  pub end_out : (r : Result ProveStatus ProveStatus) → IsEnd r → IsAnswer r → OutAfter out_before out_now words files ended
  end_out (Ok s) e h = subst (OutAfter out_before out_now words files) (sym e.0) (ends_out words files first last out_before out_now out_first out_last s h)
  end_out (Err s) e h =
      reported_out (IsCause words files first last) (λ t. (text : List ℕ) × HasWritten words files t text × Appends out_before out_now text)
      {Unfinished = FrontWritten out_before out_now (HasBegun words files)} {Forgotten = FrontWritten out_before out_now (HasBegun words files)} e h.0 h.1 (inl h.1) (inl h.1)

  pub end_err : (r : Result ProveStatus ProveStatus) → IsEnd r → IsAnswer r → ErrAfter err_before err_now (IsCause words files first last) ended
  end_err (Ok s) e h =
      subst (λ x. ErrAfter err_before x (IsCause words files first last) ended) (sym e.1)
      (subst (ErrAfter err_before err_before (IsCause words files first last)) (sym e.0) (ends_err words files first last out_before out_now out_first out_last err_before s h))
  end_err (Err s) e h = reported_err (IsCause words files first last) line_of quiet e h.0

-- ---- where a cause stands, its status comes

module _ (words : List (List ℕ)) (files : Option Files) (before now : ℕ) where
  usage_each : command_for words ≡ None → (s : ProveStatus) → IsCause words files before now s → EndsAs kind_of status.Usage s
  usage_each none s (usage also) = as_expected
  usage_each none s (call.unread asked why) = absurd (none_some (sym none ∙ asked))
  usage_each none s (call.is_refused asked why) = absurd (none_some (sym none ∙ asked))
  usage_each none s (call.written h) = absurd (none_some (sym none ∙ h.asked))

  module _ {c : Command} (asks : command_for words ≡ Some c) where
    this : (P : Command → Type 0) {d : Command} → command_for words ≡ Some d → P d → P c
    this P asked h = subst P (some_same (sym asked ∙ asks)) h

    this_writes : {s : ProveStatus} {text : List ℕ} → HasWritten words files s text → Writes files c s text
    this_writes {s} {text} h = this (λ d. Writes files d s text) h.asked h.writes

    not_written : (Accepts (IsWhole files) (language_of c) (file_of c) → ⊥) → {s : ProveStatus} {text : List ℕ} → HasWritten words files s text → ⊥
    not_written none h = none (writes_accepts (this_writes h))

    -- a command that refuses does so for its file or its certificates
    refused_parts : (d : Command) (r : ProveRefusal) → StopsAt files d before now (status.Refused r) → Refuses (IsWhole files) (language_of d) (file_of d) r ⊎ Accepts (IsWhole files) (language_of d) (file_of d)
    refused_parts (Prove l file steps) r (refused why) = inl why
    refused_parts (Certificates l file steps) r (refused why) = inl why
    refused_parts (Conditions l file) r (refused why) = inl why
    refused_parts (Values l file steps) r (refused why) = inl why
    refused_parts (Certify l file certificates) r (at_file (refused why)) = inl why
    refused_parts (Certify l file certificates) r (sections accepts there why) = inr accepts

    missing_each : IsMissing files (file_of c) → (s : ProveStatus) → IsCause words files before now s → EndsAs kind_of status.ReadFault s
    missing_each gone s (usage none) = absurd (none_some (sym none ∙ asks))
    missing_each gone s (call.unread asked why) = as_expected
    missing_each gone s (call.is_refused {r = r} asked why) = absurd (by_part (refused_parts c r (this (λ d. StopsAt files d before now (status.Refused r)) asked why)))
      where
        by_part : Refuses (IsWhole files) (language_of c) (file_of c) r ⊎ Accepts (IsWhole files) (language_of c) (file_of c) → ⊥
        by_part (inl refuses) = refused_not_missing files refuses gone
        by_part (inr accepts) = accepted_not_missing files accepts gone
    missing_each gone s (call.written h) = absurd (not_written (λ accepts. accepted_not_missing files accepts gone) h)

    refused_each : {r : ProveRefusal} → Refuses (IsFile files) (language_of c) (file_of c) r → (s : ProveStatus) → IsCause words files before now s → EndsAs kind_of (status.Refused r) s
    refused_each refuses s (usage none) = absurd (none_some (sym none ∙ asks))
    refused_each refuses s (call.unread asked why) = fault tt
    refused_each {r} refuses s (call.is_refused {r = q} asked why) = by_part (refused_parts c q (this (λ d. StopsAt files d before now (status.Refused q)) asked why))
      where
        by_part : Refuses (IsWhole files) (language_of c) (file_of c) q ⊎ Accepts (IsWhole files) (language_of c) (file_of c) → EndsAs kind_of (status.Refused r) (status.Refused q)
        by_part (inl other) = subst (λ x. EndsAs kind_of (status.Refused r) (status.Refused x)) (refusals_same files refuses other) as_expected
        by_part (inr accepts) = absurd (refused_not_accepted files refuses accepts)
    refused_each refuses s (call.written h) = absurd (not_written (refused_not_accepted files refuses) h)

  module _ {l : Language} {file certificates : List ℕ} (asks : command_for words ≡ Some (Certify l file certificates)) (accepts : Accepts (IsFile files) l file) (gone : IsMissing files certificates) where
    uncertified_refused : {r : ProveRefusal} → StopsAtCheck files l file certificates before now (status.Refused r) → ⊥
    uncertified_refused (at_file (refused why)) = accepted_not_refused_again files accepts why
    uncertified_refused (sections also there why) = there_not_missing files there gone

    uncertified_written : {s : ProveStatus} {text : List ℕ} → Writes files (Certify l file certificates) s text → ⊥
    uncertified_written (w.checked h there) = there_not_missing files there gone

    uncertified_each : (s : ProveStatus) → IsCause words files before now s → EndsAs kind_of status.ReadFault s
    uncertified_each s (usage none) = absurd (none_some (sym none ∙ asks))
    uncertified_each s (call.unread asked why) = as_expected
    uncertified_each s (call.is_refused {r = r} asked why) = absurd (uncertified_refused (this asks (λ d. StopsAt files d before now (status.Refused r)) asked why))
    uncertified_each s (call.written h) = absurd (uncertified_written (this_writes asks h))

  done_written : {s : ProveStatus} → s ≡ status.Done → IsCause words files before now s → (text : List ℕ) × HasWritten words files status.Done text
  done_written is (usage none) = absurd (cc)
  done_written is (call.unread asked why) = absurd (cc)
  done_written is (call.is_refused asked why) = absurd (cc)
  done_written is (call.written {text = text} h) = (text, subst (λ s. HasWritten words files s text) is h)

  module _ (SinkFailed : Type 0) (s : ProveStatus) (causes : Causes words files before now SinkFailed s) where
    pub nothing_fails_then : (c : Command) → command_for words ≡ Some c → IsProof c → s ≡ status.Done → NothingFailsIn (IsWhole files) (language_of c) (file_of c)
    nothing_fails_then c asks proof is =
        let (text, h) = done_written refl (subst (Causes words files before now SinkFailed) is causes) in
        writes_nothing_fails proof (this_writes asks h)

    pub usage_comes : command_for words ≡ None → EndsAs kind_of status.Usage s
    usage_comes none = from_causes (IsCause words files before now) _ (usage_each none) SinkFailed s causes

    pub missing_comes : (c : Command) → command_for words ≡ Some c → IsMissing files (file_of c) → EndsAs kind_of status.ReadFault s
    missing_comes c asks gone = from_causes (IsCause words files before now) _ (missing_each asks gone) SinkFailed s causes

    pub refused_comes : (c : Command) (r : ProveRefusal) → command_for words ≡ Some c → Refuses (IsFile files) (language_of c) (file_of c) r → EndsAs kind_of (status.Refused r) s
    refused_comes c r asks refuses = from_causes (IsCause words files before now) _ (refused_each asks refuses) SinkFailed s causes

    pub uncertified_comes : (l : Language) (file certificates : List ℕ) → command_for words ≡ Some (Certify l file certificates) → Accepts (IsFile files) l file → IsMissing files certificates →
        EndsAs kind_of status.ReadFault s
    uncertified_comes l file certificates asks accepts gone = from_causes (IsCause words files before now) _ (uncertified_each asks accepts gone) SinkFailed s causes
