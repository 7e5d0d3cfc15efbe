-- What a text that was written, or the line of a status, comes to at the end of a call.
use Rattle.std.proofs.Common.{◌≡◌, ◌∙◌, ◌⊎◌, inl, inr, ℕ, List, [], ◌∷◌, Option, Some, None, refl, sym, ap, subst}
use Rattle.std.proofs.lemmas.List.{append-nil}
use Rattle.vb_outer.specs.Faults.{Rose}
use Rattle.vb_outer.specs.Sink.{Appends, AppendsPrefix}
use Rattle.tool_common.specs.Ends.{CauseOf, Causes, EndsAs, fault, StopOf, Stops, OutOf, ErrOf, ErrAfter}
use Rattle.tool_common.specs.Kind.{Kind, Answered, Refused, Unread, Unwritten, NoMemory, IsFault}
use Rattle.tool_common.specs.Status.{kind_of, line_of}
use Rattle.tool_common.specs.declared.status.ToolStatus.{ToolStatus}
use Rattle.tool_common.specs.declared.status.ToolStatus.TheVariants as status
use Rattle.tool_common.specs.Written.{Delivers, delivered, unwritten, Reports, said, no_memory}

-- nothing that is appended leaves what stood there
nothing_more : (before now : Option (List ℕ)) → Appends before now [] → now ≡ before
nothing_more None now appends = appends
nothing_more (Some bytes) now appends = appends ∙ ap (λ b. Some b) (append-nil bytes)

no_front : (before now : Option (List ℕ)) → AppendsPrefix before now [] → now ≡ before
no_front before now ([], rest, is, appends) = nothing_more before now appends
no_front before now (x ∷ front, rest, is, appends) = absurd (cc)

-- the front of some line, or nothing
abbrev Front : {S : Type 0} → (S → List ℕ) → Option (List ℕ) → Option (List ℕ) → (S → Type 0) → Type 0
Front {S} line before now Cause = (now ≡ before) ⊎ ((status : S) × Cause status × AppendsPrefix before now (line status))

-- a status of a call that stops has its cause
stop_cause : (k : Kind) (Cause SinkFailed : Type 0) → StopOf k Cause → CauseOf k SinkFailed Cause
stop_cause Answered Cause SinkFailed stop = absurd stop
stop_cause Refused Cause SinkFailed stop = stop
stop_cause Unread Cause SinkFailed stop = stop
stop_cause Unwritten Cause SinkFailed stop = absurd stop
stop_cause NoMemory Cause SinkFailed stop = tt

module _ {S : Type 0} {kind : S → Kind} where
  pub delivers_same : {before now : Option (List ℕ)} {first last : ℕ} {text other : List ℕ} {s ended : S} → text ≡ other → Delivers kind before now first last text s ended →
      Delivers kind before now first last other s ended
  delivers_same {before} {now} {first} {last} {s = s} {ended = ended} same d = subst (λ x. Delivers kind before now first last x s ended) same d

  -- ---- statuses

  -- what follows from each cause follows from the causes
  pub from_causes : (Cause : S → Type 0) (expected : S) → ((s : S) → Cause s → EndsAs kind expected s) → (SinkFailed : Type 0) (s : S) → Causes kind Cause SinkFailed s →
      EndsAs kind expected s
  from_causes Cause expected each SinkFailed s causes = by_kind (kind s) refl causes
    where
      by_kind : (k : Kind) → kind s ≡ k → CauseOf k SinkFailed (Cause s) → EndsAs kind expected s
      by_kind Answered is cause = each s cause
      by_kind Refused is cause = each s cause
      by_kind Unread is cause = each s cause
      by_kind Unwritten is cause = fault (subst IsFault (sym is) tt)
      by_kind NoMemory is cause = fault (subst IsFault (sym is) tt)

  -- ---- what a text that was written comes to

  module _ {before now : Option (List ℕ)} {faults_before faults_now : ℕ} {text : List ℕ} {s : S} (answers : kind s ≡ Answered) where
    pub delivered_cause : (Cause : S → Type 0) (ErrFailed : Type 0) {ended : S} → Delivers kind before now faults_before faults_now text s ended → Cause s →
        Causes kind Cause (Rose faults_before faults_now ⊎ ErrFailed) ended
    delivered_cause Cause ErrFailed (delivered appends) cause = subst (λ k. CauseOf k (Rose faults_before faults_now ⊎ ErrFailed) (Cause s)) (sym answers) cause
    delivered_cause Cause ErrFailed {ended} (unwritten is front rose) cause = subst (λ k. CauseOf k (Rose faults_before faults_now ⊎ ErrFailed) (Cause ended)) (sym is) (inl rose)

    pub delivered_out : (Whole : S → Type 0) (Same Unfinished Forgotten : Type 0) {ended : S} → Delivers kind before now faults_before faults_now text s ended →
        (Appends before now text → Whole s) → (AppendsPrefix before now text → Unfinished) → OutOf (kind ended) (Whole ended) Same Unfinished Forgotten
    delivered_out Whole Same Unfinished Forgotten (delivered appends) whole front = subst (λ k. OutOf k (Whole s) Same Unfinished Forgotten) (sym answers) (whole appends)
    delivered_out Whole Same Unfinished Forgotten {ended} (unwritten is some rose) whole front = subst (λ k. OutOf k (Whole ended) Same Unfinished Forgotten) (sym is) (front some)

    pub delivered_err : (line : S → List ℕ) (err : Option (List ℕ)) (Cause : S → Type 0) {ended : S} → Delivers kind before now faults_before faults_now text s ended →
        ErrAfter kind line err err Cause ended
    delivered_err line err Cause (delivered appends) = subst (λ k. ErrOf k (Appends err err (line s)) (err ≡ err) (Front line err err Cause)) (sym answers) refl
    delivered_err line err Cause {ended} (unwritten is some rose) = subst (λ k. ErrOf k (Appends err err (line ended)) (err ≡ err) (Front line err err Cause)) (sym is) (inl refl)

  -- ---- what a line that was written comes to

  module _ (Cause : S → Type 0) {before now : Option (List ℕ)} {faults_before faults_now : ℕ} where
    pub reported_cause : (OutFailed : Type 0) {line : List ℕ} {s ended : S} → Reports kind before now faults_before faults_now line s ended → Stops kind Cause s →
        Causes kind Cause (OutFailed ⊎ Rose faults_before faults_now) ended
    reported_cause OutFailed {s = s} (said (delivered appends)) stops = stop_cause (kind s) (Cause s) (OutFailed ⊎ Rose faults_before faults_now) stops
    reported_cause OutFailed {ended = ended} (said (unwritten is front rose)) stops = subst (λ k. CauseOf k (OutFailed ⊎ Rose faults_before faults_now) (Cause ended)) (sym is) (inr rose)
    reported_cause OutFailed {ended = ended} (no_memory is same) stops = subst (λ k. CauseOf k (OutFailed ⊎ Rose faults_before faults_now) (Cause ended)) (sym is) tt

    pub reported_out : (Whole : S → Type 0) {Same Unfinished Forgotten : Type 0} {line : List ℕ} {s ended : S} → Reports kind before now faults_before faults_now line s ended →
        Stops kind Cause s → Same → Unfinished → Forgotten → OutOf (kind ended) (Whole ended) Same Unfinished Forgotten
    reported_out Whole {Same} {Unfinished} {Forgotten} {s = s} (said (delivered appends)) stops same unfinished forgotten = by_kind (kind s) stops
      where
        by_kind : (k : Kind) → StopOf k (Cause s) → OutOf k (Whole s) Same Unfinished Forgotten
        by_kind Answered stop = absurd stop
        by_kind Refused stop = same
        by_kind Unread stop = same
        by_kind Unwritten stop = absurd stop
        by_kind NoMemory stop = forgotten
    reported_out Whole {Same} {Unfinished} {Forgotten} {ended = ended} (said (unwritten is front rose)) stops same unfinished forgotten =
        subst (λ k. OutOf k (Whole ended) Same Unfinished Forgotten) (sym is) unfinished
    reported_out Whole {Same} {Unfinished} {Forgotten} {ended = ended} (no_memory is kept) stops same unfinished forgotten =
        subst (λ k. OutOf k (Whole ended) Same Unfinished Forgotten) (sym is) forgotten

    module _ (line : S → List ℕ) (quiet : (s : S) → kind s ≡ NoMemory → line s ≡ []) where
      pub reported_err : {s ended : S} → Reports kind before now faults_before faults_now (line s) s ended → Stops kind Cause s → ErrAfter kind line before now Cause ended
      reported_err {s} (said (delivered appends)) stops = by_kind (kind s) refl stops
        where
          by_kind : (k : Kind) → kind s ≡ k → StopOf k (Cause s) → ErrOf k (Appends before now (line s)) (now ≡ before) (Front line before now Cause)
          by_kind Answered is stop = absurd stop
          by_kind Refused is stop = appends
          by_kind Unread is stop = appends
          by_kind Unwritten is stop = absurd stop
          by_kind NoMemory is stop = nothing_more before now (subst (Appends before now) (quiet s is) appends)
      reported_err {s} {ended} (said (unwritten is some rose)) stops = subst (λ k. ErrOf k (Appends before now (line ended)) (now ≡ before) (Front line before now Cause)) (sym is) (by_kind (kind s) refl stops)
        where
          by_kind : (k : Kind) → kind s ≡ k → StopOf k (Cause s) → Front line before now Cause
          by_kind Answered also stop = absurd stop
          by_kind Refused also stop = inr (s, stop, some)
          by_kind Unread also stop = inr (s, stop, some)
          by_kind Unwritten also stop = absurd stop
          by_kind NoMemory also stop = inl (no_front before now (subst (AppendsPrefix before now) (quiet s also) some))
      reported_err {ended = ended} (no_memory is same) stops = subst (λ k. ErrOf k (Appends before now (line ended)) (now ≡ before) (Front line before now Cause)) (sym is) same

-- nothing is written for want of memory
pub quiet : {R : Type 0} (refusal_text : R → List ℕ) (usage : List ℕ) (s : ToolStatus R) → kind_of s ≡ NoMemory → line_of refusal_text usage s ≡ []
quiet refusal_text usage status.Done is = refl
quiet refusal_text usage (status.Refused r) is = absurd (cc)
quiet refusal_text usage status.Usage is = absurd (cc)
quiet refusal_text usage status.ReadFault is = absurd (cc)
quiet refusal_text usage status.WriteFault is = refl
quiet refusal_text usage status.NoMemory is = refl
