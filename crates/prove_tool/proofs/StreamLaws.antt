-- What is written comes to, by what its parts write.
use Rattle.std.proofs.Common.{◌≡◌, ◌∙◌, ◌⊎◌, inl, inr, ◌+◌, ◌<◌, ◌≤◌, ◌++◌, ◌&&◌, ◌↔◌, ℕ, zero, suc, Bool, List, Option, Some, Result, Ok, Err, IfOk, IsTrue, refl, sym, ap, subst, arith}
use Rattle.std.specs.Prelude.{⊤, All, true, false}
use Rattle.vb_outer.specs.Faults.{Rose}
use Rattle.vb_outer.specs.Shelf.{Files, IsWhole}
use Rattle.vb_outer.specs.Sink.{Appends, AppendsPrefix}
use Rattle.vb_outer.proofs.FaultLaws.{rose_earlier}
use Rattle.vb_outer.proofs.SinkLaws.{appends_both, prefix_all, prefix_after}
use Rattle.std.specs.declared.alloc.Global.{Global}
use Rattle.std.specs.declared.vec.Vec.{Vec}
use Rattle.vb_base.specs.declared.labels.Label.{Label}
use Rattle.boogie_formula.specs.Formula as f
use Rattle.boogie_formula.specs.Types.{IsTypedConditions}
use Rattle.boogie_formula.specs.Value.{CanFail}
use Rattle.boogie_formula_text.specs.Printed.{conditions_text}
use Rattle.boogie_formula_text.specs.Spells.{SpellsConditions}
use Rattle.unit_proof.specs.Shown.{NeverFails}
use Rattle.unit_proof.specs.declared.answers.UnitAnswer.{UnitAnswer}
use Rattle.tool_common.specs.Ends.{FrontWritten, Stops}
use Rattle.tool_common.specs.Kind as kind
use Rattle.tool_common.specs.Written.{Delivers, delivered, unwritten}
use Rattle.prove_tool.specs.Call as call
use Rattle.prove_tool.specs.Call.{StopsAt, StopsAtFile, StopsAtCheck, IsCause}
use Rattle.prove_tool.specs.Command.{Command, Prove, Certificates, Certify, Conditions, Values, command_for}
use Rattle.prove_tool.specs.Ends as ends
use Rattle.prove_tool.specs.Ends.{Ends, AreLines, AreCertificates, AreConditions, AreValues, CarriesOut, Answers}
use Rattle.prove_tool.specs.Lines.{lines_text}
use Rattle.prove_tool.specs.Parts as part
use Rattle.prove_tool.specs.Parts.{StopsAtSink}
use Rattle.prove_tool.specs.Status.{kind_of}
use Rattle.prove_tool.specs.Subject.{Subject, count_of, UnitFails, IsProcedureName, AreBuilt}
use Rattle.prove_tool.specs.Written as w
use Rattle.prove_tool.specs.Written.{AreAnswersOf, AreConditionsOf, AreFirst, AreFound, IsFound, IsProgramOf, IsThere, Tells, Writes, Begins, HasWritten, HasBegun}
use Rattle.prove_tool.specs.declared.language.Language.{Language}
use Rattle.prove_tool.specs.declared.status.ProveStatus.{ProveStatus}
use Rattle.prove_tool.specs.declared.status.ProveStatus.TheVariants as status

-- ---- the same under weaker names

front_mapped : {before now : Option (List ℕ)} {P Q : List ℕ → Type 0} → ((text : List ℕ) → P text → Q text) → FrontWritten before now P → FrontWritten before now Q
front_mapped f (inl same) = inl same
front_mapped f (inr (text, is, front)) = inr (text, f text is, front)

module _ {W X : ProveStatus → List ℕ → Type 0} {B C : List ℕ → Type 0} {before now : Option (List ℕ)} {first last : ℕ} where
  pub ends_mapped : ((s : ProveStatus) (text : List ℕ) → W s text → X s text) → ((text : List ℕ) → B text → C text) → (s : ProveStatus) → Ends W B before now first last s →
      Ends X C before now first last s
  ends_mapped f g s (ends.written {text = text} h appends) = ends.written (f s text h) appends
  ends_mapped f g s (ends.unwritten front rose) = ends.unwritten (front_mapped g front) rose
  ends_mapped f g s (ends.no_memory front) = ends.no_memory (front_mapped g front)

-- what writes unit by unit does not come to its end
pub sink_stops : {W : ProveStatus → List ℕ → Type 0} {B : List ℕ → Type 0} {before now : Option (List ℕ)} {first last : ℕ} → FrontWritten before now B → (s : ProveStatus) →
    StopsAtSink first last s → Ends W B before now first last s
sink_stops front s part.memory_of_sink = ends.no_memory front
sink_stops front s (part.unwritten_of_sink rose) = ends.unwritten front rose

-- what is written by one after the other
pub both_written : (before middle now : Option (List ℕ)) → ((text : List ℕ) × Appends before middle text) → ((text : List ℕ) × Appends middle now text) →
    (text : List ℕ) × Appends before now text
both_written before middle now first second = (first.0 ++ second.0, appends_both before middle now first.0 second.0 first.1 second.1)

-- its faults are counted from an earlier moment on
pub sink_earlier : (first before now : ℕ) → first ≤ before → (s : ProveStatus) → StopsAtSink before now s → StopsAtSink first now s
sink_earlier first before now later s part.memory_of_sink = part.memory_of_sink
sink_earlier first before now later s (part.unwritten_of_sink rose) = part.unwritten_of_sink (rose_earlier first before now later rose)

-- ---- lines

unwritten_is : (s : ProveStatus) → kind_of s ≡ kind.Unwritten → s ≡ status.WriteFault
unwritten_is status.Done is = absurd (cc)
unwritten_is (status.Refused r) is = absurd (cc)
unwritten_is status.Usage is = absurd (cc)
unwritten_is status.ReadFault is = absurd (cc)
unwritten_is status.WriteFault is = refl
unwritten_is status.NoMemory is = absurd (cc)
unwritten_is status.Open is = absurd (cc)

pub lines_told : (answers : List UnitAnswer) {before now : Option (List ℕ)} {first last : ℕ} {text : List ℕ} {s ended : ProveStatus} → Tells answers s → text ≡ lines_text answers →
    Delivers kind_of before now first last text s ended → Ends (AreLines answers) (λ t. (r : ProveStatus) × AreLines answers r t) before now first last ended
lines_told answers tells is (delivered appends) = ends.written (tells, is) appends
lines_told answers {before} {now} {first} {last} {text = text} {s = s} {ended = ended} tells is (unwritten kind_is front rose) =
    subst (Ends (AreLines answers) (λ t. (r : ProveStatus) × AreLines answers r t) before now first last) (sym (unwritten_is ended kind_is)) (ends.unwritten (inr (text, (s, (tells, is)), front)) rose)

module _ {files : Option Files} {l : Language} {file : List ℕ} {answers : List UnitAnswer} (of : AreAnswersOf (IsWhole files) l file answers) {before now : Option (List ℕ)} {first last : ℕ} where
  pub lines_searched : (steps : Option ℕ) (s : ProveStatus) → Ends (AreLines answers) (λ t. (r : ProveStatus) × AreLines answers r t) before now first last s →
      Ends (Writes files (Prove l file steps)) (Begins files (Prove l file steps)) before now first last s
  lines_searched steps =
      ends_mapped (λ r t h. w.searched (record { answers = answers; of = of; tells = h.0; text_is = h.1 }))
      (λ t h. w.whole {s = h.0} (w.searched (record { answers = answers; of = of; tells = h.1.0; text_is = h.1.1 })))

  pub lines_checked : {certificates : List ℕ} → IsThere (IsWhole files) certificates → (s : ProveStatus) → Ends (AreLines answers) (λ t. (r : ProveStatus) × AreLines answers r t) before now first last s →
      Ends (Writes files (Certify l file certificates)) (Begins files (Certify l file certificates)) before now first last s
  lines_checked there =
      ends_mapped (λ r t h. w.checked (record { answers = answers; of = of; tells = h.0; text_is = h.1 }) there)
      (λ t h. w.whole {s = h.0} (w.checked (record { answers = answers; of = of; tells = h.1.0; text_is = h.1.1 }) there))

-- ---- the conditions of a unit

pub are_conditions : {E : Type 0} (program : Subject) (n : ℕ) (name : List ℕ) (x : f.Conditions) → n < count_of program → IsTypedConditions x → IsProcedureName program n name → AreBuilt program n x →
    ((label : Label) → UnitFails program n label ↔ CanFail x label) → (r : Result (Vec ℕ Global) E) → IfOk r (λ text. text.items ≡ conditions_text name x) →
    IfOk r (λ text. SpellsConditions text.items name x) → IfOk r (λ text. (m : List ℕ) (y : f.Conditions) → SpellsConditions text.items m y → (m ≡ name) × (y ≡ x)) →
    IfOk r (λ text. AreConditionsOf program n text.items)
are_conditions program n name x exists typed is_name built exact (Ok text) is spelled only = record {
  exists = exists;
  conditions = x;
  typed = typed;
  name = name;
  is_name = is_name;
  text_is = is;
  spelled = spelled;
  only = only;
  built = built;
  exact = exact;
}
are_conditions program n name x exists typed is_name built exact (Err e) is spelled only = tt

-- ---- unit by unit

pub front_more : (program : Subject) (n : ℕ) (before between now : Option (List ℕ)) (text : List ℕ) → AreFirst program n text → Appends before between text →
    FrontWritten between now (AreConditionsOf program n) → FrontWritten before now (λ t. (m : ℕ) × AreFirst program m t)
front_more program n before between now text are appends (inl same) = inr (text, (n, are), prefix_all before now text (subst (λ x. Appends before x text) (sym same) appends))
front_more program n before between now text are appends (inr (more, is, front)) =
    inr (text ++ more, (n + 1, w.one_more are is), prefix_after before between now text more appends front)

pub front_found : (program : Subject) (n : ℕ) (all : Bool) (before between now : Option (List ℕ)) (text : List ℕ) → n < count_of program → AreFound program n all text → Appends before between text →
    FrontWritten between now (IsFound program n true) → FrontWritten before now (λ t. (m : ℕ) × (every : Bool) × AreFound program m every t)
front_found program n all before between now text exists are appends (inl same) =
    inr (text, (n, all, are), prefix_all before now text (subst (λ x. Appends before x text) (sym same) appends))
front_found program n all before between now text exists are appends (inr (more, is, front)) =
    inr (text ++ more, (n + 1, (all && true), w.one_unit_more true more exists are is), prefix_after before between now text more appends front)

module _ {files : Option Files} {l : Language} {file : List ℕ} {program : Subject} (of : IsProgramOf (IsWhole files) l file program) where
  found_writes : (steps : Option ℕ) (s : ProveStatus) (text : List ℕ) → AreCertificates program s text → Writes files (Certificates l file steps) s text
  found_writes steps status.Done text h = w.found (record { program = program; of = of; found = h })
  found_writes steps status.Open text h = w.not_found (record { program = program; of = of; found = h })
  found_writes steps (status.Refused r) text h = absurd h
  found_writes steps status.Usage text h = absurd h
  found_writes steps status.ReadFault text h = absurd h
  found_writes steps status.WriteFault text h = absurd h
  found_writes steps status.NoMemory text h = absurd h

  pub certificates_found : {before now : Option (List ℕ)} {first last : ℕ} (steps : Option ℕ) (s : ProveStatus) →
      Ends (AreCertificates program) (λ text. (n : ℕ) × (all : Bool) × AreFound program n all text) before now first last s →
      Ends (Writes files (Certificates l file steps)) (Begins files (Certificates l file steps)) before now first last s
  certificates_found steps = ends_mapped (found_writes steps) (λ t h. w.first_found (record { program = program; of = of; first = h.2 }))

  conditions_write : (s : ProveStatus) (text : List ℕ) → AreConditions program s text → Writes files (Conditions l file) s text
  conditions_write s text h = subst (λ r. Writes files (Conditions l file) r text) (sym h.0) (w.stated (record { program = program; of = of; all = h.1 }))

  pub conditions_stated : {before now : Option (List ℕ)} {first last : ℕ} (s : ProveStatus) → Ends (AreConditions program) (λ text. (n : ℕ) × AreFirst program n text) before now first last s →
      Ends (Writes files (Conditions l file)) (Begins files (Conditions l file)) before now first last s
  conditions_stated = ends_mapped conditions_write (λ t h. w.first_conditions (record { program = program; of = of; first = h.1 }))

  values_write : (steps : Option ℕ) (s : ProveStatus) (text : List ℕ) → AreValues s text → Writes files (Values l file steps) s text
  values_write steps s text done = subst (λ r. Writes files (Values l file steps) r text) (sym done) (w.valued (record { program = program; of = of }))

  pub values_found : {before now : Option (List ℕ)} {first last : ℕ} (steps : Option ℕ) (s : ProveStatus) → Ends AreValues (λ _. ⊤) before now first last s →
      Ends (Writes files (Values l file steps)) (Begins files (Values l file steps)) before now first last s
  values_found steps = ends_mapped (values_write steps) (λ t h. w.values (record { program = program; of = of }))

-- ---- the command that words ask for

module _ (words : List (List ℕ)) (files : Option Files) (read_before read_now : ℕ) where
  file_stops : {l : Language} {file : List ℕ} {c : Command} → command_for words ≡ Some c → ((s : ProveStatus) → StopsAtFile files l file read_before read_now s → StopsAt files c read_before read_now s) → (s : ProveStatus) →
      StopsAtFile files l file read_before read_now s → Stops kind_of (IsCause words files read_before read_now) s
  file_stops asked into s call.memory = tt
  file_stops asked into s (call.read why) = call.unread asked (into status.ReadFault (call.read why))
  file_stops asked into s (call.refused why) = call.is_refused asked (into _ (call.refused why))

  pub command_stops : (c : Command) → command_for words ≡ Some c → (s : ProveStatus) → StopsAt files c read_before read_now s → Stops kind_of (IsCause words files read_before read_now) s
  command_stops (Prove l file steps) asked s why = file_stops asked (λ r h. h) s why
  command_stops (Certificates l file steps) asked s why = file_stops asked (λ r h. h) s why
  command_stops (Conditions l file) asked s why = file_stops asked (λ r h. h) s why
  command_stops (Values l file steps) asked s why = file_stops asked (λ r h. h) s why
  command_stops (Certify l file certificates) asked s (call.at_file why) = file_stops asked (λ r h. call.at_file h) s why
  command_stops (Certify l file certificates) asked s (call.missing accepts gone) = call.unread asked (call.missing accepts gone)
  command_stops (Certify l file certificates) asked s (call.sections accepts there why) = call.is_refused asked (call.sections accepts there why)

  pub carries_answers : (c : Command) → command_for words ≡ Some c → (before now : Option (List ℕ)) (first last : ℕ) (r : Result ProveStatus ProveStatus) →
      CarriesOut files c read_before read_now before now first last r → Answers words files read_before read_now before now first last r
  carries_answers c asked before now first last (Ok s) h =
      ends_mapped (λ r t writes. record { command = c; asked = asked; writes = writes }) (λ t begins. record { command = c; asked = asked; begins = begins }) s h
  carries_answers c asked before now first last (Err s) h = (command_stops c asked s h.0, h.1)
