-- Files have one answer, so which status comes where a cause stands follows from the causes.
use Rattle.std.proofs.Common.{◌≡◌, ◌∙◌, inl, inr, ◌<◌, ◌≤◌, ◌++◌, ℕ, List, [], ◌∷◌, codes, length, Option, Some, None, slice_get, refl, sym, ap, subst, arith}
use Rattle.std.specs.Str.Parse.{digits_value}
use Rattle.vb_base.proofs.Fronts.{one_label}
use Rattle.vb_base.specs.Labels.{Spells}
use Rattle.vb_base.specs.declared.labels.Label.{Label}
use Rattle.vb_base.specs.Limits.{max_viper_bytes, max_boogie_bytes, max_made_methods}
use Rattle.vb_gen.specs.Generated.{IsOutOfRange}
use Rattle.vb_outer.specs.Shelf.{Files, IsFile, IsWhole}
use Rattle.vb_outer.specs.Sink.{Appends}
use Rattle.boogie_run.specs.Start.{outcome_of}
use Rattle.boogie_run.specs.declared.replaying.BOutcome.{BOutcome}
use Rattle.boogie_grammar.specs.Spells.{BSpells}
use Rattle.boogie_tree.specs.Program.{Proc, BProgram}
use Rattle.enc_units.specs.Translates.{text_of}
use Rattle.viper_core.specs.Program as p
use Rattle.boogie_loops.specs.Wide.{WProgram}
use Rattle.viper_core.specs.declared.programs.Unit.{Unit}
use Rattle.vb_tool.proofs.BoogieVerdicts.{one_replay_refusal, replay_not_refused, one_procedure_run}
use Rattle.tool_common.specs.Ends.{as_expected, fault}
use Rattle.tool_common.specs.Kind as kind
use Rattle.tool_common.proofs.EndLaws.{from_causes}
use Rattle.tool_common.proofs.FileLaws.{same_file, not_missing}
use Rattle.vb_tool.proofs.CallLaws.{does_end}
use Rattle.vb_tool.specs.Status.{kind_of}
use Rattle.vb_tool.proofs.ConditionVerdicts.{one_condition_refusal, condition_not_refused, one_condition}
use Rattle.vb_tool.proofs.CutVerdicts.{one_cut_refusal, cut_not_refused, one_cut}
use Rattle.vb_tool.proofs.ExecutionVerdicts.{one_execution_refusal, execution_not_refused, one_execution}
use Rattle.vb_tool.proofs.RunVerdicts.{one_run_refusal, run_not_refused, one_unit_run}
use Rattle.viper_file.proofs.Verdicts.{one_accepted}
use Rattle.vb_tool.proofs.Verdicts.{one_refusal, accepted_not_refused}
use Rattle.vb_tool.specs.Accepted as accepted
use Rattle.viper_file.specs.Accepted.{IsAccepted}
use Rattle.vb_tool.specs.Accepted.{AcceptsRun, IsRefusal, IsRunRefusal}
use Rattle.vb_tool.specs.AcceptedCondition.{AcceptsCondition, IsConditionRefusal}
use Rattle.vb_tool.specs.AcceptedCut.{AcceptsCut, IsCutRefusal}
use Rattle.vb_tool.specs.AcceptedExecution as execution
use Rattle.vb_tool.specs.AcceptedExecution.{AcceptsExecution, IsExecutionRefusal}
use Rattle.vb_tool.specs.AcceptedReplay as replay
use Rattle.vb_tool.specs.AcceptedReplay.{AcceptsReplay, IsReplayRefusal}
use Rattle.vb_tool.specs.Call as call
use Rattle.vb_tool.specs.Call.{MissesOf, Misses, first, later, Refuses, translates, too_long, runs, replay_too_long, replays, makes, over_budget, execution_too_long, executes, cuts, conditions, Does, translated, ran, replayed, made, executed, was_cut, stated, Promises, HasDone, IsCause, usage, read, refused, Causes, EndsAs, EndsWith, OutAfter}
use Rattle.vb_tool.specs.Command as asks
use Rattle.vb_tool.specs.Command.{Command, Translate, Run, Replay, Make, Execute, Cut, Condition, Asks, IsNoCommand}
use Rattle.vb_tool.specs.Conditions.{condition_text, IsStatement}
use Rattle.vb_tool.specs.Cuts.{cut_text, IsCutOfFile}
use Rattle.vb_tool.specs.Executions.{MethodRun, execution_end, execution_status, execution_text}
use Rattle.vb_tool.specs.Outcome.{run_status, run_text}
use Rattle.vb_tool.specs.Procedures.{ProcedureRun, procedure_end}
use Rattle.vb_tool.specs.ReplayOutcome.{replay_status, replay_text}
use Rattle.vb_tool.specs.Summary.{made_text}
use Rattle.vb_tool.specs.Transfer.{IsTransfer}
use Rattle.vb_tool.specs.Translated.{IsTranslationOfFile, IsVerifiedByText}
use Rattle.vb_tool.specs.Units.{UnitRun, end_of}
use Rattle.vb_tool.specs.Verified.{NoProcedureFails}
use Rattle.vb_tool.specs.declared.status.Refusal.{Refusal}
use Rattle.vb_tool.specs.declared.status.Refusal.TheVariants as refusal
use Rattle.vb_tool.specs.declared.status.Status.{Status}
use Rattle.vb_tool.specs.declared.status.Status.TheVariants as status

-- ---- words ask for one command

asked_once : {words : List (List ℕ)} {a b : Command} → Asks words a → Asks words b → a ≡ b
asked_once (asks.translate {file = f} h) (asks.translate {file = g} i) = let e : f ≡ g = cc in ap Translate e
asked_once (asks.translate h) (asks.run i) = absurd (cc)
asked_once (asks.translate h) (asks.replay i) = absurd (cc)
asked_once (asks.translate h) (asks.make i l) = absurd (cc)
asked_once (asks.translate h) (asks.execute i l) = absurd (cc)
asked_once (asks.translate h) (asks.cut i) = absurd (cc)
asked_once (asks.translate h) (asks.condition i l) = absurd (cc)
asked_once (asks.run h) (asks.translate i) = absurd (cc)
asked_once (asks.run {file = f} {unit = t} {run_file = q} h) (asks.run {file = g} {unit = u} {run_file = r} i) =
    let d : f ≡ g = cc in let e : t ≡ u = cc in let k : q ≡ r = cc in
    ap (λ x. Run x t q) d ∙ ap (λ x. Run g x q) e ∙ ap (λ x. Run g u x) k
asked_once (asks.run h) (asks.replay i) = absurd (cc)
asked_once (asks.run h) (asks.make i l) = absurd (cc)
asked_once (asks.run h) (asks.execute i l) = absurd (cc)
asked_once (asks.run h) (asks.cut i) = absurd (cc)
asked_once (asks.run h) (asks.condition i l) = absurd (cc)
asked_once (asks.replay h) (asks.translate i) = absurd (cc)
asked_once (asks.replay h) (asks.run i) = absurd (cc)
asked_once (asks.replay {file = f} {run_file = q} h) (asks.replay {file = g} {run_file = r} i) =
    let d : f ≡ g = cc in let k : q ≡ r = cc in ap (λ x. Replay x q) d ∙ ap (λ x. Replay g x) k
asked_once (asks.replay h) (asks.make i l) = absurd (cc)
asked_once (asks.replay h) (asks.execute i l) = absurd (cc)
asked_once (asks.replay h) (asks.cut i) = absurd (cc)
asked_once (asks.replay h) (asks.condition i l) = absurd (cc)
asked_once (asks.make h k) (asks.translate i) = absurd (cc)
asked_once (asks.make h k) (asks.run i) = absurd (cc)
asked_once (asks.make h k) (asks.replay i) = absurd (cc)
asked_once (asks.make {word = v} h k) (asks.make {word = w} i l) =
    let e : v ≡ w = cc in ap Make (sym k.value ∙ ap (digits_value 10) e ∙ l.value)
asked_once (asks.make h k) (asks.execute i l) = absurd (cc)
asked_once (asks.make h k) (asks.cut i) = absurd (cc)
asked_once (asks.make h k) (asks.condition i l) = absurd (cc)
asked_once (asks.execute h k) (asks.translate i) = absurd (cc)
asked_once (asks.execute h k) (asks.run i) = absurd (cc)
asked_once (asks.execute h k) (asks.replay i) = absurd (cc)
asked_once (asks.execute h k) (asks.make i l) = absurd (cc)
asked_once (asks.execute {file = f} {method = t} {run_file = q} {word = v} {n = m} h k) (asks.execute {file = g} {method = u} {run_file = r} {word = w} i l) =
    let d : f ≡ g = cc in let e : t ≡ u = cc in let j : q ≡ r = cc in let same : v ≡ w = cc in
    ap (λ x. Execute x t q m) d ∙ ap (λ x. Execute g x q m) e ∙ ap (λ x. Execute g u x m) j ∙ ap (λ x. Execute g u r x) (sym k.value ∙ ap (digits_value 10) same ∙ l.value)
asked_once (asks.execute h k) (asks.cut i) = absurd (cc)
asked_once (asks.execute h k) (asks.condition i l) = absurd (cc)
asked_once (asks.cut h) (asks.translate i) = absurd (cc)
asked_once (asks.cut h) (asks.run i) = absurd (cc)
asked_once (asks.cut h) (asks.replay i) = absurd (cc)
asked_once (asks.cut h) (asks.make i l) = absurd (cc)
asked_once (asks.cut h) (asks.execute i l) = absurd (cc)
asked_once (asks.cut {file = f} h) (asks.cut {file = g} i) = let e : f ≡ g = cc in ap Cut e
asked_once (asks.cut h) (asks.condition i l) = absurd (cc)
asked_once (asks.condition h k) (asks.translate i) = absurd (cc)
asked_once (asks.condition h k) (asks.run i) = absurd (cc)
asked_once (asks.condition h k) (asks.replay i) = absurd (cc)
asked_once (asks.condition h k) (asks.make i l) = absurd (cc)
asked_once (asks.condition h k) (asks.execute i l) = absurd (cc)
asked_once (asks.condition h k) (asks.cut i) = absurd (cc)
asked_once (asks.condition {file = f} {procedure = t} {at = a} {part = b} {kind = c} {label = m} h k) (asks.condition {file = g} {procedure = u} {at = x} {part = y} {kind = z} {label = n} i l) =
    let d : f ≡ g = cc in let e : t ≡ u = cc in let j : a ≡ x = cc in let p : b ≡ y = cc in let q : c ≡ z = cc in
    let text : a ++ codes " " ++ b ++ codes " " ++ c ≡ x ++ codes " " ++ y ++ codes " " ++ z = ap (λ v. v ++ codes " " ++ b ++ codes " " ++ c) j ∙ ap (λ v. x ++ codes " " ++ v ++ codes " " ++ c) p ∙ ap (λ v. x ++ codes " " ++ y ++ codes " " ++ v) q in
    ap (λ v. Condition v t m) d ∙ ap (λ v. Condition g v m) e ∙ ap (λ v. Condition g u v) (one_label (subst (λ v. Spells v m) text k) l)

-- ---- a name is one file

one_file : (files : Option Files) (name a b : List ℕ) → IsFile files name a → IsFile files name b → a ≡ b
one_file None name a b h i = absurd h
one_file (Some files) name a b h i = let same : Some a ≡ Some b = sym h ∙ i in cc

-- ---- a command does one thing

long_refusal : {bytes name run : List ℕ} {r : Refusal} → max_viper_bytes < length bytes → IsRunRefusal bytes name run r → refusal.Size ≡ r
long_refusal above is = one_run_refusal (accepted.size above) is

long_execution_refusal : {bytes name run : List ℕ} {r : Refusal} → max_viper_bytes < length bytes → IsExecutionRefusal bytes name run r → refusal.Size ≡ r
long_execution_refusal above is = one_execution_refusal (execution.size above) is

long_replay_refusal : {bytes run : List ℕ} {r : Refusal} → max_boogie_bytes < length bytes → IsReplayRefusal bytes run r → refusal.Size ≡ r
long_replay_refusal above is = one_replay_refusal (replay.size above) is

same_run_refusal : {a b c d unit : List ℕ} {r : Refusal} → a ≡ b → c ≡ d → IsRunRefusal b unit d r → IsRunRefusal a unit c r
same_run_refusal {a} {d = d} {unit = unit} {r = r} same also is = subst (λ x. IsRunRefusal a unit x r) (sym also) (subst (λ x. IsRunRefusal x unit d r) (sym same) is)

same_replay_refusal : {a b c d : List ℕ} {r : Refusal} → a ≡ b → c ≡ d → IsReplayRefusal b d r → IsReplayRefusal a c r
same_replay_refusal {a} {d = d} {r = r} same also is = subst (λ x. IsReplayRefusal a x r) (sym also) (subst (λ x. IsReplayRefusal x d r) (sym same) is)

same_run : {a b c d unit : List ℕ} {u : UnitRun} → a ≡ b → c ≡ d → AcceptsRun b unit d u → AcceptsRun a unit c u
same_run {a} {d = d} {unit = unit} {u = u} same also is = subst (λ x. AcceptsRun a unit x u) (sym also) (subst (λ x. AcceptsRun x unit d u) (sym same) is)

same_replay : {a b c d : List ℕ} {u : ProcedureRun} → a ≡ b → c ≡ d → AcceptsReplay b d u → AcceptsReplay a c u
same_replay {a} {d = d} {u = u} same also is = subst (λ x. AcceptsReplay a x u) (sym also) (subst (λ x. AcceptsReplay x d u) (sym same) is)

same_execution_refusal : {a b c d name : List ℕ} {r : Refusal} → a ≡ b → c ≡ d → IsExecutionRefusal b name d r → IsExecutionRefusal a name c r
same_execution_refusal {a} {d = d} {name = name} {r = r} same also is = subst (λ x. IsExecutionRefusal a name x r) (sym also) (subst (λ x. IsExecutionRefusal x name d r) (sym same) is)

same_execution : {a b c d name : List ℕ} {u : MethodRun} → a ≡ b → c ≡ d → AcceptsExecution b name d u → AcceptsExecution a name c u
same_execution {a} {d = d} {name = name} {u = u} same also is = subst (λ x. AcceptsExecution a name x u) (sym also) (subst (λ x. AcceptsExecution x name d u) (sym same) is)

same_cut_refusal : {a b : List ℕ} {r : Refusal} → a ≡ b → IsCutRefusal b r → IsCutRefusal a r
same_cut_refusal {r = r} same is = subst (λ x. IsCutRefusal x r) (sym same) is

same_cut : {a b : List ℕ} {u : WProgram} → a ≡ b → AcceptsCut b u → AcceptsCut a u
same_cut {u = u} same is = subst (λ x. AcceptsCut x u) (sym same) is

same_condition_refusal : {a b name : List ℕ} {r : Refusal} → a ≡ b → IsConditionRefusal b name r → IsConditionRefusal a name r
same_condition_refusal {name = name} {r = r} same is = subst (λ x. IsConditionRefusal x name r) (sym same) is

same_condition : {a b name : List ℕ} {d : Proc} → a ≡ b → AcceptsCondition b name d → AcceptsCondition a name d
same_condition {name = name} {d = d} same is = subst (λ x. AcceptsCondition x name d) (sym same) is

same_program : {a b : List ℕ} {q : p.Program} → a ≡ b → IsAccepted b q → IsAccepted a q
same_program {q = q} same is = subst (λ x. IsAccepted x q) (sym same) is

one_unit : {v w : UnitRun} {a b : Unit} → v ≡ w → slice_get v.program.units v.unit ≡ Some a → slice_get w.program.units w.unit ≡ Some b → a ≡ b
one_unit {a = a} {b = b} same is other =
    let e : Some a ≡ Some b = sym is ∙ ap (λ (y : UnitRun). slice_get y.program.units y.unit) same ∙ other in cc

one_outcome : {v w : ProcedureRun} {o x : BOutcome} → v ≡ w → outcome_of (procedure_end v) ≡ Some o → outcome_of (procedure_end w) ≡ Some x → o ≡ x
one_outcome {o = o} {x = x} same ends other =
    let e : Some o ≡ Some x = sym ends ∙ ap (λ y. outcome_of (procedure_end y)) same ∙ other in cc

not_out_of_range : {n : ℕ} → 1 ≤ n → n ≤ max_made_methods → IsOutOfRange n → ⊥
not_out_of_range some few (inl none) = omega (arith, some, none)
not_out_of_range some few (inr above) = omega (arith, few, above)

module _ {Has Had : List ℕ → List ℕ → Type 0} (same : (name a b : List ℕ) → Has name a → Had name b → a ≡ b) where
  one_refusal_of : {command : Command} {r q : Refusal} → Refuses Has command r → Refuses Had command q → r ≡ q
  one_refusal_of {q = q} (translates {file = f} a is denied) (translates b also other) = one_refusal denied (subst (λ x. IsRefusal x q) (sym (same f a b is also)) other)
  one_refusal_of (too_long a is above) (too_long b also other) = refl
  one_refusal_of (too_long {file = f} a is above) (runs b c also there other) = long_refusal above (same_run_refusal (same f a b is also) refl other)
  one_refusal_of (runs {file = f} a b is there denied) (too_long c also above) = sym (long_refusal above (same_run_refusal (sym (same f a c is also)) refl denied))
  one_refusal_of (runs {file = f} {run_file = g} a b is run_is denied) (runs c d also run_also other) =
      one_run_refusal denied (same_run_refusal (same f a c is also) (same g b d run_is run_also) other)
  one_refusal_of (replay_too_long a is above) (replay_too_long b also other) = refl
  one_refusal_of (replay_too_long {file = f} a is above) (replays b c also there other) = long_replay_refusal above (same_replay_refusal (same f a b is also) refl other)
  one_refusal_of (replays {file = f} a b is there denied) (replay_too_long c also above) = sym (long_replay_refusal above (same_replay_refusal (sym (same f a c is also)) refl denied))
  one_refusal_of (replays {file = f} {run_file = g} a b is run_is denied) (replays c d also run_also other) =
      one_replay_refusal denied (same_replay_refusal (same f a c is also) (same g b d run_is run_also) other)
  one_refusal_of (makes out) (makes also) = refl
  one_refusal_of (over_budget out) (over_budget also) = refl
  one_refusal_of (over_budget out) (execution_too_long b few also above) = absurd (omega (arith, out, few))
  one_refusal_of (over_budget out) (executes c d few also run_also other) = absurd (omega (arith, out, few))
  one_refusal_of (execution_too_long a few is above) (over_budget out) = absurd (omega (arith, out, few))
  one_refusal_of (execution_too_long a few is above) (execution_too_long b less also other) = refl
  one_refusal_of (execution_too_long {file = f} a few is above) (executes b c less also there other) = long_execution_refusal above (same_execution_refusal (same f a b is also) refl other)
  one_refusal_of (executes a b few is there denied) (over_budget out) = absurd (omega (arith, out, few))
  one_refusal_of (executes {file = f} a b few is there denied) (execution_too_long c less also above) =
      sym (long_execution_refusal above (same_execution_refusal (sym (same f a c is also)) refl denied))
  one_refusal_of (executes {file = f} {run_file = g} a b few is run_is denied) (executes c d less also run_also other) =
      one_execution_refusal denied (same_execution_refusal (same f a c is also) (same g b d run_is run_also) other)
  one_refusal_of (cuts {file = f} a is denied) (cuts b also other) = one_cut_refusal denied (same_cut_refusal (same f a b is also) other)
  one_refusal_of (conditions {file = f} a is denied) (conditions b also other) = one_condition_refusal denied (same_condition_refusal (same f a b is also) other)

  does_not_refuse : {command : Command} {r : Refusal} {s : Status} {text : List ℕ} → Does Has command s text → Refuses Had command r → ⊥
  does_not_refuse {r = r} (translated {file = f} a is accepts) (translates b also denied) = accepted_not_refused accepts (subst (λ x. IsRefusal x r) (sym (same f a b is also)) denied)
  does_not_refuse (ran {file = f} a b is run_is accepts there) (too_long c also above) = omega (arith, above, accepts.accepted.small, ap length (same f a c is also))
  does_not_refuse (ran {file = f} {run_file = g} a b is run_is accepts there) (runs c d also run_also denied) =
      run_not_refused accepts (same_run_refusal (same f a c is also) (same g b d run_is run_also) denied)
  does_not_refuse (replayed {file = f} a b is run_is accepts ends) (replay_too_long c also above) = omega (arith, above, accepts.accepted.small, ap length (same f a c is also))
  does_not_refuse (replayed {file = f} {run_file = g} a b is run_is accepts ends) (replays c d also run_also denied) =
      replay_not_refused accepts (same_replay_refusal (same f a c is also) (same g b d run_is run_also) denied)
  does_not_refuse (made some few accepts) (makes out) = not_out_of_range some few out
  does_not_refuse (executed a b few is run_is accepts) (over_budget out) = omega (arith, out, few)
  does_not_refuse (executed {file = f} a b few is run_is accepts) (execution_too_long c less also above) = omega (arith, above, accepts.framed.accepted.small, ap length (same f a c is also))
  does_not_refuse (executed {file = f} {run_file = g} a b few is run_is accepts) (executes c d less also run_also denied) =
      execution_not_refused accepts (same_execution_refusal (same f a c is also) (same g b d run_is run_also) denied)
  does_not_refuse (was_cut {file = f} a is accepts) (cuts b also denied) = cut_not_refused accepts (same_cut_refusal (same f a b is also) denied)
  does_not_refuse (stated {file = f} a is accepts) (conditions b also denied) = condition_not_refused accepts (same_condition_refusal (same f a b is also) denied)

  refuses_not_does : {command : Command} {r : Refusal} {s : Status} {text : List ℕ} → Refuses Has command r → Does Had command s text → ⊥
  refuses_not_does {r = r} (translates {file = f} a is denied) (translated b also accepts) = accepted_not_refused accepts (subst (λ x. IsRefusal x r) (same f a b is also) denied)
  refuses_not_does (too_long {file = f} a is above) (ran b c also run_also accepts there) = omega (arith, above, accepts.accepted.small, ap length (same f a b is also))
  refuses_not_does (runs {file = f} {run_file = g} a b is run_is denied) (ran c d also run_also accepts there) =
      run_not_refused accepts (same_run_refusal (sym (same f a c is also)) (sym (same g b d run_is run_also)) denied)
  refuses_not_does (replay_too_long {file = f} a is above) (replayed b c also run_also accepts ends) = omega (arith, above, accepts.accepted.small, ap length (same f a b is also))
  refuses_not_does (replays {file = f} {run_file = g} a b is run_is denied) (replayed c d also run_also accepts ends) =
      replay_not_refused accepts (same_replay_refusal (sym (same f a c is also)) (sym (same g b d run_is run_also)) denied)
  refuses_not_does (makes out) (made some few accepts) = not_out_of_range some few out
  refuses_not_does (over_budget out) (executed a b few is run_is accepts) = omega (arith, out, few)
  refuses_not_does (execution_too_long {file = f} a few is above) (executed b c less also run_also accepts) = omega (arith, above, accepts.framed.accepted.small, ap length (same f a b is also))
  refuses_not_does (executes {file = f} {run_file = g} a b few is run_is denied) (executed c d less also run_also accepts) =
      execution_not_refused accepts (same_execution_refusal (sym (same f a c is also)) (sym (same g b d run_is run_also)) denied)
  refuses_not_does (cuts {file = f} a is denied) (was_cut b also accepts) = cut_not_refused accepts (same_cut_refusal (sym (same f a b is also)) denied)
  refuses_not_does (conditions {file = f} a is denied) (stated b also accepts) = condition_not_refused accepts (same_condition_refusal (sym (same f a b is also)) denied)

  does_one : {command : Command} {s t : Status} {text other : List ℕ} → Does Has command s text → Does Had command t other → (s ≡ t) × (text ≡ other)
  does_one (translated {file = f} a is accepts) (translated b also others) = (refl, ap text_of (one_accepted accepts (same_program (same f a b is also) others)))
  does_one (ran {file = f} {run_file = g} {w = w} a b is run_is accepts there) (ran {u = v} c d also run_also others also_there) =
      let e = one_unit_run accepts (same_run (same f a c is also) (same g b d run_is run_also) others) in
      (ap (λ x. run_status (end_of x)) e, ap (λ x. run_text x.program w x.run.opening (end_of x)) e ∙ ap (λ x. run_text v.program x v.run.opening (end_of v)) (one_unit e there also_there))
  does_one (replayed {file = f} {run_file = g} a b is run_is accepts ends) (replayed c d also run_also others end) =
      let e = one_outcome (one_procedure_run accepts (same_replay (same f a c is also) (same g b d run_is run_also) others)) ends end in
      (ap replay_status e, ap replay_text e)
  does_one (made {n = n} some few accepts) (made others_some others_few others) = (refl, ap (made_text n) (one_accepted accepts others))
  does_one (executed {file = f} {run_file = g} {n = n} a b few is run_is accepts) (executed c d less also run_also others) =
      let e = one_execution accepts (same_execution (same f a c is also) (same g b d run_is run_also) others) in
      (ap (λ x. execution_status (execution_end n x)) e, ap (λ x. execution_text (execution_end n x)) e)
  does_one (was_cut {file = f} a is accepts) (was_cut b also others) = (refl, ap cut_text (one_cut accepts (same_cut (same f a b is also) others)))
  does_one (stated {file = f} {label = l} a is accepts) (stated b also others) = (refl, ap (λ d. condition_text d l) (one_condition accepts (same_condition (same f a b is also) others)))

pub one_deed : (files : Option Files) (command : Command) (s t : Status) (text other : List ℕ) → Does (IsFile files) command s text → Does (IsFile files) command t other →
    (s ≡ t) × (text ≡ other)
one_deed files command s t text other h i = does_one (one_file files) h i

-- ---- a command whose files are missing does nothing else

module _ {files : Option Files} where
  misses_none : {limit : ℕ} → MissesOf files limit [] → ⊥
  misses_none h = elim h [ ]

  -- the first file is there, and none is behind it
  misses_one : {limit : ℕ} {name : List ℕ} (a : List ℕ) → IsWhole files name a → MissesOf files limit (name ∷ []) → ⊥
  misses_one {name = name} a is (first missing) = not_missing files name a is missing
  misses_one a is (later b other small misses) = misses_none misses

  misses_two : {limit : ℕ} {name other : List ℕ} (a b : List ℕ) → IsWhole files name a → IsWhole files other b → MissesOf files limit (name ∷ other ∷ []) → ⊥
  misses_two {name = name} a b is also (first missing) = not_missing files name a is missing
  misses_two a b is also (later c there small misses) = misses_one b also misses

  misses_long : {limit : ℕ} {name other : List ℕ} (a : List ℕ) → IsWhole files name a → limit < length a → MissesOf files limit (name ∷ other ∷ []) → ⊥
  misses_long {name = name} a is above (first missing) = not_missing files name a is missing
  misses_long {name = name} a is above (later b there small misses) = omega (arith, above, small, ap length (same_file files name b a there is))

  misses_not_refused : {command : Command} {r : Refusal} → Misses files command → Refuses (IsWhole files) command r → ⊥
  misses_not_refused misses (translates bytes is denied) = misses_one bytes is misses.1
  misses_not_refused misses (too_long bytes is above) = misses_long bytes is above misses.1
  misses_not_refused misses (runs bytes run_bytes is run_is denied) = misses_two bytes run_bytes is run_is misses.1
  misses_not_refused misses (replay_too_long bytes is above) = misses_long bytes is above misses.1
  misses_not_refused misses (replays bytes run_bytes is run_is denied) = misses_two bytes run_bytes is run_is misses.1
  misses_not_refused misses (makes out) = misses_none misses.1
  misses_not_refused misses (over_budget out) = omega (arith, out, misses.0)
  misses_not_refused misses (execution_too_long bytes few is above) = misses_long bytes is above misses.1
  misses_not_refused misses (executes bytes run_bytes few is run_is denied) = misses_two bytes run_bytes is run_is misses.1
  misses_not_refused misses (cuts bytes is denied) = misses_one bytes is misses.1
  misses_not_refused misses (conditions bytes is denied) = misses_one bytes is misses.1

  misses_not_done : {command : Command} {s : Status} {text : List ℕ} → Misses files command → Does (IsWhole files) command s text → ⊥
  misses_not_done misses (translated bytes is accepts) = misses_one bytes is misses.1
  misses_not_done misses (ran bytes run_bytes is run_is accepts there) = misses_two bytes run_bytes is run_is misses.1
  misses_not_done misses (replayed bytes run_bytes is run_is accepts ends) = misses_two bytes run_bytes is run_is misses.1
  misses_not_done misses (made some few accepts) = misses_none misses.1
  misses_not_done misses (executed bytes run_bytes few is run_is accepts) = misses_two bytes run_bytes is run_is misses.1
  misses_not_done misses (was_cut bytes is accepts) = misses_one bytes is misses.1
  misses_not_done misses (stated bytes is accepts) = misses_one bytes is misses.1

-- ---- statuses

-- a call ended with no outcome of a command
no_outcome : {s expected : Status} {X : Type 0} → (kind_of s ≡ kind.Answered → ⊥) → kind_of expected ≡ kind.Answered → s ≡ expected → X
no_outcome none is same = absurd (none (subst (λ x. kind_of x ≡ kind.Answered) (sym same) is))

module _ (words : List (List ℕ)) (files : Option Files) where
  -- the command that the words ask for does this
  does_this : {command : Command} {s : Status} {text : List ℕ} → Asks words command → HasDone words files s text → Does (IsWhole files) command s text
  does_this {s = s} {text = t} asks h = subst (λ x. Does (IsWhole files) x s t) (asked_once h.asked asks) h.does

  refuses_this : {command other : Command} {r : Refusal} → Asks words command → Asks words other → Refuses (IsWhole files) other r → Refuses (IsWhole files) command r
  refuses_this {r = r} asks also refuses = subst (λ x. Refuses (IsWhole files) x r) (asked_once also asks) refuses

  module _ {command : Command} {expected : Status} {text : List ℕ} (asks : Asks words command) (does : Does (IsFile files) command expected text)
      (before now : Option (List ℕ)) where
    -- what was written is this text
    written_this : {s : Status} → call.Written before now (HasDone words files) s → Appends before now text
    written_this written = subst (Appends before now) (sym (does_one (same_file files) does (does_this asks written.1)).1) written.2

    written : (s : Status) → OutAfter before now (HasDone words files) s → s ≡ expected → Appends before now text
    written status.Done out same = written_this out
    written (status.Failed label) out same = written_this out
    written status.Blocked out same = written_this out
    written status.Short out same = written_this out
    written status.Over out same = written_this out
    written status.Spent out same = written_this out
    written (status.Refused r) out same = no_outcome (λ h. cc) (does_end does) same
    written status.Usage out same = no_outcome (λ h. cc) (does_end does) same
    written status.ReadFault out same = no_outcome (λ h. cc) (does_end does) same
    written status.WriteFault out same = no_outcome (λ h. cc) (does_end does) same
    written status.NoMemory out same = no_outcome (λ h. cc) (does_end does) same

  -- what is promised of what was written is promised of the command that the words ask for
  promised_this : {command : Command} {s : Status} {text : List ℕ} → Asks words command → HasDone words files s text → Promises (IsWhole files) command s text
  promised_this {s = s} {text = t} asks h = subst (λ x. Promises (IsWhole files) x s t) (asked_once h.asked asks) h.promises

  -- what is written for a file is a translation of it
  pub translation_comes : (before now : Option (List ℕ)) (s : Status) → OutAfter before now (HasDone words files) s → (file : List ℕ) → Asks words (Translate file) → s ≡ status.Done →
      (text : List ℕ) × IsTranslationOfFile (IsWhole files) file text × Appends before now text
  translation_comes before now s out file asks is =
      let written = subst (OutAfter before now (HasDone words files)) is out in
      (written.0, (promised_this asks written.1).0, written.2)

  -- and by it the file is verified
  pub translation_verified : (before now : Option (List ℕ)) (s : Status) → OutAfter before now (HasDone words files) s → (file : List ℕ) → Asks words (Translate file) → s ≡ status.Done →
      (text : List ℕ) × IsVerifiedByText (IsWhole files) file text × Appends before now text
  translation_verified before now s out file asks is =
      let written = subst (OutAfter before now (HasDone words files)) is out in
      (written.0, (promised_this asks written.1).1, written.2)

  -- what is written of a run that failed ends with a run of Boogie that fails again
  pub transfer_comes : (before now : Option (List ℕ)) (s : Status) → OutAfter before now (HasDone words files) s → (file unit run_file : List ℕ) (label : Label) →
      Asks words (Run file unit run_file) → s ≡ status.Failed label → (text : List ℕ) × IsTransfer (IsWhole files) file unit run_file label text × Appends before now text
  transfer_comes before now s out file unit run_file label asks is =
      let written = subst (OutAfter before now (HasDone words files)) is out in
      (written.0, promised_this asks written.1 label refl, written.2)

  -- an execution does not fail where no procedure of the translation of its file does
  pub frame_comes : (before now : Option (List ℕ)) (s : Status) → OutAfter before now (HasDone words files) s → (file method run_file bytes : List ℕ) (n : ℕ) (program : p.Program) (boogie : BProgram) (label : Label) →
      Asks words (Execute file method run_file n) → IsFile files file bytes → IsAccepted bytes program → BSpells (text_of program) boogie → NoProcedureFails boogie → s ≡ status.Failed label → ⊥
  frame_comes before now s out file method run_file bytes n program boogie label asks is accepted spelled nothing failed =
      let written = subst (OutAfter before now (HasDone words files)) failed out in
      let promised = promised_this asks written.1 in
      let same = one_accepted accepted (same_program (same_file files file bytes promised.bytes is promised.is) promised.accepted.framed.accepted) in
      promised.framed boogie (subst (λ x. BSpells (text_of x) boogie) same spelled) nothing label refl

  -- what is written for loops and calls follows them
  pub cut_comes : (before now : Option (List ℕ)) (s : Status) → OutAfter before now (HasDone words files) s → (file : List ℕ) → Asks words (Cut file) → s ≡ status.Done →
      (text : List ℕ) × IsCutOfFile (IsWhole files) file text × Appends before now text
  cut_comes before now s out file asks is =
      let written = subst (OutAfter before now (HasDone words files)) is out in
      (written.0, promised_this asks written.1, written.2)

  -- what is written of a procedure and a label is a condition for them
  pub statement_comes : (before now : Option (List ℕ)) (s : Status) → OutAfter before now (HasDone words files) s → (file procedure : List ℕ) (label : Label) →
      Asks words (Condition file procedure label) → s ≡ status.Done → (text : List ℕ) × IsStatement (IsWhole files) file procedure label text × Appends before now text
  statement_comes before now s out file procedure label asks is =
      let written = subst (OutAfter before now (HasDone words files)) is out in
      (written.0, promised_this asks written.1, written.2)

  module _ (before now : ℕ) where
    usage_each : IsNoCommand words → (s : Status) → IsCause words files before now s → EndsAs status.Usage s
    usage_each none s (usage also) = as_expected
    usage_each none s (read asks names why) = fault tt
    usage_each none s (refused {command = c} asks why) = absurd (none.asks_none c asks)
    usage_each none s (call.done h) = absurd (none.asks_none h.command h.asked)

    missing_each : {command : Command} → Asks words command → Misses files command → (s : Status) → IsCause words files before now s → EndsAs status.ReadFault s
    missing_each {command = c} asks misses s (usage none) = absurd (none.asks_none c asks)
    missing_each asks misses s (read other names why) = as_expected
    missing_each asks misses s (refused other why) = absurd (misses_not_refused misses (refuses_this asks other why))
    missing_each asks misses s (call.done h) = absurd (misses_not_done misses (does_this asks h))

    refused_each : {command : Command} {r : Refusal} → Asks words command → Refuses (IsFile files) command r → (s : Status) → IsCause words files before now s → EndsAs (status.Refused r) s
    refused_each {command = c} asks refuses s (usage none) = absurd (none.asks_none c asks)
    refused_each asks refuses s (read other names why) = fault tt
    refused_each {r = r} asks refuses s (refused other why) =
        subst (λ x. EndsAs (status.Refused r) (status.Refused x)) (one_refusal_of (same_file files) refuses (refuses_this asks other why)) as_expected
    refused_each asks refuses s (call.done h) = absurd (refuses_not_does (same_file files) refuses (does_this asks h))

    does_each : {command : Command} {expected : Status} {text : List ℕ} → Asks words command → Does (IsFile files) command expected text → (s : Status) → IsCause words files before now s →
        EndsAs expected s
    does_each {command = c} asks does s (usage none) = absurd (none.asks_none c asks)
    does_each asks does s (read other names why) = fault tt
    does_each asks does s (refused other why) = absurd (does_not_refuse (same_file files) does (refuses_this asks other why))
    does_each {expected = e} asks does s (call.done h) = subst (EndsAs e) (does_one (same_file files) does (does_this asks h)).0 as_expected

    -- ---- what is promised where a cause stands

    module _ (SinkFailed : Type 0) (s : Status) (causes : Causes words files before now SinkFailed s) where
      pub usage_comes : IsNoCommand words → EndsAs status.Usage s
      usage_comes none = from_causes (IsCause words files before now) _ (usage_each none) SinkFailed s causes

      pub missing_comes : (command : Command) → Asks words command → Misses files command → EndsAs status.ReadFault s
      missing_comes command asks misses = from_causes (IsCause words files before now) _ (missing_each asks misses) SinkFailed s causes

      pub refused_comes : (command : Command) (r : Refusal) → Asks words command → Refuses (IsFile files) command r → EndsAs (status.Refused r) s
      refused_comes command r asks refuses = from_causes (IsCause words files before now) _ (refused_each asks refuses) SinkFailed s causes

      pub does_comes : (out_before out_now : Option (List ℕ)) → OutAfter out_before out_now (HasDone words files) s →
          (command : Command) (expected : Status) (text : List ℕ) → Asks words command → Does (IsFile files) command expected text → EndsWith out_before out_now expected text s
      does_comes out_before out_now out command expected text asks does =
          (from_causes (IsCause words files before now) _ (does_each asks does) SinkFailed s causes, written asks does out_before out_now s out)
