-- The statements of a procedure that are run as they are read.
use Rattle.std.proofs.Common.{◌≡◌, ◌∙◌, sym, ap, subst, ℕ, List, [], ◌∷◌, ◌++◌, length, map, Some, Bor}
use Rattle.boogie_meaning.proofs.RunTypedLaws.{not_wrong}
use Rattle.vb_value.specs.Bound.{Bounded}
use Rattle.boogie_tree.specs.Program.{BType, Local, Proc}
use Rattle.boogie_tree.specs.Stmt.{BStmt, stmts}
use Rattle.boogie_tree.specs.Value.{BChoice, BRun}
use Rattle.boogie_tree.specs.Whole.{locals_of}
use Rattle.boogie_tree.specs.declared.programs.Local as declared
use Rattle.boogie_grammar.specs.Grammar.{local_names}
use Rattle.boogie_meaning.specs.Programs.{types_of}
use Rattle.boogie_meaning.specs.Run.{Run, Done, Stops, Wrong, brun, brun_stmt, then_run}
use Rattle.boogie_meaning.proofs.RunTypedLaws as typed
use Rattle.boogie_run.specs.Ready.{KeepsReady}
use Rattle.boogie_run.specs.Start.{start_of, outcome_of, CanRun}
use Rattle.boogie_eval.specs.Within.{AreWithinStmts, IsWithinStmt}
use Rattle.boogie_run.specs.declared.replaying.BOutcome.{BOutcome}
use Rattle.boogie_run.proofs.RunWithinLaws as ready
use Rattle.boogie_types.proofs.TypingLaws.{types_are}
use Rattle.boogie_run.proofs.SteppedLaws.{one_more}
use Rattle.boogie_types.specs.Typed.{types_in}
use Rattle.boogie_text.specs.Tail.{BeginsEnd, BeginsStatement}
use Rattle.boogie_meaning.specs.Types.{IsTypedStmt}
use Rattle.tool_procedure.proofs.BegunLaws.{IsGone, gone_none, gone_one, gone_all}
use Rattle.run_file_boogie.specs.BoogieRun.{SpellsBoogieRun}
use Rattle.run_file_laws.proofs.LiteralLaws.{stmt_within}
use Rattle.tool_procedure.specs.Parts.{IsDone, IsMade, RunsBody}
use Rattle.tool_procedure.specs.declared.alone.ProcedureResult.TheVariants as made
use Rattle.tool_procedure.specs.declared.alone.ProcedureTask.TheVariants as task

abbrev types : List Local → List BType
types ls = map (λ (l : Local). l.ty) ls

-- the run of these statements, from where the run begins
abbrev so_far : List Local → BRun → List BStmt → Run
so_far ls run body = brun (types ls) Bounded (stmts body) (start_of (types ls) run.settings) run.choices

-- the types of locals, as code has them
pub types_then : {seen : List declared.Local} (ls : List declared.Local) → seen ≡ ls → types_in seen ≡ types (locals_of ls)
types_then ls is = ap types_in is ∙ types_are ls

-- some statements are read and run
pub record IsRun (ls : List Local) (text rest : List ℕ) (run : BRun) (now : Run) : Type 0 where
  pub body : List BStmt
  pub gone : IsGone ls text rest body
  pub within : AreWithinStmts (stmts body)
  pub is : now ≡ so_far ls run body

pub run_none : (ls : List Local) (text : List ℕ) (run : BRun) {now : Run} → now ≡ Done (start_of (types ls) run.settings) run.choices → IsRun ls text text run now
run_none ls text run is = record { body = []; gone = gone_none ls text; within = tt; is = is }

within_with : (body : List BStmt) (a : BStmt) → AreWithinStmts (stmts body) → IsWithinStmt a → AreWithinStmts (stmts (body ++ a ∷ []))
within_with [] a h one = (one, tt)
within_with (x ∷ body) a h one = (h.0, within_with body a h.1 one)

pub run_one : {ls : List Local} {names : List (List ℕ)} {text rest after : List ℕ} {run : BRun} {now new : Run} (a : BStmt) → local_names ls ≡ names → IsRun ls text rest run now →
    BeginsStatement names rest a after → IsTypedStmt (types ls) a → new ≡ then_run now (brun_stmt (types ls) Bounded a) → IsRun ls text after run new
run_one {ls} {names} {run = run} a same r begins typed is = record {
  body = r.body ++ a ∷ [];
  gone = gone_one a same r.gone begins typed;
  within = within_with r.body a r.within (stmt_within (length names) a begins.fits);
  is = is ∙ ap (λ q. then_run q (brun_stmt (types ls) Bounded a)) r.is ∙ sym (one_more (types ls) Bounded r.body a (start_of (types ls) run.settings) run.choices);
}

pub run_ready : {begun : Proc} {text rest : List ℕ} {run : BRun} {now : Run} → CanRun begun run → IsRun begun.locals text rest run now → KeepsReady now
run_ready {begun} {run = run} can r = subst KeepsReady (sym r.is) (ready.stmts_keep (types_of begun) (stmts r.body) (start_of (types_of begun) run.settings) run.choices r.within can.within)

pub never_wrong : {begun : Proc} {text rest : List ℕ} {run : BRun} {now : Run} {left : List BChoice} → CanRun begun run → IsRun begun.locals text rest run now → now ≡ Stops Wrong left → ⊥
never_wrong {begun} {run = run} {left = left} can r e =
    not_wrong left (typed.stmts_keep (types_of begun) Bounded (start_of (types_of begun) run.settings) run.choices r.gone.typed can.environment can.reduced) (sym r.is ∙ e)

pub run_all : {begun : Proc} {text rest after : List ℕ} {run : BRun} {now : Run} {outcome : BOutcome} → IsRun begun.locals text rest run now → BeginsEnd rest after → outcome_of now ≡ Some outcome →
    RunsBody begun text after run outcome
run_all r begins ends = record { body = r.body; is_body = gone_all r.gone begins; ends = ap outcome_of (sym r.is) ∙ ends }

-- ---- what is made of a procedure that is run

-- a run file spells a run of a procedure just as well where its statements are not known yet
pub ended_so : {begun : Proc} {text rest : List ℕ} (run_bytes : Bor (List ℕ)) {run : BRun} {outcome : BOutcome} → SpellsBoogieRun run_bytes.now begun run → RunsBody begun text rest run outcome →
    IsDone (IsMade (task.Run run_bytes)) begun text (made.Outcome outcome) rest
ended_so run_bytes {run} spelled r = record {
  body = r.body;
  is_body = r.is_body;
  is_made = record { run = run; spelled = record { exact = spelled.exact; spelled = spelled.spelled; same = spelled.same }; ends = r.ends };
}
