use Rattle.std.proofs.Common.{◌≡◌, ◌∙◌, sym, ap, subst, length, true}
use Rattle.vb_value.specs.Bound.{Bounded}
use Rattle.boogie_tree.specs.Whole.{run_of, stmt_of}
use Rattle.boogie_meaning.specs.Run.{Done, brun_stmt, then_run}
use Rattle.boogie_meaning.specs.Types.{is_typed_stmt}
use Rattle.boogie_run.specs.Start.{start_of}
use Rattle.boogie_run.specs.Stepped.{run_in}
use Rattle.boogie_types.specs.Typed.{types_in}
use Rattle.boogie_text.specs.Tail.{BeginsStatement}
use Rattle.tool_procedure.proofs.BegunLaws.{stmt_typed}
use Rattle.run_file_laws.proofs.LiteralLaws.{stmt_within}
use Rattle.tool_procedure.proofs.RunBodyLaws.{run_none, run_one, run_ready, never_wrong, types_then}
use Rattle.tool_procedure.proofs.bodies.run_body.Goals as goal

pub loop-running-init : goal.loop-running-init
loop-running-init c =
    let r = run_of c.args.run.now in
    run_none _ _ r (c.in_ok-running.ensures ∙ ap (λ us. Done (start_of us r.settings) r.choices) (types_then c.args.begun.now.proc.locals.items c.as_slice-locals.ensures.value))

pub outcome-requires : goal.outcome-requires
outcome-requires c = λ left e. never_wrong c.requires.begins c.loop-running.invariant e

pub step-requires-clause-within : goal.step-requires-clause-within
step-requires-clause-within c =
    let begins : BeginsStatement c.args.begun.now.names c.loop-running.rest.now (stmt_of c.in-Statement.stmt) c.in-Statement.after.now = rw c.in-Statement.is at c.in_ok-after.ensures in
    stmt_within (length c.args.begun.now.names) (stmt_of c.in-Statement.stmt) begins.fits

pub step-requires-clause-ready : goal.step-requires-clause-ready
step-requires-clause-ready c = run_ready c.requires.begins c.loop-running.invariant

pub loop-running-preserved : goal.loop-running-preserved
loop-running-preserved c =
    let a = stmt_of c.in-Statement.stmt in
    let begins : BeginsStatement c.args.begun.now.names c.loop-running.rest.now a c.in-Statement.after.now = rw c.in-Statement.is at c.in_ok-after.ensures in
    let typed : is_typed_stmt (types_in c.args.begun.now.proc.locals.items) a ≡ true =
    subst (λ ls. is_typed_stmt (types_in ls) a ≡ true) c.as_slice-locals.ensures.value (sym c.is_typed_stmt.ensures ∙ c.if-is_typed_stmt.true) in
    let types = types_then c.args.begun.now.proc.locals.items c.as_slice-locals.ensures.value in
    run_one a c.requires.named c.loop-running.invariant begins (stmt_typed c.args.begun.now.proc.locals.items a typed)
    (c.in_ok-step-in-Statement.ensures ∙ ap (λ us. then_run (run_in c.loop-running.running) (brun_stmt us Bounded a)) types)
