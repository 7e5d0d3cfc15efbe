use Rattle.std.proofs.Common.{[], ◌∷◌, refl, ap, ◌∙◌}
use Rattle.viper_core.specs.View.{body_of, method_of, program_of, stmts_of}
use Rattle.viper_run.specs.View.{configuration_of}
use Rattle.viper_exec.specs.Answers.{no_memory}
use Rattle.viper_exec.specs.Frames.{Block, End}
use Rattle.viper_exec.specs.View.{frames_over}
use Rattle.viper_exec.proofs.BodyLaws.{start_ready, start_runs, seen, seen_stops}
use Rattle.viper_exec.proofs.TakesLaws.{handed_on}
use Rattle.viper_exec.proofs.machine.exec_body.Goals as goal

pub returns-in_err-start : goal.returns-in_err-start
returns-in_err-start c = handed_on _ _ c.from_residual.ensures.1 no_memory

pub returns-in_err-add_frame : goal.returns-in_err-add_frame
returns-in_err-add_frame c = handed_on _ _ c.from_residual-in_err-add_frame.ensures.1 no_memory

pub returns-in_err-add_frame-2 : goal.returns-in_err-add_frame-2
returns-in_err-add_frame-2 c = handed_on _ _ c.from_residual-in_err-add_frame-2.ensures.1 no_memory

pub run-requires : goal.run-requires
run-requires c =
    let body = body_of c.args.body.now in
    let all = c.in_ok-add_frame-2.ensures ∙ ap (λ xs. Block (stmts_of xs) ∷ frames_over c.add_frame.new.frames.items []) c.deref-2.ensures.value
    ∙ ap (λ frames. Block body.stmts ∷ frames) (c.in_ok-add_frame.ensures ∙ ap (λ xs. End (method_of c.args.method.now) body.turn ∷ frames_over xs []) c.new.ensures.items) in
    record { ready = start_ready (program_of c.args.program.now) (method_of c.args.method.now) body (configuration_of c.args.configuration) c.deref.ensures.value c.in_ok-start.ensures all c.requires.formed c.requires.body c.requires.ready }

pub returns-in_err-run : goal.returns-in_err-run
returns-in_err-run c =
    let body = body_of c.args.body.now in
    let all = c.in_ok-add_frame-2.ensures ∙ ap (λ xs. Block (stmts_of xs) ∷ frames_over c.add_frame.new.frames.items []) c.deref-2.ensures.value
    ∙ ap (λ frames. Block body.stmts ∷ frames) (c.in_ok-add_frame.ensures ∙ ap (λ xs. End (method_of c.args.method.now) body.turn ∷ frames_over xs []) c.new.ensures.items) in
    handed_on _ _ c.from_residual-in_err-run.ensures.1 (start_runs (program_of c.args.program.now) (method_of c.args.method.now) body (configuration_of c.args.configuration) c.deref.ensures.value c.in_ok-start.ensures all (seen_stops c.in_err-run.ensures))

pub returns : goal.returns
returns c =
    let body = body_of c.args.body.now in
    let all = c.in_ok-add_frame-2.ensures ∙ ap (λ xs. Block (stmts_of xs) ∷ frames_over c.add_frame.new.frames.items []) c.deref-2.ensures.value
    ∙ ap (λ frames. Block body.stmts ∷ frames) (c.in_ok-add_frame.ensures ∙ ap (λ xs. End (method_of c.args.method.now) body.turn ∷ frames_over xs []) c.new.ensures.items) in
    start_runs (program_of c.args.program.now) (method_of c.args.method.now) body (configuration_of c.args.configuration) c.deref.ensures.value c.in_ok-start.ensures all (seen _ refl c.in_ok-run.ensures)
