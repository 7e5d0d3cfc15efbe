use Rattle.std.proofs.Common.{◌∙◌, ◌+◌, ◌++◌, length, map, drop, ap, arith}
use Rattle.enc_expr.specs.Emits.{emit_of, temporaries}
use Rattle.enc_units.specs.Rows.{row_types}
use Rattle.enc_units.specs.View.{bracket_of, coder_of, step_of}
use Rattle.enc_units.proofs.PassLaws.{steps_left, step_is, row_step}
use Rattle.enc_stream.proofs.passes.row_locals.Goals as goal

pub code-requires : goal.code-requires
code-requires c =
    step_is c.args.row.now c.loop-step.step-index c.step-item.result c.requires (omega (arith, c.loop-step-test.true, c.loop-step.auto.step-index-end)) c.step-item.is

pub loop-step-preserved : goal.loop-step-preserved
loop-step-preserved c =
    let code = coder_of c.args.writer in let before = emit_of c.loop-step.out in let rest = map step_of (drop (c.loop-step.step-index + 1) c.args.row.now) in
    c.loop-step.invariant
    ∙ ap (λ xs. before.locals ++ temporaries (length before.locals) (row_types code xs (length before.locals)))
    (steps_left c.args.row.now c.loop-step.step-index c.step-item.result (omega (arith, c.loop-step-test.true, c.loop-step.auto.step-index-end)) c.step-item.is)
    ∙ row_step code (step_of c.step-item.result) rest before (emit_of c.code.new.out) (bracket_of c.in_ok-code.field-0) c.in_ok-code.ensures
