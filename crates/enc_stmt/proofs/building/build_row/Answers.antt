use Rattle.std.proofs.Common.{◌∙◌, ◌+◌, ◌++◌, ◌<◌, length, map, drop, ap, arith}
use Rattle.enc_expr.specs.Emits.{emit_of, temporaries}
use Rattle.enc_stmt.specs.Built.{around_of, built_of, with_pieces}
use Rattle.enc_units.specs.Rows.{row_pieces, row_types}
use Rattle.enc_units.specs.View.{bracket_of, coder_of, step_of}
use Rattle.enc_stmt.proofs.BuildLaws.{step_built}
use Rattle.enc_units.proofs.PassLaws.{steps_left, step_is, row_step}
use Rattle.enc_stmt.proofs.building.build_row.Goals as goal

pub code-requires : goal.code-requires
code-requires c =
    step_is c.args.row.now c.loop-step.step-index c.step-item.result c.requires (omega (arith, c.loop-step-test.true, c.loop-step.auto.step-index-end)) c.step-item.is

pub loop-step-preserved : goal.loop-step-preserved
loop-step-preserved c =
    let code = coder_of c.args.writer in let before = emit_of c.loop-step.out in let mid = emit_of c.code.new.out in
    let x = step_of c.step-item.result in let rest = map step_of (drop (c.loop-step.step-index + 1) c.args.row.now) in
    let within : c.loop-step.step-index < length c.args.row.now = omega (arith, c.loop-step-test.true, c.loop-step.auto.step-index-end) in
    let left = steps_left c.args.row.now c.loop-step.step-index c.step-item.result within c.step-item.is in
    record {
      locals = c.loop-step.invariant.locals
          ∙ ap (λ xs. before.locals ++ temporaries (length before.locals) (row_types code xs (length before.locals))) left
          ∙ row_step code x rest before mid (bracket_of c.in_ok-bracket.bracket) c.in_ok-bracket.ensures;
      code = c.loop-step.invariant.code
          ∙ ap (λ xs. with_pieces (row_pieces code xs (length before.locals)) (built_of c.loop-step.branches.items c.loop-step.out.code.items)) left
          ∙ step_built code x rest before mid (bracket_of c.in_ok-bracket.bracket) (around_of c.loop-step.branches.items) (built_of c.build_bracket.new.branches.items c.build_bracket.new.block.items)
          c.in_ok-bracket.ensures c.in_ok-build_bracket.ensures;
    }
