use Rattle.std.proofs.Common.{◌∙◌, map, ap}
use Rattle.viper_core.specs.View.{program_of}
use Rattle.enc_units.specs.View.{coder_of, step_of}
use Rattle.enc_stmt.proofs.TreeLaws.{row_body}
use Rattle.enc_units.proofs.UnitRowLaws.{row_steps, row_locals}
use Rattle.enc_stmt.proofs.trees.procedure_over.Goals as goal

pub row_emit-requires : goal.row_emit-requires
row_emit-requires c =
    row_steps (program_of c.args.writer.program.now) c.args.writer.unit c.requires.formed (coder_of c.args.writer) c.requires.code (map step_of c.deref.result.now) (ap (map step_of) c.deref.ensures.value ∙ c.in_ok-row.ensures)

pub returns : goal.returns
returns c =
    let p = program_of c.args.writer.program.now in let x = c.args.writer.unit in let code = coder_of c.args.writer in
    let row = map step_of c.deref.result.now in let is_row = ap (map step_of) c.deref.ensures.value ∙ c.in_ok-row.ensures in
    λ i. record {
      name = c.in_ok-name.ensures i;
      locals = (c.in_ok-out.ensures.locals ∙ row_locals p x c.requires.formed code c.requires.code row is_row) i;
      body = (c.in_ok-out.ensures.code ∙ row_body p x c.requires.formed code c.requires.code row is_row) i;
    }
