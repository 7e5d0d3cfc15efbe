use Rattle.std.proofs.Common.{◌≡◌, ◌∙◌, IfOk, map, ap, subst}
use Rattle.viper_core.specs.View.{program_of}
use Rattle.boogie_tree.specs.Whole.{locals_of}
use Rattle.enc_units.specs.View.{coder_of, step_of}
use Rattle.enc_units.proofs.UnitRowLaws.{row_steps, row_locals}
use Rattle.enc_stream.proofs.procedures.locals_over.Goals as goal

pub locals_in-requires : goal.locals_in-requires
locals_in-requires c =
    row_steps (program_of c.args.writer.program.now) c.args.writer.unit c.requires.formed (coder_of c.args.writer) c.requires.code (map step_of c.deref.result.now) (ap (map step_of) c.deref.ensures.value ∙ c.in_ok-row.ensures)

pub returns : goal.returns
returns c =
    subst (λ ls. IfOk c.locals_in.result (λ locals. locals_of locals.items ≡ ls))
    (row_locals (program_of c.args.writer.program.now) c.args.writer.unit c.requires.formed (coder_of c.args.writer) c.requires.code (map step_of c.deref.result.now) (ap (map step_of) c.deref.ensures.value ∙ c.in_ok-row.ensures))
    c.locals_in.ensures
