use Rattle.std.proofs.Common.{◌≡◌, IfOk, ap, sym, subst}
use Rattle.viper_core.specs.Formed.{IsFormed}
use Rattle.viper_core.specs.View.{program_of}
use Rattle.boogie_tree.specs.Whole.{locals_of}
use Rattle.enc_units.specs.Units.{unit_procedure}
use Rattle.enc_units.specs.View.{coder_of}
use Rattle.enc_units.proofs.UnitRowLaws.{same_unit, unit_writes}
use Rattle.enc_stream.proofs.procedures.locals_of_unit.Goals as goal

pub locals_over-requires : goal.locals_over-requires
locals_over-requires c = record {
  formed = subst IsFormed (sym (ap program_of c.unit_writer.ensures.program)) c.requires;
  code = unit_writes (coder_of c.unit_writer.result) (ap program_of c.unit_writer.ensures.program) c.unit_writer.ensures.unit c.unit_writer.ensures.code;
}

pub returns : goal.returns
returns c =
    same_unit (λ p x. IfOk c.locals_over.result (λ locals. locals_of locals.items ≡ (unit_procedure p x).locals)) (ap program_of c.unit_writer.ensures.program) c.unit_writer.ensures.unit c.locals_over.ensures
