use Rattle.std.proofs.Common.{◌≡◌, IfOk, ap, sym, subst}
use Rattle.viper_core.specs.Formed.{IsFormed}
use Rattle.viper_core.specs.View.{program_of}
use Rattle.boogie_tree.specs.Whole.{proc_of}
use Rattle.enc_units.specs.Units.{unit_procedure}
use Rattle.enc_units.specs.View.{coder_of}
use Rattle.enc_units.proofs.UnitRowLaws.{same_unit, unit_writes}
use Rattle.enc_stmt.proofs.trees.procedure_of.Goals as goal

pub procedure_over-requires : goal.procedure_over-requires
procedure_over-requires c = record {
  formed = subst IsFormed (sym (ap program_of c.unit_writer.ensures.program)) c.requires;
  code = unit_writes (coder_of c.unit_writer.result) (ap program_of c.unit_writer.ensures.program) c.unit_writer.ensures.unit c.unit_writer.ensures.code;
}

pub returns : goal.returns
returns c = same_unit (λ p x. IfOk c.procedure_over.result (λ proc. proc_of proc ≡ unit_procedure p x)) (ap program_of c.unit_writer.ensures.program) c.unit_writer.ensures.unit c.procedure_over.ensures
