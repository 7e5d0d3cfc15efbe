use Rattle.std.proofs.Common.{◌∙◌, map, ap}
use Rattle.viper_core.specs.View.{program_of}
use Rattle.boogie_tree.specs.Whole.{proc_of}
use Rattle.enc_units.specs.Units.{unit_procedure}
use Rattle.enc_stmt.proofs.TreeLaws.{is_program, is_translation, is_printable}
use Rattle.enc_stmt.proofs.trees.encode.Goals as goal

pub returns : goal.returns
returns c =
    let p = program_of c.args.program.now in let procs = map proc_of c.in_ok-procs.procs.items in
    let all = c.in_ok-procs.ensures ∙ ap (map (unit_procedure p)) c.deref.ensures.value in
    record { program = is_program p c.requires procs all; translates = is_translation p c.requires procs all; printable = is_printable p c.requires procs all }
