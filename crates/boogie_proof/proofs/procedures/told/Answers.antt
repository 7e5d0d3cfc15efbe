use Rattle.std.proofs.Common.{◌∙◌}
use Rattle.boogie_tree.specs.Whole.{program_of, proc_of}
use Rattle.boogie_proof.proofs.AnswerLaws.{procedure_there, has_its_name}
use Rattle.boogie_proof.proofs.procedures.told.Goals as goal

pub returns-clause-named : goal.returns-clause-named
returns-clause-named c d there =
    let this = procedure_there c.args.program.now.procs.items c.args.number c.index.result.now c.requires.exists c.index.ensures in
    c.in_ok-name.ensures ∙ has_its_name (program_of c.args.program.now) c.args.number (proc_of c.index.result.now) this d there
