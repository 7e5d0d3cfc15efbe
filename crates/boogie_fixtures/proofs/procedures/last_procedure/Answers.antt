use Rattle.std.proofs.Common.{◌∙◌, ap, sym}
use Rattle.boogie_tree.specs.declared.programs.BProgram.{BProgram}
use Rattle.boogie_fixtures.proofs.CodeLaws.{popped_fits}
use Rattle.boogie_fixtures.proofs.procedures.last_procedure.Goals as goal

pub returns : goal.returns
returns c =
    popped_fits c.args.program.value c.pop.new.self.items c.pop.result c.requires
    (ap (λ (b : BProgram). b.procs.items) (sym c.into_inner-procs.ensures) ∙ c.pop.ensures.items)
