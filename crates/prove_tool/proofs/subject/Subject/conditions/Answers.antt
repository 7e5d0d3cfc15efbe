use Rattle.std.proofs.Common.{◌<◌, ◌≤◌, length, subst, arith}
use Rattle.vb_base.specs.Limits.{max_weight}
use Rattle.boogie_tree.specs.Whole as boogie
use Rattle.viper_core.specs.View.{program_of}
use Rattle.viper_proof.proofs.FewUnits.{few_units}
use Rattle.prove_tool.specs.Parts.{IsSound, subject_of}
use Rattle.prove_tool.specs.Subject.{count_of}
use Rattle.prove_tool.proofs.SubjectLaws.{viper_named, boogie_named, boogie_built}
use Rattle.prove_tool.proofs.subject.Subject.conditions.Goals as goal

pub overflow_cast-unit : goal.overflow_cast-unit
overflow_cast-unit c =
    let few : length c.in-Viper.program.units.items ≤ max_weight = few_units (program_of c.in-Viper.program) (subst (λ x. IsSound (subject_of x)) c.in-Viper.is c.requires.sound) in
    let within : c.args.number < length c.in-Viper.program.units.items = subst (λ x. c.args.number < count_of (subject_of x)) c.in-Viper.is c.requires.exists in
    omega (arith, few, within)

pub returns-in-Viper-clause-named : goal.returns-in-Viper-clause-named
returns-in-Viper-clause-named c = rw c.in-Viper.is (viper_named (program_of c.in-Viper.program) c.args.number c.unit_conditions.result c.unit_conditions.ensures.named)

pub returns-in-Boogie-clause-named : goal.returns-in-Boogie-clause-named
returns-in-Boogie-clause-named c = rw c.in-Boogie.is (boogie_named (boogie.program_of c.in-Boogie.program) c.args.number c.procedure_conditions.result c.procedure_conditions.ensures.named)

pub returns-in-Boogie-clause-built : goal.returns-in-Boogie-clause-built
returns-in-Boogie-clause-built c = rw c.in-Boogie.is (boogie_built (boogie.program_of c.in-Boogie.program) c.args.number c.procedure_conditions.result c.procedure_conditions.ensures.built c.procedure_conditions.ensures.follows)
