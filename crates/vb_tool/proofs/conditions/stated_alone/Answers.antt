use Rattle.std.proofs.Common.{refl, subst}
use Rattle.boogie_tree.specs.Whole.{program_of, proc_of}
use Rattle.boogie_formula.specs.View.{formula_of}
use Rattle.tool_procedure.proofs.KeptLaws.{alone_fits, alone_here, alone_typed}
use Rattle.tool_procedure.specs.Alone.{IsAlone}
use Rattle.vb_tool.proofs.ConditionStages.{alone_states}
use Rattle.vb_tool.proofs.conditions.stated_alone.Goals as goal

pub formula-requires-clause-typed : goal.formula-requires-clause-typed
formula-requires-clause-typed c =
    let a : IsAlone c.args.bytes.now c.as_bytes.result.now (program_of c.in-Some.program) = rw c.in-Some.is at c.in_ok-program.ensures in
    alone_typed c.in-Some.program a

pub print_formula-requires-clause-free : goal.print_formula-requires-clause-free
print_formula-requires-clause-free c =
    let a : IsAlone c.args.bytes.now c.as_bytes.result.now (program_of c.in-Some.program) = rw c.in-Some.is at c.in_ok-program.ensures in
    (alone_fits c.in-Some.program a c.index.result.now c.index.ensures).name

pub print_formula-requires-clause-printable : goal.print_formula-requires-clause-printable
print_formula-requires-clause-printable c =
    let a : IsAlone c.args.bytes.now c.as_bytes.result.now (program_of c.in-Some.program) = rw c.in-Some.is at c.in_ok-program.ensures in
    c.in_ok-condition.ensures.printable (proc_of c.index.result.now) (alone_here c.in-Some.program a c.index.result.now c.index.ensures) (alone_fits c.in-Some.program a c.index.result.now c.index.ensures).body

pub returns : goal.returns
returns c =
    let a : IsAlone c.args.bytes.now c.as_bytes.result.now (program_of c.in-Some.program) = rw c.in-Some.is at c.in_ok-program.ensures in
    let named = subst (λ n. IsAlone c.args.bytes.now n (program_of c.in-Some.program)) c.as_bytes.ensures.value a in
    let d = c.index.result.now in
    let there = alone_here c.in-Some.program named d c.index.ensures in
    alone_states c.in-Some.program named c.args.label d (formula_of c.in_ok-condition.condition) _ c.in_ok-text.text.items c.index.ensures
    (c.in_ok-condition.ensures.built (proc_of d) there) c.in_ok-condition.ensures.typed (c.in_ok-condition.ensures.follows (proc_of d) there) (c.in_ok-condition.ensures.exact (proc_of d) there)
    c.in_ok-text.ensures.text c.in_ok-text.ensures.spells c.in_ok-text.ensures.no_other refl
