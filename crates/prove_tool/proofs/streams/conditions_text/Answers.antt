use Rattle.boogie_formula.specs.View.{conditions_of}
use Rattle.prove_tool.proofs.StreamLaws.{are_conditions}
use Rattle.prove_tool.proofs.streams.conditions_text.Goals as goal

pub returns : goal.returns
returns c =
    let of = c.in_ok-of.of in
    let printed = c.print_conditions.ensures in
    are_conditions _ c.args.unit of.name (conditions_of of.conditions) c.requires.exists c.in_ok-of.ensures.typed c.in_ok-of.ensures.named c.in_ok-of.ensures.built c.in_ok-of.ensures.exact
    c.print_conditions.result printed.text printed.spells printed.no_other
