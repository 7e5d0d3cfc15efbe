use Rattle.std.proofs.Common.{sym, ◌∙◌}
use Rattle.boogie_formula.specs.View.{fexpr_of, conditions_of}
use Rattle.cert_definitions.proofs.ToldLaws.{instance_told}
use Rattle.cert_definitions.proofs.instances.at_keys.Goals as goal

pub returns-then-is_instance : goal.returns-then-is_instance
returns-then-is_instance c =
    instance_told c.args.table.now (conditions_of c.args.conditions.now) c.args.aliases.now c.requires c.args.place c.in_ok-name.name (fexpr_of c.in_ok-definition.definition.now)
    c.in_ok-alias.alias c.args.literal c.args.keys.now c.in_ok-definition.ensures c.in_ok-name.ensures c.in_ok-alias.ensures c.in_ok-truth.ensures c.in_ok-truth-2.ensures
    (sym c.is_instance.ensures ∙ c.if-is_instance.true)
