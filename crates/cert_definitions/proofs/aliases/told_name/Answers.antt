use Rattle.std.proofs.Common.{sym, ◌∙◌}
use Rattle.boogie_tree.specs.Whole.{type_of}
use Rattle.boogie_formula.specs.View.{fexpr_of, conditions_of}
use Rattle.cert_definitions.proofs.ToldLaws.{is_told_rightly}
use Rattle.cert_definitions.proofs.aliases.told_name.Goals as goal

pub returns-then-is_told : goal.returns-then-is_told
returns-then-is_told c =
    is_told_rightly c.args.table.now (conditions_of c.args.conditions.now) c.args.aliases.now c.requires c.args.place c.in_ok-name.name (type_of c.in_ok-_ty._ty.now)
    (fexpr_of c.in_ok-definition.definition.now) c.args.literal c.in_ok-definition.ensures c.in_ok-name.ensures c.in_ok-_ty.ensures (sym c.is_told.ensures ∙ c.if-is_told.true)
