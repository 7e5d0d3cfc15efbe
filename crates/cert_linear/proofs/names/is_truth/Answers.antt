use Rattle.std.proofs.Common.{◌∙◌, sym, ap, Some}
use Rattle.boogie_tree.specs.declared.exprs.BBase.TheVariants as base
use Rattle.cert_terms.specs.View.{types_in}
use Rattle.cert_terms.proofs.LiteralLaws.{name_typed, name_truth}
use Rattle.cert_linear.proofs.names.is_truth.Goals as goal

pub returns-in-Some-Bool : goal.returns-in-Some-Bool
returns-in-Some-Bool c = name_truth (types_in c.args.names.now) c.args.literal (name_typed (types_in c.args.names.now) c.args.literal.name base.Bool (sym c.in-Some-Bool.ensures ∙ ap Some c.in-Some-Bool.field-0-is))
