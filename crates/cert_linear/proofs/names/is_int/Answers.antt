use Rattle.std.proofs.Common.{◌∙◌, sym, ap, Some}
use Rattle.boogie_tree.specs.declared.exprs.BBase.TheVariants as base
use Rattle.cert_terms.specs.View.{types_in}
use Rattle.cert_terms.proofs.LiteralLaws.{name_typed}
use Rattle.cert_linear.proofs.names.is_int.Goals as goal

pub returns-in-Some-Int : goal.returns-in-Some-Int
returns-in-Some-Int c = name_typed (types_in c.args.names.now) c.args.name base.Int (sym c.in-Some-Int.ensures ∙ ap Some c.in-Some-Int.field-0-is)

pub returns-in-Some-Real : goal.returns-in-Some-Real
returns-in-Some-Real c = name_typed (types_in c.args.names.now) c.args.name base.Real (sym c.in-Some-Real.ensures ∙ ap Some c.in-Some-Real.field-0-is)
