use Rattle.std.proofs.Common.{◌∙◌, ap, sym}
use Rattle.boogie_tree.specs.Program.{BType}
use Rattle.enc_expr.specs.ReadOff.{ty_for}
use Rattle.enc_expr.proofs.ReadOffLaws.{type_there}
use Rattle.enc_expr.proofs.own_kinds.value_type.Goals as goal

pub returns-in-Some : goal.returns-in-Some
returns-in-Some c =
    c.ty_for.ensures ∙ sym (ap (λ (u : BType). ty_for u.base) (type_there c.in-Some.local.now c.args.locals.now c.args.local c.in-Some.ensures.lookup.0 c.in-Some.ensures.lookup.1))
