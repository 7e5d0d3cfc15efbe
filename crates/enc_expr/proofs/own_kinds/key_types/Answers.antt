use Rattle.std.proofs.Common.{◌∙◌, ap, sym, map}
use Rattle.std.proofs.lemmas.Result.{IfOk-weaker}
use Rattle.boogie_tree.specs.Program.{BType}
use Rattle.enc_expr.specs.ReadOff.{ty_for}
use Rattle.enc_expr.proofs.ReadOffLaws.{type_there}
use Rattle.enc_expr.proofs.own_kinds.key_types.Goals as goal

pub returns-in-Some : goal.returns-in-Some
returns-in-Some c =
    IfOk-weaker c.tys_for.result _ _ (λ us same. same ∙ ap (map ty_for) c.deref.ensures.value
    ∙ sym (ap (λ (u : BType). map ty_for u.keys) (type_there c.in-Some.local.now c.args.locals.now c.args.local c.in-Some.ensures.lookup.0 c.in-Some.ensures.lookup.1))) c.tys_for.ensures
