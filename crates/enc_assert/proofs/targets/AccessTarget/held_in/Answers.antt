use Rattle.std.proofs.Common.{◌∙◌, ap, sym}
use Rattle.enc_expr.specs.Place.{number, maps_of}
use Rattle.enc_assert.specs.Target.{held_in}
use Rattle.enc_assert.specs.Access.{target_of}
use Rattle.enc_assert.proofs.targets.AccessTarget.held_in.Goals as goal

pub returns-in-Field : goal.returns-in-Field
returns-in-Field c =
    c.number.ensures ∙ ap (λ xs. number xs c.in-Field.field) c.deref.ensures.value ∙ sym (ap (λ x. held_in (maps_of c.args.maps.now) (target_of x)) c.in-Field.is)

pub returns-in-Instance : goal.returns-in-Instance
returns-in-Instance c =
    c.number-in-Instance.ensures ∙ ap (λ xs. number xs c.in-Instance.predicate) c.deref-in-Instance.ensures.value ∙ sym (ap (λ x. held_in (maps_of c.args.maps.now) (target_of x)) c.in-Instance.is)
