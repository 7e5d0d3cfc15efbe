use Rattle.std.proofs.Common.{◌∙◌, ap, sym}
use Rattle.enc_expr.specs.Pieces.{index}
use Rattle.enc_assert.specs.Target.{key_of}
use Rattle.enc_assert.specs.Access.{target_of}
use Rattle.enc_assert.proofs.targets.AccessTarget.index.Goals as goal

pub returns-in-Field : goal.returns-in-Field
returns-in-Field c = sym (ap (λ x. key_of (target_of x)) c.in-Field.is)

pub returns-in-Instance : goal.returns-in-Instance
returns-in-Instance c = ap index c.deref.ensures.value ∙ sym (ap (λ x. key_of (target_of x)) c.in-Instance.is)
