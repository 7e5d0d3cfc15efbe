use Rattle.std.proofs.Common.{ap, ◌++◌, ◌∙◌, ◌+◌, append_assoc}
use Rattle.std.specs.Prelude.{codes}
use Rattle.vb_gen.specs.Generated.{method_text, methods_text}
use Rattle.vb_gen.proofs.Methods.{methods-next}
use Rattle.vb_gen.proofs.make_program.Goals as goal

pub loop-before-preserved : goal.loop-before-preserved
loop-before-preserved c =
    rw (methods-next c.loop-before.before) (c.in_ok-put_method.ensures
    ∙ ap (λ text. text ++ method_text (c.loop-before.before + 1)) c.loop-before.invariant
    ∙ append_assoc (codes "field f: Int\n") (methods_text c.loop-before.before) (method_text (c.loop-before.before + 1)))
