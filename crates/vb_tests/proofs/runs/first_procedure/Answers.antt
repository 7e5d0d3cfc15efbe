use Rattle.std.proofs.Common.{◌≡◌, subst, slice_get}
use Rattle.std.specs.Option.{option_copied}
use Rattle.vb_tests.proofs.RunLaws.{first_differs}
use Rattle.vb_tests.proofs.runs.first_procedure.Goals as goal

pub returns : goal.returns
returns c =
    first_differs c.args.program.now c.requires c.first.result
    (subst (λ ds. option_copied c.first.result ≡ slice_get ds 0) c.deref.ensures.value c.first.ensures.value)
