use Rattle.std.proofs.Common.{◌≡◌, Some, subst, slice_get}
use Rattle.std.specs.Option.{option_copied}
use Rattle.viper_fixtures.proofs.FileLaws.{referred_first_within}
use Rattle.viper_fixtures.proofs.files.first_stmt.Goals as goal

pub returns : goal.returns
returns c =
    referred_first_within c.args.program.now c.requires c.in_ok-method.method.now c.in_ok-body.body.now c.first-2.result
    (subst (λ ms. Some c.in_ok-method.method.now ≡ slice_get ms 0) c.deref.ensures.value c.in_ok-method.ensures.value)
    c.in_ok-body.ensures.value
    (subst (λ ss. option_copied c.first-2.result ≡ slice_get ss 0) c.deref-2.ensures.value c.first-2.ensures.value)
