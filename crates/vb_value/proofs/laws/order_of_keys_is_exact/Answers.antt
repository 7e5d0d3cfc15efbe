use Rattle.std.proofs.Common.{subst, ◌≡◌}
use Rattle.std.specs.declared.cmp.Ordering.TheVariants.{Equal}
use Rattle.vb_value.specs.Key.{key_cmp}
use Rattle.vb_value.proofs.KeyLaws.{same_from_key_cmp, key_cmp_self}
use Rattle.vb_value.proofs.laws.order_of_keys_is_exact.Goals as goal

pub returns-clause-keys : goal.returns-clause-keys
returns-clause-keys c = λ x y. (same_from_key_cmp x y, λ e. subst (λ z. key_cmp x z ≡ Equal) e (key_cmp_self x))
