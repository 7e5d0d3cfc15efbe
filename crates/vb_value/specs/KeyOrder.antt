-- The order of keys is total, and it tells keys apart.
use Rattle.std.specs.Prelude.{◌≡◌}
use Rattle.std.specs.Cmp.{IsTotalOrder}
use Rattle.std.proofs.Common.{refl, subst}
use Rattle.std.proofs.lemmas.Cmp.{lists_total}
use Rattle.vb_value.specs.Key.{part_cmp, key_cmp}
use Rattle.vb_value.specs.declared.keys.KeyPart.{KeyPart}
use Rattle.vb_value.specs.declared.keys.KeyPart.TheVariants.{Int, Bool, Ref}
use Rattle.vb_value.specs.contracts.keys.KeyPartOrd.TheImpl as derived
use Rattle.vb_value.specs.contracts.keys.KeyPartOrd.TheImpl.Laws as laws

-- the derived order of the parts is that one
pub part_cmp_is : (x y : KeyPart) → derived.ghosts.cmp x y ≡ part_cmp x y
part_cmp_is (Int a) (Int b) = refl
part_cmp_is (Int a) (Bool b) = refl
part_cmp_is (Int a) (Ref b) = refl
part_cmp_is (Bool a) (Int b) = refl
part_cmp_is (Bool a) (Bool b) = refl
part_cmp_is (Bool a) (Ref b) = refl
part_cmp_is (Ref a) (Int b) = refl
part_cmp_is (Ref a) (Bool b) = refl
part_cmp_is (Ref a) (Ref b) = refl

pub part_cmp_total : IsTotalOrder part_cmp
part_cmp_total = subst IsTotalOrder (λ i x y. part_cmp_is x y i) laws.total-law

pub key_cmp_total : IsTotalOrder key_cmp
key_cmp_total = lists_total part_cmp_total
