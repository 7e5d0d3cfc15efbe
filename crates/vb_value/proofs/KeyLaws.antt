-- The order of keys tells them apart exactly.
use Rattle.std.proofs.Common.{◌≡◌, List, [], ◌∷◌, refl, ap}
use Rattle.std.specs.Ordering.{is_eq, nat_cmp, bool_cmp}
use Rattle.std.specs.declared.cmp.Ordering.TheVariants.{Equal}
use Rattle.std.proofs.lemmas.Cmp.{ranked, tied_itself}
use Rattle.std.proofs.lemmas.Bool.Decides.{Decides-int_eq}
use Rattle.vb_value.specs.Key.{part_cmp, key_cmp}
use Rattle.vb_value.specs.KeyOrder.{key_cmp_total}
use Rattle.vb_value.specs.declared.keys.KeyPart.{KeyPart}
use Rattle.vb_value.specs.declared.keys.KeyPart.TheVariants.{Int, Bool as Truth, Ref}
use Rattle.std.specs.Prelude.{ℕ, Bool, true, false}
use Rattle.std.specs.Ordering.{MatchOrdering}
use Rattle.std.proofs.Common.{subst, ◌<◌}
use Rattle.lemmas.proofs.Orders.{both_equal}

same_from_nat_cmp : (a b : ℕ) → nat_cmp a b ≡ Equal → a ≡ b
same_from_nat_cmp a b e = subst (λ o. MatchOrdering o (a < b) (a ≡ b) (b < a)) e (ranked a b (nat_cmp a b) refl)

same_from_bool_cmp : (a b : Bool) → bool_cmp a b ≡ Equal → a ≡ b
same_from_bool_cmp false false e = refl
same_from_bool_cmp false true e = cc
same_from_bool_cmp true false e = cc
same_from_bool_cmp true true e = refl

pub same_from_part_cmp : (x y : KeyPart) → part_cmp x y ≡ Equal → x ≡ y
same_from_part_cmp (Int a) (Int b) e = ap Int ((Decides-int_eq a b).0 (ap is_eq e))
same_from_part_cmp (Truth a) (Truth b) e = ap Truth (same_from_bool_cmp a b e)
same_from_part_cmp (Ref a) (Ref b) e = ap Ref (same_from_nat_cmp a b e)
same_from_part_cmp _ _ e = cc

pub same_from_key_cmp : (xs ys : List KeyPart) → key_cmp xs ys ≡ Equal → xs ≡ ys
same_from_key_cmp [] [] e = refl
same_from_key_cmp [] (y ∷ ys) e = cc
same_from_key_cmp (x ∷ xs) [] e = cc
same_from_key_cmp (x ∷ xs) (y ∷ ys) e =
    let h = both_equal (part_cmp x y) (key_cmp xs ys) e in
    let head = same_from_part_cmp x y h.0 in
    let tail = same_from_key_cmp xs ys h.1 in
    cc

pub key_cmp_self : (xs : List KeyPart) → key_cmp xs xs ≡ Equal
key_cmp_self xs = tied_itself key_cmp_total xs
