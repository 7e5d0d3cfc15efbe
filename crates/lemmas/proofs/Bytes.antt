-- Rows of bytes that are the same, or not.
use Rattle.std.proofs.Common.{Bool, List, false, refl, sym, true, ℕ, ◌∙◌, ◌≡◌}
use Rattle.std.proofs.lemmas.Slice.Eq.{bytes_eq-Decides}
use Rattle.std.specs.Str.{bytes_eq}

pub same_bytes : (x y : List ℕ) → bytes_eq x y ≡ true → x ≡ y
same_bytes x y e = (bytes_eq-Decides x y).0 e

pub not_same_both : (x y z : List ℕ) (c : Bool) → (z ≡ x → ⊥) → bytes_eq z y ≡ c → bytes_eq x y ≡ true → c ≡ false
not_same_both x y z true differ e f = absurd (differ (same_bytes z y e ∙ sym (same_bytes x y f)))
not_same_both x y z false differ e f = refl

pub unequal : (x y : List ℕ) → bytes_eq x y ≡ false → y ≡ x → ⊥
unequal x y e same = let yes = (bytes_eq-Decides x y).1 (sym same) in let no : true ≡ false = sym yes ∙ e in cc

pub same_itself : (x : List ℕ) → bytes_eq x x ≡ true
same_itself x = (bytes_eq-Decides x x).1 refl
