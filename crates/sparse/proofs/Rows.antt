-- Small maps by hand: the definitions compute these.
use Rattle.std.proofs.Common.{◌≡◌, ℕ, List, [], ◌∷◌, refl}
use Rattle.std.specs.Ordering.{nat_cmp}
use Rattle.std.specs.Prelude.{nat_eq}
use Rattle.sparse.specs.Map.{Map, empty, keys, get, set}

-- over the default 7
abbrev over : List (ℕ × ℕ) → Map ℕ ℕ
over es = record { default = 7; entries = es }

pub first : set nat_cmp nat_eq (empty 7) 5 50 ≡ over ((5, 50) ∷ [])
first = refl

pub between : set nat_cmp nat_eq (over ((3, 30) ∷ (9, 90) ∷ [])) 5 50 ≡ over ((3, 30) ∷ (5, 50) ∷ (9, 90) ∷ [])
between = refl

pub again : set nat_cmp nat_eq (over ((3, 30) ∷ (9, 90) ∷ [])) 9 91 ≡ over ((3, 30) ∷ (9, 91) ∷ [])
again = refl

pub back : set nat_cmp nat_eq (over ((3, 30) ∷ (9, 90) ∷ [])) 3 7 ≡ over ((9, 90) ∷ [])
back = refl

pub default_anew : set nat_cmp nat_eq (over ((3, 30) ∷ [])) 4 7 ≡ over ((3, 30) ∷ [])
default_anew = refl

pub read : get nat_cmp (over ((3, 30) ∷ (9, 90) ∷ [])) 9 ≡ 90
read = refl

pub read_default : get nat_cmp (over ((3, 30) ∷ (9, 90) ∷ [])) 4 ≡ 7
read_default = refl

pub listed : keys (over ((3, 30) ∷ (9, 90) ∷ [])) ≡ 3 ∷ 9 ∷ []
listed = refl
