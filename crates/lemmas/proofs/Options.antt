-- What an Option or a Result is.
use Rattle.std.proofs.Common.{Bool, IfSome, List, None, Option, Some, ap, arith, false, get_or, if◌then◌else◌, is_some, length, refl, slice_get, subst, suc, sym, true, ℕ, ◌+◌, ◌<◌, ◌∙◌, ◌≡◌}
use Rattle.std.proofs.lemmas.Bool.{ltb-false, ltb-true}
use Rattle.std.proofs.lemmas.Option.{slice_get-get_or, slice_get_past}
use Rattle.std.specs.Borrow.{Bor}
use Rattle.std.specs.Option.{option_copied, option_map}
use Rattle.std.specs.Prelude.{nat_lt}

pub chosen : {T : Type 0} (b : Bool) (x f : T) → Some f ≡ (if b then Some x else None) → f ≡ x
chosen true x f e = cc
chosen false x f e = cc

pub some_same : {X : Type 0} {x y : X} → Some x ≡ Some y → x ≡ y
some_same e = cc

pub number_at : (b : Bool) (o : Option ℕ) (i n : ℕ) → (if b then Some 0 else option_map suc o) ≡ Some i → ((j : ℕ) → o ≡ Some j → j < n) → i < suc n
number_at true o i n e ih = let same : 0 ≡ i = cc in omega (arith, same)
number_at false (Some j) i n e ih = let same : suc j ≡ i = cc in omega (arith, same, ih j refl)
number_at false None i n e ih = absurd cc

pub number_after : (n : ℕ) (o : Option ℕ) → option_map (λ m. n + m) (option_map suc o) ≡ option_map (λ m. (n + 1) + m) o
number_after n None = refl
number_after n (Some m) = ap Some (omega arith)

pub none_some : {X : Type 0} {x : X} → None ≡ Some x → ⊥
none_some h = absurd (cc)

pub some_turned : {X : Type 0} {x y : X} → Some x ≡ Some y → y ≡ x
some_turned h = cc

pub one_item : {X : Type 0} {o : Option X} {x y : X} → o ≡ Some x → o ≡ Some y → x ≡ y
one_item {x = x} {y} e f = let g : Some x ≡ Some y = sym e ∙ f in cc

-- what is looked up is there, or nothing is
pub looked_at : {X : Type 0} (o : Option (Bor X)) (xs : List X) (i : ℕ) → is_some o ≡ nat_lt i (length xs) → IfSome o (λ x. x.now ≡ get_or xs i x.now) → option_copied o ≡ slice_get xs i
looked_at None xs i is there = sym (slice_get_past xs i (ltb-false i (length xs) (sym is)))
looked_at (Some x) xs i is there = sym (slice_get-get_or xs i x.now (ltb-true i (length xs) (sym is)) ∙ ap Some (sym there))

pub if_there : {X : Type 0} {P : X → Type 0} (o : Option X) → (x : X) × ((o ≡ Some x) × P x) → IfSome o P
if_there {P = P} (Some y) (x, (e, p)) = let same : x ≡ y = cc in subst P same p
if_there None found = tt
