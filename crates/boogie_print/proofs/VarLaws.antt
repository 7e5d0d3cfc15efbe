-- The names of the locals of a program that can be printed, as the grammar asks for them.
use Rattle.std.proofs.Common.{◌≡◌, ◌∙◌, refl, sym, ap, subst, arith, ℕ, zero, suc, ◌<◌, Bool, true, false, List, [], ◌∷◌, ◌++◌, Some, length}
use Rattle.std.specs.Prelude.{All, slice_index_or}
use Rattle.std.specs.Option.{option_map}
use Rattle.std.specs.Str.{bytes_eq}
use Rattle.std.proofs.lemmas.Slice.Eq.{bytes_eq-Decides}
use Rattle.std.proofs.lemmas.Bool.{or_from, cond-true, cond-false}
use Rattle.lemmas.proofs.Bytes.{same_itself as equal}
use Rattle.vb_base.specs.Names.{is_name, NamesDiffer}
use Rattle.boogie_grammar.specs.Words.{is_among, is_reserved}
use Rattle.boogie_grammar.specs.Tests.{number_of, some_free}
use Rattle.boogie_grammar.specs.Printed.{name_at}
use Rattle.boogie_grammar.proofs.NameLaws.{there, free_among}
use Rattle.boogie_print.specs.Printable.{IsFreeName}

-- a local that can be named
pub record IsVar (names : List (List ℕ)) (i : ℕ) : Type 0 where
  pub form : is_name (name_at names i) ≡ true
  pub free : is_reserved (name_at names i) ≡ false
  pub there : number_of (name_at names i) names ≡ Some i

unequal_at : (b : Bool) (x y : List ℕ) → bytes_eq x y ≡ b → (x ≡ y → ⊥) → b ≡ false
unequal_at true x y e n = absurd (n ((bytes_eq-Decides x y).0 e))
unequal_at false x y e n = refl

pub unequal : (x y : List ℕ) → (x ≡ y → ⊥) → bytes_eq x y ≡ false
unequal x y n = unequal_at (bytes_eq x y) x y refl n

pub head_of : {X : Type 0} (P : X → Type 0) (x : X) (xs : List X) → All P (x ∷ xs) → P x
head_of P x xs h = h 0 x (omega arith)

pub tail_of : {X : Type 0} (P : X → Type 0) (x : X) (xs : List X) → All P (x ∷ xs) → All P xs
tail_of P x xs h k d lt = h (suc k) d (omega (arith, lt))

pub later_pairs : (x : List ℕ) (xs : List (List ℕ)) → NamesDiffer (x ∷ xs) → NamesDiffer xs
later_pairs x xs h i j d lt le = h (suc i) (suc j) d (omega (arith, lt)) (omega (arith, le))

name_is : (xs : List (List ℕ)) (i : ℕ) (d : List ℕ) → i < length xs → slice_index_or xs i d ≡ name_at xs i
name_is [] i d lt = absurd (omega (arith, lt))
name_is (x ∷ xs) zero d lt = refl
name_is (x ∷ xs) (suc i) d lt = name_is xs i d (omega (arith, lt))

first_differs : (x : List ℕ) (xs : List (List ℕ)) (j : ℕ) → NamesDiffer (x ∷ xs) → j < length xs → name_at xs j ≡ x → ⊥
first_differs x xs j h lt e = h 0 (suc j) x (omega arith) (omega (arith, lt)) (sym e ∙ sym (name_is xs j x lt))

numbered : (names : List (List ℕ)) (i : ℕ) → NamesDiffer names → i < length names → number_of (name_at names i) names ≡ Some i
numbered [] i h lt = absurd (omega (arith, lt))
numbered (x ∷ xs) zero h lt = cond-true (bytes_eq x x) (Some 0) (option_map suc (number_of x xs)) (equal x)
numbered (x ∷ xs) (suc i) h lt =
    let more : i < length xs = omega (arith, lt) in
    cond-false (bytes_eq (name_at xs i) x) (Some 0) (option_map suc (number_of (name_at xs i) xs)) (unequal (name_at xs i) x (first_differs x xs i h more)) ∙
    ap (option_map suc) (numbered xs i (later_pairs x xs h) more)

pub var_at : (names : List (List ℕ)) → All IsFreeName names → NamesDiffer names → (i : ℕ) → i < length names → IsVar names i
var_at names free differ i lt =
    let f : IsFreeName (name_at names i) = subst IsFreeName (name_is names i [] lt) (free i [] lt) in
    record { form = f.form; free = f.free; there = numbered names i differ lt }

-- where some local can be named, one is free

pub some_is_free : {names : List (List ℕ)} {i : ℕ} → IsVar names i → some_free names ≡ true
some_is_free {names = names} {i = i} h = free_among (name_at names i) names h.free (there (name_at names i) names i h.there)

-- a name that differs from those before it

last_is : (xs : List (List ℕ)) (y : List ℕ) (ys : List (List ℕ)) → name_at (xs ++ (y ∷ ys)) (length xs) ≡ y
last_is [] y ys = refl
last_is (x ∷ xs) y ys = last_is xs y ys

last_within : (xs : List (List ℕ)) (y : List ℕ) (ys : List (List ℕ)) → length xs < length (xs ++ (y ∷ ys))
last_within [] y ys = omega arith
last_within (x ∷ xs) y ys = let h = last_within xs y ys in omega (arith, h)

pub new_after : (xs : List (List ℕ)) (y : List ℕ) (ys : List (List ℕ)) → NamesDiffer (xs ++ (y ∷ ys)) → is_among y xs ≡ false
new_after [] y ys h = refl
new_after (x ∷ xs) y ys h =
    or_from _ _ (unequal y x (λ e. first_differs x (xs ++ (y ∷ ys)) (length xs) h (last_within xs y ys) (last_is xs y ys ∙ e))) (new_after xs y ys (later_pairs x (xs ++ (y ∷ ys)) h))
