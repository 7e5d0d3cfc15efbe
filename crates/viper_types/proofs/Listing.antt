-- What is listed so far, as the code sees it.
use Rattle.std.proofs.Common.{◌≡◌, ◌∙◌, refl, ap, ℕ, ◌==◌, ◌||◌, Bool, true, false, cond, not, if◌then◌else◌, List, [], ◌∷◌, ◌++◌}
use Rattle.std.specs.Bool.{OnTrue}
use Rattle.std.specs.List.{list_any}
use Rattle.indexmap.specs.IndexSet.{insert_key}
use Rattle.viper_types.specs.Stepping.{AssignedVariable, is_target, is_listed, numbers_in}

either : (b c : Bool) → (b || c) ≡ cond b true c
either true c = refl
either false c = refl

-- a number is listed where some element is equal to it
pub any-is_listed : (n : ℕ) (ms : List ℕ) → list_any (λ m. n == m) ms ≡ is_listed n ms
any-is_listed n [] = refl
any-is_listed n (m ∷ ms) = either (n == m) (list_any (λ k. n == k) ms) ∙ ap (cond (n == m) true) (any-is_listed n ms)

-- a number that is new goes last
pub pushed : (n : ℕ) (ms ks : List ℕ) (added : Bool) → added ≡ not (list_any (λ m. n == m) ms) → ks ≡ insert_key ◌==◌ ms n → OnTrue added (ks ≡ ms ++ n ∷ [])
pushed n ms ks added is e = by (list_any (λ m. n == m) ms) is e
  where
    by : (b : Bool) → added ≡ not b → ks ≡ (if b then ms else ms ++ n ∷ []) → OnTrue added (ks ≡ ms ++ n ∷ [])
    by true h k = rw h tt
    by false h k = rw h k

pub is_listed-numbers : (n : ℕ) (vs : List AssignedVariable) → is_listed n (numbers_in vs) ≡ is_target n vs
is_listed-numbers n [] = refl
is_listed-numbers n (v ∷ vs) = ap (cond (n == v.number) true) (is_listed-numbers n vs)

pub numbers_in-push : (vs : List AssignedVariable) (v : AssignedVariable) → numbers_in (vs ++ v ∷ []) ≡ numbers_in vs ++ v.number ∷ []
numbers_in-push [] v = refl
numbers_in-push (w ∷ ws) v = ap (λ ns. w.number ∷ ns) (numbers_in-push ws v)
