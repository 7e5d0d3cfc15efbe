-- What is written, where code goes through lists of the trees.
use Rattle.std.proofs.Common.{◌≡◌, ◌∙◌, ◌+◌, ◌-◌, ◌<◌, ◌≤◌, ◌++◌, refl, sym, ap, arith, ℕ, zero, suc, List, [], ◌∷◌, length, get_or, filter, append-nil}
use Rattle.std.proofs.lemmas.List.{length-map}
use Rattle.std.proofs.lemmas.List.Elements.{filter-append}
use Rattle.boogie_tree.specs.declared.programs.Local.{Local}
use Rattle.boogie_tree.specs.Program as p
use Rattle.boogie_tree.specs.Whole.{local_of, locals_of}
use Rattle.boogie_grammar.specs.Grammar.{local_names}
use Rattle.boogie_grammar.specs.Naming.{temporary_name, temporary_names}
use Rattle.boogie_grammar.specs.Printed.{Naming, name_at, is_q, naming}

-- ---- the names of locals, and of temporaries behind them

pub name_there : (ls : List Local) (more : List (List ℕ)) (i : ℕ) (l : Local) → i < length ls → l ≡ get_or ls i l → name_at (local_names (locals_of ls) ++ more) i ≡ l.name
name_there [] more i l lt e = absurd (omega (arith, lt))
name_there (x ∷ xs) more zero l lt e = ap (λ (y : Local). y.name) (sym e)
name_there (x ∷ xs) more (suc i) l lt e = name_there xs more i l (omega (arith, lt)) e

behind : (names : List (List ℕ)) (n k i j : ℕ) → i ≡ length names + j → j < k → name_at (names ++ temporary_names n k) i ≡ temporary_name (n + j)
behind (x ∷ names) n k zero j e lt = absurd (omega (arith, e))
behind (x ∷ names) n k (suc i) j e lt = behind names n k i j (omega (arith, e)) lt
behind [] n zero i j e lt = absurd (omega (arith, lt))
behind [] n (suc k) zero j e lt = ap temporary_name (omega (arith, e))
behind [] n (suc k) (suc i) j e lt = behind [] (n + 1) k i i (omega arith) (omega (arith, e, lt)) ∙ ap temporary_name (omega (arith, e))

past : (names : List (List ℕ)) (n k i : ℕ) → length names + k ≤ i → name_at (names ++ temporary_names n k) i ≡ []
past (x ∷ names) n k zero le = absurd (omega (arith, le))
past (x ∷ names) n k (suc i) le = past names n k i (omega (arith, le))
past [] n zero i le = refl
past [] n (suc k) zero le = absurd (omega (arith, le))
past [] n (suc k) (suc i) le = past [] (n + 1) k i (omega (arith, le))

as_many : (ls : List Local) → length (local_names (locals_of ls)) ≡ length ls
as_many ls = length-map (locals_of ls) (λ (l : p.Local). l.name) ∙ length-map ls local_of

pub name_behind : (ls : List Local) (k i : ℕ) → length ls ≤ i → i - length ls < k → name_at (local_names (locals_of ls) ++ temporary_names (length ls) k) i ≡ temporary_name i
name_behind ls k i le lt =
    behind (local_names (locals_of ls)) (length ls) k i (i - length ls) (let many = as_many ls in omega (arith, le, many)) lt ∙ ap temporary_name (omega (arith, le))

pub name_past : (ls : List Local) (k i : ℕ) → length ls ≤ i → k ≤ i - length ls → name_at (local_names (locals_of ls) ++ temporary_names (length ls) k) i ≡ []
name_past ls k i le ge = past (local_names (locals_of ls)) (length ls) k i (let many = as_many ls in omega (arith, le, ge, many))

-- ---- none of the temporaries has a name of a bound variable

pub none_taken : (n k : ℕ) → filter is_q (temporary_names n k) ≡ []
none_taken n zero = refl
none_taken n (suc k) = none_taken (n + 1) k

pub same_taken : (names : List (List ℕ)) (n k : ℕ) → filter is_q (names ++ temporary_names n k) ≡ filter is_q names
same_taken names n k =
    filter-append is_q names (temporary_names n k) ∙ ap (λ (rest : List (List ℕ)). filter is_q names ++ rest) (none_taken n k) ∙ append-nil (filter is_q names)

abbrev names_behind : List (List ℕ) → ℕ → ℕ → List (List ℕ) → Naming
names_behind names n k taken = record { locals = names ++ temporary_names n k; taken = taken; bound = [] }

pub naming_behind : (names : List (List ℕ)) (n k : ℕ) (taken : List (List ℕ)) → taken ≡ filter is_q names → names_behind names n k taken ≡ naming (names ++ temporary_names n k)
naming_behind names n k taken is = ap (names_behind names n k) (is ∙ sym (same_taken names n k))

pub naming_alone : (names : List (List ℕ)) (n : ℕ) → naming (names ++ temporary_names n 0) ≡ naming names
naming_alone names n = ap naming (append-nil names)
