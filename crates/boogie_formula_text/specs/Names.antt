-- The names that the text of a formula gives to its variables and definitions.
use Rattle.std.specs.Prelude.{◌+◌, ◌++◌, ℕ, zero, suc, List, [], ◌∷◌, codes}
use Rattle.std.specs.Fmt.{decimal}

-- `v` and a number, from 1 on
abbrev pub variable_name : ℕ → List ℕ
variable_name k = codes "v" ++ decimal k

-- `d` and a number, from 1 on
abbrev pub definition_name : ℕ → List ℕ
definition_name k = codes "d" ++ decimal k

-- so many such names, the first of which has the number k
abbrev pub numbered : (ℕ → List ℕ) → ℕ → ℕ → List (List ℕ)
numbered name k zero = []
numbered name k (suc n) = name k ∷ numbered name (k + 1) n

-- the names of n variables, and behind them those of k definitions
abbrev pub names_in_scope : ℕ → ℕ → List (List ℕ)
names_in_scope n k = numbered variable_name 1 n ++ numbered definition_name 1 k
