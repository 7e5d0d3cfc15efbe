-- Environments: how many values they have, and the first values of a longer one.
use Rattle.std.proofs.Common.{◌≡◌, List, [], ◌∷◌, ◌++◌, length, take, suc, refl, ap}
use Rattle.boogie_tree.specs.Program.{BType}
use Rattle.boogie_tree.specs.Value.{BValue}
use Rattle.boogie_tree.specs.Values.{IsEnvironment}

pub length_env : (ls : List BType) (vs : List BValue) → IsEnvironment ls vs → length vs ≡ length ls
length_env [] [] h = refl
length_env [] (v ∷ vs) h = absurd h
length_env (l ∷ ls) [] h = absurd h
length_env (l ∷ ls) (v ∷ vs) h = ap suc (length_env ls vs h.1)

pub env_front : (ls us : List BType) (vs : List BValue) → IsEnvironment (ls ++ us) vs → IsEnvironment ls (take (length ls) vs)
env_front [] us vs h = tt
env_front (l ∷ ls) us [] h = absurd h
env_front (l ∷ ls) us (v ∷ vs) h = (h.0, env_front ls us vs h.1)
