-- Lists with the same front, and tokens that begin a list.
use Rattle.std.proofs.Common.{Bool, List, [], ◌∷◌, ◌++◌}
use Rattle.grammar.specs.Rules.{Alphabet, Starts}
use Rattle.grammar.specs.Greedy.{IsNot, Front, here, step, SameFirst, token, end}

pub front_then : {T : Type 0} {r s us vs ts all : List T} → Front us vs ts all → Front r s us vs → Front r s ts all
front_then here f = f
front_then (step g) f = step (front_then g f)

-- what has the same front has the same first token, if that holds of what is left
pub front_first : {T : Type 0} {us vs ts all : List T} → Front us vs ts all → SameFirst us vs → SameFirst ts all
front_first here s = s
front_first (step f) s = token

pub front_append : {T : Type 0} {r s us vs : List T} (ts : List T) → Front r s us vs → Front r s (ts ++ us) (ts ++ vs)
front_append [] f = f
front_append (k ∷ ts) f = step (front_append ts f)

pub front_after : {T : Type 0} {r s ts all : List T} (us : List T) → Front r s ts all → Front r (s ++ us) ts (all ++ us)
front_after us here = here
front_after us (step f) = step (front_after us f)

pub same_self : {T : Type 0} (r : List T) → SameFirst r r
same_self [] = end
same_self (k ∷ r) = token

-- what begins a list begins each list with the same first token
pub start_same : {A : Alphabet} {b : Bool} {r : A.Kind} {c : A.Test b r} {ts us vs : List A.Token} {v : A.Value r} →
    SameFirst ts us → Starts A c us v vs → (ws : List A.Token) × Starts A c ts v ws
start_same (token {ts = ts}) p = (ts, record { token = p.token; is = cc; passes = p.passes })
start_same end p = absurd (cc (p.is))

pub isnot_same : {A : Alphabet} {b : Bool} {r : A.Kind} {c : A.Test b r} {ts us : List A.Token} → SameFirst ts us → IsNot A c ts → IsNot A c us
isnot_same s n = record { none = λ v vs p. let q = start_same s p in n.none v q.0 q.1 }
