-- What a part of a file is typed as, or the first rule that it breaks. Each way to continue is one of these functions, over parts
-- of any kind: what stands first is tried first, and a broken rule is told at once.
use Rattle.std.specs.Prelude.{Bool, true, false, Option, Some, None, List, ◌∷◌, ◌++◌}
use Rattle.vb_base.specs.declared.places.Pos.{Pos}
use Rattle.viper_scope.specs.declared.rules.Rule.{Rule}

-- what the part is, or a broken rule with its place
pub data Judged (X : Type 0) : Type 0 where
  Found : X → Judged X
  Broken : Pos → Rule → Judged X

-- this part, then the next
abbrev pub then_typed : {X Y : Type 0} → Judged X → (X → Judged Y) → Judged Y
then_typed (Found x) go = go x
then_typed (Broken p r) go = Broken p r

-- what a table has, or rule r at p
abbrev pub known : {X Y : Type 0} → Option X → Pos → Rule → (X → Judged Y) → Judged Y
known (Some x) p r go = go x
known None p r go = Broken p r

-- a test, or rule r at p
abbrev pub obeys : {Y : Type 0} → Bool → Pos → Rule → Judged Y → Judged Y
obeys true p r go = go
obeys false p r go = Broken p r

-- nothing at fault, or rule r at the place of the fault
abbrev pub clear_of : {Y : Type 0} → Option Pos → Rule → Judged Y → Judged Y
clear_of None r go = go
clear_of (Some p) r go = Broken p r

-- this part and a list of further parts
abbrev pub then_more : {X : Type 0} → Judged X → Judged (List X) → Judged (List X)
then_more j js = then_typed j (λ x. then_typed js (λ xs. Found (x ∷ xs)))

-- what was found before, and this list
abbrev pub prefixed : {X : Type 0} → List X → Judged (List X) → Judged (List X)
prefixed so_far j = then_typed j (λ xs. Found (so_far ++ xs))
