-- What a budget does to an execution.
use Rattle.std.specs.Prelude.{ℕ, zero, suc, ◌+◌, Bool, true, false, if◌then◌else◌}
use Rattle.viper_meaning.specs.Run as m
use Rattle.viper_meaning.specs.Run.{Ran, ran}
use Rattle.viper_exec_meaning.specs.Execution.{Went, Still, Spent}

-- whether it ended because the budget was spent
abbrev pub is_spent : {X : Type 0} → Ran (Went X) → Bool
is_spent (ran events (m.Goes (Still n x)) left) = false
is_spent (ran events (m.Goes Spent) left) = true
is_spent (ran events (m.Fails l) left) = false
is_spent (ran events m.Blocked left) = false
is_spent (ran events m.Short left) = false
is_spent (ran events (m.Over at) left) = false

-- the same end, with so many more turns and bodies that may still begin
abbrev pub with_more_still : {X : Type 0} → ℕ → Ran (Went X) → Ran (Went X)
with_more_still more (ran events (m.Goes (Still n x)) left) = ran events (m.Goes (Still (n + more) x)) left
with_more_still more (ran events (m.Goes Spent) left) = ran events (m.Goes Spent) left
with_more_still more (ran events (m.Fails l) left) = ran events (m.Fails l) left
with_more_still more (ran events m.Blocked left) = ran events m.Blocked left
with_more_still more (ran events m.Short left) = ran events m.Short left
with_more_still more (ran events (m.Over at) left) = ran events (m.Over at) left

-- How many turns and bodies began, of how an execution ends with each budget and the budget that it has: the least budget that is
-- not spent. Where the budget is spent it is the whole of it.
abbrev pub begun : {X : Type 0} → (ℕ → Ran (Went X)) → ℕ → ℕ
begun ends zero = zero
begun ends (suc n) = if is_spent (ends zero) then suc (begun (λ more. ends (suc more)) n) else zero
