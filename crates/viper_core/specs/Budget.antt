-- A budget that is spent on costs.
use Rattle.std.specs.Prelude.{◌≡◌, ◌<◌, ◌+◌, ℕ, Option, MatchOption}

-- what is left, or nothing exactly where the cost is more than the budget
abbrev pub Leaves : Option ℕ → ℕ → ℕ → Type 0
Leaves result budget cost = MatchOption result (budget < cost) (λ left. left + cost ≡ budget)
