-- A cost that is said in another way.
use Rattle.std.proofs.Common.{◌≡◌, ℕ, Option, subst, sym}
use Rattle.viper_core.specs.Budget.{Leaves}

pub leaves_at : (result : Option ℕ) (budget cost same : ℕ) → cost ≡ same → Leaves result budget same → Leaves result budget cost
leaves_at result budget cost same is left = subst (λ n. Leaves result budget n) (sym is) left
