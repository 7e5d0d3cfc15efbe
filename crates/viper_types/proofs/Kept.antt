-- A value that is kept while something else is done.
use Rattle.std.proofs.Common.{◌≡◌, ap, Result, Ok, Err}
use Rattle.std.specs.Result.{result_map_both}

ok_same : {X E : Type 0} {x y : X} → ◌≡◌ {A = Result X E} (Ok x) (Ok y) → x ≡ y
ok_same is = cc

-- the value that comes back is the one that was given
pub kept_value : {D E T : Type 0} (done : Result D E) {value kept : T} {d : D} → ◌≡◌ {A = Result (D × T) E} (Ok (d, kept)) (result_map_both (λ x. (x, value)) (λ e. e) done) → kept ≡ value
kept_value (Ok d) is = ap (λ p. p.1) (ok_same is)
kept_value (Err e) is = absurd (cc)
