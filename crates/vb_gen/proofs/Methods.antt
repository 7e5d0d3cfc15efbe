-- The methods one after another.
use Rattle.std.proofs.Common.{◌≡◌, ◌+◌, ◌++◌, ℕ, suc, refl, arith}
use Rattle.vb_gen.specs.Generated.{method_text, methods_text}

pub methods-next : (n : ℕ) → methods_text (n + 1) ≡ methods_text n ++ method_text (n + 1)
methods-next n =
    let e : n + 1 ≡ suc n = omega arith in
    rw e refl
