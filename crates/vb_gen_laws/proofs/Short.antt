-- The text of each generated program is short.
use Rattle.std.proofs.Common.{◌≡◌, refl, ℕ, zero, suc, ◌+◌, ◌-◌, ◌*◌, ◌%◌, ◌≤◌, Bool, true, false, arith, List, ◌++◌, length}
use Rattle.std.specs.Prelude.{codes, ◌==◌}
use Rattle.std.specs.Fmt.{decimal}
use Rattle.std.proofs.lemmas.Fmt.{length-decimal-le}
use Rattle.std.proofs.lemmas.List.{length-append}
use Rattle.vb_base.specs.Limits.{max_made_methods, max_viper_bytes}
use Rattle.vb_gen.specs.Generated.{method_text, methods_text, program_text}

number_short : (i : ℕ) → i ≤ max_made_methods → length (decimal i) ≤ 4
number_short i le = length-decimal-le 4 i (omega arith) (omega arith) (omega arith)

length_odd : (a d b c e k g h l m z : List ℕ) →
    length ((a ++ d ++ b) ++ (c ++ e ++ k ++ g) ++ (h ++ (l ++ m) ++ z)) ≡ length a + length b + length c + length e + length g + length h + length l + length z + (length d + length k + length m)
length_odd a d b c e k g h l m z = simp length-append (omega arith)

length_even : (a d b c e k g h l m y z : List ℕ) →
    length ((a ++ d ++ b) ++ (c ++ e ++ k ++ g) ++ (h ++ (l ++ m ++ y) ++ z)) ≡ length a + length b + length c + length e + length g + length h + length l + length y + length z + (length d + length k + length m)
length_even a d b c e k g h l m y z = simp length-append (omega arith)

method_short : (i : ℕ) (odd : Bool) → (i % 2 == 1) ≡ odd → i ≤ max_made_methods → length (method_text i) ≤ 200
method_short i true e le =
    rw e
    (omega (
      arith,
      number_short i le,
      length_odd (codes "method m") (decimal i) (codes "(x: Ref) returns (r: Int)\n") (codes "  requires acc(x.f, 1/2)\n")
          (codes "  ensures acc(x.f, 1/2) && r == x.f + ") (decimal i) (codes "\n") (codes "{\n  r := ") (codes "x.f + ") (decimal i) (codes "\n}\n"),
    ))
method_short i false e le =
    rw e
    (omega (
      arith,
      number_short i le,
      number_short (i - 1) (omega arith),
      length_even (codes "method m") (decimal i) (codes "(x: Ref) returns (r: Int)\n") (codes "  requires acc(x.f, 1/2)\n")
          (codes "  ensures acc(x.f, 1/2) && r == x.f + ") (decimal (i - 1)) (codes "\n") (codes "{\n  r := ") (codes "m") (decimal (i - 1)) (codes "(x)") (codes "\n}\n"),
    ))

methods_short : (n : ℕ) → n ≤ max_made_methods → length (methods_text n) ≤ 200 * n
methods_short zero le = omega arith
methods_short (suc n) le =
    omega (arith, methods_short n (omega arith), method_short (suc n) (suc n % 2 == 1) refl le, length-append (methods_text n) (method_text (suc n)))

pub program_short : (n : ℕ) → n ≤ max_made_methods → length (program_text n) ≤ max_viper_bytes
program_short n le = omega (arith, methods_short n le)
