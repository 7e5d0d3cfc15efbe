-- The generated programs.
use Rattle.std.specs.Prelude.{◌≡◌, ◌++◌, ◌-◌, ◌%◌, ◌<◌, ◌⊎◌, ℕ, zero, suc, List, [], codes, if◌then◌else◌, ◌==◌}
use Rattle.std.specs.Fmt.{decimal}
use Rattle.vb_base.specs.Limits.{max_made_methods}

-- the number itself where it is odd, and else the one before it
abbrev pub odd_of : ℕ → ℕ
odd_of i = if i % 2 == 1 then i else i - 1

abbrev pub head_text : ℕ → List ℕ
head_text i = codes "method m" ++ decimal i ++ codes "(x: Ref) returns (r: Int)\n"

-- half the permission is asked for and given back, and the result is the field and k
abbrev pub conditions_text : ℕ → List ℕ
conditions_text k = codes "  requires acc(x.f, 1/2)\n" ++ codes "  ensures acc(x.f, 1/2) && r == x.f + " ++ decimal k ++ codes "\n"

-- what method i returns: an odd one the field and its number, and an even one what the one before it returns
abbrev pub returned_text : ℕ → List ℕ
returned_text i = if i % 2 == 1 then codes "x.f + " ++ decimal i else codes "m" ++ decimal (i - 1) ++ codes "(x)"

abbrev pub body_text : ℕ → List ℕ
body_text i = codes "{\n  r := " ++ returned_text i ++ codes "\n}\n"

abbrev pub method_text : ℕ → List ℕ
method_text i = head_text i ++ conditions_text (odd_of i) ++ body_text i

-- the methods from 1 to n
abbrev pub methods_text : ℕ → List ℕ
methods_text zero = []
methods_text (suc i) = methods_text i ++ method_text (suc i)

abbrev pub program_text : ℕ → List ℕ
program_text n = codes "field f: Int\n" ++ methods_text n

abbrev pub IsOutOfRange : ℕ → Type 0
IsOutOfRange n = (n ≡ 0) ⊎ (max_made_methods < n)
