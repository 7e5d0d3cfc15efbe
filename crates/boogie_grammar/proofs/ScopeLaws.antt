-- The number of a name, as a table has it.
use Rattle.std.proofs.Common.{◌≡◌, ◌∙◌, refl, ap, ℕ, suc, Bool, true, false, ◌||◌, cond, List, [], ◌∷◌, Option, Some, None}
use Rattle.std.specs.List.{position}
use Rattle.std.specs.Option.{is_some, option_map}
use Rattle.std.specs.Str.{bytes_eq}
use Rattle.boogie_grammar.specs.Words.{is_among}
use Rattle.boogie_grammar.specs.Tests.{number_of}
use Rattle.boogie_grammar.proofs.FirstPassing as first
use Rattle.boogie_grammar.proofs.FirstPassing.{first_passing}

number_is : (x : List ℕ) (names : List (List ℕ)) → first_passing (bytes_eq x) names ≡ number_of x names
number_is x [] = refl
number_is x (y ∷ ys) = ap (λ o. cond (bytes_eq x y) (Some 0) (option_map suc o)) (number_is x ys)

pub position_is : (x : List ℕ) (names : List (List ℕ)) → position (bytes_eq x) names ≡ number_of x names
position_is x names = first.position_is (bytes_eq x) names ∙ number_is x names

-- a name is among these where it has a number

among_at : (b c : Bool) (o : Option ℕ) → c ≡ is_some o → (b || c) ≡ is_some (cond b (Some 0) (option_map suc o))
among_at true c o h = refl
among_at false c (Some n) h = h
among_at false c None h = h

pub among_is : (x : List ℕ) (names : List (List ℕ)) → is_among x names ≡ is_some (number_of x names)
among_is x [] = refl
among_is x (y ∷ ys) = among_at (bytes_eq x y) (is_among x ys) (number_of x ys) (among_is x ys)
