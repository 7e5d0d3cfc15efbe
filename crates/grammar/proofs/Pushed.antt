-- A list with one more item, as another list sees it.
use Rattle.std.proofs.Common.{◌≡◌, ap, ◌∙◌, List, [], ◌∷◌, ◌++◌, map}
use Rattle.std.proofs.lemmas.List.{map-append}

pub pushed_first : {A B : Type 0} (f : A → B) {all new : List A} {x : A} {y : B} → all ≡ [] → new ≡ all ++ (x ∷ []) → f x ≡ y → map f new ≡ y ∷ []
pushed_first f {x = x} none is same = ap (map f) (is ∙ ap (λ l. l ++ (x ∷ [])) none) ∙ ap (λ z. z ∷ []) same

pub pushed_more : {A B : Type 0} (f : A → B) (all : List A) {new : List A} {x : A} {y : B} → new ≡ all ++ (x ∷ []) → f x ≡ y → map f new ≡ map f all ++ (y ∷ [])
pushed_more f all {x = x} is same = ap (map f) is ∙ map-append f all (x ∷ []) ∙ ap (λ z. map f all ++ (z ∷ [])) same
