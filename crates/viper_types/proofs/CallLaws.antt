-- The arguments of calls, as the code and as contracts see them.
use Rattle.std.proofs.Common.{◌≡◌, ◌∙◌, ap, List, map}
use Rattle.viper_syntax.specs.Term.{terms}
use Rattle.viper_syntax.specs.View.{term_of, terms_of}
use Rattle.viper_syntax.specs.declared.terms.Term.{Term}
use Rattle.viper_syntax.proofs.ViewLaws.{terms_of-map}
use Rattle.viper_scope.specs.Arguments.{as_many}
use Rattle.viper_scope.proofs.ArgumentLaws.{as_many-map}

pub as_many_map : {X Y Z : Type 0} (f : X → Z) (xs : List X) (ys : List Y) → as_many (map f xs) ys ≡ as_many xs ys
as_many_map = as_many-map

-- the items of a slice are the arguments of a call
pub call_terms : (ts us : List Term) → ts ≡ us → terms_of ts ≡ terms (map term_of us)
call_terms ts us is = ap terms_of is ∙ terms_of-map us
