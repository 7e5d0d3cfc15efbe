-- Parts of the typing that the code has in functions of their own.
use denote.Ref.{Bor}
use Rattle.std.specs.Prelude.{Bool as Truth, false, ◌&&◌, List, map, Option, Some, None}
use Rattle.boogie_tree.specs.Program as p
use Rattle.boogie_tree.specs.Whole.{type_of}
use Rattle.boogie_tree.specs.declared.exprs.BBase.{BBase}
use Rattle.boogie_tree.specs.declared.exprs.BBase.TheVariants as base
use Rattle.boogie_tree.specs.declared.exprs.BOp.{BOp}
use Rattle.boogie_tree.specs.declared.programs.Local.{Local}
use Rattle.boogie_tree.specs.Values.{same_base, same_bases, is_key, plain_type}
use Rattle.boogie_meaning.specs.Types.{then_some, given, answer_of, indexed}

-- the types of the variables
abbrev pub types_in : List Local → List p.BType
types_in ls = map (λ l. type_of l.ty) ls

-- the types of the bound names, under a `forall`
abbrev pub bound_by : Option (Bor (List BBase)) → Option (List BBase)
bound_by (Some us) = Some us.now
bound_by None = None

abbrev pub answer_at : BOp → Option BBase → Option BBase → Option BBase
answer_at o a b = then_some a (λ u. then_some b (λ w. then_some (given u u w) (answer_of o)))

abbrev pub choice_at : Option BBase → Option BBase → Option BBase → Option BBase
choice_at c a b = then_some c (λ w. then_some (given base.Bool base.Bool w) (λ p. then_some a (λ u. then_some b (given u u))))

abbrev pub pair_at : Option BBase → Option BBase → Option BBase
pair_at a b = then_some a (λ u. then_some (given base.Snap base.Snap u) (λ p. then_some b (given base.Snap base.Snap)))

-- the indices have these types
abbrev pub are_bases : Option (List BBase) → List BBase → Truth
are_bases (Some us) ks = same_bases us ks
are_bases None ks = false

-- the type of a map's values at indices of these types
abbrev pub indexed_by : Option p.BType → Option (List BBase) → Option BBase
indexed_by l us = then_some us (λ us. then_some l (λ l. indexed l.keys l.base us))

-- an index has this type, which is a key type
abbrev pub is_index : Option BBase → BBase → Truth
is_index (Some u) k = same_base u k && is_key u
is_index None k = false

abbrev pub some_plain : Option BBase → Option p.BType
some_plain o = then_some o (λ u. Some (plain_type u))
