-- The search of a quantifier in the order of the code.
use Rattle.std.specs.Prelude.{◌≡◌, ◌==◌, ◌/◌, ℕ, Bool as Truth, true, false, List, [], ◌∷◌, if◌then◌else◌}
use Rattle.sparse.specs.Map.{Map}
use Rattle.vb_value.specs.Bound.{Bounded}
use Rattle.boogie_tree.specs.Expr as t
use Rattle.boogie_tree.specs.Value.{Key, BValue}
use Rattle.boogie_tree.specs.declared.exprs.BBase.{BBase}
use Rattle.boogie_tree.specs.declared.exprs.BBase.TheVariants as base
use Rattle.boogie_meaning.specs.Decided.{worst, has_other}
use Rattle.boogie_meaning.specs.Ends.{End, Is}
use Rattle.boogie_meaning.specs.Marked.{elsewhere}
use Rattle.boogie_meaning.specs.Operators.{as_truth}
use Rattle.boogie_meaning.specs.Value.{value}
use Rattle.boogie_tree.specs.Values.{fits_key}

-- A map that is true at the keys of a set, and false elsewhere.
abbrev pub IsSet : Map Key Truth → Type 0
IsSet m = m.default ≡ false

abbrev pub is_bool : BBase → Truth
is_bool base.Bool = true
is_bool _ = false

-- The choices of the bools among these types are more than n. So where n keys or fewer are listed, some choice is in none of them.
abbrev pub outnumbers : List BBase → ℕ → Truth
outnumbers [] n = n == 0
outnumbers (base.Bool ∷ us) n = outnumbers us (n / 2)
outnumbers (_ ∷ us) n = outnumbers us n

-- the end at the keys that are not listed
abbrev pub end_elsewhere : List BBase → t.BExpr → List BValue → List Key → End Truth
end_elsewhere us a env ks = if has_other us ks then as_truth (value Bounded elsewhere a env) else Is true

-- with one more key
abbrev pub with_key : List BBase → (Key → End Truth) → Key → End Truth → End Truth
with_key us body k e = if fits_key us k then worst (body k) e else e

-- with the listed keys, one after the other
abbrev pub with_keys : List BBase → (Key → End Truth) → List Key → End Truth → End Truth
with_keys us body [] e = e
with_keys us body (k ∷ ks) e = with_keys us body ks (with_key us body k e)
