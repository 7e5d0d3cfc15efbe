-- The value of an expression (Leino, This is Boogie 2, section 4). A quantifier has its end by what is true of every list of
-- keys of its type; how the end is found is of no matter.
use Rattle.std.specs.Prelude.{Bool as Truth, List, slice_get}
use Rattle.std.proofs.Common.{ap}
use Rattle.vb_value.specs.Bound.{Bound}
use Rattle.boogie_tree.specs.Expr as t
use Rattle.boogie_tree.specs.Value.{Key, BScalar, BValue, One}
use Rattle.boogie_tree.specs.declared.exprs.BBase.{BBase}
use Rattle.boogie_meaning.specs.Ends.{End, Is, Wrong, then_with, found}
use Rattle.boogie_tree.specs.Values.{FitsKey}
use Rattle.boogie_meaning.specs.Operators.{as_truth, as_bool}
use Rattle.boogie_meaning.specs.Value.{QuantifierScope, value, values, body_at}
use Rattle.boogie_meaning.specs.Forall.{IsForall}
use Rattle.boogie_meaning.specs.Decided.{searched, decided}
use Rattle.boogie_meaning.specs.Marked.{marked, elsewhere, value_off}

-- the end of `forall` over names of these types with this body
pub quantified : (b : Bound) (us : List BBase) (a : t.BExpr) (env : List BValue) → (e : End Truth) × IsForall (FitsKey us) (body_at b a env) e
quantified b us a env =
    let rest = as_truth (value b elsewhere a env) in
    (searched us (body_at b a env) (marked a env) rest, decided us (body_at b a env) (marked a env) rest (λ k f h. ap as_truth (value_off b a env k h)))

-- under no `forall`
abbrev pub outside : Bound → List BValue → QuantifierScope
outside b env = record { bound = λ m. Wrong; all = λ us a. as_bool (quantified b us a env).0 }

-- the value of an expression in an environment, with the bound or without
abbrev pub bvalue : Bound → t.BExpr → List BValue → End BScalar
bvalue b e env = value b (outside b env) e env

-- the key that indices make
abbrev pub bkey : Bound → t.BExprs → List BValue → End Key
bkey b es env = values b (outside b env) es env

abbrev pub one_of : End BScalar → End BValue
one_of e = then_with e (λ v. Is (One v))

-- the value of the right side of an assignment, which may be a whole map
abbrev pub side : Bound → t.BExpr → List BValue → End BValue
side b (t.Var i) env = found (slice_get env i)
side b e env = one_of (bvalue b e env)
