-- What is known of names while a clause is refuted.
use Rattle.std.specs.Prelude.{◌≡◌, ◌⊎◌, ℕ, Bool as Truth, All, Some, List}
use Rattle.std.specs.BTreeMap.{BTreeMap, get}
use Rattle.std.specs.Ordering.{nat_cmp}
use Rattle.std.specs.declared.alloc.Global.{Global}
use Rattle.std.specs.declared.vec.Vec.{Vec}
use Rattle.boogie_tree.specs.Program.{BType}
use Rattle.boogie_tree.specs.Value.{BValue}
use Rattle.boogie_tree.specs.Values.{IsEnvironment}
use Rattle.cert_terms.specs.Literals.{turned}
use Rattle.cert_terms.specs.Terms.{IsTrueIn, HoldsIn}
use Rattle.cert_terms.specs.declared.terms.ClauseLiteral.{ClauseLiteral}

-- it is noted of the literal that it is false: of each name the sign is kept with which it is false
abbrev pub IsNoted : BTreeMap ℕ Truth → ClauseLiteral → Type 0
IsNoted known l = get nat_cmp known l.name ≡ Some l.negated

-- each literal of which this is noted is false at these values
abbrev pub AreFalse : BTreeMap ℕ Truth → List BValue → Type 0
AreFalse known values = (l : ClauseLiteral) → IsNoted known l → IsTrueIn values (turned l)

-- at all values of these types the clause holds, or else P is true
abbrev pub HoldsUnless : List BType → List ClauseLiteral → (List BValue → Type 0) → Type 0
HoldsUnless types clause P = (values : List BValue) → IsEnvironment types values → HoldsIn values clause ⊎ P values

-- the same at the values at which all these clauses hold
abbrev pub FollowsUnless : List BType → List (Vec ClauseLiteral Global) → List ClauseLiteral → (List BValue → Type 0) → Type 0
FollowsUnless types clauses clause P =
    (values : List BValue) → IsEnvironment types values → All (λ (c : Vec ClauseLiteral Global). HoldsIn values c.items) clauses → HoldsIn values clause ⊎ P values

-- at all values of these types at which all these clauses hold the clause does
abbrev pub FollowsFrom : List BType → List (Vec ClauseLiteral Global) → List ClauseLiteral → Type 0
FollowsFrom types clauses clause =
    (values : List BValue) → IsEnvironment types values → All (λ (c : Vec ClauseLiteral Global). HoldsIn values c.items) clauses → HoldsIn values clause
