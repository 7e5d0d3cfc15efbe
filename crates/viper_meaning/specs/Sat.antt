-- What it means that a state satisfies an assertion, said of one state and in no order (Parthasarathy, Dardinier, Bonneau,
-- Mueller, Summers, "Towards Trustworthy Automated Program Verifiers", PLDI 2024): every expression that counts has a value
-- there, every fact is true, and what is held of a place or an instance is the sum of what the accessibility predicates that
-- count denote for it. Numbers have no bound here.
use Rattle.std.specs.Prelude.{⊤, ◌≡◌, ℕ, Bool, true, false, ◌==◌, ◌&&◌, Some, is_some, List, [], ◌∷◌, ◌++◌, if◌then◌else◌}
use Rattle.std.specs.Ordering.{is_eq}
use Rattle.vb_base.specs.declared.places.Pos.{Pos}
use Rattle.vb_value.specs.Bound.{Unbounded}
use Rattle.vb_value.specs.Fraction.{Fraction, sum, none, is_negative, is_positive}
use Rattle.vb_value.specs.Key.{key_cmp}
use Rattle.viper_core.specs.Expr as t
use Rattle.viper_state.specs.State.{State, Memo}
use Rattle.viper_state.specs.Choice.{Choice}
use Rattle.viper_state.specs.Run.{Scene}
use Rattle.viper_meaning.specs.Ends.{Evaluated, Is, the_end}
use Rattle.viper_meaning.specs.Resource.{Resource, Place, Instance, held_at, is_null, is_too_much}
use Rattle.viper_meaning.specs.Assertions.{place_in, instance_in}
use Rattle.viper_meaning.specs.Run.{Ran, ran, Goes, Fails, Blocked, Short, Over}
use Rattle.viper_meaning.specs.Value.{truth_in, perm_in}

-- it has this value
abbrev pub Has : {X : Type 0} → X → Evaluated X → Type 0
Has x e = the_end e ≡ Is x

-- so much of a resource, which one accessibility predicate denotes
pub record Share : Type 0 where
  pub of : Resource
  pub amount : Fraction

abbrev pub is_same : Resource → Resource → Bool
is_same (Place f r) (Place g q) = f == g && r == q
is_same (Instance p k) (Instance o l) = p == o && is_eq (key_cmp k l)
is_same (Place f r) (Instance p k) = false
is_same (Instance p k) (Place f r) = false

-- an amount, and all shares of a resource in their order
abbrev pub total_from : Resource → Fraction → List Share → Fraction
total_from x so_far [] = so_far
total_from x so_far (share ∷ shares) = total_from x (if is_same x share.of then sum so_far share.amount else so_far) shares

abbrev pub total : Resource → List Share → Fraction
total x shares = total_from x none shares

-- the state has a place for it, and it is no field of null
pub record CanBeHeld (s : State) (x : Resource) : Type 0 where
  pub no_field_of_null : is_null x ≡ false
  pub there : is_some (held_at s x) ≡ true

-- what an amount denotes for a resource. No amount is negative, and a positive one of a field of null is none. A `wildcard`
-- denotes some positive amount, which is listed.
pub data DenotesAmount (s : State) (sc : Scene) (x : Resource) : t.Amt → List Fraction → List Share → Type 0 where
  exactly : {e : t.Expr} {q : Fraction} → Has q (perm_in Unbounded e s sc) → is_negative q ≡ false →
      (is_positive q ≡ true → CanBeHeld s x) → DenotesAmount s sc x (t.Is e) [] (record { of = x; amount = q } ∷ [])
  something : {q : Fraction} → is_positive q ≡ true → CanBeHeld s x →
      DenotesAmount s sc x t.Wildcard (q ∷ []) (record { of = x; amount = q } ∷ [])

-- what an assertion denotes, with the amounts of its wildcards that count, in their order
pub data Denotes (s : State) (sc : Scene) : t.Assertion → List Fraction → List Share → Type 0 where
  fact : {e : t.Expr} {at : Pos} → Has true (truth_in Unbounded e s sc) → Denotes s sc (t.Fact e at) [] []
  place : {e : t.Expr} {f : ℕ} {m : t.Amt} {at : Pos} {x : Resource} {qs : List Fraction} {xs : List Share} →
      Has x (place_in Unbounded e f s sc) → DenotesAmount s sc x m qs xs → Denotes s sc (t.Acc e f m at) qs xs
  instance : {p : ℕ} {args : t.Exprs} {m : t.Amt} {at : Pos} {x : Resource} {qs : List Fraction} {xs : List Share} →
      Has x (instance_in Unbounded p args s sc) → DenotesAmount s sc x m qs xs → Denotes s sc (t.Inst p args m at) qs xs
  both : {a b : t.Assertion} {ps qs : List Fraction} {xs ys : List Share} →
      Denotes s sc a ps xs → Denotes s sc b qs ys → Denotes s sc (t.And a b) (ps ++ qs) (xs ++ ys)
  counts : {e : t.Expr} {a : t.Assertion} {qs : List Fraction} {xs : List Share} →
      Has true (truth_in Unbounded e s sc) → Denotes s sc a qs xs → Denotes s sc (t.Implies e a) qs xs
  does_not_count : {e : t.Expr} {a : t.Assertion} → Has false (truth_in Unbounded e s sc) → Denotes s sc (t.Implies e a) [] []
  first : {e : t.Expr} {a b : t.Assertion} {qs : List Fraction} {xs : List Share} →
      Has true (truth_in Unbounded e s sc) → Denotes s sc a qs xs → Denotes s sc (t.ChooseAssertion e a b) qs xs
  second : {e : t.Expr} {a b : t.Assertion} {qs : List Fraction} {xs : List Share} →
      Has false (truth_in Unbounded e s sc) → Denotes s sc b qs xs → Denotes s sc (t.ChooseAssertion e a b) qs xs

-- The state satisfies the assertion, where the amounts of its wildcards are these: exactly what is denoted is held, and of no
-- place more than 1.
pub record Sat (a : t.Assertion) (s : State) (sc : Scene) (amounts : List Fraction) : Type 0 where
  pub shares : List Share
  pub denoted : Denotes s sc a amounts shares
  pub held : (x : Resource) (q : Fraction) → held_at s x ≡ Some q → q ≡ total x shares
  pub at_most_one : (x : Resource) (q : Fraction) → held_at s x ≡ Some q → is_too_much x q ≡ false

-- an assertion and the clauses after it, as one conjunction
abbrev pub conjoined : t.Assertion → List t.Assertion → t.Assertion
conjoined a [] = a
conjoined a (x ∷ rest) = conjoined (t.And a x) rest

-- The state satisfies the clauses, which are one conjunction in their order. Where there is none, nothing is held.
abbrev pub SatAll : List t.Assertion → State → Scene → List Fraction → Type 0
SatAll [] s sc amounts = ((x : Resource) (q : Fraction) → held_at s x ≡ Some q → q ≡ none) × (amounts ≡ [])
SatAll (a ∷ rest) s sc amounts = Sat (conjoined a rest) s sc amounts

-- its heap and contents
abbrev pub memo_of_state : State → Memo
memo_of_state s = record { heap = s.heap; content = s.content }

-- It never blocks and lacks no choice, and where it continues, what it reaches has the property and these choices are left.
abbrev pub Arrives : {X : Type 0} → (X → Type 0) → List Choice → Ran X → Type 0
Arrives P left (ran events (Goes x) rest) = P x × (rest ≡ left)
Arrives P left (ran events (Fails l) rest) = ⊤
Arrives P left (ran events Blocked rest) = ⊥
Arrives P left (ran events Short rest) = ⊥
Arrives P left (ran events (Over at) rest) = ⊤
