-- The units of a program are its methods and its predicates with a body.
use Rattle.std.proofs.Common.{◌≡◌, ◌<◌, ◌+◌, ℕ, zero, suc, Bool, true, false, if◌then◌else◌, List, [], ◌∷◌, Option, Some, None, is_some, slice_get, Contains, length, refl, subst, arith}
use Rattle.std.proofs.lemmas.List.FromFn.{length-range_with_len, get_or-range_with_len}
use Rattle.lemmas.proofs.Lists.{item_there}
use Rattle.viper_core.specs.declared.programs.Unit as u
use Rattle.viper_core.specs.declared.programs.Unit.TheVariants as unit
use Rattle.viper_core.specs.Expr as t
use Rattle.viper_core.specs.Program.{Program, Predicate, Method}
use Rattle.viper_core.specs.Formed.{below, methods_among, predicates_among, with_body_from, HasBodyAt, HasUnits}

-- the variables below a number are below it
pub below-lt : (n x : ℕ) → Contains (below n) x → x < n
below-lt n x (k, within, is) =
    let len : length (below n) ≡ n = length-range_with_len 0 n in
    let small : k < n = omega (arith, within, len) in
    omega (arith, small, is, get_or-range_with_len 0 n k x small)

pub lt-below : (n x : ℕ) → x < n → Contains (below n) x
lt-below n x small = (x, omega (arith, small, length-range_with_len 0 n), omega (arith, get_or-range_with_len 0 n x x small))

contains_next : {X : Type 0} (x y : X) (xs : List X) → Contains xs y → Contains (x ∷ xs) y
contains_next x y xs (k, within, is) = (suc k, omega (arith, within), is)

contains_first : {X : Type 0} (x : X) (xs : List X) → Contains (x ∷ xs) x
contains_first x xs = (0, omega arith, refl)

contains_cases : {X P : Type 0} (x y : X) (xs : List X) → Contains (x ∷ xs) y → (x ≡ y → P) → (Contains xs y → P) → P
contains_cases x y xs (zero, within, is) first rest = first is
contains_cases x y xs (suc k, within, is) first rest = rest (k, omega (arith, within), is)

-- ---- methods

method_among : (units : List u.Unit) (i k : ℕ) → slice_get units i ≡ Some (unit.Method k) → Contains (methods_among units) k
method_among [] i k is = absurd (cc)
method_among (unit.Method n ∷ units) zero k is = let same : n ≡ k = cc in subst (Contains (n ∷ methods_among units)) same (contains_first n (methods_among units))
method_among (unit.Predicate n ∷ units) zero k is = absurd (cc)
method_among (unit.Method n ∷ units) (suc i) k is = contains_next n k (methods_among units) (method_among units i k is)
method_among (unit.Predicate n ∷ units) (suc i) k is = method_among units i k is

pub unit_method : (p : Program) → HasUnits p → (i k : ℕ) → slice_get p.units i ≡ Some (unit.Method k) → (m : Method) × (slice_get p.methods k ≡ Some m)
unit_method p h i k is =
    item_there p.methods k (below-lt (length p.methods) k (subst (λ ns. Contains ns k) h.methods (method_among p.units i k is)))

-- ---- predicates with a body

predicate_among : (units : List u.Unit) (i k : ℕ) → slice_get units i ≡ Some (unit.Predicate k) → Contains (predicates_among units) k
predicate_among [] i k is = absurd (cc)
predicate_among (unit.Predicate n ∷ units) zero k is = let same : n ≡ k = cc in subst (Contains (n ∷ predicates_among units)) same (contains_first n (predicates_among units))
predicate_among (unit.Method n ∷ units) zero k is = absurd (cc)
predicate_among (unit.Predicate n ∷ units) (suc i) k is = contains_next n k (predicates_among units) (predicate_among units i k is)
predicate_among (unit.Method n ∷ units) (suc i) k is = predicate_among units i k is

body_first : (d : Predicate) (ds : List Predicate) → is_some d.body ≡ true → HasBodyAt (d ∷ ds) 0
body_first d ds h = body_of d.body refl h where
  body_of : (o : Option t.Assertion) → d.body ≡ o → is_some o ≡ true → HasBodyAt (d ∷ ds) 0
  body_of None is h = absurd (cc)
  body_of (Some a) is h = record { predicate = d; body = a; exists = refl; has_body = is }

body_next : (d : Predicate) (ds : List Predicate) (k : ℕ) → HasBodyAt ds k → HasBodyAt (d ∷ ds) (suc k)
body_next d ds k h = record { predicate = h.predicate; body = h.body; exists = h.exists; has_body = h.has_body }

-- the number is so many after the first
record Numbered (n : ℕ) (ds : List Predicate) (k : ℕ) : Type 0 where
  after : ℕ
  is : k ≡ n + after
  there : HasBodyAt ds after

numbered_next : (n : ℕ) (d : Predicate) (ds : List Predicate) (k : ℕ) → Numbered (n + 1) ds k → Numbered n (d ∷ ds) k
numbered_next n d ds k h = record { after = suc h.after; is = omega (arith, h.is); there = body_next d ds h.after h.there }

numbered_first : (n : ℕ) (d : Predicate) (ds : List Predicate) (k : ℕ) → (Contains (with_body_from (n + 1) ds) k → Numbered (n + 1) ds k) →
    (b : Bool) → is_some d.body ≡ b → Contains (if b then n ∷ with_body_from (n + 1) ds else with_body_from (n + 1) ds) k → Numbered n (d ∷ ds) k
numbered_first n d ds k more true is h =
    contains_cases n k (with_body_from (n + 1) ds) h
    (λ same. record { after = 0; is = omega (arith, same); there = body_first d ds is })
    (λ rest. numbered_next n d ds k (more rest))
numbered_first n d ds k more false is h = numbered_next n d ds k (more h)

numbered_with_body : (n : ℕ) (ds : List Predicate) (k : ℕ) → Contains (with_body_from n ds) k → Numbered n ds k
numbered_with_body n [] k (i, within, is) = absurd (omega (arith, within))
numbered_with_body n (d ∷ ds) k h = numbered_first n d ds k (λ rest. numbered_with_body (n + 1) ds k rest) (is_some d.body) refl h

pub unit_predicate : (p : Program) → HasUnits p → (i k : ℕ) → slice_get p.units i ≡ Some (unit.Predicate k) → HasBodyAt p.predicates k
unit_predicate p h i k is =
    let there = numbered_with_body 0 p.predicates k (subst (λ ns. Contains ns k) h.predicates (predicate_among p.units i k is)) in
    let same : there.after ≡ k = omega (arith, there.is) in
    subst (HasBodyAt p.predicates) same there.there
