-- The units of a formed program: they are few, and what a run file names opens them.
use Rattle.std.proofs.Common.{◌≡◌, ◌∙◌, ◌+◌, ◌<◌, ◌≤◌, ◌⊎◌, inl, inr, ℕ, suc, List, [], ◌∷◌, length, Option, Some, None, is_some, slice_get, refl, ap, subst, cond, arith}
use Rattle.std.proofs.lemmas.List.FromFn.{length-range_with_len, get_or-range_with_len}
use Rattle.std.proofs.lemmas.List.Quantifiers.{position-Some}
use Rattle.std.proofs.lemmas.Option.{slice_get_within, get_or_from_slice_get}
use Rattle.vb_base.specs.Limits.{max_weight}
use Rattle.lemmas.proofs.Lists.{item_there}
use Rattle.viper_core.specs.Expr.{Assertion}
use Rattle.viper_core.specs.Formed.{IsFormed, methods_among, predicates_among, with_body_from, below}
use Rattle.viper_core.specs.Program as p
use Rattle.viper_core.specs.Weight.{base_of, body_weight, predicates_weight, methods_weight}
use Rattle.viper_core.specs.declared.programs.Unit as unit
use Rattle.viper_core.specs.declared.programs.Unit.TheVariants as u
use Rattle.viper_meaning.specs.Units.{opening_types, Opens}
use Rattle.viper_state.specs.Fits.{FitsOpening}
use Rattle.viper_state.specs.Run.{Opening}
use Rattle.enc_units.proofs.UnitNames.{first_or_later, method_among, predicate_among}
use Rattle.run_file.specs.Lines.{unit_variables, scope_of}
use Rattle.vb_tool.specs.Units.{is_name, name_of, unit_named}

-- ---- there are few units, since each weighs something

of_both_kinds : (us : List unit.Unit) → length us ≡ length (methods_among us) + length (predicates_among us)
of_both_kinds [] = refl
of_both_kinds (u.Method n ∷ us) = omega (arith, of_both_kinds us)
of_both_kinds (u.Predicate n ∷ us) = omega (arith, of_both_kinds us)

methods_weigh : (q : p.Program) (ms : List p.Method) → length ms ≤ methods_weight q ms
methods_weigh q [] = omega arith
methods_weigh q (m ∷ ms) = omega (arith, methods_weigh q ms)

with_one : (q : p.Program) (n : ℕ) (d : p.Predicate) (ds : List p.Predicate) (body : Option Assertion) →
    length (with_body_from (n + 1) ds) ≤ predicates_weight q ds →
    length (cond (is_some body) (n ∷ with_body_from (n + 1) ds) (with_body_from (n + 1) ds)) ≤ body_weight (base_of q) body + predicates_weight q ds
with_one q n d ds None h = omega (arith, h)
with_one q n d ds (Some a) h = omega (arith, h)

bodies_weigh : (q : p.Program) (n : ℕ) (ds : List p.Predicate) → length (with_body_from n ds) ≤ predicates_weight q ds
bodies_weigh q n [] = omega arith
bodies_weigh q n (d ∷ ds) = with_one q n d ds d.body (bodies_weigh q (n + 1) ds)

pub few_units : (q : p.Program) → IsFormed q → length q.units ≤ max_weight
few_units q h =
    let units = h.typed.units in
    let methods : length (methods_among q.units) ≡ length q.methods = ap length units.methods ∙ length-range_with_len 0 (length q.methods) in
    let predicates : length (predicates_among q.units) ≡ length (with_body_from 0 q.predicates) = ap length units.predicates in
    omega (arith, of_both_kinds q.units, methods, predicates, methods_weigh q q.methods, bodies_weigh q 0 q.predicates, h.light)

-- ---- the unit of a name is there

pub named_exists : (q : p.Program) (word : List ℕ) (n : ℕ) → unit_named q word ≡ Some n → n < length q.units
named_exists q word n is = (position-Some (λ w. is_name word (name_of q w)) q.units n (u.Method 0) is).0

-- ---- what a run file names is an opening

below_within : (m i k : ℕ) → slice_get (below m) i ≡ Some k → k < m
below_within m i k is =
    let within = slice_get_within (below m) i k is in
    let at = get_or_from_slice_get (below m) i k 0 is in
    omega (arith, within, at, length-range_with_len 0 m, get_or-range_with_len 0 m i 0)

within_more : (n k m : ℕ) (rest : List ℕ) → ((j : ℕ) → slice_get rest j ≡ Some k → (n + 1 ≤ k) × (k < n + 1 + m)) → (n ≡ k) ⊎ ((j : ℕ) × (slice_get rest j ≡ Some k)) →
    (n ≤ k) × (k < n + suc m)
within_more n k m rest h (inl same) = (omega (arith, same), omega (arith, same))
within_more n k m rest h (inr there) = let both = h there.0 there.1 in (omega (arith, both.0), omega (arith, both.1))

pub body_among : (n : ℕ) (ds : List p.Predicate) (i k : ℕ) → slice_get (with_body_from n ds) i ≡ Some k → (n ≤ k) × (k < n + length ds)
body_among n [] i k is = absurd (cc)
body_among n (d ∷ ds) i k is =
    within_more n k (length ds) (with_body_from (n + 1) ds) (λ j e. body_among (n + 1) ds j k e) (first_or_later n k d.body (with_body_from (n + 1) ds) i is)

typed_unit : (q : p.Program) → IsFormed q → (n : ℕ) (w : unit.Unit) → slice_get q.units n ≡ Some w → opening_types q w ≡ Some (unit_variables q (Some w)).types
typed_unit q h n (u.Method k) is =
    let (i, e) = method_among q.units n k is in
    let (m, there) = item_there q.methods k (below_within (length q.methods) i k (subst (λ ks. slice_get ks i ≡ Some k) h.typed.units.methods e)) in
    rw there refl
typed_unit q h n (u.Predicate k) is =
    let (i, e) = predicate_among q.units n k is in
    let within = body_among 0 q.predicates i k (subst (λ ks. slice_get ks i ≡ Some k) h.typed.units.predicates e) in
    let (d, there) = item_there q.predicates k (omega (arith, within.1)) in
    rw there refl

pub opens : (q : p.Program) → IsFormed q → (n : ℕ) → n < length q.units → (o : Opening) → FitsOpening q.layout (scope_of q n).variables.types o → Opens q n o
opens q h n within o fits =
    let (w, is) = item_there q.units n within in
    record {
      unit = w;
      types = (unit_variables q (Some w)).types;
      exists = is;
      typed = typed_unit q h n w is;
      fits = subst (λ x. FitsOpening q.layout (unit_variables q x).types o) is fits;
    }
