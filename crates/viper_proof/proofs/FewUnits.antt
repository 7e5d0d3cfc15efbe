-- A formed program has few units, since each weighs something.
use Rattle.std.proofs.Common.{◌≡◌, ◌∙◌, ◌+◌, ◌≤◌, ℕ, List, [], ◌∷◌, length, Option, Some, None, is_some, refl, ap, cond, arith}
use Rattle.std.proofs.lemmas.List.FromFn.{length-range_with_len}
use Rattle.vb_base.specs.Limits.{max_weight}
use Rattle.viper_core.specs.Expr.{Assertion}
use Rattle.viper_core.specs.Formed.{IsFormed, methods_among, predicates_among, with_body_from}
use Rattle.viper_core.specs.Program as p
use Rattle.viper_core.specs.Weight.{base_of, body_weight, predicates_weight, methods_weight}
use Rattle.viper_core.specs.declared.programs.Unit as unit
use Rattle.viper_core.specs.declared.programs.Unit.TheVariants as u

of_both_kinds : (us : List unit.Unit) → length us ≡ length (methods_among us) + length (predicates_among us)
of_both_kinds [] = refl
of_both_kinds (u.Method n ∷ us) = omega (arith, of_both_kinds us)
of_both_kinds (u.Predicate n ∷ us) = omega (arith, of_both_kinds us)

methods_weigh : (q : p.Program) (ms : List p.Method) → length ms ≤ methods_weight q ms
methods_weigh q [] = omega arith
methods_weigh q (m ∷ ms) = omega (arith, methods_weigh q ms)

with_one : (q : p.Program) (n : ℕ) (ds : List p.Predicate) (body : Option Assertion) → length (with_body_from (n + 1) ds) ≤ predicates_weight q ds →
    length (cond (is_some body) (n ∷ with_body_from (n + 1) ds) (with_body_from (n + 1) ds)) ≤ body_weight (base_of q) body + predicates_weight q ds
with_one q n ds None h = omega (arith, h)
with_one q n ds (Some a) h = omega (arith, h)

bodies_weigh : (q : p.Program) (n : ℕ) (ds : List p.Predicate) → length (with_body_from n ds) ≤ predicates_weight q ds
bodies_weigh q n [] = omega arith
bodies_weigh q n (d ∷ ds) = with_one q n ds d.body (bodies_weigh q (n + 1) ds)

pub few_units : (q : p.Program) → IsFormed q → length q.units ≤ max_weight
few_units q h =
    let units = h.typed.units in
    let methods : length (methods_among q.units) ≡ length q.methods = ap length units.methods ∙ length-range_with_len 0 (length q.methods) in
    let predicates : length (predicates_among q.units) ≡ length (with_body_from 0 q.predicates) = ap length units.predicates in
    omega (arith, of_both_kinds q.units, methods, predicates, methods_weigh q q.methods, bodies_weigh q 0 q.predicates, h.light)
