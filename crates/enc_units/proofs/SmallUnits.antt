-- How many locals the procedure of a unit has: they can be numbered.
use Rattle.std.specs.Bool.{⊤}
use Rattle.std.specs.Option.{IfSome}
use Rattle.std.proofs.Common.{◌≡◌, ◌+◌, ◌*◌, ◌^◌, ◌≤◌, ◌<◌, ℕ, suc, List, Option, Some, None, length, length-append, drop, slice_get, refl, ap, ◌∙◌, arith}
use Rattle.std.proofs.lemmas.List.{length-map, length-take, length-drop}
use Rattle.vb_value.specs.declared.values.Ty.{Ty}
use Rattle.viper_core.specs.Formed.{IsFormed, IsMethod, IsBody, method_frame}
use Rattle.viper_core.specs.Program.{Program, Predicate, Method, Body}
use Rattle.viper_core.specs.Scope.{Scope}
use Rattle.viper_core.specs.Size.{assertion_size, assertion_sizes}
use Rattle.viper_core.specs.Stmt as v
use Rattle.viper_core.specs.Typing as y
use Rattle.viper_core.specs.Typing.{MethodContext, AreTargets, Receive, IsStmt, AreStmts, returns_of}
use Rattle.viper_core.specs.Weight.{base_of, body_weight, predicate_weight, block_weight, stmt_weight, stmts_weight}
use Rattle.viper_core.specs.declared.programs.Unit.{Unit}
use Rattle.viper_core.specs.declared.programs.Unit.TheVariants as unit
use Rattle.viper_core.proofs.FormedLaws.{method_of_typed}
use Rattle.viper_core.proofs.WeightLaws.{predicate_weight-weight, method_weight-weight}
use Rattle.boogie_tree.specs.Stmt as s
use Rattle.enc_expr.specs.Code.{Emitting, then_emit, puts}
use Rattle.enc_expr.specs.Front.{types_of}
use Rattle.enc_expr.specs.Locals.{types_of_others, fixed_types}
use Rattle.enc_expr.specs.Place.{HasSizes}
use Rattle.enc_expr.proofs.SmallPieces.{IsSmall, Any, nothing}
use Rattle.enc_block.specs.Encoding.{branching, keep_old, check_code, ending_code, either_code, method_code}
use Rattle.enc_block.specs.Home.{Home, place}
use Rattle.enc_block.specs.Sizes.{results_of, results_in}
use Rattle.enc_units.specs.Units.{home_of, start_code, kinds_with, unit_code, further_types}
use Rattle.enc_block.proofs.SmallStatements.{stop_small, produced_small, all_produced_small, asserted_small, emptied_small, block_small}
use Rattle.enc_units.proofs.UnitCode.{IsUnit, is_method, is_predicate, unit_is, method_vars, predicate_vars, of_method, of_predicate}
use Rattle.enc_units.proofs.UnitHomeLaws.{fixed_length, now_sizes}

-- ---- targets

module _ (m : MethodContext) (formed : IsFormed m.program) where
  targets_many : {sc : Scope} {xs : List ℕ} {us : List Ty} → AreTargets m sc xs us → length xs ≡ length us
  targets_many y.nothing = refl
  targets_many (y.also target rest) = ap suc (targets_many rest)

  received_many : {sc : Scope} {xs : List ℕ} {us : List Ty} → Receive m sc xs us → length xs ≡ length us
  received_many (y.assigned targets differ) = targets_many targets
  received_many (y.declared fresh there) = refl

  received_few : {sc : Scope} (xs : List ℕ) (n : ℕ) (callee : Method) → slice_get m.program.methods n ≡ Some callee → Receive m sc xs (returns_of callee) → length xs ≤ 2 ^ 32
  received_few xs n callee exists receive =
      let same = received_many receive in let few = (method_of_typed m.program formed.typed n callee exists).few in
      omega (arith, same, few, length-take callee.returns (drop callee.params callee.vars), length-drop callee.params callee.vars)

  mutual
    results_few : {sc : Scope} (a : v.Stmt) → IsStmt m sc a → results_of a ≤ 2 ^ 32 * stmt_weight m.program a
    results_few (v.Call at xs n args) (y.calls callee exists i receive) = let few = received_few xs n callee exists receive in omega (arith, few)
    results_few (v.If at c first second) (y.branches i js ks) = let a = results_in_few first js in let b = results_in_few second ks in omega (arith, a, b)
    results_few (v.While (v.loop at guard invariants body turn targets)) (y.loops i all js same) = let a = results_in_few body js in omega (arith, a)
    results_few (v.Var at x init) typed = omega arith
    results_few (v.Assign at x a) typed = omega arith
    results_few (v.Write at a f name d) typed = omega arith
    results_few (v.New at x fields refs) typed = omega arith
    results_few (v.Inhale at a) typed = omega arith
    results_few (v.Exhale at a) typed = omega arith
    results_few (v.Assert at a) typed = omega arith
    results_few (v.Fold f) typed = omega arith
    results_few (v.Unfold f) typed = omega arith

    results_in_few : {sc : Scope} (xs : v.Stmts) → AreStmts m sc xs → results_in xs ≤ 2 ^ 32 * stmts_weight m.program xs
    results_in_few v.skip y.ends = omega arith
    results_in_few (v.next a rest) (y.goes_on i js) = let first = results_few a i in let others = results_in_few rest js in omega (arith, first, others)

-- ---- pieces with few locals

record HasFew (k : ℕ) (m : Emitting ⊤) : Type 0 where
  within : (n : ℕ) → length (m n).locals ≤ k

few_of : {k : ℕ} {m : Emitting ⊤} → IsSmall k Any nothing m → HasFew k m
few_of h = record { within = λ n. let few = h.within n in omega (arith, few) }

more_few : {j k : ℕ} {m : Emitting ⊤} → j ≤ k → HasFew j m → HasFew k m
more_few more h = record { within = λ n. let few = h.within n in omega (arith, few, more) }

puts_few : (xs : s.BStmts) → HasFew 0 (puts None xs)
puts_few xs = record { within = λ n. omega arith }

then_few : {j k : ℕ} {m : Emitting ⊤} {go : ⊤ → Emitting ⊤} → HasFew j m → ((u : ⊤) → HasFew k (go u)) → HasFew (j + k) (then_emit m go)
then_few {m = m} {go = go} h g = record { within = λ n. let a = h.within n in let b = (g (m n).value).within (m n).next in omega (arith, a, b, length-append (m n).locals (go (m n).value (m n).next).locals) }

branching_few : {j k : ℕ} (kind : s.BStmts → s.BStmts → s.BStmt) (m o : Emitting ⊤) → HasFew j m → HasFew k o → HasFew (j + k) (branching kind m o)
branching_few kind m o first second = record { within = λ n. let a = first.within n in let b = second.within (m n).next in omega (arith, a, b, length-append (m n).locals (o (m n).next).locals) }

-- ---- methods

module _ (p : Program) (formed : IsFormed p) (h : Home) (fits : HasSizes p.layout h.now) (m : Method) (is : IsMethod p m) where
  abbrev least : ℕ
  least = base_of p

  abbrev post : ℕ
  post = assertion_sizes least m.postconditions

  abbrev results : Option Body → ℕ
  results None = 0
  results (Some body) = results_in body.stmts

  check_few : HasFew (15 * least + 64 * post + 4) (check_code (kinds_with p m.vars) h m)
  check_few =
      more_few {j = 15 * least + (64 * post + 4)} (omega arith)
      (then_few (few_of (emptied_small p formed m.vars h fits)) (λ u. then_few (few_of (all_produced_small p formed m.vars (place h m.name_at) m.postconditions)) (λ u. few_of stop_small)))

  ending_few : (body : Body) → IsBody p m body → HasFew (256 * (stmts_weight p body.stmts + results_in body.stmts) + (4 * least + 64 * post)) (ending_code p (kinds_with p m.vars) h m body)
  ending_few body typed = then_few (few_of (block_small p formed m.vars h m.params fits body.stmts typed.stmts)) (λ u. few_of (asserted_small p formed m.vars h body.turn m.postconditions))

  either_few : (o : Option Body) → IfSome o (IsBody p m) → HasFew (256 * (block_weight p o + results o) + 19 * least + 128 * post + 4) (either_code p (kinds_with p m.vars) h m o)
  either_few None typed = more_few (omega arith) check_few
  either_few (Some body) typed =
      more_few {j = 256 * (stmts_weight p body.stmts + results_in body.stmts) + (4 * least + 64 * post) + (15 * least + 64 * post + 4)} (omega arith)
      (branching_few s.Either (ending_code p (kinds_with p m.vars) h m body) (check_code (kinds_with p m.vars) h m) (ending_few body typed) check_few)

  results_small : (o : Option Body) → IfSome o (IsBody p m) → results o ≤ 2 ^ 32 * block_weight p o
  results_small None typed = omega arith
  results_small (Some body) typed = results_in_few (method_frame p m) formed body.stmts typed.stmts

  method_few : (k : ℕ) → slice_get p.methods k ≡ Some m → HasFew (2 ^ 58) (method_code p (kinds_with p m.vars) h m)
  method_few k exists =
      let light = formed.light in let own = method_weight-weight p k m exists in let few = results_small m.body is.body in
      more_few {j = 64 * assertion_sizes least m.preconditions + (0 + (256 * (block_weight p m.body + results m.body) + 19 * least + 128 * post + 4))} (omega (arith, light, own, few))
      (then_few (few_of (all_produced_small p formed m.vars (place h m.at) m.preconditions)) (λ u. then_few (puts_few (keep_old h)) (λ u. either_few m.body is.body)))

-- ---- units

module _ (p : Program) (formed : IsFormed p) where
  unit_few : (u : Unit) → IsUnit p u → HasFew (2 ^ 58) (unit_code p u)
  unit_few w (is_method k m exists formed_method) =
      let u = unit.Method k in
      more_few {j = 0 + 2 ^ 58} (omega arith) (then_few (puts_few (start_code p u)) (λ x. of_method p (λ c. HasFew (2 ^ 58) c) k m exists (method_few p formed (home_of p u) (now_sizes p u) m formed_method k exists)))
  unit_few w (is_predicate k d body exists has formed_predicate) =
      let u = unit.Predicate k in let light = formed.light in let own = predicate_weight-weight p k d exists in
      let weighs : predicate_weight p d ≡ base_of p + assertion_size (base_of p) body = ap (body_weight (base_of p)) has in
      more_few {j = 0 + 2 ^ 58} (omega arith) (then_few (puts_few (start_code p u)) (λ x. of_predicate p (λ c. HasFew (2 ^ 58) c) k d body exists has
      (more_few {j = 64 * assertion_size (base_of p) body} (omega (arith, light, own, weighs)) (few_of (produced_small p formed d.params (place (home_of p u) d.at) body)))))

  few_variables : (u : Unit) → IsUnit p u → length (types_of p u) + length (types_of_others p u) < 2 ^ 32
  few_variables w (is_method k m exists formed_method) =
      let u = unit.Method k in omega (arith, length-append (types_of p u) (types_of_others p u), ap length (method_vars p k m exists), formed_method.few)
  few_variables w (is_predicate k d body exists has formed_predicate) =
      let u = unit.Predicate k in omega (arith, length-append (types_of p u) (types_of_others p u), ap length (predicate_vars p k d exists), formed_predicate.few)

  -- with the fixed ones
  pub few_locals : (n : ℕ) (u : Unit) → slice_get p.units n ≡ Some u → length (fixed_types p u) + length (further_types p u) < 2 ^ 60
  few_locals n u there =
      let is = unit_is p formed n u there in
      let further = (unit_few u is).within (length (fixed_types p u)) in
      let keys : length p.layout.keys ≡ length p.predicates = ap length formed.typed.layout.keys ∙ length-map p.predicates (λ (d : Predicate). d.params) in
      omega (arith, further, fixed_length p u, few_variables u is, keys, formed.typed.layout.fields, formed.typed.few.fields, formed.typed.few.predicates)
