-- What the generated programs weigh.
use Rattle.std.proofs.Common.{◌≡◌, ◌∙◌, refl, sym, ap, subst, ℕ, zero, suc, ◌+◌, ◌-◌, ◌*◌, ◌%◌, ◌<◌, ◌≤◌, ◌⊎◌, inl, inr, Bool, true, false, arith, Some, List, [], ◌∷◌, ◌++◌, length, slice_get, add-one, append_assoc, append-nil}
use Rattle.std.specs.Prelude.{◌==◌, if◌then◌else◌}
use Rattle.std.proofs.lemmas.Bool.{cases_lt}
use Rattle.std.proofs.lemmas.List.{length_push}
use Rattle.vb_base.specs.declared.places.Pos.{Pos}
use Rattle.vb_base.specs.Limits.{max_made_methods, max_weight}
use Rattle.vb_value.specs.declared.values.Ty.TheVariants as ty
use Rattle.viper_core.specs.Program as p
use Rattle.viper_core.specs.declared.programs.Unit as unit
use Rattle.viper_core.specs.Weight.{weight, methods_weight, method_weight, clauses_size, callee_size}
use Rattle.viper_types.specs.Declaring.{MethodOf, with_declared, assembled}
use Rattle.vb_gen_laws.specs.Made.{generated_weight}
use Rattle.vb_gen_laws.proofs.Trees.{behind, f_name, field_toks, m_name, methods_toks}
use Rattle.vb_gen_laws.proofs.TypedTrees.{typed, odd_stmt, even_stmt, typed_method, typed_methods, declared, typed_program}
use Rattle.vb_gen_laws.proofs.MethodTyped.{from_two}
use Rattle.vb_gen_laws.proofs.Worlds.{slice_get_left, slice_get_seam}

-- ---- the program that is assembled

-- a program with one field, and these methods
abbrev program : List p.Method → List unit.Unit → p.Program
program ms units = record { fields = f_name ∷ []; layout = record { fields = ty.Int ∷ []; keys = [] }; predicates = []; methods = ms; units = units }

methods_assembled : (ms before : List p.Method) (units : List unit.Unit) → (all : List unit.Unit) × (assembled (program before units) (declared ms) ≡ program (before ++ ms) all)
methods_assembled [] before units = (units, ap (λ l. program l units) (sym (append-nil before)))
methods_assembled (m ∷ ms) before units =
    let rest = methods_assembled ms (before ++ m ∷ []) (with_declared (program before units) (MethodOf m)).units in
    (rest.0, rest.1 ∙ ap (λ l. program l rest.0) (append_assoc before (m ∷ []) ms))

-- ---- each method

odd_weighs : (ms : List p.Method) (units : List unit.Unit) (q : ℕ → Pos) (at : Pos) (name : List ℕ) (k : ℕ) →
    method_weight (program ms units) (typed q at name k (odd_stmt q k)) ≡ 25
odd_weighs ms units q at name k = refl

even_weighs : (ms : List p.Method) (units : List unit.Unit) (q : ℕ → Pos) (at : Pos) (name : List ℕ) (k j : ℕ) (m : p.Method) →
    slice_get ms j ≡ Some m → clauses_size 2 m ≡ 17 → method_weight (program ms units) (typed q at name k (even_stmt q j)) ≡ 39
even_weighs ms units q at name k j m h size = let called : callee_size 2 (slice_get ms j) ≡ 17 = ap (callee_size 2) h ∙ size in omega (arith, called)

-- a method at an index, and the size of its clauses
record HasClauses (ms : List p.Method) (j : ℕ) : Type 0 where
  method : p.Method
  here : slice_get ms j ≡ Some method
  size : clauses_size 2 method ≡ 17

method_count : (q : ℕ → Pos) (n : ℕ) → length (typed_methods q n) ≡ n
method_count q zero = refl
method_count q (suc i) = length_push (typed_methods q i) (typed_method (behind q (methods_toks i)) (suc i)) ∙ omega (arith, method_count q i)

method_at : (q : ℕ → Pos) (n j : ℕ) → j < n → HasClauses (typed_methods q n) j
method_at q zero j lt = absurd (omega arith)
method_at q (suc n) j lt = by_case (cases_lt j n) (method_at q n j) where
  by_case : (j < n) ⊎ (n ≤ j) → (j < n → HasClauses (typed_methods q n) j) → HasClauses (typed_methods q (suc n)) j
  by_case (inl below) go =
      let r = go below in
      record { method = r.method; here = slice_get_left (typed_methods q n) _ j r.here; size = r.size }
  by_case (inr above) go =
      let last : length (typed_methods q n) ≡ j = omega (arith, method_count q n) in
      let m = typed_method (behind q (methods_toks n)) (suc n) in
      record { method = m; here = subst (λ i. slice_get (typed_methods q n ++ m ∷ []) i ≡ Some m) last (slice_get_seam (typed_methods q n) m); size = refl }

method_weighs : (q place : ℕ → Pos) (n i : ℕ) (units : List unit.Unit) (odd : Bool) → (i % 2 == 1) ≡ odd → 1 ≤ i → i ≤ n →
    method_weight (program (typed_methods q n) units) (typed_method place i) ≡ (if odd then 25 else 39)
method_weighs q place n i units true e one le = rw e (odd_weighs (typed_methods q n) units (λ j. place (suc j)) (place 0) (m_name i) i)
method_weighs q place n i units false e one le =
    let two = from_two i one e in
    let r = method_at q n (i - 2) (omega arith) in
    rw e (even_weighs (typed_methods q n) units (λ j. place (suc j)) (place 0) (m_name i) (i - 1) (i - 2) r.method r.here r.size)

-- ---- all of them

weight_push : (g : p.Program) (ms : List p.Method) (m : p.Method) → methods_weight g (ms ++ m ∷ []) ≡ methods_weight g ms + method_weight g m
weight_push g [] m = omega arith
weight_push g (x ∷ ms) m = omega (arith, weight_push g ms m)

methods_weigh : (q : ℕ → Pos) (n : ℕ) (units : List unit.Unit) (i : ℕ) → i ≤ n → methods_weight (program (typed_methods q n) units) (typed_methods q i) ≡ generated_weight i
methods_weigh q n units zero le = refl
methods_weigh q n units (suc i) le =
    let g = program (typed_methods q n) units in
    let place = behind q (methods_toks i) in
    let last = method_weighs q place n (suc i) units (suc i % 2 == 1) refl (omega arith) le in
    weight_push g (typed_methods q i) (typed_method place (suc i)) ∙ ap (λ k. k + method_weight g (typed_method place (suc i))) (methods_weigh q n units i (omega arith)) ∙
    ap (λ k. generated_weight i + k) last ∙ ap (λ k. generated_weight i + (if k % 2 == 1 then 25 else 39)) (sym (add-one i))

pub program_weighs : (q : ℕ → Pos) (n : ℕ) → weight (typed_program q n) ≡ generated_weight n
program_weighs q n =
    let rest = behind q field_toks in
    let r = methods_assembled (typed_methods rest n) [] [] in
    let g = program (typed_methods rest n) r.0 in
    let none : 0 + methods_weight g (typed_methods rest n) ≡ methods_weight g (typed_methods rest n) = omega arith in
    ap weight r.1 ∙ none ∙ methods_weigh rest n r.0 n (omega arith)

-- ---- the limit of weight

one_light : (odd : Bool) → (if odd then 25 else 39) ≤ 39
one_light true = omega arith
one_light false = omega arith

light_by : (n : ℕ) → generated_weight n ≤ 39 * n
light_by zero = omega arith
light_by (suc i) = omega (arith, light_by i, one_light ((i + 1) % 2 == 1))

pub light : (n : ℕ) → n ≤ max_made_methods → generated_weight n ≤ max_weight
light n few = omega (arith, light_by n)
