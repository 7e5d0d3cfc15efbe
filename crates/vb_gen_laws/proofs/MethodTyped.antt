-- Each generated program is typed by the walk through it.
use Rattle.std.proofs.Common.{◌≡◌, ◌∙◌, refl, sym, ap, subst, ℕ, zero, suc, ◌-◌, ◌%◌, ◌≤◌, Bool, true, false, arith, Some, List, [], ◌∷◌, ◌++◌}
use Rattle.std.specs.Prelude.{◌==◌}
use Rattle.vb_base.specs.Limits.{max_made_methods}
use Rattle.vb_base.specs.declared.places.Pos.{Pos}
use Rattle.vb_value.specs.declared.values.Ty.TheVariants as ty
use Rattle.viper_core.specs.Program as p
use Rattle.viper_syntax.specs.Decl as d
use Rattle.viper_scope.specs.declared.context.Role.{Role}
use Rattle.viper_scope.specs.Outcome.{Judged, Found, Broken, then_typed, then_more}
use Rattle.viper_scope.specs.Context.{World, MethodSignature, method_at}
use Rattle.viper_types.specs.Declaring.{Declared, FieldOf, MethodOf, method_typing, decl_typing, decls_typing, bodies_of, found_body, predicate_typing, program_typing, no_program, assembled}
use Rattle.vb_gen_laws.proofs.Trees.{behind, f_name, m_name, tree, odd_rhs, even_rhs, method_tree, methods_trees, methods_toks, field_toks, source_of}
use Rattle.vb_gen_laws.proofs.TypedTrees.{typed, odd_stmt, even_stmt, typed_method, typed_methods, declared, typed_program}
use Rattle.vb_gen_laws.proofs.Worlds.{signature, world, world_of, method_roles, signatures, callee, all_named}

-- ---- a method

odd_found : (roles : List (List ℕ × Role)) (ss : List MethodSignature) (q : ℕ → Pos) (at : Pos) (name : List ℕ) (k : ℕ) →
    method_typing true (world roles ss) [] (tree q at name k (odd_rhs q k)) ≡ Found (typed q at name k (odd_stmt q k))
odd_found roles ss q at name k = refl

even_found : (roles : List (List ℕ × Role)) (ss : List MethodSignature) (q : ℕ → Pos) (at : Pos) (name : List ℕ) (k : ℕ) (called : List ℕ) (j : ℕ) →
    method_at (world roles ss) called ≡ Some (j, signature) →
    method_typing true (world roles ss) [] (tree q at name k (even_rhs q called)) ≡ Found (typed q at name k (even_stmt q j))
even_found roles ss q at name k called j h = rw h refl

-- the callee of an even method
callee_before : (n i : ℕ) → 2 ≤ i → i ≤ n → n ≤ max_made_methods → method_at (world_of n) (m_name (i - 1)) ≡ Some (i - 2, signature)
callee_before n i two lt few =
    let next : suc (i - 2) ≡ i - 1 = omega arith in
    subst (λ k. method_at (world_of n) (m_name k) ≡ Some (i - 2, signature)) next (callee n (i - 2) (omega arith) few)

pub from_two : (i : ℕ) → 1 ≤ i → (i % 2 == 1) ≡ false → 2 ≤ i
from_two zero one e = absurd (omega arith)
from_two (suc zero) one e = cc
from_two (suc (suc i)) one e = omega arith

method_found_by : (n : ℕ) (q : ℕ → Pos) (i : ℕ) (odd : Bool) → (i % 2 == 1) ≡ odd → 1 ≤ i → i ≤ n → n ≤ max_made_methods →
    method_typing true (world_of n) [] (method_tree q i) ≡ Found (typed_method q i)
method_found_by n q i true e one le few = rw e (odd_found (method_roles n) (signatures n) (λ j. q (suc j)) (q 0) (m_name i) i)
method_found_by n q i false e one le few =
    rw e
    (even_found (method_roles n) (signatures n) (λ j. q (suc j)) (q 0) (m_name i) (i - 1) (m_name (i - 1)) (i - 2)
    (callee_before n i (from_two i one e) le few))

-- ---- declarations

-- what is found of a list, by what is found of its head and its tail
more_found : (j : Judged Declared) (js : Judged (List Declared)) (us : List Declared) → then_more j js ≡ Found us → (x : Declared) × (xs : List Declared) × (j ≡ Found x) × (js ≡ Found xs) × (x ∷ xs ≡ us)
more_found (Found x) (Found xs) us h = (x, xs, refl, refl, cc)
more_found (Found x) (Broken at r) us h = cc
more_found (Broken at r) js us h = cc

decls_found : (w : World) (xs ys : List d.Decl) (us vs : List Declared) → decls_typing true w [] xs ≡ Found us → decls_typing true w [] ys ≡ Found vs →
    decls_typing true w [] (xs ++ ys) ≡ Found (us ++ vs)
decls_found w [] ys us vs h g = let none : [] ≡ us = cc in subst (λ l. decls_typing true w [] ys ≡ Found (l ++ vs)) none g
decls_found w (x ∷ xs) ys us vs h g =
    let r = more_found (decl_typing true w [] x) (decls_typing true w [] xs) us h in
    let rest = decls_found w xs ys r.1 vs r.3 g in
    ap (λ j. then_more j (decls_typing true w [] (xs ++ ys))) r.2 ∙ ap (λ js. then_more (Found r.0) js) rest ∙ ap (λ l. Found (l ++ vs)) r.4

declared_push : (ms : List p.Method) (m : p.Method) → declared (ms ++ m ∷ []) ≡ declared ms ++ MethodOf m ∷ []
declared_push [] m = refl
declared_push (x ∷ ms) m = ap (λ l. MethodOf x ∷ l) (declared_push ms m)

-- the first methods of a program
methods_found : (q : ℕ → Pos) (n i : ℕ) → i ≤ n → n ≤ max_made_methods → decls_typing true (world_of n) [] (methods_trees q i) ≡ Found (declared (typed_methods q i))
methods_found q n zero le few = refl
methods_found q n (suc i) le few =
    let place = behind q (methods_toks i) in
    let last : decls_typing true (world_of n) [] (d.Method (method_tree place (suc i)) ∷ []) ≡ Found (MethodOf (typed_method place (suc i)) ∷ []) =
    ap (λ j. then_more (then_typed j (λ m. Found (MethodOf m))) (Found [])) (method_found_by n place (suc i) (suc i % 2 == 1) refl (omega arith) le few) in
    decls_found (world_of n) (methods_trees q i) (d.Method (method_tree place (suc i)) ∷ []) (declared (typed_methods q i)) (MethodOf (typed_method place (suc i)) ∷ [])
    (methods_found q n i (omega arith) few) last ∙
    ap (λ l. Found l) (sym (declared_push (typed_methods q i) (typed_method place (suc i))))

bodies_push : (w : World) (xs : List d.Decl) (m : d.SMethod) → bodies_of w (xs ++ d.Method m ∷ []) ≡ bodies_of w xs
bodies_push w [] m = refl
bodies_push w (d.Field f ∷ xs) m = bodies_push w xs m
bodies_push w (d.Predicate at x params body ∷ xs) m = ap (λ l. found_body (predicate_typing w at x params body) ∷ l) (bodies_push w xs m)
bodies_push w (d.Method n ∷ xs) m = bodies_push w xs m

no_bodies : (w : World) (q : ℕ → Pos) (n : ℕ) → bodies_of w (methods_trees q n) ≡ []
no_bodies w q zero = refl
no_bodies w q (suc i) = bodies_push w (methods_trees q i) (method_tree (behind q (methods_toks i)) (suc i)) ∙ no_bodies w q i

-- ---- the program

pub program_found : (q : ℕ → Pos) (n : ℕ) → n ≤ max_made_methods → program_typing (source_of q n) ≡ Found (typed_program q n)
program_found q n few =
    let decls = (source_of q n).decls in
    let rest = behind q field_toks in
    let bodies : bodies_of (world_of n) decls ≡ [] = no_bodies (world_of n) rest n in
    let all : decls_typing true (world_of n) [] decls ≡ Found (FieldOf f_name ty.Int ∷ declared (typed_methods rest n)) =
    ap (λ js. then_more (Found (FieldOf f_name ty.Int)) js) (methods_found rest n n (omega arith) few) in
    let go : World → Judged p.Program = λ w. then_typed (decls_typing true w (bodies_of w decls) decls) (λ xs. Found (assembled no_program xs)) in
    ap (λ j. then_typed j go) (all_named q n few) ∙
    ap (λ bs. then_typed (decls_typing true (world_of n) bs decls) (λ xs. Found (assembled no_program xs))) bodies ∙
    ap (λ j. then_typed j (λ xs. Found (assembled no_program xs))) all
