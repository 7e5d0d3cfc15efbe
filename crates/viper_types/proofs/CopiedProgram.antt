-- What a file copies is part of what its program weighs.
use Rattle.std.proofs.Common.{◌≡◌, refl, ap, ℕ, ◌+◌, ◌≤◌, Bool, true, false, not, ◌||◌, Option, Some, None, List, [], ◌∷◌, length, is_some, arith}
use Rattle.std.proofs.lemmas.List.{length-map}
use Rattle.vb_value.specs.Value.{same_type}
use Rattle.vb_value.specs.declared.values.Ty.TheVariants as ty
use Rattle.viper_core.specs.Expr as e
use Rattle.viper_core.specs.Program as p
use Rattle.viper_core.specs.Size.{assertion_size, assertion_sizes}
use Rattle.viper_core.specs.Weight.{base_of, block_weight, method_weight, methods_weight, weight}
use Rattle.viper_syntax.specs.Term as t
use Rattle.viper_syntax.specs.Stmt as s
use Rattle.viper_syntax.specs.Decl as d
use Rattle.viper_syntax.specs.declared.stmts.Formal.{Formal}
use Rattle.viper_syntax.specs.declared.tokens.Word.{Word}
use Rattle.viper_syntax.specs.declared.tokens.Word.TheVariants as word
use Rattle.viper_scope.specs.declared.rules.Rule.TheVariants as rule
use Rattle.viper_scope.specs.declared.context.UnitPart.TheVariants as part
use Rattle.viper_scope.specs.Outcome.{Found}
use Rattle.viper_scope.specs.Context.{World, Context, find}
use Rattle.viper_types.specs.Copied as k
use Rattle.viper_types.specs.Copied.{copied, with_formals, copied_by_clauses, copied_by_body, copied_by_method, copied_by_decl, copied_by_decls}
use Rattle.viper_scope.specs.Scope.{VariableScope, ref_variables}
use Rattle.viper_scope.specs.Types.{type_of, declared_type}
use Rattle.viper_types.specs.Frame.{MethodVariables, with_variable}
use Rattle.viper_types.specs.Declaring as j
use Rattle.viper_scope.specs.Naming.{no_world, naming}
use Rattle.viper_types.specs.Declaring.{Declared, FieldOf, PredicateOf, MethodOf, no_frame, formals, context_in, clause_of, clauses, conditions, method_body, method_typing, decl_typing, decls_typing, bodies_of, no_program, assembled}
use Rattle.viper_types.specs.Program.{AreNamed, AreDeclared, bodies_in}
use Rattle.viper_types.proofs.Assembled.{predicates_in, methods_in, has_predicates, has_methods}
use Rattle.viper_types.proofs.CopiedTerms.{any_told}
use Rattle.viper_types.proofs.CopiedStmts.{CountsAs, variable_refs, asserting_weighs, blocking_weighs}
use Rattle.viper_types.proofs.FormedProgram.{described}
use Rattle.viper_types.proofs.ProgramSound.{naming_told, declared_program}
use Rattle.viper_types.proofs.Tells.{Tells, tells, broken, tell_then, tell_so, tell_obeys, told}
use Rattle.viper_types.proofs.WorldLaws.{signature, world_predicates}

-- ---- clauses

abbrev clauses_weight : ℕ → List (Bool × e.Assertion) → ℕ
clauses_weight base [] = 0
clauses_weight base (a ∷ rest) = assertion_size base a.1 + clauses_weight base rest

both_conditions : (base : ℕ) (cs : List (Bool × e.Assertion)) →
    assertion_sizes base (conditions true cs) + assertion_sizes base (conditions false cs) ≡ clauses_weight base cs
both_conditions base [] = refl
both_conditions base ((true, a) ∷ rest) = omega (arith, both_conditions base rest)
both_conditions base ((false, a) ∷ rest) = omega (arith, both_conditions base rest)

clause_weighs : (q : p.Program) (w : World) → CountsAs q w → (bodies : List (Option e.Assertion)) (params all : VariableScope) (u : Word) (a : t.Term) →
    Tells (λ x. copied w bodies a ≤ assertion_size (base_of q) x.1) (clause_of w bodies params all u a)
clause_weighs q w is bodies params all word.Requires a = tell_then (asserting_weighs q (context_in w bodies part.Precondition) is params a) (λ x h. tells h)
clause_weighs q w is bodies params all word.Ensures a = tell_then (asserting_weighs q (context_in w bodies part.Elsewhere) is all a) (λ x h. tells h)
clause_weighs q w is bodies params all _ a = broken

clauses_weigh : (q : p.Program) (w : World) → CountsAs q w → (bodies : List (Option e.Assertion)) (params all : VariableScope) (ds : List d.SClause) →
    Tells (λ xs. copied_by_clauses w bodies ds ≤ clauses_weight (base_of q) xs) (clauses w bodies params all ds)
clauses_weigh q w is bodies params all [] = tells (omega arith)
clauses_weigh q w is bodies params all (a ∷ rest) =
    tell_then (clause_weighs q w is bodies params all a.word a.term) (λ x h. tell_then (clauses_weigh q w is bodies params all rest) (λ xs g. tells (omega (arith, h, g))))

-- ---- methods

formals_refs : (allows_perm is_parameter : Bool) (fr : MethodVariables) (refs : ℕ) (fs : List Formal) → refs ≤ length (ref_variables fr.scope) →
    Tells (λ gr. with_formals refs fs ≤ length (ref_variables gr.scope)) (formals allows_perm is_parameter fr fs)
formals_refs allows_perm is_parameter fr refs [] r = tells r
formals_refs allows_perm is_parameter fr refs (f ∷ fs) r =
    tell_obeys (not (is_some (find fr.scope f.name.name))) f.name.pos rule.DeclaredTwice (λ i. tell_obeys (is_some (type_of f.ty)) f.name.pos rule.WrongType (λ l.
    tell_obeys (allows_perm || not (same_type (declared_type f) ty.Perm)) f.name.pos rule.PermParameter (λ m.
    formals_refs allows_perm is_parameter (with_variable fr f.name.name (declared_type f) is_parameter) (k.with_formal refs f) fs (variable_refs fr f is_parameter refs r))))

body_weighs : (q : p.Program) (c : Context) → CountsAs q c.world → (fr : MethodVariables) (refs : ℕ) (body : Option s.SBlock) → refs ≤ length (ref_variables fr.scope) →
    Tells (λ b. copied_by_body c.world c.bodies refs body ≤ block_weight q b) (method_body true c fr body)
body_weighs q c is fr refs None r = tells (omega arith)
body_weighs q c is fr refs (Some b) r = tell_then (blocking_weighs q c is 1 fr refs b r) (λ ss h. tells h)

method_weighs : (q : p.Program) (w : World) → CountsAs q w → (bodies : List (Option e.Assertion)) (m : d.SMethod) →
    Tells (λ x. copied_by_method w bodies m ≤ method_weight q x) (method_typing true w bodies m)
method_weighs q w is bodies m =
    tell_then (formals_refs true true no_frame 0 m.params (omega arith)) (λ ps r. tell_then (formals_refs true false ps (with_formals 0 m.params) m.returns r) (λ fr l.
    tell_then (clauses_weigh q w is bodies ps.scope fr.scope m.clauses) (λ cs h.
    tell_then (body_weighs q (context_in w bodies part.Elsewhere) is fr (with_formals (with_formals 0 m.params) m.returns) m.body l) (λ b g.
    tells (omega (arith, h, g, both_conditions (base_of q) cs))))))

-- ---- declarations

abbrev declared_weight : p.Program → Declared → ℕ
declared_weight q (FieldOf x u) = 0
declared_weight q (PredicateOf d) = 0
declared_weight q (MethodOf m) = method_weight q m

methods_more : (q : p.Program) (x : Declared) (xs : List Declared) → methods_weight q (methods_in (x ∷ xs)) ≡ declared_weight q x + methods_weight q (methods_in xs)
methods_more q (FieldOf x u) xs = omega arith
methods_more q (PredicateOf d) xs = omega arith
methods_more q (MethodOf m) xs = refl

decl_weighs : (q : p.Program) (w : World) → CountsAs q w → (bodies : List (Option e.Assertion)) (a : d.Decl) →
    Tells (λ x. copied_by_decl w bodies a ≤ declared_weight q x) (decl_typing true w bodies a)
decl_weighs q w is bodies (d.Field f) = tell_so (any_told (j.field_typing f)) (λ x h. omega arith)
decl_weighs q w is bodies (d.Predicate at x params body) = tell_then (any_told (j.predicate_typing w at x params body)) (λ d h. tells (omega arith))
decl_weighs q w is bodies (d.Method m) = tell_then (method_weighs q w is bodies m) (λ x h. tells h)

decls_weigh : (q : p.Program) (w : World) → CountsAs q w → (bodies : List (Option e.Assertion)) (ds : List d.Decl) →
    Tells (λ xs. copied_by_decls w bodies ds ≤ methods_weight q (methods_in xs)) (decls_typing true w bodies ds)
decls_weigh q w is bodies [] = tells (omega arith)
decls_weigh q w is bodies (a ∷ rest) =
    tell_then (decl_weighs q w is bodies a) (λ x h. tell_then (decls_weigh q w is bodies rest) (λ xs g. tells (omega (arith, h, g, methods_more q x xs))))

-- ---- programs

counts_as : {w : World} {ds : List d.Decl} {xs : List Declared} → AreNamed no_world ds w → AreDeclared w (bodies_in xs) ds xs → CountsAs (assembled no_program xs) w
counts_as {w} {ds} {xs} named declared =
    let lengths = λ (qs : List p.Predicate). length qs in
    omega (
      arith,
      (described named declared).world_fields,
      ap (λ ss. length ss) (world_predicates named declared),
      length-map (predicates_in xs) signature,
      ap lengths (has_predicates no_program xs),
    )

-- what a typed file copies is no more than its program weighs
pub copied_weighs : (source : d.SourceProgram) (w : World) (xs : List Declared) → naming no_world source.decls ≡ Found w →
    decls_typing true w (bodies_of w source.decls) source.decls ≡ Found xs →
    copied_by_decls w (bodies_of w source.decls) source.decls ≤ weight (assembled no_program xs)
copied_weighs source w xs i h =
    let q = assembled no_program xs in
    let named = told (naming_told no_world source.decls) i in
    let is = counts_as named (declared_program source w xs named h) in
    omega (
      arith,
      told (decls_weigh q w is (bodies_of w source.decls) source.decls) h,
      ap (λ ms. methods_weight q ms) (has_methods no_program xs),
    )
