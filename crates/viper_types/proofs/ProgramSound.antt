-- What the typing of a file finds, the file is.
use Rattle.std.proofs.Common.{◌≡◌, Bool, true, false, not, ◌||◌, Option, Some, None, List, [], ◌∷◌, is_some, refl, subst}
use Rattle.vb_base.specs.declared.places.Pos.{Pos}
use Rattle.vb_value.specs.Value.{same_type}
use Rattle.vb_value.specs.declared.values.Ty.TheVariants as ty
use Rattle.viper_core.specs.Expr as e
use Rattle.viper_core.specs.Program as p
use Rattle.viper_syntax.specs.Term as t
use Rattle.viper_syntax.specs.Stmt as s
use Rattle.viper_syntax.specs.Decl as d
use Rattle.viper_syntax.specs.declared.stmts.Named.{Named}
use Rattle.viper_syntax.specs.declared.stmts.Formal.{Formal}
use Rattle.viper_syntax.specs.declared.tokens.Word.{Word}
use Rattle.viper_syntax.specs.declared.tokens.Word.TheVariants as word
use Rattle.viper_scope.specs.declared.rules.Rule.TheVariants as rule
use Rattle.viper_scope.specs.declared.context.UnitPart.{UnitPart}
use Rattle.viper_scope.specs.declared.context.UnitPart.TheVariants as part
use Rattle.viper_scope.specs.Outcome.{Judged, Found, Broken, then_typed, then_more}
use Rattle.viper_scope.specs.Context.{World, Context, Signature, find}
use Rattle.viper_scope.specs.Scope.{VariableScope}
use Rattle.viper_scope.specs.Types.{type_of, declared_type}
use Rattle.viper_types.specs.Frame.{MethodVariables, with_variable}
use Rattle.viper_types.specs.Declaring as j
use Rattle.viper_scope.specs.Naming.{decl_name, no_world, with_decl, is_new, naming}
use Rattle.viper_types.specs.Declaring.{no_frame, formals, body_context, context_in, Declared, PredicateOf, found_body, bodies_of, decls_typing, predicate_typing, program_typing}
use Rattle.viper_types.specs.Program as r
use Rattle.viper_types.specs.Program.{AreNamed, no_names, one_name, AreFormals, no_formals, one_formal, IsPredicateBody, no_body, body_of, IsPredicate, predicate_of, IsClause, requires_of, ensures_of, AreClauses, no_clauses, one_clause, IsMethodBody, no_block, block_of, IsMethod, method_of, IsDeclared, AreDeclared, no_decls, one_decl, bodies_in, IsProgram, program_of}
use Rattle.viper_types.proofs.Tells.{Tells, tells, broken, tell_then, tell_so, tell_obeys, none_is, told}
use Rattle.viper_types.proofs.TermSound.{HasBodies}
use Rattle.viper_types.proofs.AssertionLaws.{asserting_told}
use Rattle.viper_types.proofs.StmtSound.{is_type, blocking_told}
use Rattle.viper_types.proofs.ProgramFinds.{bodies_found}
use Rattle.viper_types.proofs.BodyLaws.{signatures, Bodied, no_bodies, one_body, has_bodies, body_has_none}

pub naming_told : (w : World) (ds : List d.Decl) → Tells (AreNamed w ds) (naming w ds)
naming_told w [] = tells no_names
naming_told w (a ∷ rest) =
    tell_obeys (is_new w a) (decl_name a).pos rule.DeclaredTwice (λ i. tell_so (naming_told (with_decl w a) rest) (λ v h. one_name (none_is _ i) h))

formals_told : (allows_perm is_parameter : Bool) (fr : MethodVariables) (fs : List Formal) →
    Tells (AreFormals allows_perm is_parameter fr fs) (formals allows_perm is_parameter fr fs)
formals_told allows_perm is_parameter fr [] = tells no_formals
formals_told allows_perm is_parameter fr (f ∷ fs) =
    tell_obeys (not (is_some (find fr.scope f.name.name))) f.name.pos rule.DeclaredTwice (λ i. tell_obeys (is_some (type_of f.ty)) f.name.pos rule.WrongType (λ k.
    tell_obeys (allows_perm || not (same_type (declared_type f) ty.Perm)) f.name.pos rule.PermParameter (λ l.
    tell_so (formals_told allows_perm is_parameter (with_variable fr f.name.name (declared_type f) is_parameter) fs) (λ gr h.
    one_formal {u = declared_type f} (none_is _ i) (is_type _ k) l h))))

-- predicates

predicate_body_told : (w : World) (sc : VariableScope) (body : Option t.Term) → Tells (IsPredicateBody w sc body) (j.predicate_body w sc body)
predicate_body_told w sc None = tells no_body
predicate_body_told w sc (Some a) = tell_then (asserting_told (body_context w) (body_has_none w) sc a) (λ x h. tells (body_of h))

predicate_told : (w : World) (at : Pos) (x : Named) (params : List Formal) (body : Option t.Term) →
    Tells (IsPredicate w at x params body) (predicate_typing w at x params body)
predicate_told w at x params body =
    tell_then (formals_told false true no_frame params) (λ fr h. tell_then (predicate_body_told w fr.scope body) (λ b g. tells (predicate_of h g)))

body_is_some : {w : World} {sc : VariableScope} {a : Option t.Term} {b : Option e.Assertion} → IsPredicateBody w sc a b → is_some a ≡ is_some b
body_is_some no_body = refl
body_is_some (body_of h) = refl

has_body_of : {w : World} {at : Pos} {x : Named} {params : List Formal} {body : Option t.Term} {q : p.Predicate} →
    IsPredicate w at x params body q → is_some body ≡ is_some q.body
has_body_of (predicate_of h g) = body_is_some g

tell_itself : {X : Type 0} (j : Judged X) → Tells (λ x. j ≡ Found x) j
tell_itself (Found x) = tells refl
tell_itself (Broken p r) = broken

predicate_first : {s : Signature} (j : Judged p.Predicate) {js : Judged (List Declared)} {ss : List Signature} {bs : List (Option e.Assertion)} →
    ((q : p.Predicate) → j ≡ Found q → s.has_body ≡ is_some q.body) → Tells (λ xs. Bodied ss bs) js →
    Tells (λ xs. Bodied (s ∷ ss) (found_body j ∷ bs)) (then_more (then_typed j (λ q. Found (PredicateOf q))) js)
predicate_first (Found q) h g = tell_then g (λ xs i. tells (one_body (h q refl) i))
predicate_first (Broken at r) h g = broken

-- where all declarations are typed, the bodies of the predicates are there
bodies_told : (w : World) (bodies : List (Option e.Assertion)) (ds : List d.Decl) →
    Tells (λ xs. Bodied (signatures ds) (bodies_of w ds)) (decls_typing true w bodies ds)
bodies_told w bodies [] = tells no_bodies
bodies_told w bodies (d.Field f ∷ rest) = tell_then (tell_itself (j.field_typing f)) (λ x i. tell_then (bodies_told w bodies rest) (λ xs h. tells h))
bodies_told w bodies (d.Predicate at x params body ∷ rest) =
    predicate_first (predicate_typing w at x params body) (λ q i. has_body_of (told (predicate_told w at x params body) i)) (bodies_told w bodies rest)
bodies_told w bodies (d.Method m ∷ rest) =
    tell_then (tell_itself (j.decl_typing true w bodies (d.Method m))) (λ x i. tell_then (bodies_told w bodies rest) (λ xs h. tells h))

-- methods

clause_told : (w : World) (bodies : List (Option e.Assertion)) → ((u : UnitPart) → HasBodies (context_in w bodies u)) →
    (params all : VariableScope) (u : Word) (a : t.Term) →
    Tells (IsClause w bodies params all (record { word = u; term = a })) (j.clause_of w bodies params all u a)
clause_told w bodies b params all word.Requires a =
    tell_then (asserting_told (context_in w bodies part.Precondition) (b part.Precondition) params a) (λ x h. tells (requires_of h))
clause_told w bodies b params all word.Ensures a =
    tell_then (asserting_told (context_in w bodies part.Elsewhere) (b part.Elsewhere) all a) (λ x h. tells (ensures_of h))
clause_told w bodies b params all _ a = broken

clauses_told : (w : World) (bodies : List (Option e.Assertion)) → ((u : UnitPart) → HasBodies (context_in w bodies u)) →
    (params all : VariableScope) (ds : List d.SClause) →
    Tells (AreClauses w bodies params all ds) (j.clauses w bodies params all ds)
clauses_told w bodies b params all [] = tells no_clauses
clauses_told w bodies b params all (a ∷ rest) =
    tell_then (clause_told w bodies b params all a.word a.term) (λ x h. tell_then (clauses_told w bodies b params all rest) (λ xs g. tells (one_clause h g)))

method_body_told : (k : Context) → HasBodies k → (fr : MethodVariables) (body : Option s.SBlock) → Tells (IsMethodBody k fr body) (j.method_body true k fr body)
method_body_told k b fr None = tells no_block
method_body_told k b fr (Some body) = tell_then (blocking_told k b 1 fr body) (λ ss h. tells (block_of h))

method_told : (w : World) (bodies : List (Option e.Assertion)) → ((u : UnitPart) → HasBodies (context_in w bodies u)) → (m : d.SMethod) →
    Tells (IsMethod w bodies m) (j.method_typing true w bodies m)
method_told w bodies b m =
    tell_then (formals_told true true no_frame m.params) (λ ps h. tell_then (formals_told true false ps m.returns) (λ fr g.
    tell_then (clauses_told w bodies b ps.scope fr.scope m.clauses) (λ cs i. tell_then (method_body_told (context_in w bodies part.Elsewhere) (b part.Elsewhere) fr m.body) (λ y k.
    tells (method_of h g i k)))))

-- programs

decl_told : (w : World) (bodies : List (Option e.Assertion)) → ((u : UnitPart) → HasBodies (context_in w bodies u)) → (a : d.Decl) →
    Tells (IsDeclared w bodies a) (j.decl_typing true w bodies a)
decl_told w bodies b (d.Field f) = tell_obeys (is_some (type_of f.ty)) f.name.pos rule.WrongType (λ i. tells (r.field (is_type _ i)))
decl_told w bodies b (d.Predicate at x params body) = tell_then (predicate_told w at x params body) (λ q h. tells (r.predicate h))
decl_told w bodies b (d.Method m) = tell_then (method_told w bodies b m) (λ q h. tells (r.method h))

decls_told : (w : World) (bodies : List (Option e.Assertion)) → ((u : UnitPart) → HasBodies (context_in w bodies u)) → (ds : List d.Decl) →
    Tells (AreDeclared w bodies ds) (decls_typing true w bodies ds)
decls_told w bodies b [] = tells no_decls
decls_told w bodies b (a ∷ rest) = tell_then (decl_told w bodies b a) (λ x h. tell_then (decls_told w bodies b rest) (λ xs g. tells (one_decl h g)))

pub declared_program : (source : d.SourceProgram) (w : World) (xs : List Declared) → AreNamed no_world source.decls w →
    decls_typing true w (bodies_of w source.decls) source.decls ≡ Found xs →
    AreDeclared w (bodies_in xs) source.decls xs
declared_program source w xs h i =
    let bodied = told (bodies_told w (bodies_of w source.decls) source.decls) i in
    let declared = told (decls_told w (bodies_of w source.decls) (λ u. has_bodies w source.decls (bodies_of w source.decls) u h bodied) source.decls) i in
    subst (λ bs. AreDeclared w bs source.decls xs) (bodies_found declared) declared

pub program_told : (source : d.SourceProgram) → Tells (IsProgram source) (program_typing source)
program_told source =
    tell_then (naming_told no_world source.decls) (λ w h. tell_then (tell_itself (decls_typing true w (bodies_of w source.decls) source.decls)) (λ xs i.
    tells (program_of h (declared_program source w xs h i))))
