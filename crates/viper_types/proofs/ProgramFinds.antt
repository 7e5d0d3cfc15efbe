-- What a file is, its typing finds.
use Rattle.std.proofs.Common.{true, ◌≡◌, Bool, Option, List, refl}
use Rattle.vb_base.specs.declared.places.Pos.{Pos}
use Rattle.viper_core.specs.Expr as e
use Rattle.viper_core.specs.Program as p
use Rattle.viper_syntax.specs.Term as t
use Rattle.viper_syntax.specs.Stmt as s
use Rattle.viper_syntax.specs.Decl as d
use Rattle.viper_syntax.specs.declared.stmts.Named.{Named}
use Rattle.viper_syntax.specs.declared.stmts.Formal.{Formal}
use Rattle.viper_scope.specs.Outcome.{Found}
use Rattle.viper_scope.specs.Context.{World, Context}
use Rattle.viper_scope.specs.Scope.{VariableScope}
use Rattle.viper_types.specs.Frame.{MethodVariables}
use Rattle.viper_types.specs.Declaring as j
use Rattle.viper_scope.specs.Naming.{naming}
use Rattle.viper_types.specs.Declaring.{formals, Declared, bodies_of, decls_typing, predicate_typing, program_typing}
use Rattle.viper_types.specs.Program as r
use Rattle.viper_types.specs.Program.{AreNamed, no_names, one_name, AreFormals, no_formals, one_formal, IsPredicateBody, no_body, body_of, IsPredicate, predicate_of, IsClause, requires_of, ensures_of, AreClauses, no_clauses, one_clause, IsMethodBody, no_block, block_of, IsMethod, method_of, IsDeclared, AreDeclared, no_decls, one_decl, bodies_in, IsProgram, program_of}
use Rattle.viper_types.proofs.Tells.{one_found}
use Rattle.viper_types.proofs.AssertionLaws.{asserting_finds}
use Rattle.viper_types.proofs.StmtFinds.{blocking_finds}

naming_finds : {w v : World} {ds : List d.Decl} → AreNamed w ds v → naming w ds ≡ Found v
naming_finds no_names = refl
naming_finds (one_name i h) = rw i (naming_finds h)

formals_find : {allows_perm is_parameter : Bool} {fr gr : MethodVariables} {fs : List Formal} → AreFormals allows_perm is_parameter fr fs gr →
    formals allows_perm is_parameter fr fs ≡ Found gr
formals_find no_formals = refl
formals_find (one_formal i k l h) = rw (i, k, l) (formals_find h)

-- predicates

predicate_body_finds : {w : World} {sc : VariableScope} {a : Option t.Term} {b : Option e.Assertion} → IsPredicateBody w sc a b →
    j.predicate_body w sc a ≡ Found b
predicate_body_finds no_body = refl
predicate_body_finds (body_of h) = rw (asserting_finds h) refl

predicate_finds : {w : World} {at : Pos} {x : Named} {params : List Formal} {body : Option t.Term} {q : p.Predicate} →
    IsPredicate w at x params body q →
    predicate_typing w at x params body ≡ Found q
predicate_finds (predicate_of h g) = rw (formals_find h, predicate_body_finds g) refl

-- methods

clause_finds : {w : World} {bodies : List (Option e.Assertion)} {params all : VariableScope} {a : d.SClause} {x : Bool × e.Assertion} →
    IsClause w bodies params all a x →
    j.clause_of w bodies params all a.word a.term ≡ Found x
clause_finds (requires_of h) = rw (asserting_finds h) refl
clause_finds (ensures_of h) = rw (asserting_finds h) refl

clauses_find : {w : World} {bodies : List (Option e.Assertion)} {params all : VariableScope} {ds : List d.SClause} {xs : List (Bool × e.Assertion)} →
    AreClauses w bodies params all ds xs →
    j.clauses w bodies params all ds ≡ Found xs
clauses_find no_clauses = refl
clauses_find (one_clause h g) = rw (clause_finds h, clauses_find g) refl

method_body_finds : {k : Context} {fr : MethodVariables} {body : Option s.SBlock} {x : Option p.Body} → IsMethodBody k fr body x →
    j.method_body true k fr body ≡ Found x
method_body_finds no_block = refl
method_body_finds (block_of h) = rw (blocking_finds h) refl

method_finds : {w : World} {bodies : List (Option e.Assertion)} {m : d.SMethod} {x : p.Method} → IsMethod w bodies m x →
    j.method_typing true w bodies m ≡ Found x
method_finds (method_of h g i k) = rw (formals_find h, formals_find g, clauses_find i, method_body_finds k) refl

-- programs

decl_finds : {w : World} {bodies : List (Option e.Assertion)} {a : d.Decl} {x : Declared} → IsDeclared w bodies a x →
    j.decl_typing true w bodies a ≡ Found x
decl_finds (r.field i) = rw i refl
decl_finds (r.predicate h) = rw (predicate_finds h) refl
decl_finds (r.method h) = rw (method_finds h) refl

decls_find : {w : World} {bodies : List (Option e.Assertion)} {ds : List d.Decl} {xs : List Declared} → AreDeclared w bodies ds xs →
    decls_typing true w bodies ds ≡ Found xs
decls_find no_decls = refl
decls_find (one_decl h g) = rw (decl_finds h, decls_find g) refl

-- the bodies that are typed on the way are those of the typed predicates
pub bodies_found : {w : World} {bodies : List (Option e.Assertion)} {ds : List d.Decl} {xs : List Declared} → AreDeclared w bodies ds xs →
    bodies_of w ds ≡ bodies_in xs
bodies_found no_decls = refl
bodies_found (one_decl (r.field i) g) = bodies_found g
bodies_found (one_decl (r.predicate h) g) = rw (predicate_finds h, bodies_found g) refl
bodies_found (one_decl (r.method h) g) = bodies_found g

pub program_finds : {source : d.SourceProgram} {q : p.Program} → IsProgram source q → program_typing source ≡ Found q
program_finds (program_of h g) = rw (naming_finds h, bodies_found g, decls_find g) refl

-- a file is one program
pub one_program_of : {source : d.SourceProgram} {q r : p.Program} → IsProgram source q → IsProgram source r → q ≡ r
one_program_of h g = one_found (program_finds h) (program_finds g)
