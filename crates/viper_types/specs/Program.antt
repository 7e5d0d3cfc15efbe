-- The typing of programs (Viper tutorial, "The structure of Viper programs"): which typed program a file is.
use Rattle.std.specs.Prelude.{◌≡◌, Bool, true, false, not, ◌||◌, Option, Some, None, List, [], ◌∷◌, map}
use Rattle.vb_base.specs.declared.places.Pos.{Pos}
use Rattle.vb_value.specs.Value.{same_type}
use Rattle.vb_value.specs.declared.values.Ty.{Ty}
use Rattle.vb_value.specs.declared.values.Ty.TheVariants as ty
use Rattle.viper_core.specs.Expr as e
use Rattle.viper_core.specs.Stmt as c
use Rattle.viper_core.specs.Program as p
use Rattle.viper_syntax.specs.Term as t
use Rattle.viper_syntax.specs.Stmt as s
use Rattle.viper_syntax.specs.Decl as d
use Rattle.viper_syntax.specs.declared.stmts.Named.{Named}
use Rattle.viper_syntax.specs.declared.stmts.Formal.{Formal}
use Rattle.viper_syntax.specs.declared.tokens.Word.TheVariants as word
use Rattle.viper_scope.specs.declared.context.UnitPart.TheVariants as part
use Rattle.viper_scope.specs.Context.{World, Context, find}
use Rattle.viper_scope.specs.Scope.{VariableScope}
use Rattle.viper_types.specs.Typed.{Asserts}
use Rattle.viper_scope.specs.Types.{type_of, declared_type}
use Rattle.viper_types.specs.Frame.{MethodVariables, with_variable}
use Rattle.viper_types.specs.Stepping.{opening_of}
use Rattle.viper_types.specs.Stepped.{Blocked}
use Rattle.viper_scope.specs.Naming.{decl_name, no_world, with_decl}
use Rattle.viper_types.specs.Declaring.{no_frame, name_of, body_context, context_in, method_from, Declared, FieldOf, PredicateOf, MethodOf, no_program, assembled}

-- the names of the shared space are all different; what they stand for
pub data AreNamed : World → List d.Decl → World → Type 0 where
  no_names : {w : World} → AreNamed w [] w
  one_name : {w v : World} {a : d.Decl} {rest : List d.Decl} → find w.roles (decl_name a).name ≡ None → AreNamed (with_decl w a) rest v → AreNamed w (a ∷ rest) v

-- formals with different names, and only where they may be so of type Perm; the variables that they are
pub data AreFormals (allows_perm is_parameter : Bool) : MethodVariables → List Formal → MethodVariables → Type 0 where
  no_formals : {fr : MethodVariables} → AreFormals allows_perm is_parameter fr [] fr
  one_formal : {fr gr : MethodVariables} {f : Formal} {fs : List Formal} {u : Ty} → find fr.scope f.name.name ≡ None → type_of f.ty ≡ Some u → (allows_perm || not (same_type u ty.Perm)) ≡ true →
      AreFormals allows_perm is_parameter (with_variable fr f.name.name u is_parameter) fs gr → AreFormals allows_perm is_parameter fr (f ∷ fs) gr

-- the body of a predicate, if it has one
pub data IsPredicateBody (w : World) (sc : VariableScope) : Option t.Term → Option e.Assertion → Type 0 where
  no_body : IsPredicateBody w sc None None
  body_of : {a : t.Term} {x : e.Assertion} → Asserts (body_context w) sc a x → IsPredicateBody w sc (Some a) (Some x)

-- a predicate, whose parameters are no Perms
pub data IsPredicate (w : World) (at : Pos) (x : Named) (params : List Formal) (body : Option t.Term) : p.Predicate → Type 0 where
  predicate_of : {fr : MethodVariables} {b : Option e.Assertion} → AreFormals false true no_frame params fr → IsPredicateBody w fr.scope body b →
      IsPredicate w at x params body (record { name = x.name; at = at; names = map name_of params; params = map declared_type params; body = b })

-- a clause: a `requires` sees the parameters alone
pub data IsClause (w : World) (bodies : List (Option e.Assertion)) (params all : VariableScope) : d.SClause → Bool × e.Assertion → Type 0 where
  requires_of : {a : t.Term} {x : e.Assertion} → Asserts (context_in w bodies part.Precondition) params a x → IsClause w bodies params all (record { word = word.Requires; term = a }) (true, x)
  ensures_of : {a : t.Term} {x : e.Assertion} → Asserts (context_in w bodies part.Elsewhere) all a x → IsClause w bodies params all (record { word = word.Ensures; term = a }) (false, x)

pub data AreClauses (w : World) (bodies : List (Option e.Assertion)) (params all : VariableScope) : List d.SClause → List (Bool × e.Assertion) → Type 0 where
  no_clauses : AreClauses w bodies params all [] []
  one_clause : {a : d.SClause} {rest : List d.SClause} {x : Bool × e.Assertion} {xs : List (Bool × e.Assertion)} →
      IsClause w bodies params all a x → AreClauses w bodies params all rest xs → AreClauses w bodies params all (a ∷ rest) (x ∷ xs)

-- the body of a method, if it has one: a block of depth 1
pub data IsMethodBody (k : Context) (fr : MethodVariables) : Option s.SBlock → Option p.Body → Type 0 where
  no_block : IsMethodBody k fr None None
  block_of : {b : s.SBlock} {ss : c.Stmts} → Blocked k 1 fr b ss → IsMethodBody k fr (Some b) (Some (record { turn = opening_of b; stmts = ss }))

-- a method. Its variables are its parameters, its returns, and then the variables of its body.
pub data IsMethod (w : World) (bodies : List (Option e.Assertion)) (m : d.SMethod) : p.Method → Type 0 where
  method_of : {ps fr : MethodVariables} {cs : List (Bool × e.Assertion)} {b : Option p.Body} →
      AreFormals true true no_frame m.params ps → AreFormals true false ps m.returns fr → AreClauses w bodies ps.scope fr.scope m.clauses cs →
      IsMethodBody (context_in w bodies part.Elsewhere) fr m.body b →
      IsMethod w bodies m (method_from m fr cs b)

pub data IsDeclared (w : World) (bodies : List (Option e.Assertion)) : d.Decl → Declared → Type 0 where
  field : {f : Formal} {u : Ty} → type_of f.ty ≡ Some u → IsDeclared w bodies (d.Field f) (FieldOf f.name.name u)
  predicate : {at : Pos} {x : Named} {params : List Formal} {body : Option t.Term} {q : p.Predicate} → IsPredicate w at x params body q → IsDeclared w bodies (d.Predicate at x params body) (PredicateOf q)
  method : {m : d.SMethod} {q : p.Method} → IsMethod w bodies m q → IsDeclared w bodies (d.Method m) (MethodOf q)

pub data AreDeclared (w : World) (bodies : List (Option e.Assertion)) : List d.Decl → List Declared → Type 0 where
  no_decls : AreDeclared w bodies [] []
  one_decl : {a : d.Decl} {rest : List d.Decl} {x : Declared} {xs : List Declared} → IsDeclared w bodies a x → AreDeclared w bodies rest xs → AreDeclared w bodies (a ∷ rest) (x ∷ xs)

-- the bodies of the predicates, in order
abbrev pub bodies_in : List Declared → List (Option e.Assertion)
bodies_in [] = []
bodies_in (FieldOf x u ∷ xs) = bodies_in xs
bodies_in (PredicateOf q ∷ xs) = q.body ∷ bodies_in xs
bodies_in (MethodOf m ∷ xs) = bodies_in xs

-- a file is this program
pub data IsProgram : d.SourceProgram → p.Program → Type 0 where
  program_of : {source : d.SourceProgram} {w : World} {xs : List Declared} → AreNamed no_world source.decls w → AreDeclared w (bodies_in xs) source.decls xs →
      IsProgram source (assembled no_program xs)
