-- The walk through a file: what it is, or the first rule that it breaks. First the names of the shared space are gone through,
-- and then the declarations from first to last, each from left to right. Which program a file is, without any order, is said by
-- the judgement in `Program`.
use Rattle.viper_scope.specs.declared.rules.Rule.TheVariants as rule
use Rattle.viper_scope.specs.Naming.{no_world, naming}
use Rattle.std.specs.Prelude.{ℕ, Bool, true, false, not, ◌||◌, Option, Some, None, List, [], ◌∷◌, ◌++◌, length, map, is_some, if◌then◌else◌}
use Rattle.vb_base.specs.declared.places.Pos.{Pos}
use Rattle.vb_value.specs.Value.{same_type}
use Rattle.vb_value.specs.declared.values.Ty.{Ty}
use Rattle.vb_value.specs.declared.values.Ty.TheVariants as ty
use Rattle.viper_core.specs.Expr as e
use Rattle.viper_core.specs.Program as p
use Rattle.viper_core.specs.declared.programs.Unit as unit
use Rattle.viper_core.specs.declared.programs.Unit.TheVariants as one
use Rattle.viper_syntax.specs.Term as t
use Rattle.viper_syntax.specs.Stmt as s
use Rattle.viper_syntax.specs.Decl as d
use Rattle.viper_syntax.specs.declared.stmts.Named.{Named}
use Rattle.viper_syntax.specs.declared.stmts.Formal.{Formal}
use Rattle.viper_syntax.specs.declared.tokens.Word.{Word}
use Rattle.viper_syntax.specs.declared.tokens.Word.TheVariants as word
use Rattle.viper_scope.specs.declared.context.UnitPart as part_type
use Rattle.viper_scope.specs.declared.context.UnitPart.TheVariants as part
use Rattle.viper_scope.specs.Outcome.{Judged, Found, Broken, then_typed, obeys, then_more}
use Rattle.viper_scope.specs.Context.{World, Context, find}
use Rattle.viper_scope.specs.Scope.{VariableScope}
use Rattle.viper_scope.specs.Arguments.{start}
use Rattle.viper_types.specs.Typing.{asserting}
use Rattle.viper_scope.specs.Types.{type_of, declared_type}
use Rattle.viper_types.specs.Frame.{MethodVariables, with_variable, declared_in_block}
use Rattle.viper_types.specs.Stepping.{blocking, opening_of}

-- formals

abbrev pub no_frame : MethodVariables
no_frame = record { vars = []; scope = [] }

-- a formal: its name is new (2), its word is a type (3), and it is a Perm only where that is allowed (13)
abbrev pub formal : Bool → MethodVariables → Formal → Judged MethodVariables → Judged MethodVariables
formal allows_perm fr f go =
    obeys (not (is_some (find fr.scope f.name.name))) f.name.pos rule.DeclaredTwice (obeys (is_some (type_of f.ty)) f.name.pos rule.WrongType (
    obeys (allows_perm || not (same_type (declared_type f) ty.Perm)) f.name.pos rule.PermParameter go))

-- formals in order, as parameters or as returns
abbrev pub formals : Bool → Bool → MethodVariables → List Formal → Judged MethodVariables
formals allows_perm is_parameter fr [] = Found fr
formals allows_perm is_parameter fr (f ∷ fs) = formal allows_perm fr f (formals allows_perm is_parameter (with_variable fr f.name.name (declared_type f) is_parameter) fs)

abbrev pub name_of : Formal → List ℕ
name_of f = f.name.name

-- predicates

-- a predicate's body sees no bodies: it holds no `unfolding`
abbrev pub body_context : World → Context
body_context w = record { world = w; bodies = []; part = part.Body }

abbrev pub predicate_body : World → VariableScope → Option t.Term → Judged (Option e.Assertion)
predicate_body w sc None = Found None
predicate_body w sc (Some a) = then_typed (asserting (body_context w) sc a) (λ x. Found (Some x))

abbrev pub predicate_typing : World → Pos → Named → List Formal → Option t.Term → Judged p.Predicate
predicate_typing w at x params body =
    then_typed (formals false true no_frame params) (λ fr. then_typed (predicate_body w fr.scope body) (λ b.
    Found (record { name = x.name; at = at; names = map name_of params; params = map declared_type params; body = b })))

-- methods

abbrev pub context_in : World → List (Option e.Assertion) → part_type.UnitPart → Context
context_in w bodies u = record { world = w; bodies = bodies; part = u }

-- a clause, with whether it is a precondition. The first scope has the parameters alone.
abbrev pub clause_of : World → List (Option e.Assertion) → VariableScope → VariableScope → Word → t.Term → Judged (Bool × e.Assertion)
clause_of w bodies params all word.Requires a = then_typed (asserting (context_in w bodies part.Precondition) params a) (λ x. Found (true, x))
clause_of w bodies params all word.Ensures a = then_typed (asserting (context_in w bodies part.Elsewhere) all a) (λ x. Found (false, x))
clause_of w bodies params all _ a = Broken (start a) rule.WrongType

abbrev pub clauses : World → List (Option e.Assertion) → VariableScope → VariableScope → List d.SClause → Judged (List (Bool × e.Assertion))
clauses w bodies params all [] = Found []
clauses w bodies params all (a ∷ rest) = then_more (clause_of w bodies params all a.word a.term) (clauses w bodies params all rest)

-- the preconditions, or the postconditions, in order
abbrev pub conditions : Bool → List (Bool × e.Assertion) → List e.Assertion
conditions before [] = []
conditions true (a ∷ rest) = if a.0 then a.1 ∷ conditions true rest else conditions true rest
conditions false (a ∷ rest) = if a.0 then conditions false rest else a.1 ∷ conditions false rest

abbrev pub method_body : Bool → Context → MethodVariables → Option s.SBlock → Judged (Option p.Body)
method_body lists k fr None = Found None
method_body lists k fr (Some b) = then_typed (blocking lists k 1 fr b) (λ ss. Found (Some (record { turn = opening_of b; stmts = ss })))

abbrev pub locals : Option s.SBlock → List Ty
locals None = []
locals (Some b) = declared_in_block b

-- a method with these variables of its heading, these clauses and this body. The variables of its body come last.
abbrev pub method_from : d.SMethod → MethodVariables → List (Bool × e.Assertion) → Option p.Body → p.Method
method_from m fr cs b =
    record {
      name = m.name.name;
      at = m.at;
      name_at = m.name.pos;
      names = map name_of m.params ++ map name_of m.returns;
      params = length m.params;
      returns = length m.returns;
      vars = fr.vars ++ locals m.body;
      preconditions = conditions true cs;
      postconditions = conditions false cs;
      body = b;
    }

abbrev pub method_typing : Bool → World → List (Option e.Assertion) → d.SMethod → Judged p.Method
method_typing lists w bodies m =
    then_typed (formals true true no_frame m.params) (λ ps. then_typed (formals true false ps m.returns) (λ fr.
    then_typed (clauses w bodies ps.scope fr.scope m.clauses) (λ cs. then_typed (method_body lists (context_in w bodies part.Elsewhere) fr m.body) (λ b.
    Found (method_from m fr cs b)))))

-- programs

-- a typed declaration
pub data Declared : Type 0 where
  FieldOf : List ℕ → Ty → Declared
  PredicateOf : p.Predicate → Declared
  MethodOf : p.Method → Declared

abbrev pub field_typing : Formal → Judged Declared
field_typing f = obeys (is_some (type_of f.ty)) f.name.pos rule.WrongType (Found (FieldOf f.name.name (declared_type f)))

abbrev pub decl_typing : Bool → World → List (Option e.Assertion) → d.Decl → Judged Declared
decl_typing lists w bodies (d.Field f) = field_typing f
decl_typing lists w bodies (d.Predicate at x params body) = then_typed (predicate_typing w at x params body) (λ q. Found (PredicateOf q))
decl_typing lists w bodies (d.Method m) = then_typed (method_typing lists w bodies m) (λ q. Found (MethodOf q))

abbrev pub decls_typing : Bool → World → List (Option e.Assertion) → List d.Decl → Judged (List Declared)
decls_typing lists w bodies [] = Found []
decls_typing lists w bodies (a ∷ rest) = then_more (decl_typing lists w bodies a) (decls_typing lists w bodies rest)

-- the body of a predicate, and none where it breaks a rule
abbrev pub found_body : Judged p.Predicate → Option e.Assertion
found_body (Found q) = q.body
found_body (Broken at r) = None

-- the bodies of the predicates, in order
abbrev pub bodies_of : World → List d.Decl → List (Option e.Assertion)
bodies_of w [] = []
bodies_of w (d.Field f ∷ rest) = bodies_of w rest
bodies_of w (d.Predicate at x params body ∷ rest) = found_body (predicate_typing w at x params body) ∷ bodies_of w rest
bodies_of w (d.Method m ∷ rest) = bodies_of w rest

-- a program, one declaration after the other

abbrev pub no_program : p.Program
no_program = record { fields = []; layout = record { fields = []; keys = [] }; predicates = []; methods = []; units = [] }

-- a predicate with a body is a unit
abbrev pub predicate_units : p.Predicate → ℕ → List unit.Unit
predicate_units q n = if is_some q.body then one.Predicate n ∷ [] else []

abbrev pub with_declared : p.Program → Declared → p.Program
with_declared g (FieldOf x u) = record g { fields = g.fields ++ x ∷ []; layout = record { fields = g.layout.fields ++ u ∷ []; keys = g.layout.keys } }
with_declared g (PredicateOf q) = record g {
  layout = record { fields = g.layout.fields; keys = g.layout.keys ++ q.params ∷ [] };
  predicates = g.predicates ++ q ∷ [];
  units = g.units ++ predicate_units q (length g.predicates);
}
with_declared g (MethodOf m) = record g { methods = g.methods ++ m ∷ []; units = g.units ++ one.Method (length g.methods) ∷ [] }

abbrev pub assembled : p.Program → List Declared → p.Program
assembled g [] = g
assembled g (x ∷ xs) = assembled (with_declared g x) xs

-- a file is this program, or breaks this rule first
abbrev pub program_typing : d.SourceProgram → Judged p.Program
program_typing source =
    then_typed (naming no_world source.decls) (λ w. then_typed (decls_typing true w (bodies_of w source.decls) source.decls) (λ xs.
    Found (assembled no_program xs)))
