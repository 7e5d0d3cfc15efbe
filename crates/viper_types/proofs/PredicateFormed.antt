-- A typed predicate is one of a formed program.
use Rattle.std.proofs.Common.{◌≡◌, ◌≢◌, ◌∙◌, ℕ, ◌<◌, ◌≤◌, ◌^◌, true, false, Option, List, [], ◌∷◌, All, IsTrue, length, map, refl, sym, ap, subst, arith, append-nil}
use Rattle.std.specs.Option.{IfSome}
use Rattle.std.proofs.lemmas.List.{length-map}
use Rattle.std.proofs.lemmas.List.Elements.{All-from_recursion, All-head, All-tail}
use Rattle.vb_base.specs.Limits.{max_term_depth}
use Rattle.vb_base.specs.Names.{is_viper_name, NamesDiffer}
use Rattle.vb_base.specs.declared.places.Pos.{Pos}
use Rattle.vb_value.specs.declared.values.Ty.TheVariants as ty
use Rattle.viper_core.specs.Depth.{assertion_depth}
use Rattle.viper_core.specs.Expr as e
use Rattle.viper_core.specs.Formed as g
use Rattle.viper_core.specs.Formed.{below, predicate_context}
use Rattle.viper_core.specs.Program as p
use Rattle.viper_core.specs.Typing as c
use Rattle.viper_core.specs.Typing.{IsAssertion}
use Rattle.viper_syntax.specs.Decl as d
use Rattle.viper_syntax.specs.Term as t
use Rattle.viper_syntax.specs.declared.stmts.Named.{Named}
use Rattle.viper_syntax.specs.declared.stmts.Formal.{Formal}
use Rattle.viper_scope.specs.Context.{World}
use Rattle.viper_scope.specs.Types.{declared_type}
use Rattle.viper_types.specs.Frame.{MethodVariables}
use Rattle.viper_syntax.specs.Good.{HasLiterals, option_terms, decl_terms, decl_names}
use Rattle.viper_scope.specs.Scope.{VariableScope}
use Rattle.viper_types.specs.Declaring.{no_frame, name_of, body_context}
use Rattle.viper_types.specs.Program.{AreFormals, IsPredicateBody, no_body, body_of, IsPredicate, predicate_of}
use Rattle.viper_types.proofs.TermTypes.{Describes, Resolves, is_assertion}
use Rattle.viper_types.proofs.TermDepth as depths
use Rattle.viper_types.proofs.GoodLists.{IsShallow}
use Rattle.viper_types.proofs.NamesApart.{Apart, differ_from_apart, formals_apart}
use Rattle.viper_types.proofs.FormalScopes.{formals_vars, formals_numbers, formals_are_variables, formals_no_perm, names_resolve, extends_itself}

abbrev pub IsName : List ℕ → Type 0
IsName x = IsTrue (is_viper_name x)

-- what the parser promises, of one declaration
pub record IsGoodDecl (a : d.Decl) : Type 0 where
  pub shallow : All IsShallow (decl_terms a)
  pub literals : All HasLiterals (decl_terms a)
  pub names : All IsName (decl_names a)
  pub few : length (decl_names a) < 2 ^ 32

-- the bodies of predicates hold no `unfolding`
without_bodies : (w : World) (bodies : List (Option e.Assertion)) (q : p.Program) → Describes w bodies q → Describes w [] q
without_bodies w bodies q z = record {
  field = z.field;
  predicate = z.predicate;
  method = z.method;
  body = λ n b found i. absurd (cc);
  world_fields = z.world_fields;
  layout_fields = z.layout_fields;
}

predicate_names : {fr : MethodVariables} (params : List Formal) → AreFormals false true no_frame params fr → NamesDiffer (map name_of params)
predicate_names params h =
    differ_from_apart (map name_of params) (subst Apart (append-nil (map name_of params)) (formals_apart [] h tt tt).1)

body_is_assertion : {w : World} {sc : VariableScope} {ctx : c.Context} {body : Option t.Term} {b : Option e.Assertion} → Resolves (body_context w) sc ctx →
    IsPredicateBody w sc body b → All HasLiterals (option_terms (λ a. a ∷ []) body) →
    IfSome b (IsAssertion ctx)
body_is_assertion z no_body l = tt
body_is_assertion z (body_of {a = a} h) l = is_assertion z h (All-head HasLiterals a [] l)

body_is_shallow : {w : World} {sc : VariableScope} {body : Option t.Term} {b : Option e.Assertion} → IsPredicateBody w sc body b →
    All IsShallow (option_terms (λ a. a ∷ []) body) →
    IfSome b (λ a. assertion_depth a ≤ max_term_depth)
body_is_shallow no_body l = tt
body_is_shallow (body_of {a = a} h) l = omega (arith, depths.assertion_depth h, All-head IsShallow a [] l)

pub predicate_is_formed : (w : World) (bodies : List (Option e.Assertion)) (q : p.Program) {at : Pos} {x : Named} {params : List Formal}
    {body : Option t.Term} {one : p.Predicate} → Describes w bodies q → IsPredicate w at x params body one → IsGoodDecl (d.Predicate at x params body) →
    g.IsPredicate q one
predicate_is_formed w bodies q {at = at} {x = x} {params = params} z (predicate_of {fr = fr} {b = b} h i) good =
    let types = map declared_type params in
    let one : p.Predicate = record { name = x.name; at = at; names = map name_of params; params = types; body = b } in
    let vars : fr.vars ≡ types = formals_vars h in
    let names = names_resolve 0 (body_context w) fr (predicate_context q one) (without_bodies w bodies q z) (formals_are_variables 0 h (λ j. omega arith) tt)
    (formals_numbers h refl ∙ ap (λ us. below (length us)) vars) (extends_itself fr.vars types vars) (λ j. absurd (cc)) (λ j. absurd (cc)) in
    record {
      names = record { names = All-tail IsName x.name (map name_of params) good.names; differ = predicate_names params h };
      as_many = length-map params name_of ∙ sym (length-map params declared_type);
      few = omega (arith, good.few, length-map params name_of, length-map params declared_type);
      params = All-from_recursion (λ u. u ≢ ty.Perm) types (formals_no_perm h);
      body = body_is_assertion names i good.literals;
      nested = body_is_shallow i good.shallow;
    }
