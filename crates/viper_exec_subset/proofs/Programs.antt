-- The program of a text without `wildcard`, `inhale` and `assume` has none of them in its methods.
use Rattle.std.specs.Prelude.{Bool, true, false, Option, List, All, IfSome}
use Rattle.std.proofs.Common.{sym, subst}
use Rattle.std.specs.List.{AllByRecursion}
use Rattle.std.proofs.lemmas.List.Elements.{All-nil, All-cons, All-from_recursion}
use Rattle.viper_core.specs.Expr as e
use Rattle.viper_core.specs.Program as p
use Rattle.viper_core.specs.Written.{HasNoWildcard}
use Rattle.viper_syntax.specs.Decl as d
use Rattle.viper_syntax.specs.Stmt as s
use Rattle.viper_scope.specs.Context.{World, Context}
use Rattle.viper_scope.specs.Scope.{VariableScope}
use Rattle.viper_types.specs.Frame.{MethodVariables}
use Rattle.viper_types.specs.Declaring.{Declared, conditions, no_program}
use Rattle.viper_types.specs.Program as r
use Rattle.viper_types.specs.Program.{requires_of, ensures_of, AreClauses, no_clauses, one_clause, IsMethodBody, no_block, block_of, IsMethod, method_of, AreDeclared, no_decls, one_decl, IsProgram, program_of}
use Rattle.viper_types.proofs.Assembled.{methods_in, has_methods}
use Rattle.viper_exec_meaning.specs.Frame.{IsFramedBody, IsFramedMethod, IsFramedProgram}
use Rattle.viper_exec_subset.specs.Texts.{TextsAreFramed}
use Rattle.viper_exec_subset.proofs.Framed.{IsFramedBlock, IsFramedClause, IsFramedDecl}
use Rattle.viper_exec_subset.proofs.Spelled.{spelled}
use Rattle.viper_exec_subset.proofs.Terms.{asserts_written}
use Rattle.viper_exec_subset.proofs.Statements.{block_framed}

preconditions_written : {w : World} {bodies : List (Option e.Assertion)} {params all : VariableScope} {cs : List d.SClause} {xs : List (Bool × e.Assertion)} →
    AreClauses w bodies params all cs xs → AllByRecursion IsFramedClause cs → All HasNoWildcard (conditions true xs)
preconditions_written no_clauses i = All-nil HasNoWildcard
preconditions_written (one_clause {xs = xs} (requires_of {x = x} h) hs) i =
    All-cons HasNoWildcard x (conditions true xs) (asserts_written h i.0) (preconditions_written hs i.1)
preconditions_written (one_clause (ensures_of h) hs) i = preconditions_written hs i.1

postconditions_written : {w : World} {bodies : List (Option e.Assertion)} {params all : VariableScope} {cs : List d.SClause} {xs : List (Bool × e.Assertion)} →
    AreClauses w bodies params all cs xs → AllByRecursion IsFramedClause cs → All HasNoWildcard (conditions false xs)
postconditions_written no_clauses i = All-nil HasNoWildcard
postconditions_written (one_clause (requires_of h) hs) i = postconditions_written hs i.1
postconditions_written (one_clause {xs = xs} (ensures_of {x = x} h) hs) i =
    All-cons HasNoWildcard x (conditions false xs) (asserts_written h i.0) (postconditions_written hs i.1)

body_framed : {k : Context} {fr : MethodVariables} {b : Option s.SBlock} {x : Option p.Body} → IsMethodBody k fr b x → IfSome b IsFramedBlock → IfSome x IsFramedBody
body_framed no_block i = tt
body_framed (block_of h) i = record { stmts = block_framed h i }

method_framed : {w : World} {bodies : List (Option e.Assertion)} {m : d.SMethod} {q : p.Method} → IsMethod w bodies m q → IsFramedDecl (d.Method m) → IsFramedMethod q
method_framed (method_of params returns clauses body) i =
    record { preconditions = preconditions_written clauses i.0; postconditions = postconditions_written clauses i.0; body = body_framed body i.1 }

methods_framed : {w : World} {bodies : List (Option e.Assertion)} {ds : List d.Decl} {xs : List Declared} → AreDeclared w bodies ds xs → AllByRecursion IsFramedDecl ds →
    AllByRecursion IsFramedMethod (methods_in xs)
methods_framed no_decls i = tt
methods_framed (one_decl (r.field is) hs) i = methods_framed hs i.1
methods_framed (one_decl (r.predicate h) hs) i = methods_framed hs i.1
methods_framed (one_decl (r.method h) hs) i = (method_framed h i.0, methods_framed hs i.1)

program_framed : {source : d.SourceProgram} {q : p.Program} → IsProgram source q → AllByRecursion IsFramedDecl source.decls → IsFramedProgram q
program_framed (program_of {xs = xs} named h) i =
    record {
      methods =
          subst (λ ms. All IsFramedMethod ms) (sym (has_methods no_program xs))
          (All-from_recursion IsFramedMethod (methods_in xs) (methods_framed h i));
    }

pub texts_are_framed : TextsAreFramed
texts_are_framed tokens source program none spells is = program_framed is (spelled none spells)
