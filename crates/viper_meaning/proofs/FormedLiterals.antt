-- The literals of a formed program are proper, and within the bound.
use Rattle.std.proofs.Common.{ℤ, List, Option, Some, None, All, IfSome, get_or}
use Rattle.vb_value.specs.Bound.{Bound, IfBounded, IsWithin}
use Rattle.vb_value.specs.Fraction.{Fraction, IsWithinFraction, IsProperFraction}
use Rattle.viper_core.specs.Expr as t
use Rattle.viper_core.specs.Formed.{predicate_context, precondition_context, postcondition_context, IsMethod, IsBody, IsTypedProgram, IsFormed}
use Rattle.viper_core.specs.Literals.{AllAssertionLiterals}
use Rattle.viper_core.specs.Program.{Program, Predicate, Method, Body}
use Rattle.viper_core.specs.Scope.{Scope}
use Rattle.viper_core.specs.Stmt as s
use Rattle.viper_core.specs.Typing.{Context, IsAssertion, MethodContext, inside, IsStmt, declares, initial, assigns, writes, creates, calls, inhales, exhales, asserts, folds, unfolds, branches, loops, AreStmts, ends, goes_on}
use Rattle.viper_core.proofs.LiteralLaws.{HoldsOfLiterals, typed_literals, exprs_literals, assertion_literals, literals_proper, literals_within}
use Rattle.viper_meaning.specs.StatementLiterals.{AllStmtLiterals, AllStmtsLiterals, AllBodyLiterals, AllMethodLiterals, AllProgramLiterals, IsProperProgram, IsWithinProgram}

module _ (I : ℤ → Type 0) (F : Fraction → Type 0) (z : HoldsOfLiterals I F) where
  clauses_have : (c : Context) → IsTypedProgram c.program → (clauses : List t.Assertion) → All (IsAssertion c) clauses → All (AllAssertionLiterals I F) clauses
  clauses_have c h clauses all k x within = assertion_literals I F z c h (all k x within)

  mutual
    stmt_has : {m : MethodContext} {sc : Scope} {a : s.Stmt} → IsTypedProgram m.program → IsStmt m sc a → AllStmtLiterals I F a
    stmt_has h (declares x u) = tt
    stmt_has {m} {sc} h (initial x u e) = typed_literals I F z (inside m sc) h e
    stmt_has {m} {sc} h (assigns x e) = typed_literals I F z (inside m sc) h e
    stmt_has {m} {sc} h (writes e f d) = (typed_literals I F z (inside m sc) h e, typed_literals I F z (inside m sc) h d)
    stmt_has h (creates x fields refs) = tt
    stmt_has {m} {sc} h (calls callee exists args xs) = exprs_literals I F z (inside m sc) h args
    stmt_has {m} {sc} h (inhales a) = assertion_literals I F z (inside m sc) h a
    stmt_has {m} {sc} h (exhales a) = assertion_literals I F z (inside m sc) h a
    stmt_has {m} {sc} h (asserts a) = assertion_literals I F z (inside m sc) h a
    stmt_has {m} {sc} h (folds f) = (exprs_literals I F z (inside m sc) h f.args, typed_literals I F z (inside m sc) h f.amount)
    stmt_has {m} {sc} h (unfolds f) = (exprs_literals I F z (inside m sc) h f.args, typed_literals I F z (inside m sc) h f.amount)
    stmt_has {m} {sc} h (branches e a b) = (typed_literals I F z (inside m sc) h e, stmts_have h a, stmts_have h b)
    stmt_has {m} {sc} h (loops {invariants = invariants} e all body targets) = (typed_literals I F z (inside m sc) h e, clauses_have (inside m sc) h invariants all, stmts_have h body)

    stmts_have : {m : MethodContext} {sc : Scope} {xs : s.Stmts} → IsTypedProgram m.program → AreStmts m sc xs → AllStmtsLiterals I F xs
    stmts_have h ends = tt
    stmts_have h (goes_on a rest) = (stmt_has h a, stmts_have h rest)

  predicate_has : (p : Program) → IsTypedProgram p → (d : Predicate) (o : Option t.Assertion) → IfSome o (IsAssertion (predicate_context p d)) → IfSome o (AllAssertionLiterals I F)
  predicate_has p h d (Some a) i = assertion_literals I F z (predicate_context p d) h i
  predicate_has p h d None i = tt

  body_has : (p : Program) → IsTypedProgram p → (m : Method) (o : Option Body) → IfSome o (IsBody p m) → IfSome o (AllBodyLiterals I F)
  body_has p h m (Some body) i = record { stmts = stmts_have h i.stmts }
  body_has p h m None i = tt

  method_has : (p : Program) → IsTypedProgram p → (m : Method) → IsMethod p m → AllMethodLiterals I F m
  method_has p h m i = record {
    preconditions = clauses_have (precondition_context p m) h m.preconditions i.preconditions;
    postconditions = clauses_have (postcondition_context p m) h m.postconditions i.postconditions;
    body = body_has p h m m.body i.body;
  }

  program_has : (p : Program) → IsTypedProgram p → AllProgramLiterals I F p
  program_has p h = record {
    predicates = λ k d within. predicate_has p h (get_or p.predicates k d) (get_or p.predicates k d).body (h.predicates k d within).body;
    methods = λ k m within. method_has p h (get_or p.methods k m) (h.methods k m within);
  }

pub program_proper : (b : Bound) (p : Program) → IsFormed p → IsProperProgram b p
program_proper b p h = program_has (λ n. IfBounded b (IsWithin n)) (IsProperFraction b) (literals_proper b) p h.typed

pub program_within : (p : Program) → IsFormed p → IsWithinProgram p
program_within p h = program_has IsWithin IsWithinFraction literals_within p h.typed
