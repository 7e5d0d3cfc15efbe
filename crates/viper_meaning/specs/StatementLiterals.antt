-- The literals of statements and programs, in a run with a bound or without one.
use Rattle.std.specs.Prelude.{⊤, ℤ, Some, None, All, IfSome}
use Rattle.vb_value.specs.Bound.{Bound, IfBounded, IsWithin}
use Rattle.vb_value.specs.Fraction.{Fraction, IsWithinFraction, IsProperFraction}
use Rattle.viper_core.specs.Literals.{AllLiterals, AllExprsLiterals, AllAssertionLiterals}
use Rattle.viper_core.specs.Program.{Program, Predicate, Method, Body}
use Rattle.viper_core.specs.Stmt as s

-- each number and each permission that is a literal has its property
abbrev mutual
  pub AllStmtLiterals : (ℤ → Type 0) → (Fraction → Type 0) → s.Stmt → Type 0
  AllStmtLiterals I F (s.Var at x None) = ⊤
  AllStmtLiterals I F (s.Var at x (Some e)) = AllLiterals I F e
  AllStmtLiterals I F (s.Assign at x e) = AllLiterals I F e
  AllStmtLiterals I F (s.Write at e f place d) = AllLiterals I F e × AllLiterals I F d
  AllStmtLiterals I F (s.New at x fields refs) = ⊤
  AllStmtLiterals I F (s.Call at xs m args) = AllExprsLiterals I F args
  AllStmtLiterals I F (s.Inhale at a) = AllAssertionLiterals I F a
  AllStmtLiterals I F (s.Exhale at a) = AllAssertionLiterals I F a
  AllStmtLiterals I F (s.Assert at a) = AllAssertionLiterals I F a
  AllStmtLiterals I F (s.Fold f) = AllExprsLiterals I F f.args × AllLiterals I F f.amount
  AllStmtLiterals I F (s.Unfold f) = AllExprsLiterals I F f.args × AllLiterals I F f.amount
  AllStmtLiterals I F (s.If at e a b) = AllLiterals I F e × AllStmtsLiterals I F a × AllStmtsLiterals I F b
  AllStmtLiterals I F (s.While (s.loop at guard invariants body turn targets)) =
      AllLiterals I F guard × All (AllAssertionLiterals I F) invariants × AllStmtsLiterals I F body

  pub AllStmtsLiterals : (ℤ → Type 0) → (Fraction → Type 0) → s.Stmts → Type 0
  AllStmtsLiterals I F s.skip = ⊤
  AllStmtsLiterals I F (s.next a rest) = AllStmtLiterals I F a × AllStmtsLiterals I F rest

-- ---- programs

pub record AllBodyLiterals (I : ℤ → Type 0) (F : Fraction → Type 0) (b : Body) : Type 0 where
  pub stmts : AllStmtsLiterals I F b.stmts

pub record AllMethodLiterals (I : ℤ → Type 0) (F : Fraction → Type 0) (m : Method) : Type 0 where
  pub preconditions : All (AllAssertionLiterals I F) m.preconditions
  pub postconditions : All (AllAssertionLiterals I F) m.postconditions
  pub body : IfSome m.body (AllBodyLiterals I F)

abbrev pub AllPredicateLiterals : (ℤ → Type 0) → (Fraction → Type 0) → Predicate → Type 0
AllPredicateLiterals I F d = IfSome d.body (AllAssertionLiterals I F)

pub record AllProgramLiterals (I : ℤ → Type 0) (F : Fraction → Type 0) (program : Program) : Type 0 where
  pub predicates : All (AllPredicateLiterals I F) program.predicates
  pub methods : All (AllMethodLiterals I F) program.methods

-- ---- each literal permission is in lowest terms, and each number is within the bound where there is one

abbrev pub IsProperStmt : Bound → s.Stmt → Type 0
IsProperStmt b = AllStmtLiterals (λ n. IfBounded b (IsWithin n)) (IsProperFraction b)

abbrev pub AreProperStmts : Bound → s.Stmts → Type 0
AreProperStmts b = AllStmtsLiterals (λ n. IfBounded b (IsWithin n)) (IsProperFraction b)

abbrev pub IsProperBody : Bound → Body → Type 0
IsProperBody b = AllBodyLiterals (λ n. IfBounded b (IsWithin n)) (IsProperFraction b)

abbrev pub IsProperMethod : Bound → Method → Type 0
IsProperMethod b = AllMethodLiterals (λ n. IfBounded b (IsWithin n)) (IsProperFraction b)

abbrev pub IsProperProgram : Bound → Program → Type 0
IsProperProgram b = AllProgramLiterals (λ n. IfBounded b (IsWithin n)) (IsProperFraction b)

-- ---- each literal is within the bound

abbrev pub IsWithinStmt : s.Stmt → Type 0
IsWithinStmt = AllStmtLiterals IsWithin IsWithinFraction

abbrev pub AreWithinStmts : s.Stmts → Type 0
AreWithinStmts = AllStmtsLiterals IsWithin IsWithinFraction

abbrev pub IsWithinBody : Body → Type 0
IsWithinBody = AllBodyLiterals IsWithin IsWithinFraction

abbrev pub IsWithinMethod : Method → Type 0
IsWithinMethod = AllMethodLiterals IsWithin IsWithinFraction

abbrev pub IsWithinProgram : Program → Type 0
IsWithinProgram = AllProgramLiterals IsWithin IsWithinFraction
