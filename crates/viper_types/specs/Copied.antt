-- What typing copies into the program of a file, counted in the file itself: the body of a predicate at each `unfolding`, the
-- Ref variables in scope at each `new`, and all fields at each `new(*)`. Whatever file is typed weighs at least as much, so it
-- is known to be too heavy before anything is copied.
use Rattle.std.specs.Prelude.{ℕ, ◌+◌, nat_lt, if◌then◌else◌, Option, Some, None, List, [], ◌∷◌, length, slice_get}
use Rattle.vb_base.specs.Limits.{too_heavy}
use Rattle.vb_value.specs.Value.{same_type}
use Rattle.vb_value.specs.declared.values.Ty.TheVariants as ty
use Rattle.viper_core.specs.Expr as e
use Rattle.viper_core.specs.Size.{assertion_size}
use Rattle.viper_syntax.specs.Term as t
use Rattle.viper_syntax.specs.Stmt as s
use Rattle.viper_syntax.specs.Decl as d
use Rattle.viper_syntax.specs.declared.stmts.Formal.{Formal}
use Rattle.viper_scope.specs.Context.{World, Signature, predicate_at}
use Rattle.viper_scope.specs.Types.{declared_type}

-- what each part of the program counts at least
abbrev pub base_of : World → ℕ
base_of w = 1 + length w.fields + length w.predicates

-- the size of the body of a predicate, where it has one
abbrev pub body_size : ℕ → Option (Option e.Assertion) → ℕ
body_size base (Some (Some body)) = assertion_size base body
body_size base (Some None) = 0
body_size base None = 0

abbrev pub opened_size : World → List (Option e.Assertion) → Option (ℕ × Signature) → ℕ
opened_size w bodies None = 0
opened_size w bodies (Some s) = body_size (base_of w) (slice_get bodies s.0)

-- terms

abbrev mutual
  pub copied : World → List (Option e.Assertion) → t.Term → ℕ
  copied w bodies (t.Name x at) = 0
  copied w bodies (t.Number n at) = 0
  copied w bodies (t.Constant c at) = 0
  copied w bodies (t.Unary o a at) = copied w bodies a
  copied w bodies (t.Binary o a b at) = copied w bodies a + copied w bodies b
  copied w bodies (t.Choose a b c at) = copied w bodies a + copied w bodies b + copied w bodies c
  copied w bodies (t.Field a f at) = copied w bodies a
  copied w bodies (t.Old a at) = copied w bodies a
  copied w bodies (t.Acc a m at) = copied w bodies a + copied_amount w bodies m
  copied w bodies (t.Inst x args at) = copied_all w bodies args
  copied w bodies (t.Unfolding x args m a at name_at) =
      opened_size w bodies (predicate_at w x) + copied_all w bodies args + copied_amount w bodies m + copied w bodies a

  pub copied_amount : World → List (Option e.Assertion) → t.Amount → ℕ
  copied_amount w bodies t.omitted = 0
  copied_amount w bodies (t.given a) = copied w bodies a

  pub copied_all : World → List (Option e.Assertion) → t.Terms → ℕ
  copied_all w bodies t.none = 0
  copied_all w bodies (t.more a rest) = copied w bodies a + copied_all w bodies rest

-- statements, where so many Ref variables are in scope

-- with one more variable: above the greatest weight they are too many whatever they are
abbrev pub with_formal : ℕ → Formal → ℕ
with_formal refs f = if same_type (declared_type f) ty.Ref then (if nat_lt refs too_heavy then refs + 1 else refs) else refs

abbrev pub with_formals : ℕ → List Formal → ℕ
with_formals refs [] = refs
with_formals refs (f ∷ fs) = with_formals (with_formal refs f) fs

abbrev pub copied_by_new : World → ℕ → s.SNew → ℕ
copied_by_new w refs new = refs + (if new.every then length w.fields else 0)

abbrev pub copied_by_rhs : World → List (Option e.Assertion) → ℕ → s.SRhs → ℕ
copied_by_rhs w bodies refs (s.CallRhs call) = copied_all w bodies (t.terms call.args)
copied_by_rhs w bodies refs (s.NewRhs new) = copied_by_new w refs new
copied_by_rhs w bodies refs (s.TermRhs a) = copied w bodies a

abbrev pub copied_by_init : World → List (Option e.Assertion) → ℕ → Option s.SRhs → ℕ
copied_by_init w bodies refs None = 0
copied_by_init w bodies refs (Some a) = copied_by_rhs w bodies refs a

abbrev pub copied_by_terms : World → List (Option e.Assertion) → List t.Term → ℕ
copied_by_terms w bodies [] = 0
copied_by_terms w bodies (a ∷ rest) = copied w bodies a + copied_by_terms w bodies rest

abbrev pub copied_by_fold : World → List (Option e.Assertion) → s.SFold → ℕ
copied_by_fold w bodies f = copied_all w bodies (t.terms f.call.args) + copied_amount w bodies f.amount

-- the Ref variables after a statement
abbrev pub refs_after : ℕ → s.SStmt → ℕ
refs_after refs (s.Var at f rhs) = with_formal refs f
refs_after refs _ = refs

abbrev mutual
  pub copied_by : World → List (Option e.Assertion) → ℕ → s.SStmt → ℕ
  copied_by w bodies refs (s.Var at f rhs) = copied_by_init w bodies refs rhs
  copied_by w bodies refs (s.Assign xs rhs) = copied_by_rhs w bodies refs rhs
  copied_by w bodies refs (s.CallTo xs call) = copied_all w bodies (t.terms call.args)
  copied_by w bodies refs (s.Call call) = copied_all w bodies (t.terms call.args)
  copied_by w bodies refs (s.Check word at a) = copied w bodies a
  copied_by w bodies refs (s.Fold f) = copied_by_fold w bodies f
  copied_by w bodies refs (s.Unfold f) = copied_by_fold w bodies f
  copied_by w bodies refs (s.If arms other) = copied_by_arms w bodies refs arms + copied_by_else w bodies refs other
  copied_by w bodies refs (s.While at a is b) = copied w bodies a + copied_by_terms w bodies is + copied_by_block w bodies refs b

  pub copied_by_block : World → List (Option e.Assertion) → ℕ → s.SBlock → ℕ
  copied_by_block w bodies refs (s.block at ss) = copied_by_stmts w bodies refs ss

  pub copied_by_stmts : World → List (Option e.Assertion) → ℕ → s.SStmts → ℕ
  copied_by_stmts w bodies refs s.no_stmts = 0
  copied_by_stmts w bodies refs (s.more_stmts a rest) = copied_by w bodies refs a + copied_by_stmts w bodies (refs_after refs a) rest

  pub copied_by_arms : World → List (Option e.Assertion) → ℕ → s.SArms → ℕ
  copied_by_arms w bodies refs s.no_arms = 0
  copied_by_arms w bodies refs (s.more_arms a rest) = copied_by_arm w bodies refs a + copied_by_arms w bodies refs rest

  pub copied_by_arm : World → List (Option e.Assertion) → ℕ → s.SArm → ℕ
  copied_by_arm w bodies refs (s.arm at a b) = copied w bodies a + copied_by_block w bodies refs b

  pub copied_by_else : World → List (Option e.Assertion) → ℕ → s.SElse → ℕ
  copied_by_else w bodies refs s.no_else = 0
  copied_by_else w bodies refs (s.else_block b) = copied_by_block w bodies refs b

-- declarations

abbrev pub copied_by_clauses : World → List (Option e.Assertion) → List d.SClause → ℕ
copied_by_clauses w bodies [] = 0
copied_by_clauses w bodies (a ∷ rest) = copied w bodies a.term + copied_by_clauses w bodies rest

abbrev pub copied_by_body : World → List (Option e.Assertion) → ℕ → Option s.SBlock → ℕ
copied_by_body w bodies refs None = 0
copied_by_body w bodies refs (Some b) = copied_by_block w bodies refs b

abbrev pub copied_by_method : World → List (Option e.Assertion) → d.SMethod → ℕ
copied_by_method w bodies m = copied_by_clauses w bodies m.clauses + copied_by_body w bodies (with_formals (with_formals 0 m.params) m.returns) m.body

-- a predicate's body holds no `unfolding`
abbrev pub copied_by_decl : World → List (Option e.Assertion) → d.Decl → ℕ
copied_by_decl w bodies (d.Field f) = 0
copied_by_decl w bodies (d.Predicate at x params body) = 0
copied_by_decl w bodies (d.Method m) = copied_by_method w bodies m

abbrev pub copied_by_decls : World → List (Option e.Assertion) → List d.Decl → ℕ
copied_by_decls w bodies [] = 0
copied_by_decls w bodies (a ∷ rest) = copied_by_decl w bodies a + copied_by_decls w bodies rest
