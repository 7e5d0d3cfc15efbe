-- The code of a unit, laid out as a row of steps. A statement without blocks is one step; one with blocks is a step for each part
-- that stands around them, and for each bracket between. So all code can be written one step after the other.
use Rattle.std.specs.Prelude.{⊤, List, [], ◌∷◌, ◌++◌, Option, Some, None, slice_get}
use Rattle.vb_base.specs.declared.places.Pos.{Pos}
use Rattle.viper_core.specs.Expr as e
use Rattle.viper_core.specs.Program.{Program, Predicate, Method, Body}
use Rattle.viper_core.specs.Stmt as v
use Rattle.viper_core.specs.declared.programs.Unit.{Unit}
use Rattle.viper_core.specs.declared.programs.Unit.TheVariants as unit
use Rattle.boogie_tree.specs.Expr as t
use Rattle.boogie_tree.specs.Program.{Local}
use Rattle.enc_expr.specs.Code.{Emitting, gives, then_emit, puts}
use Rattle.enc_expr.specs.Encoding.{code}
use Rattle.enc_expr.specs.Kinds.{Kinds}
use Rattle.enc_expr.specs.Locals.{fixed_names, fixed_types, named}
use Rattle.enc_expr.specs.Pieces.{one_real}
use Rattle.enc_assert.specs.Encoding.{produce_code}
use Rattle.enc_locals.specs.Procedure.{unit_vars}
use Rattle.enc_block.specs.Home.{Home, place}
use Rattle.enc_block.specs.Encoding.{stmt_code, assert_code, after_code, check_code}
use Rattle.enc_block.specs.Parts as part
use Rattle.enc_units.specs.Units as u

-- what is written as whole statements
pub data CodeStep : Type 0 where
  -- how the code of a unit begins
  Start : CodeStep
  -- a statement without blocks
  Plain : v.Stmt → CodeStep
  -- before a loop
  Head : v.Loop → CodeStep
  -- an arbitrary turn: before the body, and behind it
  Turn : v.Loop → CodeStep
  Finish : v.Loop → CodeStep
  -- how a run continues behind a loop
  After : v.Loop → CodeStep
  -- a method: before its body, behind it, and its postcondition by itself
  Enter : Method → CodeStep
  Leave : Method → Pos → CodeStep
  Check : Method → CodeStep
  -- the body of a predicate
  Produce : Pos → e.Assertion → CodeStep

-- where the blocks of an `if` begin and end
pub data BranchStep : Type 0 where
  -- an `if`, up to its first block
  Begin : Pos → e.Expr → BranchStep
  -- a choice, up to its first block
  Pick : BranchStep
  -- between two blocks, and behind the second
  Otherwise : BranchStep
  End : BranchStep

pub data RowStep : Type 0 where
  Code : CodeStep → RowStep
  Branch : BranchStep → RowStep

-- ---- the row of a unit

abbrev mutual
  pub stmt_row : v.Stmt → List RowStep
  stmt_row (v.If at c first second) = Branch (Begin at c) ∷ (block_row first ++ (Branch Otherwise ∷ (block_row second ++ (Branch End ∷ []))))
  stmt_row (v.While (v.loop at guard invariants body turn targets)) =
      Code (Head (v.loop at guard invariants body turn targets)) ∷ Branch Pick ∷ Code (Turn (v.loop at guard invariants body turn targets)) ∷
      (block_row body ++ (Code (Finish (v.loop at guard invariants body turn targets)) ∷ Branch Otherwise ∷ Code (After (v.loop at guard invariants body turn targets)) ∷ Branch End ∷ []))
  stmt_row x = Code (Plain x) ∷ []

  -- of the statements of a block
  pub block_row : v.Stmts → List RowStep
  block_row v.skip = []
  block_row (v.next a rest) = stmt_row a ++ block_row rest

-- a choice decides between the body with what is behind it, and the postcondition by itself
abbrev pub body_row : Method → Option Body → List RowStep
body_row m None = Code (Check m) ∷ []
body_row m (Some body) = Branch Pick ∷ (block_row body.stmts ++ (Code (Leave m body.turn) ∷ Branch Otherwise ∷ Code (Check m) ∷ Branch End ∷ []))

abbrev pub method_row : Option Method → List RowStep
method_row None = []
method_row (Some m) = Code (Enter m) ∷ body_row m m.body

abbrev pub produced_row : Predicate → Option e.Assertion → List RowStep
produced_row d None = []
produced_row d (Some body) = Code (Produce d.at body) ∷ []

abbrev pub predicate_row : Option Predicate → List RowStep
predicate_row None = []
predicate_row (Some d) = produced_row d d.body

abbrev pub running_row : Program → Unit → List RowStep
running_row p (unit.Method n) = method_row (slice_get p.methods n)
running_row p (unit.Predicate n) = predicate_row (slice_get p.predicates n)

abbrev pub unit_row : Program → Unit → List RowStep
unit_row p x = Code Start ∷ running_row p x

-- ---- the code of a step

-- the bracket that stands behind the code of a step
pub data Bracket : Type 0 where
  Nothing : Bracket
  -- an `if`, up to the first block
  If : t.BExpr → Bracket
  -- a choice, up to the first block
  Either : Bracket
  -- between two blocks, and behind the second
  Else : Bracket
  End : Bracket

abbrev pub without_bracket : Emitting ⊤ → Emitting Bracket
without_bracket m = then_emit m (λ u. gives Nothing)

abbrev pub part_code : Program → Unit → Kinds → Home → CodeStep → Emitting ⊤
part_code p x k h Start = puts None (u.start_code p x)
part_code p x k h (Plain a) = stmt_code p k h a
part_code p x k h (Head (v.loop at guard invariants body turn targets)) = part.head_code k h at invariants targets
part_code p x k h (Turn (v.loop at guard invariants body turn targets)) = part.turn_head k h at guard invariants
part_code p x k h (Finish (v.loop at guard invariants body turn targets)) = part.turn_end k h turn invariants
part_code p x k h (After (v.loop at guard invariants body turn targets)) = after_code k h at guard invariants
part_code p x k h (Enter m) = part.start_code k h m
part_code p x k h (Leave m turn) = assert_code k h turn m.postconditions
part_code p x k h (Check m) = check_code k h m
part_code p x k h (Produce at body) = produce_code k (place h at) None one_real body

-- the condition of an `if` is computed before
abbrev pub branch_code : Kinds → Home → BranchStep → Emitting Bracket
branch_code k h (Begin at c) = then_emit (code k (place h at) None c) (λ y. gives (If y.expr))
branch_code k h Pick = gives Either
branch_code k h Otherwise = gives Else
branch_code k h End = gives End

abbrev pub step_code : Program → Unit → Kinds → Home → RowStep → Emitting Bracket
step_code p x k h (Code a) = without_bracket (part_code p x k h a)
step_code p x k h (Branch a) = branch_code k h a

-- in a unit: by the types of its variables and the locals that hold them
abbrev pub unit_step : Program → Unit → RowStep → Emitting Bracket
unit_step p x = step_code p x (u.kinds_with p (unit_vars p x)) (u.home_of p x)

-- the locals before those of the first step
abbrev pub fixed_locals : Program → Unit → List Local
fixed_locals p x = named (fixed_names p x) (fixed_types p x)
