-- What is shown of pieces of code.
use Rattle.std.proofs.Common.{◌≡◌, ◌+◌, ℕ, List, [], length}
use Rattle.vb_value.specs.Bound.{Bound, Bounded}
use Rattle.vb_value.specs.Content.{Content}
use Rattle.vb_value.specs.Fraction.{Fraction}
use Rattle.vb_value.specs.Value.{type_of}
use Rattle.vb_value.specs.declared.values.Ty.{Ty}
use Rattle.vb_value.specs.declared.values.Value.{Value}
use Rattle.viper_core.specs.Typing.{Context}
use Rattle.viper_state.specs.State.{State}
use Rattle.viper_state.specs.Run.{Scene}
use Rattle.viper_meaning.specs.Ends.{Evaluated, ends, is, Over}
use Rattle.boogie_tree.specs.Expr as t
use Rattle.boogie_tree.specs.Program.{BType}
use Rattle.boogie_tree.specs.Stmt.{BStmts}
use Rattle.boogie_tree.specs.Value.{BChoice}
use Rattle.boogie_meaning.specs.Ends as end
use Rattle.boogie_meaning.specs.Quantified.{bvalue}
use Rattle.boogie_meaning.specs.Run.{Run, Done, brun}
use Rattle.moves.specs.Scalars.{scalar, base_for}
use Rattle.enc_expr.specs.Place.{Place}
use Rattle.enc_expr.specs.Code.{Emitting, Guard}
use Rattle.enc_expr.specs.Pieces.{Operand}
use Rattle.enc_expr.specs.Coupling.{Env, IsCoupled, IsAsleep, AreLocals, IsReady}
use Rattle.enc_expr.specs.Alike.{Alike, Kept, IsScale, IsFilled, IsSource}

-- ---- numbers

-- the next local comes after those that are declared
pub record IsCounted {X : Type 0} (m : Emitting X) : Type 0 where
  pub next : (n : ℕ) → n + length (m n).locals ≡ (m n).next

-- ---- sleeping code

-- each of these guards is false
abbrev pub AreAsleep : (ℕ → Type 0) → ℕ → Env → Type 0
AreAsleep O n E = (h : ℕ) → O h → IsAsleep n h E

-- the run is done, took no choice, and changed nothing but new locals
pub record Rests (run : Run) (n : ℕ) (E : Env) (cs : List BChoice) : Type 0 where
  pub after : Env
  pub done : run ≡ Done after cs
  pub kept : Kept n E after

-- where these guards are false, the code rests
pub record Sleeps (O : ℕ → Type 0) {X : Type 0} (m : Emitting X) : Type 0 where
  pub rests : (ts : List BType) (b : Bound) (n : ℕ) (E : Env) (cs : List BChoice) → AreAsleep O n E → length E ≡ length ts → AreLocals ts n (m n).locals →
      Rests (brun ts b (m n).stmts E cs) n E cs

-- ---- simulation

-- From each environment in which the state is coupled the code ends as the evaluation does. Q is said of the number of the first
-- new local, of the next, of what the code hands on, of the environment before, of the value and of the environment after.
pub record Simulates (ts : List BType) (b : Bound) (c : Context) (p : Place) (g : Guard) (s : State) (sc : Scene) {X V : Type 0} (m : Emitting X) (e : Evaluated V)
    (Q : ℕ → ℕ → X → Env → V → Env → Type 0) : Type 0 where
  pub alike : (n : ℕ) (E : Env) (cs : List BChoice) → IsCoupled b c n p s sc E → IsReady ts g n (m n).locals E →
      Alike (Q n (m n).next (m n).value E) b e cs (brun ts b (m n).stmts E cs)

-- ---- operators

-- the operand has the value of the evaluation in each environment with K, or the evaluation is beyond the bound
pub data Computes (b : Bound) (u : Ty) (z : Operand) (K : Env → Type 0) : Evaluated Value → Type 0 where
  value : {v : Value} → type_of v ≡ u → z.base ≡ base_for u → ((E : Env) → K E → bvalue b z.expr E ≡ end.Is (scalar v)) → Computes b u z K (is v)
  over : {at : _} → b ≡ Bounded → Computes b u z K (ends [] (Over at))

-- an expression has this value
pub record Has (b : Bound) (x : t.BExpr) (v : Value) (E : Env) : Type 0 where
  pub value : bvalue b x E ≡ end.Is (scalar v)

-- ---- statements

-- the statements run through, take no choice, and have set new locals alone
pub record Sets (ts : List BType) (b : Bound) (xs : BStmts) (n : ℕ) (E F : Env) : Type 0 where
  pub done : (cs : List BChoice) → brun ts b xs E cs ≡ Done F cs
  pub kept : Kept n E F

-- ---- bodies

-- from each environment in which the state is coupled, with the content and the scale
pub record Fills (ts : List BType) (b : Bound) (c : Context) (p : Place) (g : Guard) (s : State) (sc : Scene) (scale : t.BExpr) (k : Fraction) (from : ℕ) (d : Content)
    {X : Type 0} (m : Emitting X) (e : Evaluated State) : Type 0 where
  pub alike : (n : ℕ) (E : Env) (cs : List BChoice) → IsCoupled b c n p s sc E → IsSource b n E from d → IsScale b n E scale k → IsReady ts g n (m n).locals E →
      Alike (IsFilled b c n (m n).next p sc E) b e cs (brun ts b (m n).stmts E cs)
