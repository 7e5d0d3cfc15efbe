-- What a step emits, by what it writes before its bracket.
use Rattle.std.specs.Bool.{⊤}
use Rattle.std.proofs.Common.{◌≡◌, ℕ, None, length, sym, subst}
use Rattle.vb_base.specs.declared.places.Pos.{Pos}
use Rattle.viper_core.specs.Expr as e
use Rattle.viper_core.specs.Program.{Program}
use Rattle.viper_core.specs.declared.programs.Unit.{Unit}
use Rattle.enc_expr.specs.Emits.{Emit, Emits}
use Rattle.enc_expr.specs.Encoding.{code}
use Rattle.enc_expr.specs.Kinds.{Kinds}
use Rattle.enc_expr.specs.Pieces.{Operand}
use Rattle.enc_expr.proofs.EmittedForms.{ending}
use Rattle.enc_block.specs.Home.{Home, place}
use Rattle.enc_units.specs.Steps as s
use Rattle.enc_units.specs.Steps.{RowStep, CodeStep, BranchStep, Bracket, part_code, branch_code, step_code}

abbrev from : Emit → ℕ
from x = length x.locals

module _ (k : Kinds) (h : Home) where
  -- the same part under another name
  pub branched_as : {a b : BranchStep} {old new : Emit} {y : Bracket} → a ≡ b → Emits (branch_code k h b (from old)) old new y → Emits (branch_code k h a (from old)) old new y
  branched_as {old = old} {new = new} {y = y} same m = subst (λ (z : BranchStep). Emits (branch_code k h z (from old)) old new y) (sym same) m

  -- an `if` has its condition behind it
  pub begun_emits : (at : Pos) (c : e.Expr) (old new : Emit) (y : Operand) → Emits (code k (place h at) None c (from old)) old new y → Emits (branch_code k h (s.Begin at c) (from old)) old new (s.If y.expr)
  begun_emits at c old new y m = ending (code k (place h at) None c) (λ (y : Operand). s.If y.expr) y m

module _ (p : Program) (x : Unit) (k : Kinds) (h : Home) where
  -- whole statements have no bracket behind them
  pub coded_emits : {a : RowStep} {b : CodeStep} {old new : Emit} → a ≡ s.Code b → Emits (part_code p x k h b (from old)) old new tt → Emits (step_code p x k h a (from old)) old new s.Nothing
  coded_emits {b = b} {old = old} {new = new} same m =
      subst (λ (z : RowStep). Emits (step_code p x k h z (from old)) old new s.Nothing) (sym same) (ending (part_code p x k h b) (λ (u : ⊤). s.Nothing) tt m)
