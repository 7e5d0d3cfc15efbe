-- What is said of the code of a statement: from each environment in which a configuration stands, code and run go alongside.
use Rattle.std.specs.Prelude.{⊤, ℕ, List}
use Rattle.vb_value.specs.Bound.{Bound}
use Rattle.viper_meaning.specs.Run.{Run}
use Rattle.viper_meaning.specs.Statements.{Activation, Configuration}
use Rattle.boogie_tree.specs.Program.{BType}
use Rattle.boogie_meaning.specs.Run.{brun}
use Rattle.enc_expr.specs.Code.{Emitting}
use Rattle.enc_expr.specs.Coupling.{Env}
use Rattle.enc_assert.specs.Alongside.{AreAlongside}
use Rattle.enc_block.specs.Home.{Home, IsAt, HasRoom}

pub record Runs (ts : List BType) (b : Bound) (k : Activation) (h : Home) (m : Emitting ⊤) (v : Configuration → Run Configuration) : Type 0 where
  pub goes : (n : ℕ) (d : Configuration) (E : Env) → IsAt ts b k h n d E → HasRoom ts n (m n).locals →
      AreAlongside ⊥ b k.program.layout (IsAt ts b k h (m n).next) (v d) (λ cs. brun ts b (m n).stmts E cs)
