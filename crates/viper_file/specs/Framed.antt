-- Which texts whole executions are promised of.
use Rattle.std.specs.Prelude.{◌≡◌, ℕ, List, None}
use Rattle.viper_core.specs.Program.{Program}
use Rattle.viper_exec_subset.specs.Unframed.{first_unframed}
use Rattle.viper_file.specs.Accepted.{IsAccepted}

-- the bytes are the text of this typed program, and none of the words `wildcard`, `inhale` and `assume` is among their tokens
pub record IsFramed (bytes : List ℕ) (typed : Program) : Type 0 where
  pub accepted : IsAccepted bytes typed
  pub framed : first_unframed accepted.tokens ≡ None
