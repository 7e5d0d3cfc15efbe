-- What the answers of the program say.
use Rattle.std.specs.Prelude.{◌≡◌, Result, Ok, Err}
use Rattle.boogie_meaning.specs.Ends.{End, Is, Over, Wrong}
use Rattle.boogie_eval.specs.declared.eval_ends.Miss.{Miss}
use Rattle.boogie_eval.specs.declared.eval_ends.Miss.TheVariants as miss

-- The answer is this end, where a value is seen through a view. Nothing is said where memory was refused.
pub data Answers {X Y : Type 0} (view : X → Y) (e : End Y) : Result X Miss → Type 0 where
  no_memory : Answers view e (Err miss.Memory)
  is : {x : X} → e ≡ Is (view x) → Answers view e (Ok x)
  over : e ≡ Over → Answers view e (Err miss.Over)
  wrong : e ≡ Wrong → Answers view e (Err miss.Wrong)
