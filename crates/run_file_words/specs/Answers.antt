-- What a reader answers, unless memory was refused.
use Rattle.std.specs.Prelude.{⊤, ◌≡◌, ◌⊎◌, Result, Ok, Err}
use Rattle.vb_base.specs.declared.places.Pos.{Pos}
use Rattle.run_file_words.specs.declared.faults.RunFileFault.{RunFileFault}
use Rattle.run_file_words.specs.declared.faults.RunFileFault.TheVariants as fault

-- the fact about the place, unless memory was refused
abbrev pub UnlessMemory : (Pos → Type 0) → RunFileFault → Type 0
UnlessMemory P fault.Memory = ⊤
UnlessMemory P (fault.Syntax at) = P at

-- the result is so, unless memory was refused
abbrev pub Gives : {X : Type 0} → (X → Type 0) → Result X RunFileFault → Type 0
Gives P (Ok x) = P x
Gives P (Err e) = e ≡ fault.Memory

-- the result is this place, unless memory was refused
abbrev pub GivesPlace : {X : Type 0} → Pos → Result X RunFileFault → Type 0
GivesPlace at (Ok x) = ⊥
GivesPlace at (Err e) = (e ≡ fault.Syntax at) ⊎ (e ≡ fault.Memory)
