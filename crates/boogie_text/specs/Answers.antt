-- What `read` answers.
use Rattle.std.specs.Prelude.{◌≡◌, ◌⊎◌, Result, Ok, Err}
use Rattle.boogie_tree.specs.Program as p
use Rattle.boogie_tree.specs.Whole.{program_of}
use Rattle.boogie_tree.specs.declared.programs.BProgram.{BProgram}
use Rattle.boogie_grammar.specs.declared.faults.BoogieFault.{BoogieFault}
use Rattle.boogie_grammar.specs.declared.faults.BoogieFault.TheVariants as fault

-- the fact, unless memory was refused
abbrev pub UnlessMemory : (BoogieFault → Type 0) → BoogieFault → Type 0
UnlessMemory P fault.Memory = Unit {0}
UnlessMemory P (fault.Prelude at) = P (fault.Prelude at)
UnlessMemory P (fault.Syntax at) = P (fault.Syntax at)
UnlessMemory P (fault.Deep at) = P (fault.Deep at)

-- The answer is this, as code holds it, unless memory was refused or the brackets are too deep.
abbrev pub Gives : {D T : Type 0} → (D → T) → T → Result D BoogieFault → Type 0
Gives view x (Ok d) = view d ≡ x
Gives view x (Err fault.Memory) = Unit {0}
Gives view x (Err (fault.Prelude at)) = ⊥
Gives view x (Err (fault.Syntax at)) = ⊥
Gives view x (Err (fault.Deep at)) = Unit {0}

abbrev pub GivesProgram : p.BProgram → Result BProgram BoogieFault → Type 0
GivesProgram program result = Gives program_of program result

-- the answer is this fault, unless memory was refused
abbrev pub GivesFault : {D : Type 0} → BoogieFault → Result D BoogieFault → Type 0
GivesFault f (Ok d) = ⊥
GivesFault f (Err e) = (e ≡ f) ⊎ (e ≡ fault.Memory)
