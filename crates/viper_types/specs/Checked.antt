-- What the check of a file answers: a program that is not too heavy, or why there is none.
use Rattle.std.specs.Prelude.{◌≡◌, ◌<◌, ◌≤◌, Result, Ok, Err}
use Rattle.vb_base.specs.Limits.{max_weight, too_heavy}
use Rattle.vb_base.specs.declared.places.Pos.{Pos}
use Rattle.viper_core.specs.Program as p
use Rattle.viper_core.specs.View.{program_of}
use Rattle.viper_core.specs.Weight.{weight}
use Rattle.viper_core.specs.declared.programs.Program.{Program}
use Rattle.viper_syntax.specs.Decl.{SourceProgram}
use Rattle.viper_scope.specs.Rules.{number}
use Rattle.viper_scope.specs.declared.rules.Rule.{Rule}
use Rattle.viper_scope.specs.declared.rules.RuleFault.{RuleFault}
use Rattle.viper_scope.specs.declared.rules.RuleFault.TheVariants as part
use Rattle.viper_scope.specs.Outcome.{Judged, Found, Broken}
use Rattle.viper_types.specs.declared.faults.TypeFault.{TypeFault}
use Rattle.viper_types.specs.declared.faults.TypeFault.TheVariants as fault
use Rattle.viper_types.specs.Declaring.{program_typing}
use Rattle.viper_types.specs.Program.{IsProgram}

-- how it is told that a part of a file has no type: a broken rule by its place and number
abbrev pub told : RuleFault → TypeFault
told part.Memory = fault.Memory
told (part.Broken at r) = fault.Rule at (number r)

-- how a program is answered: as it is, or by its weight where it weighs more
abbrev pub Gives : Result Program TypeFault → p.Program → Type 0
Gives (Ok r) q = (program_of r ≡ q) × (weight q ≤ max_weight)
Gives (Err fault.Memory) q = Unit {0}
Gives (Err (fault.Rule at n)) q = ⊥
Gives (Err (fault.Weight n)) q = (n ≡ too_heavy) × (max_weight < weight q)

-- how the first broken rule is answered: by its place and number
abbrev pub Tells : Result Program TypeFault → Pos → Rule → Type 0
Tells (Ok q) at r = ⊥
Tells (Err fault.Memory) at r = Unit {0}
Tells (Err (fault.Rule place n)) at r = (place ≡ at) × (n ≡ number r)
Tells (Err (fault.Weight w)) at r = ⊥

-- why a file is refused: for the first rule that it breaks, or for the weight of the program that it is
abbrev pub IsRefused : SourceProgram → TypeFault → Type 0
IsRefused source fault.Memory = Unit {0}
IsRefused source (fault.Rule at n) = (r : Rule) × (n ≡ number r) × (program_typing source ≡ Broken at r)
IsRefused source (fault.Weight w) = (w ≡ too_heavy) × ((q : p.Program) × IsProgram source q × (max_weight < weight q))

-- how a lean walk is answered where what is copied is too much: by the broken rule, or where it finds something by the weight
abbrev pub Overweighs : {X : Type 0} → Judged X → TypeFault → Type 0
Overweighs j fault.Memory = Unit {0}
Overweighs j (fault.Rule at n) = (r : Rule) × (n ≡ number r) × (j ≡ Broken at r)
Overweighs {X} j (fault.Weight w) = (w ≡ too_heavy) × ((x : X) × (j ≡ Found x))
