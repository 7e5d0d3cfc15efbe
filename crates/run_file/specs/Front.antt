-- The prefix of a run: the first of its choices, and how many more there are.
use Rattle.std.specs.Prelude.{◌≡◌, ◌-◌, ℕ, List, length, take}
use Rattle.viper_core.specs.Program.{Program}
use Rattle.run_file.specs.Run.{ViperRun, SpellsViperRun}

pub record Front : Type 0 where
  pub run : ViperRun
  pub more : ℕ

-- the prefix with so many choices, or with all where there are fewer
abbrev pub front_of : ℕ → ViperRun → Front
front_of many run = record { run = record { opening = run.opening; choices = take many run.choices }; more = length run.choices - many }

-- the bytes spell a run of the unit of this number, and this is its prefix
abbrev pub SpellsFront : List ℕ → Program → ℕ → ℕ → Front → Type 0
SpellsFront bytes p n many front = (run : ViperRun) × (SpellsViperRun bytes p n run × (front ≡ front_of many run))
