-- The runs of the units of a program.
use Rattle.std.specs.Prelude.{ℕ, Bool, false, List, Option, None, Some, option_map, position, slice_get}
use Rattle.std.specs.Str.{bytes_eq}
use Rattle.vb_value.specs.Bound.{Bounded}
use Rattle.viper_core.specs.Program as p
use Rattle.viper_core.specs.declared.programs.Unit.{Unit}
use Rattle.viper_core.specs.declared.programs.Unit.TheVariants.{Method, Predicate}
use Rattle.viper_meaning.specs.Run.{Ran, on}
use Rattle.viper_meaning.specs.Units.{unit_run}
use Rattle.viper_state.specs.State.{State}
use Rattle.run_file.specs.Run.{ViperRun}

-- the name of a method or a predicate
abbrev pub name_of : p.Program → Unit → Option (List ℕ)
name_of program (Method n) = option_map (λ (m : p.Method). m.name) (slice_get program.methods n)
name_of program (Predicate n) = option_map (λ (d : p.Predicate). d.name) (slice_get program.predicates n)

abbrev pub is_name : List ℕ → Option (List ℕ) → Bool
is_name word None = false
is_name word (Some name) = bytes_eq name word

-- the number of the unit that has this name. The names of methods and predicates differ, so it is the only one.
abbrev pub unit_named : p.Program → List ℕ → Option ℕ
unit_named program word = position (λ w. is_name word (name_of program w)) program.units

-- a run of a unit of a program
pub record UnitRun : Type 0 where
  pub program : p.Program
  pub unit : ℕ
  pub run : ViperRun

-- how it ends, within the bound
abbrev pub end_of : UnitRun → Ran State
end_of u = on (unit_run Bounded u.program u.unit u.run.opening) u.run.choices
