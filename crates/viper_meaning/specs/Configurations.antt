-- What is said of every number of a configuration: that it is within the bound, and that it is proper; and what fits a program.
use Rattle.std.specs.Prelude.{List, All}
use Rattle.vb_value.specs.Bound.{Bound}
use Rattle.vb_value.specs.Fraction.{Fraction, IsWithinFraction, IsProperFraction}
use Rattle.vb_value.specs.Content.{Content, IsWithinContent, IsProperContent}
use Rattle.vb_value.specs.Key.{IsWithinKey, IsProperKey}
use Rattle.vb_value.specs.Layout.{Layout}
use Rattle.vb_value.specs.Value.{IsWithinValue, IsProperValue}
use Rattle.vb_value.specs.declared.values.Ty.{Ty}
use Rattle.vb_value.specs.declared.values.Value.{Value}
use Rattle.viper_state.specs.Fits.{FitsStore, FitsState}
use Rattle.viper_state.specs.State.{Key}
use Rattle.viper_state.specs.Within.{AllOfState}
use Rattle.viper_meaning.specs.Statements.{Configuration}

pub record AllOfConfiguration (F : Fraction → Type 0) (V : Value → Type 0) (K : Key → Type 0) (C : Content → Type 0) (c : Configuration) : Type 0 where
  pub store : All V c.store
  pub state : AllOfState F V K C c.state

abbrev pub IsWithinConfiguration : Configuration → Type 0
IsWithinConfiguration = AllOfConfiguration IsWithinFraction IsWithinValue IsWithinKey IsWithinContent

abbrev pub IsProperConfiguration : Bound → Configuration → Type 0
IsProperConfiguration b = AllOfConfiguration (IsProperFraction b) (IsProperValue b) (IsProperKey b) (IsProperContent b)

-- variables of these types, and a state that fits
pub record FitsConfiguration (layout : Layout) (us : List Ty) (c : Configuration) : Type 0 where
  pub store : FitsStore us c.store
  pub state : FitsState layout c.state
