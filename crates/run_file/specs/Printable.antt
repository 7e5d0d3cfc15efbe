-- The runs that a printed text spells: they fit the program, are within the bound, and have references that a run file can name.
use Rattle.std.specs.Prelude.{⊤, ℕ, All}
use Rattle.viper_core.specs.Program.{Program}
use Rattle.viper_state.specs.Choice.{Choice, Branch, Took, Amount, Fresh, Filled}
use Rattle.viper_state.specs.Fits.{FitsOpening, FitsChoice}
use Rattle.viper_state.specs.State.{Memo}
use Rattle.viper_state.specs.Within.{HasEntries, IsWithinOpening, IsWithinChoice}
use Rattle.moves.specs.Printable.{IsNamed, IsNamedValue, IsNamedKey, IsNamedContent}
use Rattle.run_file.specs.Lines.{scope_of}
use Rattle.run_file.specs.Run.{ViperRun}
use Rattle.run_file_words.specs.Named.{AreNamed}

-- ---- references below 2^64

pub record IsNamedMemo (m : Memo) : Type 0 where
  pub heap : All (HasEntries IsNamed IsNamedValue) m.heap
  pub content : All (HasEntries IsNamedKey IsNamedContent) m.content

abbrev pub IsNamedChoice : Choice → Type 0
IsNamedChoice (Branch b) = ⊤
IsNamedChoice (Took v) = IsNamedValue v
IsNamedChoice (Amount q) = ⊤
IsNamedChoice (Fresh r) = IsNamed r
IsNamedChoice (Filled m) = IsNamedMemo m

-- ---- what the references of the code give of this by themselves: it is said of the keys and values of each map, and not of
-- its default

pub record NamesMemo (m : Memo) : Type 0 where
  pub heap : All (AreNamed IsNamed IsNamedValue) m.heap
  pub content : All (AreNamed IsNamedKey IsNamedContent) m.content

abbrev pub NamesChoice : Choice → Type 0
NamesChoice (Branch b) = ⊤
NamesChoice (Took v) = IsNamedValue v
NamesChoice (Amount q) = ⊤
NamesChoice (Fresh r) = IsNamed r
NamesChoice (Filled m) = NamesMemo m

-- ---- runs

-- the opening fits the unit, the choices fit the program, and all is within the bound
pub record FitsWithin (p : Program) (n : ℕ) (run : ViperRun) : Type 0 where
  pub opening_fits : FitsOpening p.layout (scope_of p n).variables.types run.opening
  pub choices_fit : All (FitsChoice p.layout) run.choices
  pub opening_within : IsWithinOpening run.opening
  pub choices_within : All IsWithinChoice run.choices

-- so is this run, and its references are below 2^64
pub record IsPrintable (p : Program) (n : ℕ) (run : ViperRun) : Type 0 where
  pub opening_fits : FitsOpening p.layout (scope_of p n).variables.types run.opening
  pub choices_fit : All (FitsChoice p.layout) run.choices
  pub opening_within : IsWithinOpening run.opening
  pub choices_within : All IsWithinChoice run.choices
  pub store_named : All IsNamedValue run.opening.store
  pub memo_named : IsNamedMemo run.opening.memo
  pub choices_named : All IsNamedChoice run.choices
