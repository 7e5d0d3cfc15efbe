-- Which run of a unit a run file spells, and where a file goes wrong that spells none.
use Rattle.std.specs.Prelude.{⊤, ◌≡◌, ◌≢◌, ℕ, List, [], ◌∷◌, ◌++◌, codes, map, fold, slice_set, AllPairs}
use Rattle.std.specs.List.{AllByRecursion}
use Rattle.std.specs.Ordering.{nat_cmp}
use Rattle.sparse.specs.Map.{empty}
use Rattle.vb_base.specs.declared.places.Pos.{Pos}
use Rattle.vb_value.specs.Content as content
use Rattle.vb_value.specs.Content.{same_content}
use Rattle.vb_value.specs.Key.{key_cmp}
use Rattle.vb_value.specs.Value.{default_of, value_eq}
use Rattle.vb_value.specs.declared.values.Ty.{Ty}
use Rattle.viper_core.specs.Program.{Program}
use Rattle.viper_state.specs.State.{Memo, changed_at}
use Rattle.viper_state.specs.Run.{Opening}
use Rattle.viper_state.specs.Choice.{Choice, Filled}
use Rattle.run_file_words.specs.Text.{lines_of}
use Rattle.run_file.specs.Lines.{UnitScope, scope_of, ViperLine, Var, Heap, Holds, Chosen, Opened, IsLine}
use Rattle.run_file_words.specs.Machine.{Headed, WrongAt}
use Rattle.run_file.specs.declared.lines.LineTarget.{LineTarget}
use Rattle.run_file.specs.declared.lines.LineTarget.TheVariants as named

-- where a run of a unit begins, and the choices that it then takes
pub record ViperRun : Type 0 where
  pub opening : Opening
  pub choices : List Choice

-- ---- lines that fill a heap, contents and variables

-- what is named by no line has its default
abbrev pub empty_memo : List Ty → List (List Ty) → Memo
empty_memo fields keys = record { heap = map (λ u. empty (default_of u)) fields; content = map (λ us. empty content.Unit) keys }

abbrev pub scope_memo : UnitScope → Memo
scope_memo s = empty_memo s.fields.types s.predicates.types

abbrev pub empty_opening : UnitScope → Opening
empty_opening s = record { store = map default_of s.variables.types; memo = scope_memo s }

-- a heap and contents with what a line gives. A line that gives the default leaves no entry.
abbrev pub memo_with : Memo → ViperLine → Memo
memo_with m (Heap f r v) = record m { heap = changed_at nat_cmp value_eq m.heap f r v }
memo_with m (Holds q k c) = record m { content = changed_at key_cmp same_content m.content q k c }
memo_with m (Var n v) = m
memo_with m (Chosen c) = m
memo_with m Opened = m

abbrev pub opening_with : Opening → ViperLine → Opening
opening_with o (Var n v) = record o { store = slice_set o.store n v }
opening_with o (Heap f r v) = record o { memo = memo_with o.memo (Heap f r v) }
opening_with o (Holds q k c) = record o { memo = memo_with o.memo (Holds q k c) }
opening_with o (Chosen c) = o
opening_with o Opened = o

-- a line of a heap and contents
abbrev pub IsPlaceLine : ViperLine → Type 0
IsPlaceLine (Heap f r v) = ⊤
IsPlaceLine (Holds q k c) = ⊤
IsPlaceLine (Var n v) = ⊥
IsPlaceLine (Chosen c) = ⊥
IsPlaceLine Opened = ⊥

-- such a line, or one of a variable
abbrev pub IsSetting : ViperLine → Type 0
IsSetting (Var n v) = ⊤
IsSetting (Heap f r v) = ⊤
IsSetting (Holds q k c) = ⊤
IsSetting (Chosen c) = ⊥
IsSetting Opened = ⊥

-- the variable, the place or the instance that a line names, however it is spelled
abbrev pub names_of : ViperLine → List LineTarget
names_of (Var n v) = named.Variable n ∷ []
names_of (Heap f r v) = named.Place f r ∷ []
names_of (Holds q k c) = named.Instance q k ∷ []
names_of (Chosen c) = []
names_of Opened = []

abbrev pub all_names : List ViperLine → List LineTarget
all_names [] = []
all_names (l ∷ ls) = names_of l ++ all_names ls

-- no two of these lines name the same
abbrev pub NamedOnce : List ViperLine → Type 0
NamedOnce ls = AllPairs (λ a b. a ≢ b) (all_names ls)

-- ---- runs

-- these lines are these choices, where a heap and contents begin as the default and are filled by the lines after them
pub data AreChoices (s : UnitScope) : List ViperLine → List Choice → Type 0 where
  none : AreChoices s [] []
  one : {c : Choice} {ls : List ViperLine} {cs : List Choice} → AreChoices s ls cs → AreChoices s (Chosen c ∷ ls) (c ∷ cs)
  filled : (block : List ViperLine) {ls : List ViperLine} {cs : List Choice} → AllByRecursion IsPlaceLine block → NamedOnce block → AreChoices s ls cs →
      AreChoices s (Opened ∷ block ++ ls) (Filled (fold memo_with (scope_memo s) block) ∷ cs)

-- these lines, after the header, are this run: first come the lines of the opening, and then the choices
pub record AreRun (s : UnitScope) (ls : List ViperLine) (run : ViperRun) : Type 0 where
  pub settings : List ViperLine
  pub rest : List ViperLine
  pub whole : ls ≡ settings ++ rest
  pub only : AllByRecursion IsSetting settings
  pub once : NamedOnce settings
  pub opening : run.opening ≡ fold opening_with (empty_opening s) settings
  pub choices : AreChoices s rest run.choices

abbrev pub header : List (List ℕ)
header = codes "viper" ∷ codes "run" ∷ []

-- the lines of a file spell this run of the unit: those that are not skipped are the header, and lines that are the run
abbrev pub SpellRun : Program → ℕ → List (List ℕ) → ViperRun → Type 0
SpellRun p n = Headed header (IsLine (scope_of p n)) (AreRun (scope_of p n))

-- the bytes spell this run of the unit of this number
abbrev pub SpellsViperRun : List ℕ → Program → ℕ → ViperRun → Type 0
SpellsViperRun bytes p n run = SpellRun p n (lines_of bytes) run

abbrev pub GoesWrongAt : List ℕ → Program → ℕ → Pos → Type 0
GoesWrongAt bytes p n at = WrongAt (SpellRun p n) bytes at
