-- The commands: what the words of a call ask for, and the files that they name.
use Rattle.std.specs.Prelude.{⊤, ◌≡◌, ◌<◌, ◌≤◌, ◌++◌, ℕ, IsTrue, List, [], ◌∷◌, length, codes}
use Rattle.std.specs.Char.{is_ascii_digit}
use Rattle.std.specs.List.{list_all}
use Rattle.std.specs.Str.Parse.{digits_value}
use Rattle.vb_base.specs.Labels.{Spells}
use Rattle.vb_base.specs.Limits.{max_viper_bytes, max_boogie_bytes}
use Rattle.vb_base.specs.declared.labels.Label.{Label}
use Rattle.vb_tool.specs.Budget.{max_execution_budget}

pub data Command : Type 0 where
  -- `translate FILE`
  Translate : List ℕ → Command
  -- `run FILE UNIT RUNFILE`
  Run : List ℕ → List ℕ → List ℕ → Command
  -- `replay BPL BRUN`
  Replay : List ℕ → List ℕ → Command
  -- `make N`
  Make : ℕ → Command
  -- `exec FILE METHOD RUNFILE N`
  Execute : List ℕ → List ℕ → List ℕ → ℕ → Command
  -- `cut BPL`
  Cut : List ℕ → Command
  -- `vc BPL PROC AT PART KIND`, where the last three words are a label
  Condition : List ℕ → List ℕ → Label → Command

-- one to nine digits, and their number. Leading zeros are allowed.
pub record IsNumber (word : List ℕ) (n : ℕ) : Type 0 where
  pub some : 0 < length word
  pub few : length word ≤ 9
  pub digits : IsTrue (list_all is_ascii_digit word)
  pub value : digits_value 10 word ≡ n

-- the words ask for this command
pub data Asks (words : List (List ℕ)) : Command → Type 0 where
  translate : {file : List ℕ} → words ≡ codes "translate" ∷ file ∷ [] → Asks words (Translate file)
  run : {file unit run_file : List ℕ} → words ≡ codes "run" ∷ file ∷ unit ∷ run_file ∷ [] → Asks words (Run file unit run_file)
  replay : {file run_file : List ℕ} → words ≡ codes "replay" ∷ file ∷ run_file ∷ [] → Asks words (Replay file run_file)
  make : {word : List ℕ} {n : ℕ} → words ≡ codes "make" ∷ word ∷ [] → IsNumber word n → Asks words (Make n)
  execute : {file method run_file word : List ℕ} {n : ℕ} → words ≡ codes "exec" ∷ file ∷ method ∷ run_file ∷ word ∷ [] → IsNumber word n →
      Asks words (Execute file method run_file n)
  cut : {file : List ℕ} → words ≡ codes "cut" ∷ file ∷ [] → Asks words (Cut file)
  condition : {file procedure at part kind : List ℕ} {label : Label} → words ≡ codes "vc" ∷ file ∷ procedure ∷ at ∷ part ∷ kind ∷ [] →
      Spells (at ++ codes " " ++ part ++ codes " " ++ kind) label → Asks words (Condition file procedure label)

-- the words are none of the forms of a command
pub record IsNoCommand (words : List (List ℕ)) : Type 0 where
  pub asks_none : (command : Command) → Asks words command → ⊥

-- the files that a command names, in the order in which they are read
abbrev pub files_of : Command → List (List ℕ)
files_of (Translate file) = file ∷ []
files_of (Run file unit run_file) = file ∷ run_file ∷ []
files_of (Replay file run_file) = file ∷ run_file ∷ []
files_of (Make n) = []
files_of (Execute file method run_file n) = file ∷ run_file ∷ []
files_of (Cut file) = file ∷ []
files_of (Condition file procedure label) = file ∷ []

-- the most bytes that each of them may have
abbrev pub limit_of : Command → ℕ
limit_of (Translate file) = max_viper_bytes
limit_of (Run file unit run_file) = max_viper_bytes
limit_of (Replay file run_file) = max_boogie_bytes
limit_of (Make n) = 0
limit_of (Execute file method run_file n) = max_viper_bytes
limit_of (Cut file) = max_boogie_bytes
limit_of (Condition file procedure label) = max_boogie_bytes

-- the budget of an execution is no greater than it may be: with a greater one, no file is read
abbrev pub HasBudget : Command → Type 0
HasBudget (Translate file) = ⊤
HasBudget (Run file unit run_file) = ⊤
HasBudget (Replay file run_file) = ⊤
HasBudget (Make n) = ⊤
HasBudget (Execute file method run_file n) = n ≤ max_execution_budget
HasBudget (Cut file) = ⊤
HasBudget (Condition file procedure label) = ⊤
