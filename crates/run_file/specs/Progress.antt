-- How a run file is read line by line. That this is the run that the lines spell is shown in `proofs/`.
use Rattle.std.specs.Prelude.{ℕ, zero, suc, ◌+◌, Bool, true, false, ◌&&◌, ◌==◌, nat_lt, List, [], ◌∷◌, ◌++◌, Option, Some, None, codes, length, slice_set, if◌then◌else◌}
use Rattle.std.specs.BTreeSet.{insert_key}
use Rattle.std.specs.Str.{bytes_eq}
use Rattle.vb_value.specs.declared.values.Value.{Value}
use Rattle.viper_state.specs.State.{Memo}
use Rattle.viper_state.specs.Choice.{Choice, Branch, Took, Amount, Fresh, Filled}
use Rattle.run_file.specs.Lines.{UnitScope, ViperLine, Var, Heap, Holds, Chosen, Opened}
use Rattle.run_file.specs.Reading.{line_of}
use Rattle.run_file.specs.Front.{Front}
use Rattle.run_file.specs.Run.{ViperRun, scope_memo, empty_opening, memo_with}
use Rattle.run_file_words.specs.Machine.{FileKind, Machine, among, machine_of}
use Rattle.run_file.specs.NamedOrder.{named_cmp}
use Rattle.run_file.specs.declared.lines.LineTarget.{LineTarget}
use Rattle.run_file.specs.declared.lines.LineTarget.TheVariants as named
use Rattle.run_file.specs.declared.reader.ViperStage.{ViperStage}
use Rattle.run_file.specs.declared.reader.ViperStage.TheVariants as stage

-- ---- the lines so far

-- how far a file is read: what stands open, the names that its lines have named, and the run so far, or the prefix of it. Where a
-- heap and contents are filled, they are the last of the choices.
pub record Progress (R : Type 0) : Type 0 where
  pub stage : ViperStage
  pub named : List LineTarget
  pub run : R

-- what lines make of a run, or of a prefix of one
pub record Changes (R : Type 0) : Type 0 where
  -- nothing is read yet
  pub begun : UnitScope → R
  -- a variable has a value in the opening
  pub set : ℕ → Value → R → R
  -- a line of a heap and contents
  pub place : ViperStage → ViperLine → R → R
  -- a choice more
  pub choose : Choice → R → R

-- ---- runs

-- a choice of a heap and contents with what a line gives
abbrev pub choice_with : ViperLine → Choice → Choice
choice_with l (Filled m) = Filled (memo_with m l)
choice_with l (Branch b) = Branch b
choice_with l (Took v) = Took v
choice_with l (Amount q) = Amount q
choice_with l (Fresh r) = Fresh r

-- the last choice with what a line gives
abbrev pub last_with : ViperLine → List Choice → List Choice
last_with l [] = []
last_with l (c ∷ []) = choice_with l c ∷ []
last_with l (c ∷ d ∷ cs) = c ∷ last_with l (d ∷ cs)

-- what a line of a heap and contents gives, where these are filled
abbrev pub run_with : ViperStage → ViperLine → ViperRun → ViperRun
run_with stage.Header l run = run
run_with stage.Opening l run = record run { opening = record { store = run.opening.store; memo = memo_with run.opening.memo l } }
run_with stage.Filling l run = record run { choices = last_with l run.choices }
run_with stage.Choosing l run = run

-- the run with the heap and contents that are filled: the opening's, or those of the last choice
abbrev pub with_filled : ViperStage → Memo → ViperRun → ViperRun
with_filled stage.Header m run = record run { opening = record { store = run.opening.store; memo = m } }
with_filled stage.Opening m run = record run { opening = record { store = run.opening.store; memo = m } }
with_filled stage.Filling m run = record run { choices = run.choices ++ Filled m ∷ [] }
with_filled stage.Choosing m run = run

-- a variable's value in the opening
abbrev pub run_set : ℕ → Value → ViperRun → ViperRun
run_set n v run = record run { opening = record { store = slice_set run.opening.store n v; memo = run.opening.memo } }

abbrev pub run_chosen : Choice → ViperRun → ViperRun
run_chosen c run = record { opening = run.opening; choices = run.choices ++ c ∷ [] }

abbrev pub begun_run : UnitScope → ViperRun
begun_run s = record { opening = empty_opening s; choices = [] }

-- the changes of whole runs
abbrev pub whole : Changes ViperRun
whole = record { begun = begun_run; set = run_set; place = run_with; choose = run_chosen }

-- ---- prefixes

-- the stage as the prefix sees it: the heaps and contents behind it are not filled
abbrev pub stage_within : ℕ → ViperStage → ViperStage
stage_within more stage.Header = stage.Header
stage_within more stage.Opening = stage.Opening
stage_within zero stage.Filling = stage.Filling
stage_within (suc more) stage.Filling = stage.Choosing
stage_within more stage.Choosing = stage.Choosing

abbrev pub front_with : ViperStage → ViperLine → Front → Front
front_with g l front = record { run = run_with (stage_within front.more g) l front.run; more = front.more }

-- the next choice is within the prefix of so many
abbrev pub has_room : ℕ → ℕ → ℕ → Bool
has_room many more built = more == 0 && nat_lt built many

abbrev pub front_chosen : ℕ → Choice → Front → Front
front_chosen many c front = if has_room many front.more (length front.run.choices)
    then record { run = run_chosen c front.run; more = front.more }
    else record { run = front.run; more = front.more + 1 }

-- the changes of the prefixes with so many choices
abbrev pub fronts : ℕ → Changes Front
fronts many = record {
  begun = λ s. record { run = begun_run s; more = 0 };
  set = λ n v front. record { run = run_set n v front.run; more = front.more };
  place = front_with;
  choose = front_chosen many;
}

-- ---- lines

abbrev pub has_named : List LineTarget → LineTarget → Bool
has_named names n = among named_cmp names n

-- the run changes so, where the name is new
abbrev pub once : {R : Type 0} → Progress R → LineTarget → R → Option (Progress R)
once st n run = if has_named st.named n then None else Some (record { stage = st.stage; named = insert_key named_cmp st.named n; run = run })

-- a variable's line may stand in the opening, and a line of a heap and contents where these are filled
abbrev pub may_set : ViperStage → Bool
may_set stage.Opening = true
may_set _ = false

abbrev pub may_place : ViperStage → Bool
may_place stage.Opening = true
may_place stage.Filling = true
may_place _ = false

abbrev pub begun : {R : Type 0} → Changes R → UnitScope → Progress R
begun k s = record { stage = stage.Header; named = []; run = k.begun s }

abbrev pub chosen : {R : Type 0} → Changes R → ViperStage → Progress R → Choice → Progress R
chosen k next st c = record { stage = next; named = []; run = k.choose c st.run }

abbrev pub variable_set : {R : Type 0} → Changes R → Progress R → ℕ → Value → Option (Progress R)
variable_set k st n v = if may_set st.stage then once st (named.Variable n) (k.set n v st.run) else None

abbrev pub place_set : {R : Type 0} → Changes R → Progress R → ViperLine → LineTarget → Option (Progress R)
place_set k st l n = if may_place st.stage then once st n (k.place st.stage l st.run) else None

abbrev pub followed : {R : Type 0} → Changes R → UnitScope → Progress R → ViperLine → Option (Progress R)
followed k s st (Var n v) = variable_set k st n v
followed k s st (Heap f r v) = place_set k st (Heap f r v) (named.Place f r)
followed k s st (Holds q i c) = place_set k st (Holds q i c) (named.Instance q i)
followed k s st (Chosen c) = Some (chosen k stage.Choosing st c)
followed k s st Opened = Some (chosen k stage.Filling st (Filled (scope_memo s)))

abbrev pub is_header : List (List ℕ) → Bool
is_header (a ∷ b ∷ []) = bytes_eq a (codes "viper") && bytes_eq b (codes "run")
is_header _ = false

abbrev pub header_read : {R : Type 0} → Progress R → List (List ℕ) → Option (Progress R)
header_read st words = if is_header words then Some (record { stage = stage.Opening; named = st.named; run = st.run }) else None

abbrev pub is_headed : ViperStage → Bool
is_headed stage.Header = false
is_headed _ = true

-- how the run files of a unit with this scope are read, where lines change this of a run
abbrev pub file_kind : {R : Type 0} → Changes R → UnitScope → FileKind (Progress R) ViperLine R
file_kind k s = record {
  begun = begun k s;
  is_headed = λ st. is_headed st.stage;
  header_read = λ st words. header_read st words;
  line_of = λ words. line_of s words;
  followed = followed k s;
  run = λ st. st.run;
}

-- the reader of such files
abbrev pub reader_of : {R : Type 0} → Changes R → UnitScope → Machine (Progress R) R
reader_of k s = machine_of (file_kind k s)

-- the reader of whole runs
abbrev pub reader : UnitScope → Machine (Progress ViperRun) ViperRun
reader = reader_of whole

-- the reader of prefixes with so many choices
abbrev pub front_reader : ℕ → UnitScope → Machine (Progress Front) Front
front_reader many = reader_of (fronts many)
