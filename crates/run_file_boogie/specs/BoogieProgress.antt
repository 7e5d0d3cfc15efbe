-- How a run file of Boogie is read line by line. That this is the run that the lines spell is shown in `proofs/`.
use Rattle.std.specs.Prelude.{ℕ, Bool, true, false, ◌&&◌, List, [], ◌∷◌, ◌++◌, Option, Some, None, codes, slice_get, if◌then◌else◌}
use Rattle.std.specs.BTreeSet.{insert_key}
use Rattle.std.specs.Ordering.{nat_cmp}
use Rattle.std.specs.Str.{bytes_eq}
use Rattle.sparse.specs.Map as m
use Rattle.sparse.specs.Map.{empty}
use Rattle.vb_value.specs.Key.{key_cmp}
use Rattle.boogie_tree.specs.Values.{default_of}
use Rattle.boogie_tree.specs.Program.{BType}
use Rattle.boogie_tree.specs.Value.{Key, BScalar, BValue, One, Many, Entry, BChoice, Entries, BRun}
use Rattle.run_file_words.specs.Text.{words_of}
use Rattle.run_file_words.specs.Known.{Known}
use Rattle.run_file_boogie.specs.BoogieLines.{BoogieLine, Var, Map, At, Chosen, Opened}
use Rattle.run_file_boogie.specs.BoogieReading.{line_of}
use Rattle.run_file_boogie.specs.BoogieRun.{entry_with, entries_of, nothing, fits_entry}
use Rattle.run_file_words.specs.Machine.{FileKind, Machine, among, machine_of}
use Rattle.run_file_boogie.specs.declared.boogie_reader.BoogieStage.{BoogieStage}
use Rattle.run_file_boogie.specs.declared.boogie_reader.BoogieStage.TheVariants as stage

-- how far a file is read: what stands open, the variables that its lines have named, and the keys that those of the map that
-- is filled have named, this map, and the run so far
pub record Progress : Type 0 where
  pub stage : BoogieStage
  pub named : List ℕ
  pub keys : List Key
  pub filling : m.Map Key BScalar
  pub run : BRun

abbrev pub begun : Progress
begun = record { stage = stage.Header; named = []; keys = []; filling = empty nothing; run = record { settings = []; choices = [] } }

-- ---- runs

abbrev pub run_set : ℕ → BValue → BRun → BRun
run_set n v run = record { settings = run.settings ++ record { var = n; value = v } ∷ []; choices = run.choices }

abbrev pub run_chosen : BChoice → BRun → BRun
run_chosen c run = record { settings = run.settings; choices = run.choices ++ c ∷ [] }

-- the run with the map that was filled
abbrev pub with_filled : BoogieStage → m.Map Key BScalar → BRun → BRun
with_filled stage.Header n run = run
with_filled stage.Settings n run = run
with_filled (stage.Map i) n run = run_set i (Many n) run
with_filled stage.Choices n run = run
with_filled stage.Entries n run = run_chosen (Entries (entries_of n)) run

abbrev pub closed : Progress → BRun
closed st = with_filled st.stage st.filling st.run

-- ---- lines

-- a variable's line may stand before the first choice
abbrev pub may_set : BoogieStage → Bool
may_set stage.Settings = true
may_set (stage.Map i) = true
may_set _ = false

-- an entry may stand where a map of its type is filled
abbrev pub fits_type : Option BType → Entry → Bool
fits_type None e = false
fits_type (Some u) e = fits_entry u e

abbrev pub may_fill : Known BType → BoogieStage → Entry → Bool
may_fill k (stage.Map i) e = fits_type (slice_get k.types i) e
may_fill k stage.Entries e = true
may_fill k _ e = false

-- what is filled next is this map
abbrev pub opened : BoogieStage → List ℕ → BScalar → BRun → Progress
opened next named z run = record { stage = next; named = named; keys = []; filling = empty z; run = run }

-- a variable that is named for the first time
abbrev pub named_once : Progress → ℕ → Progress → Option Progress
named_once st n next = if may_set st.stage then (if among nat_cmp st.named n then None else Some next) else None

abbrev pub default_at : Option BType → BScalar
default_at None = nothing
default_at (Some u) = default_of u.base

abbrev pub variable_set : Progress → ℕ → BScalar → Option Progress
variable_set st n v = named_once st n (opened stage.Settings (insert_key nat_cmp st.named n) nothing (run_set n (One v) (closed st)))

abbrev pub map_opened : Known BType → Progress → ℕ → Option Progress
map_opened k st n = named_once st n (opened (stage.Map n) (insert_key nat_cmp st.named n) (default_at (slice_get k.types n)) (closed st))

abbrev pub entry_set : Known BType → Progress → Entry → Option Progress
entry_set k st e =
    if may_fill k st.stage e then (if among key_cmp st.keys e.key then None else
    Some (record { stage = st.stage; named = st.named; keys = insert_key key_cmp st.keys e.key; filling = entry_with st.filling e; run = st.run })) else None

abbrev pub followed : Known BType → Progress → BoogieLine → Option Progress
followed k st (Var n v) = variable_set st n v
followed k st (Map n) = map_opened k st n
followed k st (At e) = entry_set k st e
followed k st (Chosen c) = Some (opened stage.Choices st.named nothing (run_chosen c (closed st)))
followed k st Opened = Some (opened stage.Entries st.named nothing (closed st))

abbrev pub header_name : List (List ℕ) → Option (List ℕ)
header_name (a ∷ b ∷ name ∷ []) = if bytes_eq a (codes "boogie") && bytes_eq b (codes "run") then Some name else None
header_name _ = None

-- the name that a line says, where it is a header
abbrev pub name_said : Option (List ℕ) → Option (List ℕ)
name_said None = None
name_said (Some line) = header_name (words_of line)

-- whether the name of a header is the procedure's
abbrev pub is_named : List ℕ → Option (List ℕ) → Bool
is_named name None = false
is_named name (Some word) = bytes_eq word name

abbrev pub header_read : List ℕ → Progress → List (List ℕ) → Option Progress
header_read name st words = if is_named name (header_name words) then Some (record st { stage = stage.Settings }) else None

abbrev pub is_headed : BoogieStage → Bool
is_headed stage.Header = false
is_headed _ = true

-- how the run files of a procedure of this name are read, with these variables
abbrev pub file_kind : List ℕ → Known BType → FileKind Progress BoogieLine BRun
file_kind name k = record {
  begun = begun;
  is_headed = λ st. is_headed st.stage;
  header_read = header_read name;
  line_of = λ words. line_of k words;
  followed = followed k;
  run = closed;
}

-- the reader of such files
abbrev pub reader : List ℕ → Known BType → Machine Progress BRun
reader name k = machine_of (file_kind name k)
