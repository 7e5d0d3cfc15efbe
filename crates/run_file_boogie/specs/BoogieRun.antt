-- Which run of a procedure a run file of Boogie spells, and where a file goes wrong that spells none.
use Rattle.std.specs.Prelude.{◌≡◌, ◌≢◌, ◌&&◌, ℕ, Bool, List, [], ◌∷◌, ◌++◌, IsTrue, codes, map, fold, slice_get, slice_set, Some, All, AllPairs, if◌then◌else◌}
use Rattle.sparse.specs.Map as m
use Rattle.sparse.specs.Map.{empty, set}
use Rattle.vb_base.specs.declared.places.Pos.{Pos}
use Rattle.vb_value.specs.Content as content
use Rattle.vb_value.specs.Key.{key_cmp}
use Rattle.boogie_tree.specs.Values.{same_base, base_of_scalar, default_of, is_default, fits_key}
use Rattle.boogie_tree.specs.Program.{BType, Local, Proc}
use Rattle.boogie_tree.specs.Value.{Key, BScalar, Snap, same_scalar, BValue, One, Many, Entry, BChoice, Entries, BSetting, BRun}
use Rattle.moves.specs.Lists.{is_empty}
use Rattle.run_file_words.specs.Text.{lines_of, told}
use Rattle.run_file_words.specs.Known.{Known}
use Rattle.run_file_boogie.specs.BoogieLines.{known, BoogieLine, Var, Map, At, Chosen, Opened, IsLine}
use Rattle.run_file_words.specs.Machine.{Headed, WrongAt}

-- ---- lines that fill a map

-- a map with what a line gives. A line that gives the default of its own type leaves no entry.
abbrev pub entry_with : m.Map Key BScalar → Entry → m.Map Key BScalar
entry_with n e = if is_default e.value then n else set key_cmp same_scalar n e.key e.value

-- the map with this default that lines fill
abbrev pub filled : BScalar → List Entry → m.Map Key BScalar
filled z es = fold entry_with (empty z) es

-- the entries of a choice, whose values may have different types
abbrev pub entries_of : m.Map Key BScalar → List Entry
entries_of n = map (λ (e : Key × BScalar). record { key = e.0; value = e.1 }) n.entries

-- the default of these maps is no value of an entry
abbrev pub nothing : BScalar
nothing = Snap content.Unit

-- an entry of a map of this type
abbrev pub fits_entry : BType → Entry → Bool
fits_entry u e = fits_key u.keys e.key && same_base (base_of_scalar e.value) u.base

-- no two of them are at one key, however it is spelled
abbrev pub KeysOnce : List Entry → Type 0
KeysOnce es = AllPairs (λ a b. a ≢ b) (map (λ (e : Entry). e.key) es)

-- ---- runs

-- these lines are these settings, in their order
pub data AreSettings (k : Known BType) : List BoogieLine → List BSetting → Type 0 where
  none : AreSettings k [] []
  one : {n : ℕ} {v : BScalar} {ls : List BoogieLine} {ss : List BSetting} → AreSettings k ls ss →
      AreSettings k (Var n v ∷ ls) (record { var = n; value = One v } ∷ ss)
  many : {n : ℕ} {u : BType} (block : List Entry) {ls : List BoogieLine} {ss : List BSetting} → slice_get k.types n ≡ Some u →
      All (λ e. IsTrue (fits_entry u e)) block → KeysOnce block → AreSettings k ls ss →
      AreSettings k (Map n ∷ map At block ++ ls) (record { var = n; value = Many (filled (default_of u.base) block) } ∷ ss)

-- these lines are these choices
pub data AreChoices : List BoogieLine → List BChoice → Type 0 where
  none : AreChoices [] []
  one : {c : BChoice} {ls : List BoogieLine} {cs : List BChoice} → AreChoices ls cs → AreChoices (Chosen c ∷ ls) (c ∷ cs)
  many : (block : List Entry) {ls : List BoogieLine} {cs : List BChoice} → KeysOnce block → AreChoices ls cs →
      AreChoices (Opened ∷ map At block ++ ls) (Entries (entries_of (filled nothing block)) ∷ cs)

-- these lines, after the header, are this run: first come the settings, of each variable once, and then the choices
pub record AreRun (k : Known BType) (ls : List BoogieLine) (run : BRun) : Type 0 where
  pub front : List BoogieLine
  pub rest : List BoogieLine
  pub whole : ls ≡ front ++ rest
  pub settings : AreSettings k front run.settings
  pub once : AllPairs (λ a b. a ≢ b) (map (λ (s : BSetting). s.var) run.settings)
  pub choices : AreChoices rest run.choices

-- the value of a variable that nothing is said of
abbrev pub unset : BType → BValue
unset u = if is_empty u.keys then One (default_of u.base) else Many (empty (default_of u.base))

-- the value of each variable where a run with these settings begins
abbrev pub environment : List Local → List BSetting → List BValue
environment ls ss = fold (λ env (s : BSetting). slice_set env s.var s.value) (map (λ (l : Local). unset l.ty) ls) ss

-- two runs begin with the same values, and take the same choices
pub record SameRun (ls : List Local) (a b : BRun) : Type 0 where
  pub environment : environment ls a.settings ≡ environment ls b.settings
  pub choices : a.choices ≡ b.choices

abbrev pub header : List ℕ → List (List ℕ)
header name = codes "boogie" ∷ codes "run" ∷ name ∷ []

-- the lines that are not skipped are the header with the procedure's name, and lines that are these settings and choices
abbrev pub SpellExactly : Proc → List (List ℕ) → BRun → Type 0
SpellExactly d = Headed (header d.name) (IsLine (known d.locals)) (AreRun (known d.locals))

-- the lines of a file spell this run of the procedure. Settings count by the values with which the run begins.
pub record SpellRun (d : Proc) (lines : List (List ℕ)) (run : BRun) : Type 0 where
  pub exact : BRun
  pub spelled : SpellExactly d lines exact
  pub same : SameRun d.locals exact run

abbrev pub SpellsBoogieRun : List ℕ → Proc → BRun → Type 0
SpellsBoogieRun bytes d run = SpellRun d (lines_of bytes) run

abbrev pub GoesWrongAt : List ℕ → Proc → Pos → Type 0
GoesWrongAt bytes d at = WrongAt (SpellRun d) bytes at

-- ---- the name of the procedure

-- the first line that is not skipped is the header with this name
pub record SpellName (lines : List (List ℕ)) (name : List ℕ) : Type 0 where
  pub words : List (List (List ℕ))
  pub headed : told lines ≡ header name ∷ words

abbrev pub SpellsName : List ℕ → List ℕ → Type 0
SpellsName bytes name = SpellName (lines_of bytes) name

abbrev pub NamesNothingAt : List ℕ → Pos → Type 0
NamesNothingAt bytes at = WrongAt SpellName bytes at
