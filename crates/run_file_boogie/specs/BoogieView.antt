-- The plain data that contracts see of a line, of a run, and of how far a file is read.
use Rattle.std.specs.Prelude.{◌≡◌, ◌<◌, ◌≤◌, ◌+◌, ◌^◌, ℕ, false, List, [], ◌∷◌, length, map, slice_get, take, drop, Option, Some, None}
use Rattle.std.specs.Borrow.{Bor}
use Rattle.std.specs.Option.{option_map}
use Rattle.sparse.specs.Meaning.{meaning_of}
use Rattle.sparse.specs.Map.{Map}
use Rattle.boogie_tree.specs.Program.{BType}
use Rattle.boogie_tree.specs.Value as v
use Rattle.boogie_tree.specs.Whole.{scalar_of, entry_of, choice_of, run_of, locals_of, setting_of}
use Rattle.boogie_tree.specs.declared.values.BScalar.{BScalar}
use Rattle.boogie_tree.specs.declared.values.BSetting.{BSetting}
use Rattle.run_file_words.specs.Known.{Known}
use Rattle.run_file_words.specs.Text.{told, is_skipped}
use Rattle.run_file_boogie.specs.BoogieLines as l
use Rattle.run_file_boogie.specs.BoogieLines.{known}
use Rattle.run_file_boogie.specs.BoogieProgress.{Progress}
use Rattle.run_file_boogie.specs.declared.boogie_lines.BoogieLine.{BoogieLine}
use Rattle.run_file_boogie.specs.declared.boogie_lines.BoogieLine.TheVariants as line
use Rattle.run_file_boogie.specs.declared.boogie_lines.ProcedureScope.{ProcedureScope}
use Rattle.run_file_boogie.specs.declared.boogie_reader.BoogieReader.{BoogieReader}

abbrev pub line_view : BoogieLine → l.BoogieLine
line_view (line.Var n x) = l.Var n (scalar_of x)
line_view (line.Map n) = l.Map n
line_view (line.At e) = l.At (entry_of e)
line_view (line.Chosen c) = l.Chosen (choice_of c)
line_view line.Opened = l.Opened

abbrev pub scope_view : ProcedureScope → Known BType
scope_view s = record { names = s.names.now; types = (known (locals_of s.locals.now)).types }

-- the map that is filled
abbrev pub filling_of : Map v.Key BScalar → Map v.Key v.BScalar
filling_of m = meaning_of (λ k. k) scalar_of m

abbrev pub progress_of : BoogieReader → Progress
progress_of x = record { stage = x.stage; named = x.named.keys; keys = x.keys.keys; filling = filling_of x.filling; run = run_of x.run }

-- the line of this index is the first that is not skipped
pub record FirstSaid (lines : List (List ℕ)) (i : ℕ) (text : List ℕ) : Type 0 where
  pub within : i < length lines
  pub skipped : told (take i lines) ≡ []
  pub here : drop i lines ≡ text ∷ drop (i + 1) lines
  pub said : is_skipped text ≡ false

-- so this is its number and the line, or all lines are skipped
abbrev pub IsFirst : List (List ℕ) → ℕ → Option (Bor (List ℕ)) → Type 0
IsFirst lines line None = (told lines ≡ []) × (line ≡ length lines)
IsFirst lines line (Some text) = (i : ℕ) × ((line ≡ i + 1) × FirstSaid lines i text.now)

abbrev pub IsFirstSaid : List (List ℕ) → ℕ × Option (Bor (List ℕ)) → Type 0
IsFirstSaid lines r = (1 ≤ r.0) × ((r.0 < 2 ^ 32) × IsFirst lines r.0 r.1)

-- ---- settings, by the places of the last ones

abbrev pub found_value : List BSetting → Option ℕ → Option v.BValue
found_value ss None = None
found_value ss (Some i) = option_map (λ (s : v.BSetting). s.value) (slice_get (map setting_of ss) i)

abbrev pub found_values : List BSetting → List (Option ℕ) → List (Option v.BValue)
found_values ss places = map (found_value ss) places
