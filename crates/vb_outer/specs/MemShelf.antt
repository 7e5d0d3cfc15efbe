-- A shelf in memory.
use Rattle.std.specs.Prelude.{ℕ, Bool, true, List, [], ◌∷◌, drop, min, length, Option, None, Some, is_some, is_none, if◌then◌else◌, unwrap_or, ◌&&◌}
use Rattle.std.specs.Str.{bytes_eq}
use Rattle.vb_outer.specs.Calls.{Calls, fails_next, called, call_failed}
use Rattle.vb_outer.specs.Shelf.{Files}

pub record ShelfState : Type 0 where
  -- names and bytes
  pub files : List (List ℕ × List ℕ)
  -- what is left to read of the begun file; nothing, if none is begun
  pub left : List ℕ
  -- how many bytes a read gives at most
  pub most : ℕ
  pub calls : Calls

-- the bytes under a name
abbrev pub file_named : List (List ℕ × List ℕ) → Files
file_named [] name = None
file_named (file ∷ files) name = if bytes_eq file.0 name then Some file.1 else file_named files name

-- no file has the name of a later one
abbrev pub names_differ : List (List ℕ × List ℕ) → Bool
names_differ [] = true
names_differ (file ∷ files) = is_none (file_named files file.0) && names_differ files

-- what a begin finds: the bytes under the name, or None where it fails
abbrev pub begun_file : ShelfState → List ℕ → Option (List ℕ)
begun_file shelf name = if fails_next shelf.calls then None else file_named shelf.files name

-- the call is counted as a fault only where it is one of those that fail, and not at a missing name
abbrev pub begin_calls : ShelfState → List ℕ → Calls
begin_calls shelf name = if fails_next shelf.calls && is_some (file_named shelf.files name) then call_failed shelf.calls else called shelf.calls

abbrev pub after_begin : ShelfState → List ℕ → ShelfState
after_begin shelf name = record shelf { left = unwrap_or (begun_file shelf name) []; calls = begin_calls shelf name }

-- how many bytes a read that does not fail gives to a buffer: the smallest of `most`, its length and what is left
abbrev pub read_count : ShelfState → ℕ → ℕ
read_count shelf room = min (min shelf.most room) (length shelf.left)

abbrev pub after_read : ShelfState → ℕ → ShelfState
after_read shelf room = if fails_next shelf.calls then record shelf { calls = call_failed shelf.calls } else record shelf { left = drop (read_count shelf room) shelf.left; calls = called shelf.calls }
