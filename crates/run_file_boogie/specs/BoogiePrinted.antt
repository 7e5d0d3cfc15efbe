-- The text that is printed of a run of Boogie: the header, then the variables other than their default in order of declaration,
-- then the choices in order. The places of a map come in ascending order of the keys, without defaults.
use Rattle.std.specs.Prelude.{ℕ, List, [], ◌∷◌, ◌++◌, Option, Some, None, codes, fold, length, replicate, slice_set, if◌then◌else◌}
use Rattle.boogie_tree.specs.Values.{is_default}
use Rattle.boogie_tree.specs.Program.{Proc}
use Rattle.boogie_tree.specs.Value.{BScalar, Int, Bool, Ref, Real, Snap, BValue, One, Many, Entry, BChoice, Pick, Value, Entries, BSetting, BRun}
use Rattle.moves.specs.Lists.{is_empty}
use Rattle.run_file_words.specs.Printed.{truth_text, reference_text, fraction_text, content_text, key_text, numbered_text}
use Rattle.std.specs.Fmt.{signed_decimal}
use Rattle.run_file_boogie.specs.BoogieLines.{known}
use Rattle.run_file_boogie.specs.BoogieRun.{entries_of}

abbrev pub scalar_text : BScalar → List ℕ
scalar_text (Int n) = signed_decimal n
scalar_text (Bool b) = truth_text b
scalar_text (Ref r) = reference_text r
scalar_text (Real q) = fraction_text q
scalar_text (Snap c) = content_text c

-- ---- lines

abbrev pub entry_text : Entry → List ℕ
entry_text e = codes "at " ++ key_text e.key ++ scalar_text e.value ++ codes "\n"

abbrev pub entries_text : List Entry → List ℕ
entries_text [] = []
entries_text (e ∷ es) = entry_text e ++ entries_text es

-- a variable other than its default
abbrev pub value_text : List ℕ → BValue → List ℕ
value_text name (One v) = if is_default v then [] else codes "var " ++ name ++ codes " " ++ scalar_text v ++ codes "\n"
value_text name (Many m) = if is_empty m.entries then [] else codes "entries " ++ name ++ codes "\n" ++ entries_text (entries_of m)

abbrev pub given_text : List ℕ → Option BValue → List ℕ
given_text name None = []
given_text name (Some v) = value_text name v

abbrev pub choice_text : BChoice → List ℕ
choice_text (Pick b) = codes "pick " ++ truth_text b ++ codes "\n"
choice_text (Value v) = codes "value " ++ scalar_text v ++ codes "\n"
choice_text (Entries es) = codes "entries\n" ++ entries_text es

abbrev pub choices_text : List BChoice → List ℕ
choices_text [] = []
choices_text (c ∷ cs) = choice_text c ++ choices_text cs

-- ---- runs

-- what settings give each of so many variables: the last of them counts
abbrev pub given_with : List (Option BValue) → BSetting → List (Option BValue)
given_with vs s = slice_set vs s.var (Some s.value)

abbrev pub given : ℕ → List BSetting → List (Option BValue)
given n ss = fold given_with (replicate n None) ss

-- what stands before the choices
abbrev pub beginning_text : Proc → List BSetting → List ℕ
beginning_text d ss = codes "boogie run " ++ d.name ++ codes "\n" ++ numbered_text given_text (known d.locals).names 0 (given (length d.locals) ss)

-- the printed text of a run of the procedure
abbrev pub run_text : Proc → BRun → List ℕ
run_text d run =
    codes "boogie run " ++ d.name ++ codes "\n" ++ numbered_text given_text (known d.locals).names 0 (given (length d.locals) run.settings) ++ choices_text run.choices
