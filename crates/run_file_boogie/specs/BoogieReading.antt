-- How a run file of Boogie is read: what code makes of a line. That this is what the words spell is shown in `proofs/`.
use Rattle.std.specs.Prelude.{ℕ, Bool, ◌||◌, ◌&&◌, List, [], ◌∷◌, Option, Some, None, codes, if◌then◌else◌}
use Rattle.std.specs.Option.{option_map}
use Rattle.std.specs.Str.{bytes_eq}
use Rattle.vb_value.specs.declared.keys.KeyPart.{KeyPart}
use Rattle.boogie_tree.specs.Values.{same_base, base_of_scalar}
use Rattle.boogie_tree.specs.Program.{BType}
use Rattle.boogie_tree.specs.Value.{Key, BScalar, Snap, Entry, BChoice, Pick, Value as Given}
use Rattle.moves.specs.Lists.{is_empty}
use Rattle.run_file_words.specs.Known.{Known}
use Rattle.run_file_words.specs.Reading.{◌>>=◌, truth, any_value, argument_of, whole_content, single, named_line, keyword_from}
use Rattle.moves.specs.Scalars.{scalar}
use Rattle.run_file_boogie.specs.BoogieLines.{BoogieLine, Var, Map, At, Chosen, Opened}
use Rattle.run_file_boogie.specs.declared.boogie_lines.BoogieKeyword.{BoogieKeyword}
use Rattle.run_file_boogie.specs.declared.boogie_lines.BoogieKeyword.TheVariants as keyword

-- ---- values

abbrev pub opens_content : List ℕ → Bool
opens_content word = bytes_eq word (codes "unit") || bytes_eq word (codes "leaf") || bytes_eq word (codes "pair")

abbrev pub content_scalar : List (List ℕ) → Option BScalar
content_scalar words = option_map Snap (whole_content words)

abbrev pub word_scalar : List (List ℕ) → Option BScalar
word_scalar words = option_map scalar (single words >>= any_value)

-- the value that all the words are
abbrev pub scalar_from : List (List ℕ) → Option BScalar
scalar_from [] = None
scalar_from (word ∷ words) = if opens_content word then content_scalar (word ∷ words) else word_scalar (word ∷ words)

abbrev pub part_of : List ℕ → Option KeyPart
part_of word = any_value word >>= argument_of

-- a part of a key in front of other words
abbrev pub part_from : List (List ℕ) → Option (KeyPart × List (List ℕ))
part_from [] = None
part_from (word ∷ []) = None
part_from (word ∷ next ∷ words) = option_map (λ a. (a, next ∷ words)) (part_of word)

-- the parts of a key in front of other words, and those words
abbrev pub with_part : Option KeyPart → List (List ℕ) → Key × List (List ℕ) → Key × List (List ℕ)
with_part None words r = ([], words)
with_part (Some a) words r = (a ∷ r.0, r.1)

abbrev pub parts_from : List (List ℕ) → Key × List (List ℕ)
parts_from [] = ([], [])
parts_from (word ∷ []) = ([], word ∷ [])
parts_from (word ∷ next ∷ words) = with_part (part_of word) (word ∷ next ∷ words) (parts_from (next ∷ words))

-- the entry that parts of a key and words behind them are
abbrev pub entry_behind : Key × List (List ℕ) → Option Entry
entry_behind r = if is_empty r.0 then None else option_map (λ v. record { key = r.0; value = v }) (scalar_from r.1)

unfoldable pub entry_from : List (List ℕ) → Option Entry
entry_from words = entry_behind (parts_from words)

-- ---- lines

abbrev pub keyword_text : BoogieKeyword → List ℕ
keyword_text keyword.Var = codes "var"
keyword_text keyword.Entries = codes "entries"
keyword_text keyword.At = codes "at"
keyword_text keyword.Pick = codes "pick"
keyword_text keyword.Value = codes "value"

abbrev pub keywords : List BoogieKeyword
keywords = keyword.Var ∷ keyword.Entries ∷ keyword.At ∷ keyword.Pick ∷ keyword.Value ∷ []

-- the line of a variable with this number and this type, behind its name

abbrev pub variable_given : ℕ → BType → BScalar → Option BoogieLine
variable_given n u v = if is_empty u.keys && same_base (base_of_scalar v) u.base then Some (Var n v) else None

abbrev pub variable_line : ℕ → Option BType → List (List ℕ) → Option BoogieLine
variable_line n None words = None
variable_line n (Some u) words = scalar_from words >>= variable_given n u

abbrev pub map_line : ℕ → Option BType → List (List ℕ) → Option BoogieLine
map_line n None words = None
map_line n (Some u) [] = if is_empty u.keys then None else Some (Map n)
map_line n (Some u) (word ∷ words) = None

abbrev pub entries_line : Known BType → List (List ℕ) → Option BoogieLine
entries_line k [] = Some Opened
entries_line k (word ∷ words) = named_line map_line k (word ∷ words)

abbrev pub pick_line : List (List ℕ) → Option BChoice
pick_line words = single words >>= (λ word. option_map Pick (truth word))

abbrev pub value_line : List (List ℕ) → Option BChoice
value_line words = option_map Given (scalar_from words)

abbrev pub keyed_line : Known BType → BoogieKeyword → List (List ℕ) → Option BoogieLine
keyed_line k keyword.Var words = named_line variable_line k words
keyed_line k keyword.Entries words = entries_line k words
keyed_line k keyword.At words = option_map At (entry_from words)
keyed_line k keyword.Pick words = option_map Chosen (pick_line words)
keyed_line k keyword.Value words = option_map Chosen (value_line words)

unfoldable pub line_of : Known BType → List (List ℕ) → Option BoogieLine
line_of k words = keyword_from keyword_text keywords words >>= (λ w. keyed_line k w.0 w.1)
