-- How a run file is read: what code makes of a word and of a line. That this is what they spell is shown in `proofs/`.
use Rattle.std.specs.Prelude.{ℕ, List, [], ◌∷◌, Option, Some, None, codes}
use Rattle.std.specs.Option.{option_map}
use Rattle.vb_value.specs.declared.values.Ty.{Ty}
use Rattle.vb_value.specs.declared.values.Value.{Value}
use Rattle.viper_state.specs.Choice.{Choice, Branch, Took, Amount, Fresh}
use Rattle.run_file.specs.Lines.{UnitScope, ViperLine, Var, Heap, Holds, Chosen, Opened}
use Rattle.run_file.specs.declared.lines.ViperKeyword.{ViperKeyword}
use Rattle.run_file.specs.declared.lines.ViperKeyword.TheVariants as keyword
use Rattle.run_file_words.specs.Reading.{truth, reference, fraction, value_of, any_value, ◌>>=◌, key_from, whole_content, single, named_line, keyword_from}

abbrev pub keyword_text : ViperKeyword → List ℕ
keyword_text keyword.Var = codes "var"
keyword_text keyword.Heap = codes "heap"
keyword_text keyword.Content = codes "content"
keyword_text keyword.Pick = codes "pick"
keyword_text keyword.Value = codes "value"
keyword_text keyword.Amount = codes "amount"
keyword_text keyword.Fresh = codes "fresh"
keyword_text keyword.State = codes "state"

abbrev pub keywords : List ViperKeyword
keywords =
    keyword.Var ∷ keyword.Heap ∷ keyword.Content ∷ keyword.Pick ∷ keyword.Value ∷ keyword.Amount ∷ keyword.Fresh ∷ keyword.State ∷ []

abbrev pub only_value : Ty → List (List ℕ) → Option Value
only_value u words = single words >>= value_of u

-- the lines of what has this number and this type, behind its name

abbrev pub variable_line : ℕ → Option Ty → List (List ℕ) → Option ViperLine
variable_line n None words = None
variable_line n (Some u) words = option_map (Var n) (only_value u words)

abbrev pub place_line : ℕ → Option Ty → List (List ℕ) → Option ViperLine
place_line f None words = None
place_line f (Some u) [] = None
place_line f (Some u) (place ∷ words) = reference place >>= (λ r. option_map (Heap f r) (only_value u words))

abbrev pub instance_line : ℕ → Option (List Ty) → List (List ℕ) → Option ViperLine
instance_line q None words = None
instance_line q (Some us) words = key_from us words >>= (λ k. option_map (Holds q k.0) (whole_content k.1))

abbrev pub pick_line : List (List ℕ) → Option Choice
pick_line words = single words >>= (λ word. option_map Branch (truth word))

abbrev pub value_line : List (List ℕ) → Option Choice
value_line words = single words >>= (λ word. option_map Took (any_value word))

abbrev pub amount_line : List (List ℕ) → Option Choice
amount_line words = single words >>= (λ word. option_map Amount (fraction word))

abbrev pub fresh_line : List (List ℕ) → Option Choice
fresh_line words = single words >>= (λ word. option_map Fresh (reference word))

abbrev pub state_line : List (List ℕ) → Option ViperLine
state_line [] = Some Opened
state_line (word ∷ words) = None

abbrev pub keyed_line : UnitScope → ViperKeyword → List (List ℕ) → Option ViperLine
keyed_line s keyword.Var words = named_line variable_line s.variables words
keyed_line s keyword.Heap words = named_line place_line s.fields words
keyed_line s keyword.Content words = named_line instance_line s.predicates words
keyed_line s keyword.Pick words = option_map Chosen (pick_line words)
keyed_line s keyword.Value words = option_map Chosen (value_line words)
keyed_line s keyword.Amount words = option_map Chosen (amount_line words)
keyed_line s keyword.Fresh words = option_map Chosen (fresh_line words)
keyed_line s keyword.State words = state_line words

unfoldable pub line_of : UnitScope → List (List ℕ) → Option ViperLine
line_of s words = keyword_from keyword_text keywords words >>= (λ w. keyed_line s w.0 w.1)
