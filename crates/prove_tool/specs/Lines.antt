-- The lines that tell what is shown of units.
use Rattle.std.specs.Prelude.{◌++◌, List, ℕ, [], ◌∷◌, codes}
use Rattle.std.specs.Fmt.{decimal}
use Rattle.vb_base.specs.Labels.{text_of}
use Rattle.cert_terms.specs.declared.faults.LineRefusal.{LineRefusal}
use Rattle.cert_terms.specs.declared.faults.LineRefusal.TheVariants as line
use Rattle.unit_proof.specs.declared.answers.Unfound.TheVariants as unfound
use Rattle.unit_proof.specs.declared.answers.UnitAnswer.{UnitAnswer}
use Rattle.unit_proof.specs.declared.answers.UnitVerdict.{UnitVerdict}
use Rattle.unit_proof.specs.declared.answers.UnitVerdict.TheVariants.{Proved, Uncertified, Refused}

-- the word of a reason for which a line of a certificate is refused
abbrev pub word_of : LineRefusal → List ℕ
word_of line.Header = codes "header"
word_of line.Ending = codes "ending"
word_of line.Word = codes "word"
word_of line.Number = codes "number"
word_of line.Count = codes "count"
word_of line.Name = codes "name"
word_of line.Type = codes "type"
word_of line.Definition = codes "definition"
word_of line.Shape = codes "shape"
word_of line.Case = codes "case"
word_of line.Sum = codes "sum"
word_of line.Large = codes "large"
word_of line.Hint = codes "hint"
word_of line.Open = codes "open"
word_of line.Long = codes "long"
word_of line.Missing = codes "missing"

-- the line at which a certificate is refused, and why
abbrev pub refused_text : ℕ → LineRefusal → List ℕ
refused_text n why = codes "certificate " ++ decimal n ++ codes " " ++ word_of why

-- the word with which the line of a unit begins, and a blank
abbrev pub front_of : UnitVerdict → List ℕ
front_of Proved = codes "proved "
front_of (Uncertified why) = codes "open "
front_of (Refused n why) = codes "open "

-- what stands behind its name
abbrev pub back_of : UnitVerdict → List ℕ
back_of Proved = []
back_of (Uncertified unfound.Missing) = []
back_of (Uncertified (unfound.Open label)) = codes " " ++ text_of label
back_of (Uncertified unfound.Spent) = codes " steps"
back_of (Refused n why) = codes " " ++ refused_text n why

abbrev pub unit_line : UnitAnswer → List ℕ
unit_line a = front_of a.verdict ++ a.name ++ back_of a.verdict ++ codes "\n"

-- a line for each unit, in order
abbrev pub lines_text : List UnitAnswer → List ℕ
lines_text [] = []
lines_text (a ∷ answers) = unit_line a ++ lines_text answers
