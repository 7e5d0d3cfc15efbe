-- The text of a label, as an `assert` carries it and a report shows it.
use Rattle.std.specs.Prelude.{◌≡◌, ◌++◌, ℕ, List, codes}
use Rattle.std.specs.Fmt.{decimal}
use Rattle.vb_base.specs.declared.places.Pos.{Pos}
use Rattle.vb_base.specs.declared.labels.Label.{Label}
use Rattle.vb_base.specs.declared.labels.Kind.{Kind}
use Rattle.vb_base.specs.declared.labels.Kind.TheVariants.{Null, Perm, Fact, Div, Negative, Amount}

abbrev pub kind_text : Kind → List ℕ
kind_text Null = codes "null"
kind_text Perm = codes "perm"
kind_text Fact = codes "false"
kind_text Div = codes "div"
kind_text Negative = codes "negative"
kind_text Amount = codes "amount"

-- `line:col`, in decimal without leading zeros
abbrev pub place_text : Pos → List ℕ
place_text p = decimal p.line ++ codes ":" ++ decimal p.col

-- `line:col line:col kind`, with one space between
abbrev pub text_of : Label → List ℕ
text_of l = place_text l.at ++ codes " " ++ place_text l.part ++ codes " " ++ kind_text l.kind

-- the bytes are the text of this label
pub record Spells (bytes : List ℕ) (l : Label) : Type 0 where
  pub text : bytes ≡ text_of l
