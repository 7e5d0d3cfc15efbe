-- The commands: what the words of a call ask for.
use Rattle.std.specs.Prelude.{ℕ, Bool, true, false, List, [], ◌∷◌, Option, None, Some, length, codes, if◌then◌else◌, ◌&&◌, leb}
use Rattle.std.specs.Char.{is_ascii_digit}
use Rattle.std.specs.List.{list_all}
use Rattle.std.specs.Str.{bytes_eq}
use Rattle.std.specs.Str.Parse.{digits_value}
use Rattle.prove_tool.specs.declared.language.Language.{Language}
use Rattle.prove_tool.specs.declared.language.Language.TheVariants.{Viper, Boogie}

pub data Command : Type 0 where
  -- `prove FILE [STEPS]`, `prove-boogie FILE [STEPS]`
  Prove : Language → List ℕ → Option ℕ → Command
  -- `certificates FILE [STEPS]`, `certificates-boogie FILE [STEPS]`
  Certificates : Language → List ℕ → Option ℕ → Command
  -- `certify FILE CERTIFICATES`, `certify-boogie FILE CERTIFICATES`
  Certify : Language → List ℕ → List ℕ → Command
  -- `conditions FILE`, `conditions-boogie FILE`
  Conditions : Language → List ℕ → Command
  -- `values FILE [STEPS]`, `values-boogie FILE [STEPS]`
  Values : Language → List ℕ → Option ℕ → Command

-- the number that a word is: one to eighteen digits. Leading zeros are allowed.
abbrev pub number_in : List ℕ → Option ℕ
number_in word = if leb 1 (length word) && leb (length word) 18 && list_all is_ascii_digit word then Some (digits_value 10 word) else None

abbrev pub command_of_two : List ℕ → List ℕ → Option Command
command_of_two word file =
    if bytes_eq word (codes "prove") then Some (Prove Viper file None)
    else if bytes_eq word (codes "certificates") then Some (Certificates Viper file None)
    else if bytes_eq word (codes "conditions") then Some (Conditions Viper file)
    else if bytes_eq word (codes "values") then Some (Values Viper file None)
    else if bytes_eq word (codes "prove-boogie") then Some (Prove Boogie file None)
    else if bytes_eq word (codes "certificates-boogie") then Some (Certificates Boogie file None)
    else if bytes_eq word (codes "conditions-boogie") then Some (Conditions Boogie file)
    else if bytes_eq word (codes "values-boogie") then Some (Values Boogie file None)
    else None

abbrev pub searching : List ℕ → List ℕ → Option ℕ → Option Command
searching word file None = None
searching word file (Some steps) =
    if bytes_eq word (codes "prove") then Some (Prove Viper file (Some steps))
    else if bytes_eq word (codes "certificates") then Some (Certificates Viper file (Some steps))
    else if bytes_eq word (codes "values") then Some (Values Viper file (Some steps))
    else if bytes_eq word (codes "prove-boogie") then Some (Prove Boogie file (Some steps))
    else if bytes_eq word (codes "certificates-boogie") then Some (Certificates Boogie file (Some steps))
    else if bytes_eq word (codes "values-boogie") then Some (Values Boogie file (Some steps))
    else None

abbrev pub command_of_three : List ℕ → List ℕ → List ℕ → Option Command
command_of_three word file third =
    if bytes_eq word (codes "certify") then Some (Certify Viper file third)
    else if bytes_eq word (codes "certify-boogie") then Some (Certify Boogie file third)
    else searching word file (number_in third)

-- the command that the words ask for; None where they are none of its forms
abbrev pub command_for : List (List ℕ) → Option Command
command_for [] = None
command_for (word ∷ []) = None
command_for (word ∷ file ∷ []) = command_of_two word file
command_for (word ∷ file ∷ third ∷ []) = command_of_three word file third
command_for (word ∷ file ∷ third ∷ more ∷ words) = None

-- the file that a command names
abbrev pub file_of : Command → List ℕ
file_of (Prove l file steps) = file
file_of (Certificates l file steps) = file
file_of (Certify l file certificates) = file
file_of (Conditions l file) = file
file_of (Values l file steps) = file

-- the language of which it has to be
abbrev pub language_of : Command → Language
language_of (Prove l file steps) = l
language_of (Certificates l file steps) = l
language_of (Certify l file certificates) = l
language_of (Conditions l file) = l
language_of (Values l file steps) = l

-- what it is done of is proved: each command but `conditions` and `values`
pub data IsProof : Command → Type 0 where
  prove : {l : Language} {file : List ℕ} {steps : Option ℕ} → IsProof (Prove l file steps)
  certificates : {l : Language} {file : List ℕ} {steps : Option ℕ} → IsProof (Certificates l file steps)
  certify : {l : Language} {file certificates : List ℕ} → IsProof (Certify l file certificates)
