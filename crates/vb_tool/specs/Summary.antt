-- What `make` tells of a generated program and its translation.
use Rattle.std.specs.Prelude.{◌++◌, ◌-◌, ◌^◌, ℕ, List, codes, length, min}
use Rattle.std.specs.Fmt.{decimal}
use Rattle.boogie_print.specs.Asserts.{asserts_in_program}
use Rattle.enc_units.specs.Translates.{program_code, text_of}
use Rattle.viper_core.specs.Program as p
use Rattle.viper_core.specs.Weight.{weight}

-- a word, and how much there is of it
abbrev pub count_line : List ℕ → ℕ → List ℕ
count_line word count = word ++ codes " " ++ decimal count ++ codes "\n"

abbrev pub summary_text : ℕ → ℕ → ℕ → ℕ → List ℕ
summary_text methods weight bytes asserts =
    count_line (codes "methods") methods ++ count_line (codes "weight") weight ++ count_line (codes "bytes") bytes ++ count_line (codes "asserts") asserts

-- a count, which stops at the greatest u64
abbrev pub counted : ℕ → ℕ
counted n = min n (2 ^ 64 - 1)

-- the lines of the program with n methods: what it weighs, and the bytes and the `assert` statements of its translation
abbrev pub made_text : ℕ → p.Program → List ℕ
made_text n program = summary_text n (weight program) (counted (length (text_of program))) (counted (asserts_in_program (program_code program)))
