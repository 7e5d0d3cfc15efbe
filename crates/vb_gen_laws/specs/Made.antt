-- What the generated programs are: typed programs, within the limits of a file, of its tokens and of weight.
use Rattle.std.specs.Prelude.{◌≡◌, ◌+◌, ◌%◌, ◌≤◌, ◌==◌, ℕ, zero, suc, List, length, if◌then◌else◌}
use Rattle.vb_base.specs.Limits.{max_viper_bytes}
use Rattle.vb_gen.specs.Generated.{program_text}
use Rattle.viper_syntax.specs.declared.tokens.Token.{Token}
use Rattle.viper_syntax.specs.Decl as d
use Rattle.viper_syntax.specs.Lexed.{IsLexed}
use Rattle.viper_grammar.specs.Spells.{Spells}
use Rattle.viper_core.specs.Program as p
use Rattle.viper_core.specs.Weight.{weight}
use Rattle.viper_types.specs.Program.{IsProgram}

-- what n methods weigh: 25 for each odd one, and 39 for each even one, which calls another
abbrev pub generated_weight : ℕ → ℕ
generated_weight zero = 0
generated_weight (suc i) = generated_weight i + (if (i + 1) % 2 == 1 then 25 else 39)

-- the text with n methods is the text of a typed program of this weight, within the limits of a file
pub record IsMade (n : ℕ) : Type 0 where
  pub small : length (program_text n) ≤ max_viper_bytes
  pub tokens : List Token
  pub lexed : IsLexed (program_text n) tokens
  pub source : d.SourceProgram
  pub spelled : Spells tokens source
  pub typed : p.Program
  pub is_typed : IsProgram source typed
  pub weighs : weight typed ≡ generated_weight n
