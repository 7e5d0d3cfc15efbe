-- What a text without `wildcard`, `inhale` and `assume` is: its program has none of them either.
use Rattle.std.specs.Prelude.{◌≡◌, None, List}
use Rattle.viper_syntax.specs.declared.tokens.Token.{Token}
use Rattle.viper_syntax.specs.Decl.{SourceProgram}
use Rattle.viper_grammar.specs.Spells.{Spells}
use Rattle.viper_core.specs.Program.{Program}
use Rattle.viper_types.specs.Program.{IsProgram}
use Rattle.viper_exec_meaning.specs.Frame.{IsFramedProgram}
use Rattle.viper_exec_subset.specs.Unframed.{first_unframed}

abbrev pub TextsAreFramed : Type 0
TextsAreFramed = (tokens : List Token) (source : SourceProgram) (program : Program) → first_unframed tokens ≡ None → Spells tokens source → IsProgram source program
    → IsFramedProgram program
