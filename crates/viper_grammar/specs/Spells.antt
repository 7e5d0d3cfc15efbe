-- What a list of tokens spells.
use Rattle.std.specs.Prelude.{List, []}
use Rattle.grammar.specs.Spells as grammar
pub use Rattle.grammar.specs.Spells.{given, needed, taken, passed, called}
use Rattle.viper_syntax.specs.declared.tokens.Token.{Token}
use Rattle.viper_syntax.specs.Decl as d
use Rattle.viper_grammar.specs.Tests.{Kind, Value}
use Rattle.viper_grammar.specs.Grammar.{Program, Rule, rule, rules}

-- a list of tokens is derived from a rule, with what it spells
abbrev pub Derives : (s : Kind) → Rule s → List Token → Value s → Type 0
Derives s a ts x = grammar.Derives rules s a ts x

-- a list of tokens spells a program
abbrev pub Spells : List Token → d.SourceProgram → Type 0
Spells ts p = Derives _ (rule (Program [])) ts p.decls
