-- What contracts see of the parser's own types: the plain data of Tests.
use Rattle.viper_syntax.specs.View.{term_of, call_of, amount_of}
use Rattle.viper_grammar.specs.Tests as v
use Rattle.viper_grammar.specs.declared.parts.WrittenTerm.{WrittenTerm}
use Rattle.viper_grammar.specs.declared.parts.WrittenInstance.{WrittenInstance}

abbrev pub part_of : WrittenTerm → v.WrittenTerm
part_of p = record { shape = p.shape; tree = term_of p.term.value }

abbrev pub instance_of : WrittenInstance → v.WrittenInstance
instance_of i = record { call = call_of i.call; amount = amount_of i.amount }
