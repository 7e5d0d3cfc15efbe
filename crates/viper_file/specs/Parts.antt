-- The fault of a file that the fault of a part is.
use Rattle.viper_syntax.specs.declared.tokens.LexFault.{LexFault}
use Rattle.viper_syntax.specs.declared.tokens.LexFault.TheVariants as lex
use Rattle.viper_syntax.specs.declared.faults.ParseFault.{ParseFault}
use Rattle.viper_syntax.specs.declared.faults.ParseFault.TheVariants as parse
use Rattle.viper_types.specs.declared.faults.TypeFault.{TypeFault}
use Rattle.viper_types.specs.declared.faults.TypeFault.TheVariants as typed
use Rattle.viper_file.specs.declared.fault.ViperRefusal.TheVariants as refusal
use Rattle.viper_file.specs.declared.fault.ViperFault.{ViperFault}
use Rattle.viper_file.specs.declared.fault.ViperFault.TheVariants.{Memory, Refused}

abbrev pub fault_of_lex : LexFault → ViperFault
fault_of_lex (lex.BadByte at) = Refused (refusal.Lex (lex.BadByte at))
fault_of_lex (lex.OpenComment at) = Refused (refusal.Lex (lex.OpenComment at))
fault_of_lex (lex.BigLiteral at) = Refused (refusal.Lex (lex.BigLiteral at))
fault_of_lex (lex.Braces at) = Refused (refusal.Lex (lex.Braces at))
fault_of_lex (lex.LongGroup at) = Refused (refusal.Lex (lex.LongGroup at))
fault_of_lex (lex.Unsupported at) = Refused (refusal.Lex (lex.Unsupported at))
fault_of_lex lex.Memory = Memory

abbrev pub fault_of_parse : ParseFault → ViperFault
fault_of_parse parse.Memory = Memory
fault_of_parse (parse.Syntax at) = Refused (refusal.Syntax at)

abbrev pub fault_of_types : TypeFault → ViperFault
fault_of_types typed.Memory = Memory
fault_of_types (typed.Rule at n) = Refused (refusal.Rule at n)
fault_of_types (typed.Weight n) = Refused (refusal.Weight n)
