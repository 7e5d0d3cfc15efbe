-- The refusal of a file of Viper, among those of a command.
use Rattle.viper_file.specs.declared.fault.ViperRefusal as v
use Rattle.viper_file.specs.declared.fault.ViperRefusal.TheVariants as viper
use Rattle.vb_tool.specs.declared.status.Refusal.{Refusal}
use Rattle.vb_tool.specs.declared.status.Refusal.TheVariants.{Size, Lex, Syntax, Rule, Weight}

abbrev pub refusal_of_viper : v.ViperRefusal → Refusal
refusal_of_viper viper.Size = Size
refusal_of_viper (viper.Lex fault) = Lex fault
refusal_of_viper (viper.Syntax at) = Syntax at
refusal_of_viper (viper.Rule at n) = Rule at n
refusal_of_viper (viper.Weight n) = Weight n
