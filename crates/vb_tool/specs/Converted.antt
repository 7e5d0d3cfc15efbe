-- The trouble that a fault of a part is, and the status of a call after it.
use Rattle.vb_outer.specs.declared.fault.FileFault.{FileFault}
use Rattle.vb_outer.specs.declared.fault.FileFault.TheVariants as file
use Rattle.boogie_grammar.specs.declared.faults.BoogieFault.{BoogieFault}
use Rattle.boogie_grammar.specs.declared.faults.BoogieFault.TheVariants as boogie
use Rattle.run_file_words.specs.declared.faults.RunFileFault.{RunFileFault}
use Rattle.run_file_words.specs.declared.faults.RunFileFault.TheVariants as run
use Rattle.vb_gen.specs.declared.GenFault.{GenFault}
use Rattle.vb_gen.specs.declared.GenFault.TheVariants as made
use Rattle.boogie_file.specs.declared.trouble.BoogieTrouble as b
use Rattle.boogie_file.specs.declared.trouble.BoogieTrouble.TheVariants as troubles
use Rattle.viper_file.specs.declared.fault.ViperFault.{ViperFault}
use Rattle.viper_file.specs.declared.fault.ViperFault.TheVariants as fault
use Rattle.vb_tool.specs.BoogieRefusals.{refusal_of_boogie}
use Rattle.vb_tool.specs.ViperRefusals.{refusal_of_viper}
use Rattle.vb_tool.specs.declared.status.Refusal.TheVariants as refusal
use Rattle.vb_tool.specs.declared.status.Status.{Status}
use Rattle.vb_tool.specs.declared.status.Status.TheVariants as status
use Rattle.vb_tool.specs.declared.trouble.Trouble.{Trouble}
use Rattle.vb_tool.specs.declared.trouble.Trouble.TheVariants.{Memory, Read, Refused}

abbrev pub trouble_of_file : FileFault → Trouble
trouble_of_file file.Memory = Memory
trouble_of_file file.Failed = Read
trouble_of_file file.Long = Refused refusal.Size

abbrev pub trouble_of_viper_file : ViperFault → Trouble
trouble_of_viper_file fault.Memory = Memory
trouble_of_viper_file (fault.Refused r) = Refused (refusal_of_viper r)

abbrev pub trouble_of_boogie : BoogieFault → Trouble
trouble_of_boogie boogie.Memory = Memory
trouble_of_boogie (boogie.Prelude at) = Refused (refusal.Prelude at)
trouble_of_boogie (boogie.Syntax at) = Refused (refusal.BoogieSyntax at)
trouble_of_boogie (boogie.Deep at) = Refused (refusal.Deep at)

abbrev pub trouble_of_run : RunFileFault → Trouble
trouble_of_run run.Memory = Memory
trouble_of_run (run.Syntax at) = Refused (refusal.RunSyntax at)

abbrev pub trouble_of_making : GenFault → Trouble
trouble_of_making made.Memory = Memory
trouble_of_making made.Range = Refused refusal.Range

abbrev pub trouble_of_boogie_file : b.BoogieTrouble → Trouble
trouble_of_boogie_file troubles.Memory = Memory
trouble_of_boogie_file troubles.Read = Read
trouble_of_boogie_file (troubles.Refused r) = Refused (refusal_of_boogie r)

abbrev pub status_of_trouble : Trouble → Status
status_of_trouble Memory = status.NoMemory
status_of_trouble Read = status.ReadFault
status_of_trouble (Refused r) = status.Refused r
