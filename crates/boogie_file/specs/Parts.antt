-- The trouble that a fault of a part is, and the status of a call after it.
use Rattle.vb_outer.specs.declared.fault.FileFault.{FileFault}
use Rattle.vb_outer.specs.declared.fault.FileFault.TheVariants as file
use Rattle.boogie_grammar.specs.declared.faults.BoogieFault.{BoogieFault}
use Rattle.boogie_grammar.specs.declared.faults.BoogieFault.TheVariants as boogie
use Rattle.tool_common.specs.declared.status.ToolStatus.{ToolStatus}
use Rattle.tool_common.specs.declared.status.ToolStatus.TheVariants as status
use Rattle.boogie_file.specs.declared.refusal.BoogieRefusal.{BoogieRefusal}
use Rattle.boogie_file.specs.declared.refusal.BoogieRefusal.TheVariants as refusal
use Rattle.boogie_file.specs.declared.trouble.BoogieTrouble.{BoogieTrouble}
use Rattle.boogie_file.specs.declared.trouble.BoogieTrouble.TheVariants.{Memory, Read, Refused}

abbrev pub trouble_of_file : FileFault → BoogieTrouble
trouble_of_file file.Memory = Memory
trouble_of_file file.Failed = Read
trouble_of_file file.Long = Refused refusal.Size

abbrev pub trouble_of_boogie : BoogieFault → BoogieTrouble
trouble_of_boogie boogie.Memory = Memory
trouble_of_boogie (boogie.Prelude at) = Refused (refusal.Prelude at)
trouble_of_boogie (boogie.Syntax at) = Refused (refusal.BoogieSyntax at)
trouble_of_boogie (boogie.Deep at) = Refused (refusal.Deep at)

abbrev pub status_of : BoogieTrouble → ToolStatus BoogieRefusal
status_of Memory = status.NoMemory
status_of Read = status.ReadFault
status_of (Refused r) = status.Refused r
