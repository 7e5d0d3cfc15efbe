-- The numbers of statuses, their kinds, and the lines that go to the error stream.
use Rattle.std.specs.Prelude.{◌++◌, ℕ, List, [], codes}
use Rattle.tool_common.specs.Kind.{Kind}
use Rattle.tool_common.specs.Kind as kind
use Rattle.tool_common.specs.declared.status.ToolStatus.{ToolStatus}
use Rattle.tool_common.specs.declared.status.ToolStatus.TheVariants.{Done, Refused, Usage, ReadFault, WriteFault, NoMemory}

abbrev pub number_of : {R : Type 0} → ToolStatus R → ℕ
number_of Done = 0
number_of (Refused r) = 1
number_of Usage = 2
number_of ReadFault = 3
number_of WriteFault = 4
number_of NoMemory = 5

abbrev pub kind_of : {R : Type 0} → ToolStatus R → Kind
kind_of Done = kind.Answered
kind_of (Refused r) = kind.Refused
kind_of Usage = kind.Refused
kind_of ReadFault = kind.Unread
kind_of WriteFault = kind.Unwritten
kind_of NoMemory = kind.NoMemory

-- one line, or nothing where the status writes none; the words of a refusal and the line of usage are the tool's own
abbrev pub line_of : {R : Type 0} → (R → List ℕ) → List ℕ → ToolStatus R → List ℕ
line_of refusal_text usage Done = []
line_of refusal_text usage (Refused r) = codes "error: " ++ refusal_text r ++ codes "\n"
line_of refusal_text usage Usage = usage
line_of refusal_text usage ReadFault = codes "error: read\n"
line_of refusal_text usage WriteFault = []
line_of refusal_text usage NoMemory = []
