-- The numbers and the kinds of statuses, and the lines that go to the error stream.
use Rattle.std.specs.Prelude.{◌++◌, ℕ, List, [], codes}
use Rattle.std.specs.Fmt.{decimal}
use Rattle.vb_base.specs.Labels.{place_text}
use Rattle.viper_syntax.specs.declared.tokens.LexFault.TheVariants.{BadByte, OpenComment, BigLiteral, Braces, LongGroup, Unsupported, Memory}
use Rattle.tool_common.specs.Kind as kind
use Rattle.tool_common.specs.Kind.{Kind}
use Rattle.vb_tool.specs.declared.status.Refusal.{Refusal}
use Rattle.vb_tool.specs.declared.status.Refusal.TheVariants.{Size, RunSize, Lex, Syntax, Rule, Weight, Unframed, NoUnit, Prelude, Deep, BoogieSyntax, BoogieType, NoProcedure, RunSyntax, Range}
use Rattle.vb_tool.specs.declared.status.Status.{Status}
use Rattle.vb_tool.specs.declared.status.Status.TheVariants.{Done, Refused, Usage, ReadFault, WriteFault, NoMemory, Failed, Blocked, Short, Over, Spent}

abbrev pub number_of : Status → ℕ
number_of Done = 0
number_of (Refused r) = 1
number_of Usage = 2
number_of ReadFault = 3
number_of WriteFault = 4
number_of NoMemory = 5
number_of (Failed label) = 10
number_of Blocked = 11
number_of Short = 12
number_of Over = 13
number_of Spent = 14

abbrev pub kind_of : Status → Kind
kind_of (Refused r) = kind.Refused
kind_of Usage = kind.Refused
kind_of ReadFault = kind.Unread
kind_of WriteFault = kind.Unwritten
kind_of NoMemory = kind.NoMemory
kind_of Done = kind.Answered
kind_of (Failed label) = kind.Answered
kind_of Blocked = kind.Answered
kind_of Short = kind.Answered
kind_of Over = kind.Answered
kind_of Spent = kind.Answered

-- a refusal's word, and the place of what is refused
abbrev pub refusal_text : Refusal → List ℕ
refusal_text Size = codes "size"
refusal_text RunSize = codes "run-size"
refusal_text (Lex (BadByte at)) = codes "bad-byte " ++ place_text at
refusal_text (Lex (OpenComment at)) = codes "open-comment " ++ place_text at
refusal_text (Lex (BigLiteral at)) = codes "big-literal " ++ place_text at
refusal_text (Lex (Braces at)) = codes "braces " ++ place_text at
refusal_text (Lex (LongGroup at)) = codes "long-group " ++ place_text at
refusal_text (Lex (Unsupported at)) = codes "unsupported " ++ place_text at
refusal_text (Lex Memory) = codes "memory"
refusal_text (Syntax at) = codes "syntax " ++ place_text at
refusal_text (Rule at n) = codes "type " ++ place_text at ++ codes " rule " ++ decimal n
refusal_text (Weight n) = codes "weight " ++ decimal n
refusal_text (Unframed at) = codes "unframed " ++ place_text at
refusal_text NoUnit = codes "no-unit"
refusal_text (Prelude at) = codes "prelude " ++ place_text at
refusal_text (Deep at) = codes "deep " ++ place_text at
refusal_text (BoogieSyntax at) = codes "syntax " ++ place_text at
refusal_text (BoogieType n) = codes "boogie-type " ++ decimal n
refusal_text NoProcedure = codes "no-procedure"
refusal_text (RunSyntax at) = codes "run-syntax " ++ place_text at
refusal_text Range = codes "range"

-- one line, or nothing where the status writes none
abbrev pub line_of : Status → List ℕ
line_of Done = []
line_of (Refused r) = codes "error: " ++ refusal_text r ++ codes "\n"
line_of Usage = codes "usage: translate FILE | run FILE UNIT RUNFILE | replay BPL BRUN | make N | exec FILE METHOD RUNFILE N | cut BPL | vc BPL PROC AT PART KIND\n"
line_of ReadFault = codes "error: read\n"
line_of WriteFault = []
line_of NoMemory = []
line_of (Failed label) = []
line_of Blocked = []
line_of Short = []
line_of Over = []
line_of Spent = []
