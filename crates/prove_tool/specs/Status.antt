-- The numbers and the kinds of statuses, and the lines that go to the error stream.
use Rattle.std.specs.Prelude.{◌++◌, ℕ, List, [], codes}
use Rattle.std.specs.Fmt.{decimal}
use Rattle.vb_base.specs.Labels.{place_text}
use Rattle.viper_syntax.specs.declared.tokens.LexFault.TheVariants.{BadByte, OpenComment, BigLiteral, Braces, LongGroup, Unsupported, Memory}
use Rattle.viper_file.specs.declared.fault.ViperRefusal.{ViperRefusal}
use Rattle.viper_file.specs.declared.fault.ViperRefusal.TheVariants.{Size, Lex, Syntax, Rule, Weight}
use Rattle.boogie_file.specs.Refusals as boogie
use Rattle.tool_common.specs.Kind.{Kind}
use Rattle.tool_common.specs.Kind as kind
use Rattle.prove_tool.specs.declared.refusal.ProveRefusal.{ProveRefusal}
use Rattle.prove_tool.specs.declared.refusal.ProveRefusal.TheVariants.{Viper, Boogie, CertificateSize, Certificate}
use Rattle.prove_tool.specs.declared.status.ProveStatus.{ProveStatus}
use Rattle.prove_tool.specs.declared.status.ProveStatus.TheVariants.{Done, Refused, Usage, ReadFault, WriteFault, NoMemory, Open}

abbrev pub number_of : ProveStatus → ℕ
number_of Done = 0
number_of (Refused r) = 1
number_of Usage = 2
number_of ReadFault = 3
number_of WriteFault = 4
number_of NoMemory = 5
number_of Open = 10

abbrev pub kind_of : ProveStatus → Kind
kind_of Done = kind.Answered
kind_of (Refused r) = kind.Refused
kind_of Usage = kind.Refused
kind_of ReadFault = kind.Unread
kind_of WriteFault = kind.Unwritten
kind_of NoMemory = kind.NoMemory
kind_of Open = kind.Answered

-- a refusal's word, and the place of what is refused
abbrev pub viper_text : ViperRefusal → List ℕ
viper_text Size = codes "size"
viper_text (Lex (BadByte at)) = codes "bad-byte " ++ place_text at
viper_text (Lex (OpenComment at)) = codes "open-comment " ++ place_text at
viper_text (Lex (BigLiteral at)) = codes "big-literal " ++ place_text at
viper_text (Lex (Braces at)) = codes "braces " ++ place_text at
viper_text (Lex (LongGroup at)) = codes "long-group " ++ place_text at
viper_text (Lex (Unsupported at)) = codes "unsupported " ++ place_text at
viper_text (Lex Memory) = codes "memory"
viper_text (Syntax at) = codes "syntax " ++ place_text at
viper_text (Rule at n) = codes "type " ++ place_text at ++ codes " rule " ++ decimal n
viper_text (Weight n) = codes "weight " ++ decimal n

abbrev pub refusal_text : ProveRefusal → List ℕ
refusal_text (Viper r) = viper_text r
refusal_text (Boogie r) = boogie.refusal_text r
refusal_text CertificateSize = codes "certificate-size"
refusal_text (Certificate line) = codes "certificate " ++ decimal line ++ codes " header"

-- one line, or nothing where the status writes none
abbrev pub line_of : ProveStatus → List ℕ
line_of Done = []
line_of (Refused r) = codes "error: " ++ refusal_text r ++ codes "\n"
line_of Usage = codes "usage: prove[-boogie] FILE [STEPS] | certificates[-boogie] FILE [STEPS] | certify[-boogie] FILE CERTIFICATES | conditions[-boogie] FILE | values[-boogie] FILE [STEPS]\n"
line_of ReadFault = codes "error: read\n"
line_of WriteFault = []
line_of NoMemory = []
line_of Open = []
