use Rattle.std.proofs.Common.{◌∙◌, sym}
use Rattle.viper_syntax.proofs.LongestLaws.{blank_longest, line_at, begins_from_first}
use Rattle.viper_syntax.specs.Spelling.{is_blank}
use Rattle.viper_syntax.proofs.pieces.piece.Goals as goal

pub returns-then-is_blank : goal.returns-then-is_blank
returns-then-is_blank c = (blank_longest c.args.text.now (begins_from_first is_blank c.args.text.now c.requires (sym c.if-is_blank.ensures)), tt)

pub returns-then-byte_at-eq47 : goal.returns-then-byte_at-eq47
returns-then-byte_at-eq47 c = (rw c.line_len.ensures (line_at c.args.text.now c.if-first-eq47.true (sym c.byte_at.ensures ∙ c.if-byte_at-eq47.true)), tt)
