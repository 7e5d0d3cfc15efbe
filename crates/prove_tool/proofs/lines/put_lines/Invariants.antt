use Rattle.std.proofs.Common.{◌≡◌, ◌++◌, drop}
use Rattle.prove_tool.specs.Lines.{lines_text}
use Rattle.prove_tool.proofs.lines.put_lines.Given as goal

abbrev pub invariant-loop-answer : goal.invariant-loop-answer
invariant-loop-answer l = l.out.items ++ lines_text (drop l.answer-index l.answers) ≡ l.initial.out.items ++ lines_text l.answers
