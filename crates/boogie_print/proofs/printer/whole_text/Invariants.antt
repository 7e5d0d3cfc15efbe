use Rattle.std.proofs.Common.{◌≡◌, ◌++◌, map, drop}
use Rattle.boogie_tree.specs.Whole as b
use Rattle.boogie_tree.specs.Text.{prelude}
use Rattle.boogie_grammar.specs.Printed.{procs_text}
use Rattle.boogie_print.proofs.printer.whole_text.Given as goal

abbrev pub invariant-loop-proc : goal.invariant-loop-proc
invariant-loop-proc l = l.out.items ++ procs_text (map b.proc_of (drop l.proc-index l.proc-items)) ≡ prelude ++ procs_text (map b.proc_of l.proc-items)
