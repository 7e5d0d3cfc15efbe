use Rattle.std.proofs.Common.{◌≡◌, ◌++◌, drop, map}
use Rattle.viper_core.specs.View.{program_of}
use Rattle.viper_state.specs.View.{choice_of}
use Rattle.run_file.specs.Printed.{choices_text}
use Rattle.run_file.proofs.printer.put_choices.Given as goal

abbrev pub invariant-loop-choice : goal.invariant-loop-choice
invariant-loop-choice l = l.out.items ++ choices_text (program_of l.program) (map choice_of (drop l.choice-index l.choices)) ≡ l.initial.out.items ++ choices_text (program_of l.program) (map choice_of l.choices)
