use Rattle.std.proofs.Common.{All, map, take}
use Rattle.viper_state.specs.View.{choice_of}
use Rattle.run_file.specs.Printable.{NamesChoice}
use Rattle.run_file.proofs.named.named_choices.Given as goal

abbrev pub invariant-loop-choice : goal.invariant-loop-choice
invariant-loop-choice l = All NamesChoice (map choice_of (take l.choice-index l.choices))
