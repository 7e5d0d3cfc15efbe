-- The plain data that contracts see of the types of the program.
use Rattle.std.specs.Prelude.{List, map, drop}
use Rattle.boogie_tree.specs.Value as v
use Rattle.boogie_tree.specs.Whole.{choice_of}
use Rattle.boogie_eval.specs.View.{values_of}
use Rattle.boogie_run.specs.declared.replay_values.Environment.{Environment}
use Rattle.boogie_run.specs.declared.replay_choices.BoogieFeed.{BoogieFeed}

abbrev pub environment_of : Environment → List v.BValue
environment_of x = values_of x.values.items

-- the choices that are left
abbrev pub left_in : BoogieFeed → List v.BChoice
left_in f = map choice_of (drop f.next f.choices.now)
