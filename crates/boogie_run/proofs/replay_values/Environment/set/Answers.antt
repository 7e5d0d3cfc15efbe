use Rattle.std.proofs.lemmas.List.{map-set}
use Rattle.boogie_tree.specs.Whole.{value_of}
use Rattle.boogie_run.proofs.replay_values.Environment.set.Goals as goal

pub returns-in-Some : goal.returns-in-Some
returns-in-Some c = map-set value_of c.args.self.now.values.items c.args.number c.args.value
