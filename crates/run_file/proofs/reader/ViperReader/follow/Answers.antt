use Rattle.std.proofs.Common.{rules}
use Rattle.run_file.proofs.reader.ViperReader.follow.Goals as goal

pub returns-in-Var : goal.returns-in-Var
returns-in-Var c = let set = c.set_variable.ensures c.args.many in search (rules, set)

pub returns-in-Heap : goal.returns-in-Heap
returns-in-Heap c = let set = c.set_place.ensures c.args.many in rw c.in-Heap.is set

pub returns-in_ok-clone-in-Content : goal.returns-in_ok-clone-in-Content
returns-in_ok-clone-in-Content c = let set = c.set_place-in-Content.ensures c.args.many in search (rules, set)
