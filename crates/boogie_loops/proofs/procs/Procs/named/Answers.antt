use Rattle.boogie_loops.proofs.ProcsLaws.{first_is}
use Rattle.boogie_loops.proofs.procs.Procs.named.Goals as goal

pub returns-in-Some : goal.returns-in-Some
returns-in-Some c = first_is c.args.self.now.all.now c.args.name.now c.numbered.result c.numbered.ensures

pub returns-in-None : goal.returns-in-None
returns-in-None c = first_is c.args.self.now.all.now c.args.name.now c.searched.result c.searched.ensures
