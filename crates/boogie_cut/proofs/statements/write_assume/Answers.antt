use Rattle.std.proofs.Common.{ap}
use Rattle.boogie_tree.specs.Stmt as s
use Rattle.boogie_cut.proofs.WriteLaws.{one_pushed}
use Rattle.boogie_cut.proofs.statements.write_assume.Goals as goal

pub returns : goal.returns
returns c = one_pushed c.args.out.now.items c.push.new.self.items _ _ c.in_ok-push.ensures.items (ap s.Assume c.in_ok-e.ensures)
