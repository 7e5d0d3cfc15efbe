use Rattle.boogie_tree.proofs.WholeLaws.{stmt_of-Either}
use Rattle.boogie_cut.proofs.WriteLaws.{one_pushed}
use Rattle.boogie_cut.proofs.loops.write_either.Goals as goal

pub returns : goal.returns
returns c = one_pushed c.args.out.now.items c.push.new.self.items _ _ c.in_ok-push.ensures.items (stmt_of-Either c.args.then c.args.other)
