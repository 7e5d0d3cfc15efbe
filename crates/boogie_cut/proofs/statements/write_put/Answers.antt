use Rattle.boogie_tree.specs.Stmt as s
use Rattle.boogie_cut.proofs.WriteLaws.{one_pushed}
use Rattle.boogie_cut.proofs.statements.write_put.Goals as goal

pub returns : goal.returns
returns c = one_pushed c.args.out.now.items c.push.new.self.items _ _ c.in_ok-push.ensures.items (λ i. s.Put c.args.map (c.in_ok-index.ensures i) (c.in_ok-e.ensures i))
