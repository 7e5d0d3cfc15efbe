use Rattle.std.proofs.Common.{◌∙◌, ap}
use Rattle.boogie_tree.specs.Stmt as s
use Rattle.boogie_tree.specs.Whole.{stmts_of}
use Rattle.boogie_tree.proofs.WholeLaws.{stmt_of-If}
use Rattle.boogie_cut.proofs.WriteLaws.{one_pushed}
use Rattle.boogie_cut.proofs.loops.write_if.Goals as goal

pub returns : goal.returns
returns c =
    one_pushed c.args.out.now.items c.push.new.self.items _ _ c.in_ok-push.ensures.items
    (stmt_of-If c.in_ok-condition.condition c.args.then c.args.other ∙ ap (λ e. s.If e (stmts_of c.args.then.items) (stmts_of c.args.other.items)) c.in_ok-condition.ensures)
