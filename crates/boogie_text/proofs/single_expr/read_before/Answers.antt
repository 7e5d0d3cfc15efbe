use Rattle.boogie_text.specs.ReadExpr.{scope_before}
use Rattle.boogie_text.proofs.BexprLaws.{none_at}
use Rattle.boogie_text.proofs.KnownLaws.{names_of, all_behind}
use Rattle.boogie_text.proofs.single_expr.read_before.Goals as goal

pub returns-in-None : goal.returns-in-None
returns-in-None c =
    let none = rw c.in-None.is at c.in_ok-found.ensures in
    none_at (scope_before (names_of c.args.locals.now) c.args.known) c.args.tokens.now _ c.args.from c.args.end c.in_ok-found.size c.place_in.result (all_behind c.args.from c.args.tokens.now) c.place_in.ensures none
