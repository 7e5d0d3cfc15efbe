use Rattle.std.proofs.Common.{rules}
use Rattle.sparse.specs.Tree.{plain_of, node, IsLowest, shared}
use Rattle.sparse.proofs.Halves.{from_halves}
use Rattle.sparse.proofs.Turns.{IfOk-is}
use Rattle.sparse.proofs.tree.Tree.+by_halves.Goals as goal

pub returns : goal.returns
returns g t c =
    let list = c.args.list.now in
    let e = c.index-list-middle.result in
    let l = plain_of c.in_ok-left.left in
    let r = plain_of c.in_ok-right.right in
    record {
      lowest = IfOk-is plain_of (λ u. IsLowest (shared list) u) (node l e.value r) (from_halves list e (search rules) c.index-list-middle.is l r c.in_ok-left.ensures.lowest c.in_ok-right.ensures.lowest) c.fork.result c.fork.ensures.node;
    }
