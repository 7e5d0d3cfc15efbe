use Rattle.std.proofs.Common.{◌++◌, ◌+◌, max}
use Rattle.sparse.specs.Tree.{plain_of, entries, height, IsJoined, IsShrunk}
use Rattle.sparse.proofs.Turns.{joined_none, joined_some, IfOk-is, IfOk-then}
use Rattle.sparse.proofs.tree.joined.Goals as goal

pub returns-in-None : goal.returns-in-None
returns-in-None g c =
    let left = plain_of c.args.left.now in
    let right = plain_of c.args.right.now in
    let none = rw c.in-None.is at c.in_ok-split_first.ensures.none in
    record {
      joined = IfOk-is plain_of (λ t. IsShrunk (entries left ++ entries right) (max (height left) (height right) + 1) t) left (joined_none left right c.requires.left none) c.share.result c.share.ensures.same;
    }

pub returns-in-Some : goal.returns-in-Some
returns-in-Some g c =
    let left = plain_of c.args.left.now in
    let right = plain_of c.args.right.now in
    let first = c.in-Some.first.value in
    let rest = plain_of c.in-Some.rest in
    let split = rw c.in-Some.is at c.in_ok-split_first.ensures.some in
    record {
      joined = IfOk-then plain_of (λ t. IsJoined left first rest t) (λ t. IsShrunk (entries left ++ entries right) (max (height left) (height right) + 1) t) (joined_some left right rest first c.requires.near split) c.balanced.result c.balanced.ensures.joined;
    }
