use Rattle.std.proofs.Common.{◌≡◌, ◌<◌, ◌≤◌, sym, ap, ◌∙◌}
use Rattle.sparse.specs.Tree.{Node, plain_of, height, node, IsJoined}
use Rattle.sparse.proofs.Turns.{over_right, sides_right, turned_right, IfOk-is}
use Rattle.sparse.proofs.tree.lean_left.Goals as goal

pub returns : goal.returns
returns g c =
    let top = c.in-Fork.top.value in
    let middle = c.in-Fork-right.middle.value in
    let inner : plain_of top.right ≡ Node (plain_of middle.left) middle.entry.value (plain_of middle.right) middle.height middle.size = ap plain_of (ap (λ n. n.right) (sym c.deref-3.ensures) ∙ c.in-Fork-right.is) in
    let lower : height (plain_of top.left) < height (plain_of top.right) = rw (c.height.ensures, c.height-2.ensures, c.deref.ensures, c.deref-2.ensures) at c.if-height.false in
    let b = rw c.in-Fork.is at c.requires.left in
    let two = rw c.in-Fork.is at c.requires.two_higher in
    let low = rw (c.deref-4.ensures, c.deref-5.ensures, c.deref-6.ensures) at c.in_ok-low-2.ensures.node in
    let high = rw c.deref-7.ensures at c.in_ok-high.ensures.node in
    let made = rw c.deref-8.ensures at c.fork-4.ensures.node in
    let joined = turned_right (plain_of top.left) (plain_of top.right) (plain_of middle.left) (plain_of middle.right) (plain_of c.args.right.now) (plain_of c.in_ok-low-2.low) (plain_of c.in_ok-high.high) top.entry.value middle.entry.value c.args.entry.now.value top.height top.size middle.height middle.size inner b c.requires.right two lower low high in
    record {
      joined = rw c.in-Fork.is (IfOk-is plain_of (λ t. IsJoined (Node (plain_of top.left) top.entry.value (plain_of top.right) top.height top.size) c.args.entry.now.value (plain_of c.args.right.now) t) (node (plain_of c.in_ok-low-2.low) middle.entry.value (plain_of c.in_ok-high.high)) joined c.fork-4.result made);
    }

pub fork-requires-then-height : goal.fork-requires-then-height
fork-requires-then-height g c =
    let top = c.in-Fork.top.value in
    let b = rw c.in-Fork.is at c.requires.left in
    let two = rw c.in-Fork.is at c.requires.two_higher in
    let lower : height (plain_of top.right) ≤ height (plain_of top.left) = rw (c.height.ensures, c.height-2.ensures, c.deref.ensures, c.deref-2.ensures) at c.if-height.true in
    let low = rw c.deref-then-height.ensures at c.in_ok-low.ensures.node in
    record {
      left = rw c.deref-then-height-2.ensures b.0;
      right = over_right (plain_of top.left) (plain_of top.right) (plain_of c.args.right.now) (plain_of c.in_ok-low.low) top.entry.value c.args.entry.now.value top.height top.size b c.requires.right two lower low;
    }

pub fork-requires-4 : goal.fork-requires-4
fork-requires-4 g c =
    let top = c.in-Fork.top.value in
    let middle = c.in-Fork-right.middle.value in
    let inner : plain_of top.right ≡ Node (plain_of middle.left) middle.entry.value (plain_of middle.right) middle.height middle.size = ap plain_of (ap (λ n. n.right) (sym c.deref-3.ensures) ∙ c.in-Fork-right.is) in
    let lower : height (plain_of top.left) < height (plain_of top.right) = rw (c.height.ensures, c.height-2.ensures, c.deref.ensures, c.deref-2.ensures) at c.if-height.false in
    let b = rw c.in-Fork.is at c.requires.left in
    let two = rw c.in-Fork.is at c.requires.two_higher in
    let low = rw (c.deref-4.ensures, c.deref-5.ensures, c.deref-6.ensures) at c.in_ok-low-2.ensures.node in
    let high = rw c.deref-7.ensures at c.in_ok-high.ensures.node in
    let sides = sides_right (plain_of top.left) (plain_of top.right) (plain_of middle.left) (plain_of middle.right) (plain_of c.args.right.now) (plain_of c.in_ok-low-2.low) (plain_of c.in_ok-high.high) top.entry.value middle.entry.value c.args.entry.now.value top.height top.size middle.height middle.size inner b c.requires.right two lower low high in
    record { left = sides.0; right = sides.1 }
