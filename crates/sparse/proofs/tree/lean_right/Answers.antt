use Rattle.std.proofs.Common.{◌≡◌, ◌<◌, ◌≤◌, sym, ap, ◌∙◌}
use Rattle.sparse.specs.Tree.{Node, plain_of, height, node, IsJoined}
use Rattle.sparse.proofs.Turns.{over_left, sides_left, turned_left, IfOk-is}
use Rattle.sparse.proofs.tree.lean_right.Goals as goal

pub returns : goal.returns
returns g c =
    let top = c.in-Fork.top.value in
    let middle = c.in-Fork-left.middle.value in
    let inner : plain_of top.left ≡ Node (plain_of middle.left) middle.entry.value (plain_of middle.right) middle.height middle.size = ap plain_of (ap (λ n. n.left) (sym c.deref-3.ensures) ∙ c.in-Fork-left.is) in
    let lower : height (plain_of top.right) < height (plain_of top.left) = rw (c.height.ensures, c.height-2.ensures, c.deref.ensures, c.deref-2.ensures) at c.if-height.false in
    let b = rw c.in-Fork.is at c.requires.right in
    let two = rw c.in-Fork.is at c.requires.two_higher in
    let low = rw c.deref-4.ensures at c.in_ok-low-2.ensures.node in
    let high = rw (c.deref-5.ensures, c.deref-6.ensures, c.deref-7.ensures) at c.in_ok-high.ensures.node in
    let made = rw c.deref-8.ensures at c.fork-4.ensures.node in
    let joined = turned_left (plain_of c.args.left.now) (plain_of top.left) (plain_of middle.left) (plain_of middle.right) (plain_of top.right) (plain_of c.in_ok-low-2.low) (plain_of c.in_ok-high.high) c.args.entry.now.value top.entry.value middle.entry.value top.height top.size middle.height middle.size inner b c.requires.left two lower low high in
    record {
      joined = rw c.in-Fork.is (IfOk-is plain_of (λ t. IsJoined (plain_of c.args.left.now) c.args.entry.now.value (Node (plain_of top.left) top.entry.value (plain_of top.right) top.height top.size) t) (node (plain_of c.in_ok-low-2.low) middle.entry.value (plain_of c.in_ok-high.high)) joined c.fork-4.result made);
    }

pub fork-requires-then-height : goal.fork-requires-then-height
fork-requires-then-height g c =
    let top = c.in-Fork.top.value in
    let b = rw c.in-Fork.is at c.requires.right in
    let two = rw c.in-Fork.is at c.requires.two_higher in
    let lower : height (plain_of top.left) ≤ height (plain_of top.right) = rw (c.height.ensures, c.height-2.ensures, c.deref.ensures, c.deref-2.ensures) at c.if-height.true in
    let low = rw c.deref-then-height.ensures at c.in_ok-low.ensures.node in
    record {
      left = over_left (plain_of c.args.left.now) (plain_of top.left) (plain_of top.right) (plain_of c.in_ok-low.low) c.args.entry.now.value top.entry.value top.height top.size b c.requires.left two lower low;
      right = rw c.deref-then-height-3.ensures b.1;
    }

pub fork-requires-4 : goal.fork-requires-4
fork-requires-4 g c =
    let top = c.in-Fork.top.value in
    let middle = c.in-Fork-left.middle.value in
    let inner : plain_of top.left ≡ Node (plain_of middle.left) middle.entry.value (plain_of middle.right) middle.height middle.size = ap plain_of (ap (λ n. n.left) (sym c.deref-3.ensures) ∙ c.in-Fork-left.is) in
    let lower : height (plain_of top.right) < height (plain_of top.left) = rw (c.height.ensures, c.height-2.ensures, c.deref.ensures, c.deref-2.ensures) at c.if-height.false in
    let b = rw c.in-Fork.is at c.requires.right in
    let two = rw c.in-Fork.is at c.requires.two_higher in
    let low = rw c.deref-4.ensures at c.in_ok-low-2.ensures.node in
    let high = rw (c.deref-5.ensures, c.deref-6.ensures, c.deref-7.ensures) at c.in_ok-high.ensures.node in
    let sides = sides_left (plain_of c.args.left.now) (plain_of top.left) (plain_of middle.left) (plain_of middle.right) (plain_of top.right) (plain_of c.in_ok-low-2.low) (plain_of c.in_ok-high.high) c.args.entry.now.value top.entry.value middle.entry.value top.height top.size middle.height middle.size inner b c.requires.left two lower low high in
    record { left = sides.0; right = sides.1 }
