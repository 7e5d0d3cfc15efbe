use Rattle.std.proofs.Common.{rules}
use Rattle.sparse.specs.Tree.{plain_of, entries}
use Rattle.sparse.specs.declared.tree.Tree.{the_lemmas}
use Rattle.sparse.proofs.Splits.{sorted_left, sorted_right}
use Rattle.sparse.proofs.Changes.{IfOk-imp, taken-Less, taken-Equal, taken-Greater}
use Rattle.sparse.proofs.tree.Tree.+without.Goals as goal

pub without-requires : goal.without-requires
without-requires g t c κs within =
    let s = rw c.in-Fork.is at c.requires.ascending in
    let b = rw c.in-Fork.is at c.requires.balanced in
    (search (rules, the_lemmas), (within.0, (within.1, (rw c.deref-in-Less.ensures (sorted_left g.K.Ord.cmp (entries (plain_of c.in-Fork.node.value.left)) c.in-Fork.node.value.entry.value (entries (plain_of c.in-Fork.node.value.right)) s), rw c.deref-in-Less.ensures b.0))))

pub without-requires-in-Greater : goal.without-requires-in-Greater
without-requires-in-Greater g t c κs within =
    let s = rw c.in-Fork.is at c.requires.ascending in
    let b = rw c.in-Fork.is at c.requires.balanced in
    (search (rules, the_lemmas), (within.0, (within.1, (rw c.deref-in-Greater.ensures (sorted_right g.K.Ord.cmp (entries (plain_of c.in-Fork.node.value.left)) c.in-Fork.node.value.entry.value (entries (plain_of c.in-Fork.node.value.right)) s), rw c.deref-in-Greater.ensures b.1))))

pub returns-in_ok-left-in-Less : goal.returns-in_ok-left-in-Less
returns-in_ok-left-in-Less g t c =
    let s = rw c.in-Fork.is at c.requires.ascending in
    let b = rw c.in-Fork.is at c.requires.balanced in
    let h = rw (c.cmp.ensures, c.deref-2.ensures, c.deref.ensures) at c.in-Less.is in
    let left = rw c.deref-in-Less.ensures at c.in_ok-left-in-Less.ensures in
    let joined = rw (c.deref-in-Less-2.ensures, c.deref-in-Less-3.ensures) at c.balanced.ensures.joined in
    rw c.in-Fork.is (IfOk-imp (λ u j. taken-Less g.met.K.Ord.total (plain_of c.in-Fork.node.value.left) c.in-Fork.node.value.entry.value (plain_of c.in-Fork.node.value.right) c.in-Fork.node.value.height c.in-Fork.node.value.size s b c.args.key.now h (plain_of c.in_ok-left-in-Less.left) _ left j) _ joined)

pub returns-in-Equal : goal.returns-in-Equal
returns-in-Equal g t c =
    let s = rw c.in-Fork.is at c.requires.ascending in
    let b = rw c.in-Fork.is at c.requires.balanced in
    let h = rw (c.cmp.ensures, c.deref-2.ensures, c.deref.ensures) at c.in-Equal.is in
    let made = rw (c.deref-in-Equal.ensures, c.deref-in-Equal-2.ensures) at c.joined.ensures.joined in
    rw c.in-Fork.is (IfOk-imp (λ u j. taken-Equal g.met.K.Ord.total (plain_of c.in-Fork.node.value.left) c.in-Fork.node.value.entry.value (plain_of c.in-Fork.node.value.right) c.in-Fork.node.value.height c.in-Fork.node.value.size s b c.args.key.now h _ j) _ made)

pub returns-in_ok-right-in-Greater : goal.returns-in_ok-right-in-Greater
returns-in_ok-right-in-Greater g t c =
    let s = rw c.in-Fork.is at c.requires.ascending in
    let b = rw c.in-Fork.is at c.requires.balanced in
    let h = rw (c.cmp.ensures, c.deref-2.ensures, c.deref.ensures) at c.in-Greater.is in
    let right = rw c.deref-in-Greater.ensures at c.in_ok-right-in-Greater.ensures in
    let joined = rw (c.deref-in-Greater-2.ensures, c.deref-in-Greater-3.ensures) at c.balanced-in-Greater.ensures.joined in
    rw c.in-Fork.is (IfOk-imp (λ u j. taken-Greater g.met.K.Ord.total (plain_of c.in-Fork.node.value.left) c.in-Fork.node.value.entry.value (plain_of c.in-Fork.node.value.right) c.in-Fork.node.value.height c.in-Fork.node.value.size s b c.args.key.now h (plain_of c.in_ok-right-in-Greater.right) _ right j) _ joined)
