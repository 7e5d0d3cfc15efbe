use Rattle.std.proofs.Common.{rules, sym, ap, unwrap_or}
use Rattle.sparse.specs.Tree.{plain_of, entries}
use Rattle.sparse.specs.declared.tree.Tree.{the_lemmas}
use Rattle.sparse.proofs.Splits.{sorted_left, sorted_right, lookup-Less, lookup-Equal, lookup-Greater}
use Rattle.sparse.proofs.tree.Tree.+get_or.Goals as goal

pub get_or-requires : goal.get_or-requires
get_or-requires g t c κs within =
    let s = rw c.in-Fork.is at c.requires in
    (search (rules, the_lemmas), (within.0, (within.1, rw c.deref-in-Less.ensures (sorted_left g.K.Ord.cmp (entries (plain_of c.in-Fork.node.value.left)) c.in-Fork.node.value.entry.value (entries (plain_of c.in-Fork.node.value.right)) s))))

pub get_or-requires-in-Greater : goal.get_or-requires-in-Greater
get_or-requires-in-Greater g t c κs within =
    let s = rw c.in-Fork.is at c.requires in
    (search (rules, the_lemmas), (within.0, (within.1, rw c.deref-in-Greater.ensures (sorted_right g.K.Ord.cmp (entries (plain_of c.in-Fork.node.value.left)) c.in-Fork.node.value.entry.value (entries (plain_of c.in-Fork.node.value.right)) s))))

pub returns-in-Less : goal.returns-in-Less
returns-in-Less g t c =
    let s = rw c.in-Fork.is at c.requires in
    let h = rw (c.cmp.ensures, c.deref-2.ensures, c.deref.ensures) at c.in-Less.is in
    rw (c.in-Fork.is, c.get_or.ensures, c.deref-in-Less.ensures) (sym (ap (λ v. unwrap_or v c.args.other.now) (lookup-Less g.met.K.Ord.total c.args.key.now (entries (plain_of c.in-Fork.node.value.left)) c.in-Fork.node.value.entry.value (entries (plain_of c.in-Fork.node.value.right)) s h)))

pub returns-in-Equal : goal.returns-in-Equal
returns-in-Equal g t c =
    let s = rw c.in-Fork.is at c.requires in
    let h = rw (c.cmp.ensures, c.deref-2.ensures, c.deref.ensures) at c.in-Equal.is in
    rw (c.in-Fork.is, c.deref-in-Equal-2.ensures, c.deref-in-Equal.ensures) (sym (ap (λ v. unwrap_or v c.args.other.now) (lookup-Equal g.met.K.Ord.total c.args.key.now (entries (plain_of c.in-Fork.node.value.left)) c.in-Fork.node.value.entry.value (entries (plain_of c.in-Fork.node.value.right)) s h)))

pub returns-in-Greater : goal.returns-in-Greater
returns-in-Greater g t c =
    let s = rw c.in-Fork.is at c.requires in
    let h = rw (c.cmp.ensures, c.deref-2.ensures, c.deref.ensures) at c.in-Greater.is in
    rw (c.in-Fork.is, c.get_or-in-Greater.ensures, c.deref-in-Greater.ensures) (sym (ap (λ v. unwrap_or v c.args.other.now) (lookup-Greater g.met.K.Ord.total c.args.key.now (entries (plain_of c.in-Fork.node.value.left)) c.in-Fork.node.value.entry.value (entries (plain_of c.in-Fork.node.value.right)) s h)))
