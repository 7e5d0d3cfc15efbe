use Rattle.std.proofs.Common.{sym, ◌∙◌, ◌-◌, length, arith}
use Rattle.std.proofs.lemmas.Cmp.{ranked}
use Rattle.sparse.specs.Tree.{plain_of, entries}
use Rattle.sparse.proofs.Splits.{key-left, key-middle, key-right}
use Rattle.sparse.proofs.tree.Tree.+key_at.Goals as goal

pub returns-in-Less : goal.returns-in-Less
returns-in-Less g t c =
    let b = rw (c.size-before.ensures, c.deref.ensures) at (ranked c.args.i c.size-before.result _ (sym c.in-Less.is ∙ c.cmp.ensures)) in
    let key = rw c.deref-in-Less.ensures at c.key_at.ensures in
    rw c.in-Fork.is (key-left _ _ _ b ∙ key)

pub returns-in-Equal : goal.returns-in-Equal
returns-in-Equal g t c =
    let b = rw (c.size-before.ensures, c.deref.ensures) at (ranked c.args.i c.size-before.result _ (sym c.in-Equal.is ∙ c.cmp.ensures)) in
    rw (c.in-Fork.is, c.deref-in-Equal-2.ensures, c.deref-in-Equal.ensures, b) (key-middle (entries (plain_of c.in-Fork.node.value.left)) c.in-Fork.node.value.entry.value (entries (plain_of c.in-Fork.node.value.right)))

pub returns-in-Greater : goal.returns-in-Greater
returns-in-Greater g t c =
    let b = rw (c.size-before.ensures, c.deref.ensures) at (ranked c.args.i c.size-before.result _ (sym c.in-Greater.is ∙ c.cmp.ensures)) in
    let key = rw (c.deref-in-Greater.ensures, c.size-before.ensures, c.deref.ensures) at c.key_at-in-Greater.ensures in
    let left = entries (plain_of c.in-Fork.node.value.left) in
    rw c.in-Fork.is (key-right left c.in-Fork.node.value.entry.value _ c.args.i (c.args.i - length left - 1) (omega arith) ∙ key)
