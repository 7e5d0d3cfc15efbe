-- Laws of contents.
use Rattle.std.proofs.Common.{◌≡◌, ◌<◌, true, sym, arith}
use Rattle.std.specs.Ordering.{on}
use Rattle.vb_value.specs.Content.{Content, Unit, Leaf, Pair, nodes, same_content}
use Rattle.vb_value.specs.Equality.{Decides-same_content}
use Rattle.vb_value.specs.View.{content_of}
use Rattle.vb_value.specs.declared.contents.Content as c

pub nodes_pos : (c : Content) → 0 < nodes c
nodes_pos Unit = omega arith
nodes_pos (Leaf v) = omega arith
nodes_pos (Pair a b) = omega arith

-- the two facts by which a content of the program is used as a value of a map: `==` is equality of the trees, and a clone
-- is `==` to its source
pub same_from_eq : (x y : c.Content) → on content_of same_content x y ≡ true → content_of x ≡ content_of y
same_from_eq x y = (Decides-same_content (content_of x) (content_of y)).0

pub eq_from_clone : (x y : c.Content) → content_of y ≡ content_of x → on content_of same_content x y ≡ true
eq_from_clone x y e = (Decides-same_content (content_of x) (content_of y)).1 (sym e)
