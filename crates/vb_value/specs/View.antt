-- The tree that a content of the program stands for: the boxes are left out.
use Rattle.vb_value.specs.Content as tree
use Rattle.vb_value.specs.declared.contents.Content as c

abbrev pub content_of : c.Content → tree.Content
content_of c.Unit = tree.Unit
content_of (c.Leaf v) = tree.Leaf v
content_of (c.Pair' p a q b) = tree.Pair (content_of a) (content_of b)
