-- What an instance of a predicate contains, as a finite tree: nothing, the value of a place, or what the two sides of a
-- conjunction contain. The rules of contents are this project's own.
use Rattle.std.specs.Prelude.{⊤, ℕ, ◌+◌, ◌≤◌, Bool, true, false, ◌&&◌}
use Rattle.vb_base.specs.Limits.{max_content_nodes}
use Rattle.vb_value.specs.declared.values.Value.{Value}
use Rattle.vb_value.specs.Bound.{Bound, IfBounded}
use Rattle.vb_value.specs.Value.{value_eq, IsReducedValue, IsWithinValue, IsProperValue}

pub data Content : Type 0 where
  Unit : Content
  Leaf : Value → Content
  Pair : Content → Content → Content

-- a pair is one node more than its parts together
abbrev pub nodes : Content → ℕ
nodes Unit = 1
nodes (Leaf v) = 1
nodes (Pair a b) = 1 + (nodes a + nodes b)

-- equality of contents, as a test
abbrev pub same_content : Content → Content → Bool
same_content Unit Unit = true
same_content (Leaf v) (Leaf w) = value_eq v w
same_content (Pair a b) (Pair c d) = same_content a c && same_content b d
same_content _ _ = false

-- every value at a leaf
abbrev pub AllValues : (Value → Type 0) → Content → Type 0
AllValues P Unit = ⊤
AllValues P (Leaf v) = P v
AllValues P (Pair a b) = AllValues P a × AllValues P b

-- the same of a test
abbrev pub all_values : (Value → Bool) → Content → Bool
all_values test Unit = true
all_values test (Leaf v) = test v
all_values test (Pair a b) = all_values test a && all_values test b

-- the fractions at its leaves are in lowest terms
abbrev pub IsReducedContent : Content → Type 0
IsReducedContent = AllValues IsReducedValue

-- not too many nodes, and the numbers are within the bound
pub record IsWithinContent (c : Content) : Type 0 where
  pub small : nodes c ≤ max_content_nodes
  pub values : AllValues IsWithinValue c

-- the same by a bound: the fractions are in lowest terms, and where there is a bound the nodes and the numbers are within it
pub record IsProperContent (b : Bound) (c : Content) : Type 0 where
  pub small : IfBounded b (nodes c ≤ max_content_nodes)
  pub values : AllValues (IsProperValue b) c
