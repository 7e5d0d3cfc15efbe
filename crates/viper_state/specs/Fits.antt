-- What fits a program: there is one map for each field and each predicate, and every key and value is of its type. Each map
-- is a finite map with a default, which is written in one way only, and each fraction is in lowest terms.
use Rattle.std.specs.Prelude.{⊤, ◌≡◌, ℕ, Bool, List, All, length}
use Rattle.std.specs.List.{AllZip}
use Rattle.std.specs.Ordering.{nat_cmp}
use Rattle.std.specs.declared.cmp.Ordering.{Ordering}
use Rattle.sparse.specs.Map as map
use Rattle.sparse.specs.Map.{Map}
use Rattle.vb_value.specs.Fraction.{Fraction, IsReduced, none}
use Rattle.vb_value.specs.Content as content
use Rattle.vb_value.specs.Content.{IsReducedContent, same_content}
use Rattle.vb_value.specs.Key.{key_cmp}
use Rattle.vb_value.specs.Layout.{Layout}
use Rattle.vb_value.specs.Value.{type_of, default_of, value_eq, fraction_eq, IsReducedValue}
use Rattle.vb_value.specs.declared.keys.KeyPart.{KeyPart}
use Rattle.vb_value.specs.declared.keys.KeyPart.TheVariants as part
use Rattle.vb_value.specs.declared.values.Ty.{Ty}
use Rattle.vb_value.specs.declared.values.Ty.TheVariants as ty
use Rattle.vb_value.specs.declared.values.Value.{Value}
use Rattle.viper_state.specs.State.{Key, Memo, State}
use Rattle.viper_state.specs.Run.{Opening, Scene, Feed}
use Rattle.viper_state.specs.Choice as choice
use Rattle.viper_state.specs.Event as event

-- ---- keys and values

-- the type of an argument
abbrev pub part_type : KeyPart → Ty
part_type (part.Int a) = ty.Int
part_type (part.Bool a) = ty.Bool
part_type (part.Ref a) = ty.Ref

abbrev pub FitsPart : Ty → KeyPart → Type 0
FitsPart u a = part_type a ≡ u

-- as many arguments, each of its type
abbrev pub FitsKey : List Ty → Key → Type 0
FitsKey us k = AllZip FitsPart us k

-- each natural number is a reference
abbrev pub IsReference : ℕ → Type 0
IsReference r = ⊤

pub record FitsValue (u : Ty) (v : Value) : Type 0 where
  pub typed : type_of v ≡ u
  pub reduced : IsReducedValue v

-- values of these types
abbrev pub FitsStore : List Ty → List Value → Type 0
FitsStore us vs = AllZip FitsValue us vs

-- ---- maps

-- a finite map with this default, of such keys and values: the keys ascend, and no entry has the default
pub record FitsMap {K V : Type 0} (cmp : K → K → Ordering) (eq : V → V → Bool) (d : V) (P : K → Type 0) (Q : V → Type 0) (m : Map K V) : Type 0 where
  pub default : m.default ≡ d
  pub reduced : map.IsReduced cmp eq m
  pub keys : All P (map.keys m)
  pub values : All Q (map.values m)

-- the heap of a field of this type
abbrev pub FitsHeap : Ty → Map ℕ Value → Type 0
FitsHeap u = FitsMap nat_cmp value_eq (default_of u) IsReference (FitsValue u)

-- the mask of a field, of whatever type
abbrev pub FitsMask : Ty → Map ℕ Fraction → Type 0
FitsMask u = FitsMap nat_cmp fraction_eq none IsReference IsReduced

-- the contents of a predicate whose parameters have these types
abbrev pub FitsContents : List Ty → Map Key content.Content → Type 0
FitsContents us = FitsMap key_cmp same_content content.Unit (FitsKey us) IsReducedContent

-- the amounts of such a predicate
abbrev pub FitsAmounts : List Ty → Map Key Fraction → Type 0
FitsAmounts us = FitsMap key_cmp fraction_eq none (FitsKey us) IsReduced

-- ---- states, and what a run begins with

pub record FitsMemo (layout : Layout) (m : Memo) : Type 0 where
  pub heap : AllZip FitsHeap layout.fields m.heap
  pub content : AllZip FitsContents layout.keys m.content

pub record FitsState (layout : Layout) (s : State) : Type 0 where
  pub heap : AllZip FitsHeap layout.fields s.heap
  pub content : AllZip FitsContents layout.keys s.content
  pub mask : AllZip FitsMask layout.fields s.mask
  pub amount : AllZip FitsAmounts layout.keys s.amount

-- the opening of a unit whose parameters and returns have these types
pub record FitsOpening (layout : Layout) (us : List Ty) (o : Opening) : Type 0 where
  pub store : FitsStore us o.store
  pub memo : FitsMemo layout o.memo

-- a scene whose variables have these types
pub record FitsScene (layout : Layout) (us : List Ty) (sc : Scene) : Type 0 where
  pub store : FitsStore us sc.store
  pub old : FitsState layout sc.old

-- ---- what a run takes and records

abbrev pub FitsChoice : Layout → choice.Choice → Type 0
FitsChoice layout (choice.Branch b) = ⊤
FitsChoice layout (choice.Took v) = IsReducedValue v
FitsChoice layout (choice.Amount q) = IsReduced q
FitsChoice layout (choice.Fresh x) = ⊤
FitsChoice layout (choice.Filled m) = FitsMemo layout m

abbrev pub FitsEvent : Layout → event.Event → Type 0
FitsEvent layout (event.Branch b) = ⊤
FitsEvent layout (event.Took v) = IsReducedValue v
FitsEvent layout (event.Wild q) = IsReduced q
FitsEvent layout (event.Fresh x) = ⊤
FitsEvent layout (event.Whole m) = FitsMemo layout m
FitsEvent layout (event.Split a b) = IsReducedContent a × IsReducedContent b
FitsEvent layout (event.Leaf v) = IsReducedValue v

pub record FitsFeed (layout : Layout) (f : Feed) : Type 0 where
  pub left : All (FitsChoice layout) f.left
  pub events : All (FitsEvent layout) f.events

-- ---- as many maps as the program needs, whatever they hold

pub record HasMaps (layout : Layout) (s : State) : Type 0 where
  pub heap : length s.heap ≡ length layout.fields
  pub content : length s.content ≡ length layout.keys
  pub mask : length s.mask ≡ length layout.fields
  pub amount : length s.amount ≡ length layout.keys

-- the same of a heap and contents
pub record MemoHasMaps (layout : Layout) (m : Memo) : Type 0 where
  pub heap : length m.heap ≡ length layout.fields
  pub content : length m.content ≡ length layout.keys
