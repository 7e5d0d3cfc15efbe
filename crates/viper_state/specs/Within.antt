-- What is said of every number of a run: that it is within the bound, and that it is proper.
use Rattle.std.specs.Prelude.{⊤, ◌≡◌, false, All}
use Rattle.sparse.specs.Map.{Map, keys, values}
use Rattle.vb_value.specs.Bound.{Bound}
use Rattle.vb_value.specs.Fraction.{Fraction, IsWithinFraction, IsProperFraction, is_negative}
use Rattle.vb_value.specs.Content.{Content, IsWithinContent, IsProperContent}
use Rattle.vb_value.specs.Key.{IsWithinKey, IsProperKey}
use Rattle.vb_value.specs.Value.{IsWithinValue, IsProperValue}
use Rattle.vb_value.specs.declared.values.Value.{Value}
use Rattle.viper_state.specs.State.{Key, Memo, State}
use Rattle.viper_state.specs.Run.{Opening, Scene, Feed}
use Rattle.viper_state.specs.Choice as choice
use Rattle.viper_state.specs.Event as event

-- the default and every other value
pub record HasValues {K V : Type 0} (P : V → Type 0) (m : Map K V) : Type 0 where
  pub default : P m.default
  pub others : All P (values m)

-- the same, and every key with a value of its own
pub record HasEntries {K V : Type 0} (P : K → Type 0) (Q : V → Type 0) (m : Map K V) : Type 0 where
  pub keys : All P (keys m)
  pub values : HasValues Q m

-- ---- what holds of each fraction, value, key and content of something

pub record AllOfMemo (V : Value → Type 0) (K : Key → Type 0) (C : Content → Type 0) (m : Memo) : Type 0 where
  pub heap : All (HasValues V) m.heap
  pub content : All (HasEntries K C) m.content

pub record AllOfState (F : Fraction → Type 0) (V : Value → Type 0) (K : Key → Type 0) (C : Content → Type 0) (s : State) : Type 0 where
  pub heap : All (HasValues V) s.heap
  pub content : All (HasEntries K C) s.content
  pub mask : All (HasValues F) s.mask
  pub amount : All (HasEntries K F) s.amount

pub record AllOfScene (F : Fraction → Type 0) (V : Value → Type 0) (K : Key → Type 0) (C : Content → Type 0) (sc : Scene) : Type 0 where
  pub store : All V sc.store
  pub old : AllOfState F V K C sc.old

pub record AllOfOpening (V : Value → Type 0) (K : Key → Type 0) (C : Content → Type 0) (o : Opening) : Type 0 where
  pub store : All V o.store
  pub memo : AllOfMemo V K C o.memo

abbrev pub AllOfChoice : (Fraction → Type 0) → (Value → Type 0) → (Key → Type 0) → (Content → Type 0) → choice.Choice → Type 0
AllOfChoice F V K C (choice.Branch b) = ⊤
AllOfChoice F V K C (choice.Took v) = V v
AllOfChoice F V K C (choice.Amount q) = F q
AllOfChoice F V K C (choice.Fresh x) = ⊤
AllOfChoice F V K C (choice.Filled m) = AllOfMemo V K C m

abbrev pub AllOfEvent : (Fraction → Type 0) → (Value → Type 0) → (Key → Type 0) → (Content → Type 0) → event.Event → Type 0
AllOfEvent F V K C (event.Branch b) = ⊤
AllOfEvent F V K C (event.Took v) = V v
AllOfEvent F V K C (event.Wild q) = F q
AllOfEvent F V K C (event.Fresh x) = ⊤
AllOfEvent F V K C (event.Whole m) = AllOfMemo V K C m
AllOfEvent F V K C (event.Split a b) = C a × C b
AllOfEvent F V K C (event.Leaf v) = V v

-- ---- within the bound of a run: every number, and the size of every content

abbrev pub IsWithinMemo : Memo → Type 0
IsWithinMemo = AllOfMemo IsWithinValue IsWithinKey IsWithinContent

abbrev pub IsWithinState : State → Type 0
IsWithinState = AllOfState IsWithinFraction IsWithinValue IsWithinKey IsWithinContent

abbrev pub IsWithinScene : Scene → Type 0
IsWithinScene = AllOfScene IsWithinFraction IsWithinValue IsWithinKey IsWithinContent

abbrev pub IsWithinOpening : Opening → Type 0
IsWithinOpening = AllOfOpening IsWithinValue IsWithinKey IsWithinContent

abbrev pub IsWithinChoice : choice.Choice → Type 0
IsWithinChoice = AllOfChoice IsWithinFraction IsWithinValue IsWithinKey IsWithinContent

abbrev pub IsWithinEvent : event.Event → Type 0
IsWithinEvent = AllOfEvent IsWithinFraction IsWithinValue IsWithinKey IsWithinContent

-- every choice that is left, and every event
pub record IsWithinFeed (f : Feed) : Type 0 where
  pub left : All IsWithinChoice f.left
  pub events : All IsWithinEvent f.events

-- ---- proper: each fraction is in lowest terms, and where there is a bound all is within it

abbrev pub IsProperMemo : Bound → Memo → Type 0
IsProperMemo b = AllOfMemo (IsProperValue b) (IsProperKey b) (IsProperContent b)

abbrev pub IsProperState : Bound → State → Type 0
IsProperState b = AllOfState (IsProperFraction b) (IsProperValue b) (IsProperKey b) (IsProperContent b)

abbrev pub IsProperScene : Bound → Scene → Type 0
IsProperScene b = AllOfScene (IsProperFraction b) (IsProperValue b) (IsProperKey b) (IsProperContent b)

abbrev pub IsProperOpening : Bound → Opening → Type 0
IsProperOpening b = AllOfOpening (IsProperValue b) (IsProperKey b) (IsProperContent b)

abbrev pub IsProperChoice : Bound → choice.Choice → Type 0
IsProperChoice b = AllOfChoice (IsProperFraction b) (IsProperValue b) (IsProperKey b) (IsProperContent b)

abbrev pub IsProperEvent : Bound → event.Event → Type 0
IsProperEvent b = AllOfEvent (IsProperFraction b) (IsProperValue b) (IsProperKey b) (IsProperContent b)

pub record IsProperFeed (b : Bound) (f : Feed) : Type 0 where
  pub left : All (IsProperChoice b) f.left
  pub events : All (IsProperEvent b) f.events

-- ---- signs

abbrev pub IsNotNegative : Fraction → Type 0
IsNotNegative q = is_negative q ≡ false

-- no mask and no amount is negative
pub record IsNonnegative (s : State) : Type 0 where
  pub mask : All (HasValues IsNotNegative) s.mask
  pub amount : All (HasValues IsNotNegative) s.amount
