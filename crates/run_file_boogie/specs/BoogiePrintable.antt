-- The procedures and their runs of which a printed text spells the run.
use Rattle.std.specs.Prelude.{⊤, ◌≡◌, false, List, map, slice_get, Some, All, IsTrue}
use Rattle.std.specs.List.Sorted.{IsStrictlySortedBy}
use Rattle.sparse.specs.Map.{keys, values}
use Rattle.vb_base.specs.Names.{is_name, NamesDiffer}
use Rattle.boogie_tree.specs.Program.{BType, Local, Proc}
use Rattle.vb_value.specs.Bound.{IsWithin}
use Rattle.vb_value.specs.Content.{IsReducedContent, IsWithinContent}
use Rattle.vb_value.specs.Fraction.{IsReduced, IsWithinFraction}
use Rattle.vb_value.specs.Key.{key_cmp, IsWithinKey}
use Rattle.boogie_tree.specs.Value.{BScalar, Int, Bool, Ref, Real, Snap, BValue, One, Many, Entry, BChoice, Pick, Value, Entries, BSetting, BRun}
use Rattle.boogie_tree.specs.Values.{is_default, IsOfType}
use Rattle.moves.specs.Lists.{is_empty}
use Rattle.moves.specs.Printable.{IsNamedKey, IsNamedScalar, IsSpellable, IsSpellableKey, IsPrintableChoice}
use Rattle.run_file_boogie.specs.BoogieLines.{known}

-- the names of the procedure and of its variables have the form of names, and those of the variables differ
pub record KeepsNames (d : Proc) : Type 0 where
  pub name : IsTrue (is_name d.name)
  pub locals : All (λ x. IsTrue (is_name x)) (known d.locals).names
  pub differ : NamesDiffer (known d.locals).names

-- the keys and values of the places of a map
abbrev pub IsSpellableValue : BValue → Type 0
IsSpellableValue (One v) = IsSpellable v
IsSpellableValue (Many m) = All IsSpellableKey (keys m) × All IsSpellable (values m)

-- ---- the same without what the references of the code give by themselves

-- in lowest terms and within the bound
abbrev pub IsBounded : BScalar → Type 0
IsBounded (Int n) = IsWithin n
IsBounded (Bool b) = ⊤
IsBounded (Ref r) = ⊤
IsBounded (Real q) = IsReduced q × IsWithinFraction q
IsBounded (Snap c) = IsReducedContent c × IsWithinContent c

abbrev pub IsBoundedValue : BValue → Type 0
IsBoundedValue (One v) = IsBounded v
IsBoundedValue (Many m) = All IsWithinKey (keys m) × All IsBounded (values m)

abbrev pub IsBoundedEntry : Entry → Type 0
IsBoundedEntry e = IsWithinKey e.key × IsBounded e.value

-- as a run file fills them: the keys ascend, each of at least one part, and no value is the default of its type
pub record AreBoundedEntries (es : List Entry) : Type 0 where
  pub ascending : IsStrictlySortedBy key_cmp (map (λ (e : Entry). e.key) es)
  pub parts : All (λ (e : Entry). is_empty e.key ≡ false) es
  pub others : All (λ (e : Entry). is_default e.value ≡ false) es
  pub bounded : All IsBoundedEntry es

abbrev pub IsBoundedChoice : BChoice → Type 0
IsBoundedChoice (Pick b) = ⊤
IsBoundedChoice (Value v) = IsBounded v
IsBoundedChoice (Entries es) = AreBoundedEntries es

-- it gives a variable a value of its type, within the bound
pub record FitsSetting (ls : List Local) (s : BSetting) : Type 0 where
  pub type : BType
  pub is_there : slice_get (known ls).types s.var ≡ Some type
  pub is_of_type : IsOfType s.value type
  pub bounded : IsBoundedValue s.value

pub record FitsWithin (d : Proc) (run : BRun) : Type 0 where
  pub settings : All (FitsSetting d.locals) run.settings
  pub choices : All IsBoundedChoice run.choices

-- each reference is below 2^64
abbrev pub IsNamedBValue : BValue → Type 0
IsNamedBValue (One v) = IsNamedScalar v
IsNamedBValue (Many m) = All IsNamedKey (keys m) × All IsNamedScalar (values m)

abbrev pub IsNamedSetting : BSetting → Type 0
IsNamedSetting s = IsNamedBValue s.value

-- ---- runs

-- it gives a variable a value of its type
pub record IsPrintableSetting (ls : List Local) (s : BSetting) : Type 0 where
  pub type : BType
  pub is_there : slice_get (known ls).types s.var ≡ Some type
  pub is_of_type : IsOfType s.value type
  pub spellable : IsSpellableValue s.value

pub record IsPrintable (d : Proc) (run : BRun) : Type 0 where
  pub settings : All (IsPrintableSetting d.locals) run.settings
  pub choices : All IsPrintableChoice run.choices
