-- The choices of Boogie that a run file can spell.
use Rattle.std.specs.Prelude.{⊤, ◌≡◌, ◌<◌, ◌^◌, false, ℕ, List, map, All}
use Rattle.std.specs.List.Sorted.{IsStrictlySortedBy}
use Rattle.vb_value.specs.Bound.{IsWithin}
use Rattle.vb_value.specs.Content.{Content, AllValues, IsReducedContent, IsWithinContent}
use Rattle.vb_value.specs.Fraction.{IsReduced, IsWithinFraction}
use Rattle.vb_value.specs.Key.{key_cmp, IsWithinKey}
use Rattle.vb_value.specs.declared.keys.KeyPart.{KeyPart}
use Rattle.vb_value.specs.declared.keys.KeyPart.TheVariants as part
use Rattle.vb_value.specs.declared.values.Value as v
use Rattle.vb_value.specs.declared.values.Value.TheVariants as value
use Rattle.boogie_tree.specs.Value.{Key, BScalar, Int, Bool, Ref, Real, Snap, Entry, BChoice, Pick, Value, Entries}
use Rattle.boogie_tree.specs.Values.{is_default}
use Rattle.moves.specs.Lists.{is_empty}

-- ---- references below 2^64, as every reference of the code is

abbrev pub IsNamed : ℕ → Type 0
IsNamed r = r < 2 ^ 64

abbrev pub IsNamedValue : v.Value → Type 0
IsNamedValue (value.Int n) = ⊤
IsNamedValue (value.Bool b) = ⊤
IsNamedValue (value.Ref r) = IsNamed r
IsNamedValue (value.Perm q) = ⊤

abbrev pub IsNamedPart : KeyPart → Type 0
IsNamedPart (part.Int n) = ⊤
IsNamedPart (part.Bool b) = ⊤
IsNamedPart (part.Ref r) = IsNamed r

abbrev pub IsNamedKey : Key → Type 0
IsNamedKey k = All IsNamedPart k

abbrev pub IsNamedContent : Content → Type 0
IsNamedContent c = AllValues IsNamedValue c

abbrev pub IsNamedScalar : BScalar → Type 0
IsNamedScalar (Int n) = ⊤
IsNamedScalar (Bool b) = ⊤
IsNamedScalar (Ref r) = IsNamed r
IsNamedScalar (Real q) = ⊤
IsNamedScalar (Snap c) = IsNamedContent c

abbrev pub IsNamedEntry : Entry → Type 0
IsNamedEntry e = IsNamedKey e.key × IsNamedScalar e.value

abbrev pub IsNamedMove : BChoice → Type 0
IsNamedMove (Pick b) = ⊤
IsNamedMove (Value v) = IsNamedScalar v
IsNamedMove (Entries es) = All IsNamedEntry es

-- ---- numbers, fractions and contents within the bound

abbrev pub IsWithinScalar : BScalar → Type 0
IsWithinScalar (Int n) = IsWithin n
IsWithinScalar (Bool b) = ⊤
IsWithinScalar (Ref r) = ⊤
IsWithinScalar (Real q) = IsWithinFraction q
IsWithinScalar (Snap c) = IsWithinContent c

abbrev pub IsWithinEntry : Entry → Type 0
IsWithinEntry e = IsWithinKey e.key × IsWithinScalar e.value

abbrev pub IsWithinMove : BChoice → Type 0
IsWithinMove (Pick b) = ⊤
IsWithinMove (Value v) = IsWithinScalar v
IsWithinMove (Entries es) = All IsWithinEntry es

-- ---- values that can be spelled: fractions in lowest terms, numbers and contents within the bound, references below 2^64

abbrev pub IsSpellable : BScalar → Type 0
IsSpellable (Int n) = IsWithin n
IsSpellable (Bool b) = ⊤
IsSpellable (Ref r) = IsNamed r
IsSpellable (Real q) = IsReduced q × IsWithinFraction q
IsSpellable (Snap c) = IsReducedContent c × IsWithinContent c × IsNamedContent c

abbrev pub IsSpellableKey : Key → Type 0
IsSpellableKey k = IsWithinKey k × IsNamedKey k

-- ---- choices

-- the keys ascend, each of at least one part, and no value is the default of its type
pub record ArePrintableEntries (es : List Entry) : Type 0 where
  pub ascending : IsStrictlySortedBy key_cmp (map (λ (e : Entry). e.key) es)
  pub parts : All (λ (e : Entry). is_empty e.key ≡ false) es
  pub others : All (λ (e : Entry). is_default e.value ≡ false) es
  pub spellable : All (λ (e : Entry). IsSpellableKey e.key × IsSpellable e.value) es

abbrev pub IsPrintableChoice : BChoice → Type 0
IsPrintableChoice (Pick b) = ⊤
IsPrintableChoice (Value v) = IsSpellable v
IsPrintableChoice (Entries es) = ArePrintableEntries es
