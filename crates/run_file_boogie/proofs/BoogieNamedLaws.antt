-- What is within the bound, and has references below 2^64, can be spelled.
use Rattle.std.proofs.Common.{◌≡◌, ℕ, List, map, All}
use Rattle.lemmas.proofs.Lists.{all_both as each}
use Rattle.sparse.specs.Map.{Map, keys, values}
use Rattle.vb_value.specs.Key.{IsWithinKey}
use Rattle.boogie_tree.specs.Program.{Local, Proc}
use Rattle.boogie_tree.specs.Value.{Key, BScalar, Int, Bool, Ref, Real, Snap, BValue, One, Many, Entry, BChoice, Pick, Value, Entries, BSetting, BRun}
use Rattle.moves.specs.Printable.{IsNamedEntry, IsNamedKey, IsNamedMove, IsNamedScalar, IsPrintableChoice, IsSpellable, IsSpellableKey}
use Rattle.run_file_boogie.specs.BoogiePrintable.{AreBoundedEntries, FitsSetting, FitsWithin, IsBounded, IsBoundedChoice, IsBoundedEntry, IsBoundedValue, IsNamedSetting, IsNamedBValue, IsPrintable, IsPrintableSetting, IsSpellableValue}

scalar_spelled : (v : BScalar) → IsBounded v → IsNamedScalar v → IsSpellable v
scalar_spelled (Int n) h named = h
scalar_spelled (Bool b) h named = tt
scalar_spelled (Ref r) h named = named
scalar_spelled (Real q) h named = h
scalar_spelled (Snap c) h named = (h.0, h.1, named)

value_spelled : (v : BValue) → IsBoundedValue v → IsNamedBValue v → IsSpellableValue v
value_spelled (One v) h named = scalar_spelled v h named
value_spelled (Many m) h named = (each IsWithinKey IsNamedKey IsSpellableKey (λ k p q. (p, q)) (keys m) h.0 named.0, each IsBounded IsNamedScalar IsSpellable scalar_spelled (values m) h.1 named.1)

setting_printable : (ls : List Local) (s : BSetting) → FitsSetting ls s → IsNamedSetting s → IsPrintableSetting ls s
setting_printable ls s h named = record { type = h.type; is_there = h.is_there; is_of_type = h.is_of_type; spellable = value_spelled s.value h.bounded named }

choice_printable : (c : BChoice) → IsBoundedChoice c → IsNamedMove c → IsPrintableChoice c
choice_printable (Pick b) h named = tt
choice_printable (Value v) h named = scalar_spelled v h named
choice_printable (Entries es) h named = record {
  ascending = h.ascending;
  parts = h.parts;
  others = h.others;
  spellable = each IsBoundedEntry IsNamedEntry (λ (e : Entry). IsSpellableKey e.key × IsSpellable e.value) (λ e p q. ((p.0, q.0), scalar_spelled e.value p.1 q.1)) es h.bounded named;
}

pub printable : (d : Proc) (run : BRun) → FitsWithin d run → All IsNamedSetting run.settings → All IsNamedMove run.choices → IsPrintable d run
printable d run h settings choices = record {
  settings = each (FitsSetting d.locals) IsNamedSetting (IsPrintableSetting d.locals) (setting_printable d.locals) run.settings h.settings settings;
  choices = each IsBoundedChoice IsNamedMove IsPrintableChoice choice_printable run.choices h.choices choices;
}
