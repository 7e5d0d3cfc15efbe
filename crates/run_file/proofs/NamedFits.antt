-- What fits a program has defaults that a run file can name.
use Rattle.std.proofs.Common.{◌≡◌, ℕ, List, [], ◌∷◌, All, sym, subst, arith}
use Rattle.std.specs.List.{AllZip}
use Rattle.std.proofs.lemmas.List.Elements.{All-nil, All-cons, All-head, All-tail}
use Rattle.sparse.specs.Map.{Map}
use Rattle.vb_value.specs.Content as content
use Rattle.vb_value.specs.Layout.{Layout}
use Rattle.vb_value.specs.Value.{default_of}
use Rattle.vb_value.specs.declared.values.Ty.{Ty}
use Rattle.vb_value.specs.declared.values.Ty.TheVariants as ty
use Rattle.vb_value.specs.declared.values.Value.{Value}
use Rattle.viper_core.specs.Program.{Program}
use Rattle.viper_state.specs.Choice.{Choice, Branch, Took, Amount, Fresh, Filled}
use Rattle.viper_state.specs.Fits.{FitsChoice, FitsContents, FitsHeap, FitsMemo}
use Rattle.viper_state.specs.State.{Key, Memo}
use Rattle.viper_state.specs.Within.{HasEntries}
use Rattle.moves.specs.Printable.{IsNamed, IsNamedContent, IsNamedKey, IsNamedValue}
use Rattle.run_file_words.specs.Named.{AreNamed}
use Rattle.run_file.specs.Printable.{FitsWithin, IsNamedChoice, IsNamedMemo, IsPrintable, NamesChoice, NamesMemo}
use Rattle.run_file.specs.Run.{ViperRun}

default_named : (u : Ty) → IsNamedValue (default_of u)
default_named ty.Int = tt
default_named ty.Bool = tt
default_named ty.Ref = omega arith
default_named ty.Perm = tt

nothing_named : IsNamedContent content.Unit
nothing_named = tt

-- maps of which each has a default that can be named
module _ {U K V : Type 0} (F : U → Map K V → Type 0) (P : K → Type 0) (Q : V → Type 0) (default : (u : U) (m : Map K V) → F u m → Q m.default) where
  entries_named : (us : List U) (ms : List (Map K V)) → AllZip F us ms → All (AreNamed P Q) ms → All (HasEntries P Q) ms
  entries_named [] [] fit named = All-nil (HasEntries P Q)
  entries_named [] (m ∷ ms) fit named = absurd fit
  entries_named (u ∷ us) [] fit named = All-nil (HasEntries P Q)
  entries_named (u ∷ us) (m ∷ ms) fit named =
      let first = All-head (AreNamed P Q) m ms named in
      All-cons (HasEntries P Q) m ms (record { keys = first.keys; values = record { default = default u m fit.0; others = first.values } })
      (entries_named us ms fit.1 (All-tail (AreNamed P Q) m ms named))

pub memo_named : (layout : Layout) (m : Memo) → FitsMemo layout m → NamesMemo m → IsNamedMemo m
memo_named layout m fits named = record {
  heap = entries_named FitsHeap IsNamed IsNamedValue (λ u h f. subst IsNamedValue (sym f.default) (default_named u)) layout.fields m.heap fits.heap named.heap;
  content = entries_named FitsContents IsNamedKey IsNamedContent (λ us h f. subst IsNamedContent (sym f.default) nothing_named) layout.keys m.content fits.content named.content;
}

choice_named : (layout : Layout) (c : Choice) → FitsChoice layout c → NamesChoice c → IsNamedChoice c
choice_named layout (Branch b) fits named = tt
choice_named layout (Took v) fits named = named
choice_named layout (Amount q) fits named = tt
choice_named layout (Fresh r) fits named = named
choice_named layout (Filled m) fits named = memo_named layout m fits named

choices_named : (layout : Layout) (cs : List Choice) → All (FitsChoice layout) cs → All NamesChoice cs → All IsNamedChoice cs
choices_named layout [] fit named = All-nil IsNamedChoice
choices_named layout (c ∷ cs) fit named =
    All-cons IsNamedChoice c cs (choice_named layout c (All-head (FitsChoice layout) c cs fit) (All-head NamesChoice c cs named))
    (choices_named layout cs (All-tail (FitsChoice layout) c cs fit) (All-tail NamesChoice c cs named))

pub printable : (p : Program) (n : ℕ) (run : ViperRun) → FitsWithin p n run → All IsNamedValue run.opening.store → NamesMemo run.opening.memo → All NamesChoice run.choices → IsPrintable p n run
printable p n run h store memo choices = record {
  opening_fits = h.opening_fits;
  choices_fit = h.choices_fit;
  opening_within = h.opening_within;
  choices_within = h.choices_within;
  store_named = store;
  memo_named = memo_named p.layout run.opening.memo h.opening_fits.memo memo;
  choices_named = choices_named p.layout run.choices h.choices_fit choices;
}
