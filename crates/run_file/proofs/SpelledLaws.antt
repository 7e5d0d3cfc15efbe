-- What a run file spells fits the program, is within the bound, and has references below 2^64.
use Rattle.std.proofs.Common.{◌≡◌, ◌≤◌, ℕ, ℤ, zero, suc, List, [], ◌∷◌, ◌++◌, map, All, Some, slice_get, slice_set, refl, sym, subst, arith}
use Rattle.std.specs.Prelude.{⊤, fold}
use Rattle.std.specs.List.{AllZip}
use Rattle.std.specs.Ordering.{nat_cmp}
use Rattle.std.proofs.lemmas.Int.{ints}
use Rattle.std.proofs.lemmas.List.Elements.{All-nil, All-cons, All-set}
use Rattle.lemmas.proofs.Options.{one_item}
use Rattle.vb_base.specs.Limits.{max_content_nodes}
use Rattle.sparse.specs.Map.{Map, empty}
use Rattle.vb_value.specs.Bound.{IsWithin}
use Rattle.vb_value.specs.Content as content
use Rattle.vb_value.specs.Content.{Content, IsReducedContent, IsWithinContent, AllValues, nodes, same_content}
use Rattle.vb_value.specs.Key.{key_cmp, IsWithinKey, IsWithinPart}
use Rattle.vb_value.specs.Layout.{Layout}
use Rattle.vb_value.specs.declared.keys.KeyPart.{KeyPart}
use Rattle.vb_value.specs.Value.{default_of, value_eq, IsWithinValue}
use Rattle.vb_value.specs.declared.values.Ty.{Ty}
use Rattle.vb_value.specs.declared.values.Ty.TheVariants as ty
use Rattle.vb_value.specs.declared.values.Value.{Value}
use Rattle.vb_value.specs.declared.values.Value.TheVariants.{Ref}
use Rattle.vb_value.proofs.FractionLaws.{IsReduced-reduced, IsWithinFraction-reduced}
use Rattle.viper_core.specs.Program.{Program}
use Rattle.viper_state.specs.Choice.{Choice, Filled}
use Rattle.viper_state.specs.Fits.{FitsKey, FitsPart, FitsValue, FitsStore, FitsHeap, FitsContents, FitsMemo, FitsChoice}
use Rattle.viper_state.specs.Run.{Opening}
use Rattle.viper_state.specs.State.{Key, Memo}
use Rattle.viper_state.specs.Within.{HasValues, HasEntries, IsWithinMemo, IsWithinChoice}
use Rattle.viper_state.proofs.EachLaws.{set_has_values, set_has_entries, empty_has_values, empty_has_entries}
use Rattle.viper_state.proofs.FitsLaws.{FitsMap-set, FitsMap-empty, FitsValue-default}
use Rattle.viper_state.proofs.MapLaws.{exact_values, exact_contents}
use Rattle.viper_state.proofs.Paired.{paired_changed, All-changed}
use Rattle.run_file.specs.Lines.{UnitScope, scope_of, ViperLine, Var, Heap, Holds, Chosen, Opened, IsLine, var, heap, content as holds, pick, value, amount, fresh, state}
use Rattle.moves.specs.Printable.{IsNamed, IsNamedValue, IsNamedPart, IsNamedKey, IsNamedContent}
use Rattle.run_file.specs.Printable.{IsNamedMemo, IsNamedChoice, IsPrintable}
use Rattle.run_file.specs.Run.{ViperRun, memo_with, opening_with, scope_memo, empty_opening, AreChoices, none as no_choice, one, filled, SpellsViperRun}
use Rattle.run_file_words.specs.Values.{SpellsInt, plain, negative, SpellsValue, int, truth, falsehood, null, reference, perm, IsArgument, int as int_argument, truth as truth_argument, reference as reference_argument, BeginsWithKey, none as no_key, more, BeginsWithContent, unit, leaf, pair}

-- ---- values

-- a value of its type that is within the bound, and that a file can name
pub record Good (u : Ty) (w : Value) : Type 0 where
  pub fits : FitsValue u w
  pub within : IsWithinValue w
  pub named : IsNamedValue w

good_int : {word : List ℕ} {n : ℤ} → SpellsInt word n → IsWithin n
good_int (plain {n = n} h) = omega (arith, ints, h.small)
good_int (negative {n = n} h) = omega (arith, ints, h.small)

pub good_value : {u : Ty} {word : List ℕ} {w : Value} → SpellsValue u word w → Good u w
good_value (int h) = record { fits = record { typed = refl; reduced = tt }; within = good_int h; named = tt }
good_value truth = record { fits = record { typed = refl; reduced = tt }; within = tt; named = tt }
good_value falsehood = record { fits = record { typed = refl; reduced = tt }; within = tt; named = tt }
good_value null = record { fits = record { typed = refl; reduced = tt }; within = tt; named = omega arith }
good_value (reference h) = record { fits = record { typed = refl; reduced = tt }; within = tt; named = h.small }
good_value (perm {n = n} {d = d} h i some) = record {
  fits = record { typed = refl; reduced = IsReduced-reduced n d (omega (arith, some)) };
  within = IsWithinFraction-reduced n d (good_int h) i.small;
  named = tt;
}

good_default : (u : Ty) → Good u (default_of u)
good_default ty.Int = record { fits = FitsValue-default ty.Int; within = omega arith; named = tt }
good_default ty.Bool = record { fits = FitsValue-default ty.Bool; within = tt; named = tt }
good_default ty.Ref = record { fits = FitsValue-default ty.Ref; within = tt; named = omega arith }
good_default ty.Perm = record { fits = FitsValue-default ty.Perm; within = record { num = omega arith; den = omega arith }; named = tt }

-- ---- keys and contents

record GoodPart (u : Ty) (a : KeyPart) : Type 0 where
  fits : FitsPart u a
  within : IsWithinPart a
  named : IsNamedPart a

good_part : {u : Ty} {w : Value} {a : KeyPart} → Good u w → IsArgument w a → GoodPart u a
good_part h int_argument = record { fits = h.fits.typed; within = h.within; named = tt }
good_part h truth_argument = record { fits = h.fits.typed; within = tt; named = tt }
good_part h reference_argument = record { fits = h.fits.typed; within = tt; named = h.named }

record GoodKey (us : List Ty) (k : Key) : Type 0 where
  fits : FitsKey us k
  within : IsWithinKey k
  named : IsNamedKey k

good_key : {us : List Ty} {words rest : List (List ℕ)} {k : Key} → BeginsWithKey us words k rest → GoodKey us k
good_key no_key = record { fits = tt; within = All-nil IsWithinPart; named = All-nil IsNamedPart }
good_key (more {a = a} {k = k} h is rest) =
    let first = good_part (good_value h) is in let others = good_key rest in
    record { fits = (first.fits, others.fits); within = All-cons IsWithinPart a k first.within others.within; named = All-cons IsNamedPart a k first.named others.named }

pub record GoodContent (c : Content) : Type 0 where
  pub reduced : IsReducedContent c
  pub within : AllValues IsWithinValue c
  pub named : IsNamedContent c

pub good_content : {words rest : List (List ℕ)} {c : Content} → BeginsWithContent words c rest → GoodContent c
good_content unit = record { reduced = tt; within = tt; named = tt }
good_content (leaf h) = let g = good_value h in record { reduced = g.fits.reduced; within = g.within; named = g.named }
good_content (pair h i) =
    let g = good_content h in let k = good_content i in record { reduced = (g.reduced, k.reduced); within = (g.within, k.within); named = (g.named, k.named) }

-- ---- lines

-- what a choice is for every layout
abbrev IsGoodChoice : Choice → Type 0
IsGoodChoice c = ((l : Layout) → FitsChoice l c) × IsWithinChoice c × IsNamedChoice c

-- what a line gives fits the scope
abbrev Gives : UnitScope → ViperLine → Type 0
Gives s (Var n w) = (u : Ty) × (slice_get s.variables.types n ≡ Some u) × Good u w
Gives s (Heap f r w) = (u : Ty) × (slice_get s.fields.types f ≡ Some u) × IsNamed r × Good u w
Gives s (Holds q k c) = (us : List Ty) × (slice_get s.predicates.types q ≡ Some us) × GoodKey us k × GoodContent c × (nodes c ≤ max_content_nodes)
Gives s (Chosen c) = IsGoodChoice c
Gives s Opened = ⊤

reference_named : {word : List ℕ} {r : ℕ} → SpellsValue ty.Ref word (Ref r) → IsNamed r
reference_named h = (good_value h).named

gives : {s : UnitScope} {words : List (List ℕ)} {l : ViperLine} → IsLine s words l → Gives s l
gives (var {u = u} known h) = (u, known.typed, good_value h)
gives (heap {u = u} known at h) = (u, known.typed, reference_named at, good_value h)
gives (holds {us = us} known key h few) = (us, known.typed, good_key key, good_content h, few)
gives (pick h) = (λ l. tt, tt, tt)
gives (value h) = let g = good_value h in (λ l. g.fits.reduced, g.within, g.named)
gives (amount h) = let g = good_value h in (λ l. g.fits.reduced, g.within, tt)
gives (fresh h) = (λ l. tt, tt, reference_named h)
gives state = tt

abbrev AllGive : UnitScope → List ViperLine → Type 0
AllGive s [] = ⊤
AllGive s (l ∷ ls) = Gives s l × AllGive s ls

all_give : (s : UnitScope) (words : List (List (List ℕ))) (ls : List ViperLine) → AllZip (IsLine s) words ls → AllGive s ls
all_give s [] [] h = tt
all_give s [] (l ∷ ls) h = absurd h
all_give s (w ∷ words) [] h = absurd h
all_give s (w ∷ words) (l ∷ ls) h = (gives h.0, all_give s words ls h.1)

give_front : (s : UnitScope) (ls ms : List ViperLine) → AllGive s (ls ++ ms) → AllGive s ls
give_front s [] ms h = tt
give_front s (l ∷ ls) ms h = (h.0, give_front s ls ms h.1)

give_back : (s : UnitScope) (ls ms : List ViperLine) → AllGive s (ls ++ ms) → AllGive s ms
give_back s [] ms h = h
give_back s (l ∷ ls) ms h = give_back s ls ms h.1

-- ---- heaps and contents

abbrev layout_of : UnitScope → Layout
layout_of s = record { fields = s.fields.types; keys = s.predicates.types }

record GoodMemo (s : UnitScope) (m : Memo) : Type 0 where
  fits : FitsMemo (layout_of s) m
  within : IsWithinMemo m
  named : IsNamedMemo m

heap_with : {s : UnitScope} {m : Memo} (f r : ℕ) (w : Value) → GoodMemo s m → Gives s (Heap f r w) → GoodMemo s (memo_with m (Heap f r w))
heap_with {s} {m} f r w h (u, at, small, g) = record {
  fits = record {
    heap = paired_changed nat_cmp value_eq FitsHeap s.fields.types m.heap f r w h.fits.heap (λ t n e i. FitsMap-set exact_values.total n r w i tt (subst (λ x. FitsValue x w) (one_item at e) g.fits));
    content = h.fits.content;
  };
  within = record {
    heap = All-changed nat_cmp value_eq (HasValues IsWithinValue) m.heap f r w h.within.heap (λ n i. set_has_values nat_cmp value_eq n r w i g.within);
    content = h.within.content;
  };
  named = record {
    heap = All-changed nat_cmp value_eq (HasEntries IsNamed IsNamedValue) m.heap f r w h.named.heap (λ n i. set_has_entries nat_cmp value_eq n r w i small g.named);
    content = h.named.content;
  };
}

content_with : {s : UnitScope} {m : Memo} (q : ℕ) (k : Key) (c : Content) → GoodMemo s m → Gives s (Holds q k c) → GoodMemo s (memo_with m (Holds q k c))
content_with {s} {m} q k c h (us, at, key, g, few) = record {
  fits = record {
    heap = h.fits.heap;
    content = paired_changed key_cmp same_content FitsContents s.predicates.types m.content q k c h.fits.content (λ t n e i. FitsMap-set exact_contents.total n k c i (subst (λ x. FitsKey x k) (one_item at e) key.fits) g.reduced);
  };
  within = record {
    heap = h.within.heap;
    content = All-changed key_cmp same_content (HasEntries IsWithinKey IsWithinContent) m.content q k c h.within.content (λ n i. set_has_entries key_cmp same_content n k c i key.within (record { small = few; values = g.within }));
  };
  named = record {
    heap = h.named.heap;
    content = All-changed key_cmp same_content (HasEntries IsNamedKey IsNamedContent) m.content q k c h.named.content (λ n i. set_has_entries key_cmp same_content n k c i key.named g.named);
  };
}

memo_step : {s : UnitScope} {m : Memo} (l : ViperLine) → GoodMemo s m → Gives s l → GoodMemo s (memo_with m l)
memo_step (Var n w) h g = h
memo_step (Heap f r w) h g = heap_with f r w h g
memo_step (Holds q k c) h g = content_with q k c h g
memo_step (Chosen c) h g = h
memo_step Opened h g = h

memo_folded : {s : UnitScope} (ls : List ViperLine) (m : Memo) → GoodMemo s m → AllGive s ls → GoodMemo s (fold memo_with m ls)
memo_folded [] m h g = h
memo_folded (l ∷ ls) m h g = memo_folded ls (memo_with m l) (memo_step l h g.0) g.1

within_unit : IsWithinContent content.Unit
within_unit = record { small = omega arith; values = tt }

record GoodHeaps (us : List Ty) (ms : List (Map ℕ Value)) : Type 0 where
  fits : AllZip FitsHeap us ms
  within : All (HasValues IsWithinValue) ms
  named : All (HasEntries IsNamed IsNamedValue) ms

empty_heaps : (us : List Ty) → GoodHeaps us (map (λ u. empty {K = ℕ} (default_of u)) us)
empty_heaps [] = record { fits = tt; within = All-nil (HasValues IsWithinValue); named = All-nil (HasEntries IsNamed IsNamedValue) }
empty_heaps (u ∷ us) =
    let rest = empty_heaps us in let others = map (λ u. empty {K = ℕ} (default_of u)) us in
    record {
      fits = (FitsMap-empty exact_values.total, rest.fits);
      within = All-cons (HasValues IsWithinValue) (empty {K = ℕ} (default_of u)) others (empty_has_values (default_of u) (good_default u).within) rest.within;
      named = All-cons (HasEntries IsNamed IsNamedValue) (empty {K = ℕ} (default_of u)) others (empty_has_entries (default_of u) (good_default u).named) rest.named;
    }

record GoodContents (keys : List (List Ty)) (ms : List (Map Key Content)) : Type 0 where
  fits : AllZip FitsContents keys ms
  within : All (HasEntries IsWithinKey IsWithinContent) ms
  named : All (HasEntries IsNamedKey IsNamedContent) ms

empty_contents : (keys : List (List Ty)) → GoodContents keys (map (λ us. empty {K = Key} content.Unit) keys)
empty_contents [] = record { fits = tt; within = All-nil (HasEntries IsWithinKey IsWithinContent); named = All-nil (HasEntries IsNamedKey IsNamedContent) }
empty_contents (us ∷ keys) =
    let rest = empty_contents keys in let others = map (λ us. empty {K = Key} content.Unit) keys in
    record {
      fits = (FitsMap-empty exact_contents.total, rest.fits);
      within = All-cons (HasEntries IsWithinKey IsWithinContent) (empty {K = Key} content.Unit) others (empty_has_entries content.Unit within_unit) rest.within;
      named = All-cons (HasEntries IsNamedKey IsNamedContent) (empty {K = Key} content.Unit) others (empty_has_entries content.Unit tt) rest.named;
    }

good_empty : (s : UnitScope) → GoodMemo s (scope_memo s)
good_empty s =
    let heaps = empty_heaps s.fields.types in let contents = empty_contents s.predicates.types in
    record {
      fits = record { heap = heaps.fits; content = contents.fits };
      within = record { heap = heaps.within; content = contents.within };
      named = record { heap = heaps.named; content = contents.named };
    }

-- ---- choices

record GoodChoices (s : UnitScope) (cs : List Choice) : Type 0 where
  fit : All (FitsChoice (layout_of s)) cs
  within : All IsWithinChoice cs
  named : All IsNamedChoice cs

one_more : {s : UnitScope} {c : Choice} {cs : List Choice} → FitsChoice (layout_of s) c → IsWithinChoice c → IsNamedChoice c → GoodChoices s cs → GoodChoices s (c ∷ cs)
one_more {s} {c} {cs} fits within named rest = record {
  fit = All-cons (FitsChoice (layout_of s)) c cs fits rest.fit;
  within = All-cons IsWithinChoice c cs within rest.within;
  named = All-cons IsNamedChoice c cs named rest.named;
}

good_choices : {s : UnitScope} {ls : List ViperLine} {cs : List Choice} → AreChoices s ls cs → AllGive s ls → GoodChoices s cs
good_choices {s} no_choice g = record { fit = All-nil (FitsChoice (layout_of s)); within = All-nil IsWithinChoice; named = All-nil IsNamedChoice }
good_choices {s} (one {c = c} {cs = cs} h) g = one_more {c = c} (g.0.0 (layout_of s)) g.0.1 g.0.2 (good_choices h g.1)
good_choices {s} (filled block {ls = ls} {cs = cs} only once h) g =
    let memo = memo_folded block (scope_memo s) (good_empty s) (give_front s block ls g.1) in
    one_more {c = Filled (fold memo_with (scope_memo s) block)} memo.fits memo.within memo.named (good_choices h (give_back s block ls g.1))

-- ---- openings

record GoodOpening (s : UnitScope) (o : Opening) : Type 0 where
  store : FitsStore s.variables.types o.store
  within : All IsWithinValue o.store
  named : All IsNamedValue o.store
  memo : GoodMemo s o.memo

store_set : (us : List Ty) (ws : List Value) (n : ℕ) (u : Ty) (w : Value) → FitsStore us ws → slice_get us n ≡ Some u → FitsValue u w → FitsStore us (slice_set ws n w)
store_set [] [] n u w h at fits = tt
store_set [] (x ∷ ws) n u w h at fits = absurd h
store_set (t ∷ us) [] n u w h at fits = absurd h
store_set (t ∷ us) (x ∷ ws) zero u w h at fits = let same : u ≡ t = cc in (subst (λ y. FitsValue y w) same fits, h.1)
store_set (t ∷ us) (x ∷ ws) (suc n) u w h at fits = (h.0, store_set us ws n u w h.1 at fits)

opening_step : {s : UnitScope} {o : Opening} (l : ViperLine) → GoodOpening s o → Gives s l → GoodOpening s (opening_with o l)
opening_step {s} {o} (Var n w) h (u, at, g) = record {
  store = store_set s.variables.types o.store n u w h.store at g.fits;
  within = All-set IsWithinValue o.store n w g.within h.within;
  named = All-set IsNamedValue o.store n w g.named h.named;
  memo = h.memo;
}
opening_step (Heap f r w) h g = record { store = h.store; within = h.within; named = h.named; memo = heap_with f r w h.memo g }
opening_step (Holds q k c) h g = record { store = h.store; within = h.within; named = h.named; memo = content_with q k c h.memo g }
opening_step (Chosen c) h g = h
opening_step Opened h g = h

opening_folded : {s : UnitScope} (ls : List ViperLine) (o : Opening) → GoodOpening s o → AllGive s ls → GoodOpening s (fold opening_with o ls)
opening_folded [] o h g = h
opening_folded (l ∷ ls) o h g = opening_folded ls (opening_with o l) (opening_step l h g.0) g.1

record GoodStore (us : List Ty) (ws : List Value) : Type 0 where
  fits : FitsStore us ws
  within : All IsWithinValue ws
  named : All IsNamedValue ws

default_store : (us : List Ty) → GoodStore us (map default_of us)
default_store [] = record { fits = tt; within = All-nil IsWithinValue; named = All-nil IsNamedValue }
default_store (u ∷ us) =
    let g = good_default u in let rest = default_store us in
    record {
      fits = (g.fits, rest.fits);
      within = All-cons IsWithinValue (default_of u) (map default_of us) g.within rest.within;
      named = All-cons IsNamedValue (default_of u) (map default_of us) g.named rest.named;
    }

empty_opens : (s : UnitScope) → GoodOpening s (empty_opening s)
empty_opens s = let store = default_store s.variables.types in record { store = store.fits; within = store.within; named = store.named; memo = good_empty s }

-- ---- runs

opened_good : (s : UnitScope) {o : Opening} (settings : List ViperLine) → o ≡ fold opening_with (empty_opening s) settings → AllGive s settings → GoodOpening s o
opened_good s settings is g = subst (GoodOpening s) (sym is) (opening_folded settings (empty_opening s) (empty_opens s) g)

-- each run that a file spells can be printed so that the text spells it
pub spelled_good : (bytes : List ℕ) (p : Program) (n : ℕ) (run : ViperRun) → SpellsViperRun bytes p n run → IsPrintable p n run
spelled_good bytes p n run h =
    let s = scope_of p n in
    let r = h.means in
    let g = subst (AllGive s) r.whole (all_give s h.words h.said h.meant) in
    let opening = opened_good s r.settings r.opening (give_front s r.settings r.rest g) in
    let choices = good_choices r.choices (give_back s r.settings r.rest g) in
    record {
      opening_fits = record { store = opening.store; memo = opening.memo.fits };
      choices_fit = choices.fit;
      opening_within = record { store = opening.within; memo = opening.memo.within };
      choices_within = choices.within;
      store_named = opening.named;
      memo_named = opening.memo.named;
      choices_named = choices.named;
    }
