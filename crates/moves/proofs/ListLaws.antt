-- Lists that are written one after the other: the entries of a map, and the choices of maps and events.
use Rattle.std.proofs.Common.{◌≡◌, ◌∙◌, ◌+◌, ℕ, Bool, List, [], ◌∷◌, ◌++◌, take, map, slice_get, Some, sym, ap}
use Rattle.std.specs.Option.{option_map}
use Rattle.std.specs.Ordering.{nat_cmp, on}
use Rattle.std.proofs.lemmas.Cmp.{nat_cmp_total}
use Rattle.std.proofs.lemmas.List.{take_more}
use Rattle.std.proofs.lemmas.Option.{slice_get-map, slice_get_within, get_or_from_slice_get}
use Rattle.lemmas.proofs.Lists.{map_append}
use Rattle.sparse.specs.Map.{Map, get, keys, IsReduced}
use Rattle.sparse.proofs.MapLaws.{get-keys}
use Rattle.vb_value.specs.Content as tree
use Rattle.vb_value.specs.Content.{same_content}
use Rattle.vb_value.specs.Key.{key_cmp}
use Rattle.vb_value.specs.KeyOrder.{key_cmp_total}
use Rattle.vb_value.specs.View.{content_of}
use Rattle.vb_value.specs.declared.contents.Content.{Content}
use Rattle.vb_value.specs.declared.values.Value.{Value}
use Rattle.viper_state.specs.View.{contents_of}
use Rattle.boogie_tree.specs.Value as b
use Rattle.boogie_tree.specs.Value.{Key}
use Rattle.boogie_tree.specs.Whole.{entry_of}
use Rattle.boogie_tree.specs.declared.values.Entry.{Entry}
use Rattle.moves.specs.Scalars.{scalar}
use Rattle.moves.specs.Maps.{place_key, instance_key}

-- ---- what is pushed

-- one more of the items of a list
pub one_more : {X : Type 0} (f : X → b.Entry) (xs : List X) (i : ℕ) (x : X) (items : List Entry) (e : Entry) → slice_get xs i ≡ Some x → map entry_of items ≡ take i (map f xs) →
    entry_of e ≡ f x → map entry_of (items ++ e ∷ []) ≡ take (i + 1) (map f xs)
one_more f xs i x items e there so_far is =
    let found : slice_get (map f xs) i ≡ Some (f x) = slice_get-map f xs i ∙ ap (option_map f) there in
    map_append entry_of items (e ∷ []) ∙
    (ap (λ ys. ys ++ entry_of e ∷ []) so_far ∙ (ap (λ y. take i (map f xs) ++ y ∷ []) (is ∙ sym (get_or_from_slice_get (map f xs) i (f x) (f x) found)) ∙
    sym (take_more (map f xs) i (f x) (slice_get_within (map f xs) i (f x) found))))

pub heap_entry : {eq : Value → Value → Bool} (m : Map ℕ Value) (i r : ℕ) (v : Value) (items : List Entry) (e : Entry) → IsReduced nat_cmp eq m → slice_get (keys m) i ≡ Some r → v ≡ get nat_cmp m r →
    map entry_of items ≡ take i (map (λ (x : ℕ × Value). record { key = place_key x.0; value = scalar x.1 }) m.entries) →
    entry_of e ≡ record { key = place_key r; value = scalar v } → map entry_of (items ++ e ∷ []) ≡ take (i + 1) (map (λ (x : ℕ × Value). record { key = place_key x.0; value = scalar x.1 }) m.entries)
heap_entry m i r v items e reduced here read so_far is =
    one_more (λ (x : ℕ × Value). record { key = place_key x.0; value = scalar x.1 }) m.entries i (r, v) items e (get-keys nat_cmp_total m reduced i r here ∙ ap (λ z. Some (r, z)) (sym read)) so_far is

pub content_entry : (m : Map Key Content) (i : ℕ) (k : Key) (c : Content) (items : List Entry) (e : Entry) → IsReduced key_cmp (on content_of same_content) m → slice_get (keys m) i ≡ Some k → c ≡ get key_cmp m k →
    map entry_of items ≡ take i (map (λ (x : Key × tree.Content). record { key = instance_key x.0; value = b.Snap x.1 }) (contents_of m).entries) →
    entry_of e ≡ record { key = instance_key k; value = b.Snap (content_of c) } →
    map entry_of (items ++ e ∷ []) ≡ take (i + 1) (map (λ (x : Key × tree.Content). record { key = instance_key x.0; value = b.Snap x.1 }) (contents_of m).entries)
content_entry m i k c items e reduced here read so_far is =
    one_more (λ (x : Key × tree.Content). record { key = instance_key x.0; value = b.Snap x.1 }) (contents_of m).entries i (k, content_of c) items e
    (slice_get-map (λ (x : Key × Content). (x.0, content_of x.1)) m.entries i ∙
    ap (option_map (λ (x : Key × Content). (x.0, content_of x.1))) (get-keys key_cmp_total m reduced i k here ∙ ap (λ z. Some (k, z)) (sym read))) so_far is
