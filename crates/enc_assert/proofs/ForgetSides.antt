-- The heaps and the contents of a state, as what is forgotten map after map.
use Rattle.std.proofs.Common.{◌≡◌, ◌+◌, ◌<◌, ℕ, List, Some, slice_get, slice_set, refl, sym, ◌∙◌, arith}
use Rattle.std.proofs.lemmas.Option.{slice_get_within}
use Rattle.sparse.specs.Map.{Map}
use Rattle.vb_value.specs.Content.{Content}
use Rattle.vb_value.specs.Layout.{Layout}
use Rattle.vb_value.specs.declared.values.Ty.{Ty}
use Rattle.vb_value.specs.declared.values.Value.{Value}
use Rattle.viper_state.specs.State.{Key, State}
use Rattle.viper_state.proofs.Paired.{get_set_other}
use Rattle.enc_expr.specs.Place.{Maps, Spot, Heap, Mask, Amount, Content as Contents, IsSpot, IsFree, local_at, number, AreApart}
use Rattle.moves.specs.Maps.{heap_type, content_type}
use Rattle.enc_expr.specs.Coupling.{Env, MapKind, HasMap, HasMaps, heap_kind, content_kind}
use Rattle.enc_expr.specs.Alike.{KeptBut}
use Rattle.enc_expr.proofs.MapLaws.{at_each}
use Rattle.enc_assert.proofs.ForgetStep.{heap_pair, content_pair}
use Rattle.enc_assert.proofs.ForgetEach.{Side}

-- the same map in a list of which another one was replaced
map_elsewhere : {K V : Type 0} {k : MapKind K V} {n m x : ℕ} {maps others : List (Map K V)} {i : ℕ} {E F : Env} → x < m → slice_get others i ≡ slice_get maps i → slice_get F x ≡ slice_get E x → HasMap k n x maps i E → HasMap k m x others i F
map_elsewhere below moved same h = record {
  m = h.m;
  there = moved ∙ h.there;
  tidy = h.tidy;
  below = below;
  image = h.image;
  here = same ∙ h.here;
  typed = h.typed;
  same = h.same;
  rests = h.rests;
}

module _ (layout : Layout) (now : Maps) {O : ℕ → Type 0} (own : AreApart IsFree O layout now) where
  -- a map that is not the one that was replaced stays
  stays : {K V : Type 0} {k : MapKind K V} {n : ℕ} {maps : List (Map K V)} {i : ℕ} {E F : Env} (changed other : Spot) → IsFree changed → IsSpot layout changed → IsSpot layout other → (other ≡ changed → ⊥) → KeptBut (λ j. j ≡ local_at now changed) n E F →
      HasMap k n (local_at now other) maps i E → HasMap k (n + 1) (local_at now other) maps i F
  stays changed other free exists there apart_from kept h =
      map_elsewhere (omega (arith, h.below)) refl (kept.same (local_at now other) h.below (λ same. apart_from (sym (own.apart changed other free exists there (sym same))))) h

  pub heap_replaced : {n : ℕ} {s : State} {E F : Env} → HasMaps layout n now s E → (f : ℕ) (u : Ty) → slice_get layout.fields f ≡ Some u → (h : Map ℕ Value) → KeptBut (λ j. j ≡ number now.heap f) n E F →
      HasMap (heap_kind u) (n + 1) (number now.heap f) (slice_set s.heap f h) f F → HasMaps layout (n + 1) now (record s { heap = slice_set s.heap f h }) F
  heap_replaced {n} {s} {E} {F} maps f u there h kept new =
      let exists = slice_get_within layout.fields f u there in
      record {
        heap = at_each layout.fields (λ (g : ℕ) (y : Ty). HasMap (heap_kind y) (n + 1) (number now.heap g) (slice_set s.heap f h) g F) f u there new
            (λ g y has other. map_elsewhere (omega (arith, (maps.heap g y has).below)) (get_set_other s.heap f g h other)
            (kept.same (number now.heap g) (maps.heap g y has).below (λ same. other (same_heap (own.apart (Heap f) (Heap g) tt exists (slice_get_within layout.fields g y has) (sym same))))) (maps.heap g y has));
        mask = λ g y has. stays (Heap f) (Mask g) tt exists (slice_get_within layout.fields g y has) (λ e. cc) kept (maps.mask g y has);
        amount = λ g ys has. stays (Heap f) (Amount g) tt exists (slice_get_within layout.keys g ys has) (λ e. cc) kept (maps.amount g ys has);
        content = λ g ys has. stays (Heap f) (Contents g) tt exists (slice_get_within layout.keys g ys has) (λ e. cc) kept (maps.content g ys has);
      }
    where
      same_heap : {f g : ℕ} → Heap f ≡ Heap g → f ≡ g
      same_heap e = cc

  pub content_replaced : {n : ℕ} {s : State} {E F : Env} → HasMaps layout n now s E → (q : ℕ) (us : List Ty) → slice_get layout.keys q ≡ Some us → (h : Map Key Content) → KeptBut (λ j. j ≡ number now.content q) n E F →
      HasMap (content_kind us) (n + 1) (number now.content q) (slice_set s.content q h) q F → HasMaps layout (n + 1) now (record s { content = slice_set s.content q h }) F
  content_replaced {n} {s} {E} {F} maps q us there h kept new =
      let exists = slice_get_within layout.keys q us there in
      record {
        heap = λ g y has. stays (Contents q) (Heap g) tt exists (slice_get_within layout.fields g y has) (λ e. cc) kept (maps.heap g y has);
        mask = λ g y has. stays (Contents q) (Mask g) tt exists (slice_get_within layout.fields g y has) (λ e. cc) kept (maps.mask g y has);
        amount = λ g ys has. stays (Contents q) (Amount g) tt exists (slice_get_within layout.keys g ys has) (λ e. cc) kept (maps.amount g ys has);
        content = at_each layout.keys (λ (g : ℕ) (ys : List Ty). HasMap (content_kind ys) (n + 1) (number now.content g) (slice_set s.content q h) g F) q us there new
            (λ g ys has other. map_elsewhere (omega (arith, (maps.content g ys has).below)) (get_set_other s.content q g h other)
            (kept.same (number now.content g) (maps.content g ys has).below (λ same. other (same_content (own.apart (Contents q) (Contents g) tt exists (slice_get_within layout.keys g ys has) (sym same))))) (maps.content g ys has));
      }
    where
      same_content : {f g : ℕ} → Contents f ≡ Contents g → f ≡ g
      same_content e = cc

  abbrev pub heap_side : Side layout now Ty ℕ Value
  heap_side = record {
    pair = heap_pair;
    types = layout.fields;
    type_for = heap_type;
    type_is = λ u. refl;
    maps = λ (s : State). s.heap;
    helds = λ (s : State). s.mask;
    with_maps = λ (s : State) (hs : List (Map ℕ Value)). record s { heap = hs };
    maps_are = λ s hs. refl;
    helds_stay = λ s hs. refl;
    last_counts = λ s hs gs. refl;
    itself = λ s. refl;
    spot = λ f. Heap f;
    held_spot = λ f. Mask f;
    is_free = λ f. tt;
    exists = λ f h. h;
    has = λ maps f u there. maps.heap f u there;
    held = λ maps f u there. maps.mask f u there;
    replaced = λ maps f u there h kept new. heap_replaced maps f u there h kept new;
  }

  abbrev pub content_side : Side layout now (List Ty) Key Content
  content_side = record {
    pair = content_pair;
    types = layout.keys;
    type_for = content_type;
    type_is = λ us. refl;
    maps = λ (s : State). s.content;
    helds = λ (s : State). s.amount;
    with_maps = λ (s : State) (hs : List (Map Key Content)). record s { content = hs };
    maps_are = λ s hs. refl;
    helds_stay = λ s hs. refl;
    last_counts = λ s hs gs. refl;
    itself = λ s. refl;
    spot = λ q. Contents q;
    held_spot = λ q. Amount q;
    is_free = λ q. tt;
    exists = λ q h. h;
    has = λ maps q us there. maps.content q us there;
    held = λ maps q us there. maps.amount q us there;
    replaced = λ maps q us there h kept new. content_replaced maps q us there h kept new;
  }
