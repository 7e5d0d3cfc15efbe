-- The code of forgetting is well-typed, has few brackets open at once, and is as large as there are maps.
use Rattle.std.proofs.Common.{◌≡◌, ◌+◌, ◌*◌, ◌≤◌, ℕ, zero, suc, true, List, [], ◌∷◌, ◌++◌, Some, None, slice_get, length, length-append, map, refl, ap, ◌∙◌, subst, arith}
use Rattle.std.proofs.lemmas.List.Elements.{All-nil, All-cons, All-head, All-tail}
use Rattle.vb_value.specs.Layout.{Layout}
use Rattle.vb_value.specs.declared.values.Ty.{Ty}
use Rattle.viper_core.specs.Formed.{IsFormed}
use Rattle.viper_core.specs.Program.{Program}
use Rattle.boogie_tree.specs.Program.{BType}
use Rattle.boogie_tree.specs.Nested.{stmts_depth}
use Rattle.boogie_tree.specs.declared.exprs.BBase.{BBase}
use Rattle.boogie_tree.specs.declared.exprs.BBase.TheVariants as base
use Rattle.boogie_tree.specs.Values.{map_type, is_key, AreKeys}
use Rattle.boogie_meaning.specs.Patterns as pattern
use Rattle.boogie_meaning.specs.Programs.{HaveKeys}
use Rattle.boogie_meaning.specs.Types as b
use Rattle.boogie_meaning.specs.Types.{IsTyped}
use Rattle.enc_expr.specs.Place.{Maps, number}
use Rattle.moves.specs.Scalars.{base_for}
use Rattle.moves.specs.Maps.{index_types, heap_type, mask_type, amount_type, content_type, state_types}
use Rattle.enc_expr.specs.Code.{Code, join, declares}
use Rattle.enc_expr.specs.Nodes.{stmts_nodes, written}
use Rattle.enc_expr.specs.Typed.{HasStateTypes, IsTypedPiece}
use Rattle.enc_expr.proofs.KeyedCode.{IsKeyed, states_keyed, gives_keyed, then_keyed, puts_keyed}
use Rattle.enc_expr.proofs.TypedPieces.{IsTypedCode, Any, one_typed, gives_typed, then_typed, declares_typed, puts_typed}
use Rattle.enc_expr.proofs.TypedCode.{more_state_types}
use Rattle.enc_expr.proofs.ShallowCode.{brackets}
use Rattle.enc_expr.proofs.SmallPieces.{join_nodes}
use Rattle.enc_assert.specs.Encoding.{forget_map, forget_heaps, forget_contents, forget_code}
use Rattle.enc_assert.proofs.PropertyAssertions.{forget_has}
use Rattle.enc_assert.proofs.TypedAssertions.{piece_typed}

-- ---- types

-- the key types of a list are those of each
abbrev has_keys : BType → Type 0
has_keys u = AreKeys u.keys

last_keyed : (us ws : List BType) → HaveKeys (us ++ ws) → HaveKeys ws
last_keyed [] ws h = h
last_keyed (u ∷ us) ws h = last_keyed us ws (All-tail has_keys u (us ++ ws) h)

each_keyed : (f : List Ty → BType) (kss : List (List Ty)) → HaveKeys (map f kss) → (q : ℕ) (us : List Ty) → slice_get kss q ≡ Some us → AreKeys (f us).keys
each_keyed f [] h q us there = absurd cc
each_keyed f (ks ∷ kss) h zero us there = let same : ks ≡ us = cc in subst (λ (ws : List Ty). AreKeys (f ws).keys) same (All-head has_keys (f ks) (map f kss) h)
each_keyed f (ks ∷ kss) h (suc q) us there = each_keyed f kss (All-tail has_keys (f ks) (map f kss) h) q us there

contents_keyed : (layout : Layout) → HaveKeys (state_types layout) → (q : ℕ) (us : List Ty) → slice_get layout.keys q ≡ Some us → AreKeys (index_types us)
contents_keyed layout h = each_keyed content_type layout.keys (last_keyed (map heap_type layout.fields ++ map mask_type layout.fields ++ map amount_type layout.keys) (map content_type layout.keys) h)

reference : AreKeys (base.Ref ∷ [])
reference = All-cons (λ w. is_key w ≡ true) base.Ref [] refl (All-nil (λ w. is_key w ≡ true))

module _ (ts : List BType) where
  pattern_typed : (k : BBase) (ks : List BBase) (w : BBase) (held old new : ℕ) → AreKeys (k ∷ ks) → slice_get ts held ≡ Some (map_type k ks base.Real) → slice_get ts old ≡ Some (map_type k ks w) → slice_get ts new ≡ Some (map_type k ks w) →
      IsTyped ts (pattern.forget_code (k ∷ ks) held old new)
  pattern_typed k ks w held old new keys h i j = b.first (b.havoc j) (b.first (b.assume_ (b.forall_ keys (b.binary refl (b.binary refl (b.at_bound h) b.real) (b.binary refl (b.at_bound i) (b.at_bound j))))) (one_typed ts (b.assign i (b.whole j))))

  map_typed : (k : BBase) (ks : List BBase) (w : BBase) (held old : ℕ) → AreKeys (k ∷ ks) → slice_get ts held ≡ Some (map_type k ks base.Real) → slice_get ts old ≡ Some (map_type k ks w) → IsTypedCode ts Any (forget_map (map_type k ks w) held old)
  map_typed k ks w held old keys h i = then_typed ts (declares_typed ts (map_type k ks w)) (λ new j. puts_typed ts None (pattern.forget_code (k ∷ ks) held old new) tt (pattern_typed k ks w held old new keys h i j))

  content_typed : (us : List Ty) (held old : ℕ) → AreKeys (index_types us) → slice_get ts held ≡ Some (amount_type us) → slice_get ts old ≡ Some (content_type us) → IsTypedCode ts Any (forget_map (content_type us) held old)
  content_typed [] held old keys h i = map_typed base.Int [] base.Snap held old keys h i
  content_typed (u ∷ us) held old keys h i = map_typed (base_for u) (map base_for us) base.Snap held old keys h i

  -- from number i on
  heaps_typed : (m : Maps) (us : List Ty) (i : ℕ) → ((j l : ℕ) (u : Ty) → l ≡ j + i → slice_get us j ≡ Some u → (slice_get ts (number m.mask l) ≡ Some (mask_type u)) × (slice_get ts (number m.heap l) ≡ Some (heap_type u))) →
      IsTypedCode ts Any (forget_heaps m us i)
  heaps_typed m [] i h = gives_typed ts tt
  heaps_typed m (u ∷ us) i h = let here = h 0 i u (omega arith) refl in
      then_typed ts (map_typed base.Ref [] (base_for u) (number m.mask i) (number m.heap i) reference here.0 here.1) (λ z any. heaps_typed m us (i + 1) (λ j l w same there. h (suc j) l w (omega (arith, same)) there))

  contents_typed : (m : Maps) (keys : List (List Ty)) (i : ℕ) →
      ((j l : ℕ) (us : List Ty) → l ≡ j + i → slice_get keys j ≡ Some us → AreKeys (index_types us) × (slice_get ts (number m.amount l) ≡ Some (amount_type us)) × (slice_get ts (number m.content l) ≡ Some (content_type us))) →
      IsTypedCode ts Any (forget_contents m keys i)
  contents_typed m [] i h = gives_typed ts tt
  contents_typed m (us ∷ keys) i h = let here = h 0 i us (omega arith) refl in
      then_typed ts (content_typed us (number m.amount i) (number m.content i) here.0 here.1 here.2) (λ z any. contents_typed m keys (i + 1) (λ j l ws same there. h (suc j) l ws (omega (arith, same)) there))

  pub forget_code_typed : (layout : Layout) (m : Maps) → HaveKeys (state_types layout) → HasStateTypes layout m ts → IsTypedCode ts Any (forget_code layout m)
  forget_code_typed layout m keys h = then_typed ts
      (heaps_typed m layout.fields 0 (λ j l u same there. let same_there : slice_get layout.fields l ≡ Some u = ap (slice_get layout.fields) (omega (arith, same)) ∙ there in (h.mask l u same_there, h.heap l u same_there)))
      (λ z any. contents_typed m layout.keys 0 (λ j l us same there. let same_there : slice_get layout.keys l ≡ Some us = ap (slice_get layout.keys) (omega (arith, same)) ∙ there in
      (contents_keyed layout keys l us same_there, h.amount l us same_there, h.content l us same_there)))

-- ---- the types of indices

map_keyed : (u : BType) (held old : ℕ) → AreKeys u.keys → IsKeyed (forget_map u held old)
map_keyed u held old keys = then_keyed (declared u keys) (λ new. puts_keyed None (pattern.forget_code u.keys held old new))
  where
    declared : (u : BType) → AreKeys u.keys → IsKeyed (declares u)
    declared u keys = record { keys = λ n. All-cons has_keys u [] keys (All-nil has_keys) }

heaps_keyed : (m : Maps) (us : List Ty) (i : ℕ) → IsKeyed (forget_heaps m us i)
heaps_keyed m [] i = gives_keyed tt
heaps_keyed m (u ∷ us) i = then_keyed (map_keyed (heap_type u) (number m.mask i) (number m.heap i) reference) (λ z. heaps_keyed m us (i + 1))

contents_all_keyed : (m : Maps) (kss : List (List Ty)) (i : ℕ) → ((q : ℕ) (us : List Ty) → slice_get kss q ≡ Some us → AreKeys (index_types us)) → IsKeyed (forget_contents m kss i)
contents_all_keyed m [] i h = gives_keyed tt
contents_all_keyed m (us ∷ kss) i h = then_keyed (map_keyed (content_type us) (number m.amount i) (number m.content i) (h 0 us refl)) (λ z. contents_all_keyed m kss (i + 1) (λ q ws there. h (suc q) ws there))

pub forget_keyed : (layout : Layout) (m : Maps) → HaveKeys (state_types layout) → IsKeyed (forget_code layout m)
forget_keyed layout m keys = then_keyed (heaps_keyed m layout.fields 0) (λ z. contents_all_keyed m layout.keys 0 (contents_keyed layout keys))

-- ---- nodes

then_nodes : {X Y : Type 0} (a : Code X) (c : Code Y) → stmts_nodes (join a.stmts c.stmts) + length (a.locals ++ c.locals) ≡ written a + written c
then_nodes a c = omega (arith, join_nodes a.stmts c.stmts, length-append a.locals c.locals)

heaps_nodes : (m : Maps) (us : List Ty) (i n : ℕ) → written (forget_heaps m us i n) ≡ 13 * length us
heaps_nodes m [] i n = refl
heaps_nodes m (u ∷ us) i n = let first = forget_map (heap_type u) (number m.mask i) (number m.heap i) n in
    omega (arith, then_nodes first (forget_heaps m us (i + 1) first.next), heaps_nodes m us (i + 1) first.next)

contents_nodes : (m : Maps) (kss : List (List Ty)) (i n : ℕ) → written (forget_contents m kss i n) ≡ 13 * length kss
contents_nodes m [] i n = refl
contents_nodes m (us ∷ kss) i n = let first = forget_map (content_type us) (number m.amount i) (number m.content i) n in
    omega (arith, then_nodes first (forget_contents m kss (i + 1) first.next), contents_nodes m kss (i + 1) first.next)

-- ---- what is promised

pub forget_typed : (p : Program) (m : Maps) (ts : List BType) → IsFormed p → HasStateTypes p.layout m ts → IsTypedPiece ts (forget_code p.layout m (length ts))
forget_typed p m ts formed h = let keys = states_keyed p formed.typed in let us = (forget_code p.layout m (length ts)).locals in
    piece_typed ts (forget_code p.layout m) (forget_keyed p.layout m keys) (forget_code_typed (ts ++ us) p.layout m keys (more_state_types ts us p.layout m h))

pub forget_shallow : (layout : Layout) (m : Maps) (n : ℕ) → stmts_depth (forget_code layout m n).stmts ≤ 4
forget_shallow layout m n = (forget_has brackets layout m (record { heap = tt; contents = λ q us there. tt })).stmts n

pub forget_linear : (layout : Layout) (m : Maps) (n : ℕ) → written (forget_code layout m n) ≡ 13 * (length layout.fields + length layout.keys)
forget_linear layout m n = let first = forget_heaps m layout.fields 0 n in
    omega (arith, then_nodes first (forget_contents m layout.keys 0 first.next), heaps_nodes m layout.fields 0 n, contents_nodes m layout.keys 0 first.next)
