-- Maps of its own, into which a state is copied, and an instance that is opened there.
use Rattle.std.proofs.Common.{All, ◌≡◌, ◌≢◌, ◌+◌, ◌<◌, ◌≤◌, ℕ, zero, suc, List, [], ◌∷◌, ◌++◌, length, length-append, map, Some, slice_get, slice_set, refl, sym, ap, subst, ◌∙◌, arith}
use Rattle.std.specs.List.{range_with_len}
use Rattle.std.proofs.lemmas.Option.{slice_get_within}
use Rattle.std.proofs.lemmas.List.{length-map}
use Rattle.std.proofs.lemmas.List.FromFn.{get_or-range_with_len, length-range_with_len}
use Rattle.lemmas.proofs.Lists.{item_there}
use Rattle.sparse.specs.Map.{Map}
use Rattle.vb_base.specs.declared.places.Pos.{Pos}
use Rattle.vb_value.specs.Bound.{Bound}
use Rattle.vb_value.specs.Fraction.{Fraction, IsProperFraction}
use Rattle.vb_value.specs.Value.{IsProperValue}
use Rattle.vb_value.specs.declared.values.Value.{Value}
use Rattle.vb_value.specs.Layout.{Layout}
use Rattle.vb_value.specs.declared.values.Ty.{Ty}
use Rattle.viper_core.specs.Program.{Predicate}
use Rattle.viper_core.specs.Typing.{Context}
use Rattle.viper_state.specs.State.{State}
use Rattle.viper_meaning.specs.Places.{key_of, taken}
use Rattle.viper_state.specs.Run.{Scene}
use Rattle.boogie_tree.specs.Program.{BType}
use Rattle.boogie_tree.specs.Value.{Key, Real, BValue, Many, BChoice}
use Rattle.boogie_meaning.specs.Run.{Done, brun}
use Rattle.boogie_meaning.proofs.PatternLaws.{set_here, set_there}
use Rattle.moves.specs.Maps.{heap_type, mask_type, amount_type, content_type, state_types}
use Rattle.enc_expr.specs.Place.{Maps, Place, with_now, number, Spot, Heap, Mask, Amount, Content, IsSpot, local_at, HasSizes, IsAnySpot, IsHeld, IsLocalAt, IsLocalOf, AreApart}
use Rattle.enc_expr.specs.Code.{Code, join, Guard, guarded}
use Rattle.enc_expr.specs.Encoding.{maps_from, copies, copy_state, taking}
use Rattle.enc_expr.specs.Coupling.{Env, IsCoupled, IsAwake, AreLocals, IsOwn, MapKind, HasMap, HasMaps, HasHeld, heap_kind, mask_kind, amount_kind, content_kind}
use Rattle.enc_expr.specs.Pieces.{Operand, Atom, atomic, Located, located, index}
use Rattle.enc_expr.specs.Alike.{Alike, Kept, KeptBut, AreValues}
use Rattle.enc_expr.proofs.Simulated.{Sets}
use Rattle.enc_expr.proofs.RunLaws.{copy_run, join_done}
use Rattle.enc_expr.proofs.FrameLaws.{kept_itself, kept_then, set_length, but_from, but_less, but_then, but_none, own_apart, map_moved, map_kept, maps_below, singles_kept}
use Rattle.enc_expr.proofs.CodeLaws.{located_counted, atomic_counted}
use Rattle.enc_expr.proofs.MapLaws.{same_heap, same_mask, same_amount, same_content}
use Rattle.enc_expr.proofs.AtomLaws.{sets_then, Holds}
use Rattle.enc_expr.proofs.OpeningLaws.{Provides}
use Rattle.enc_expr.proofs.InsideLaws.{IsOpened, instance_opened}

-- ---- copies

-- one of these locals
pub record IsOneOf (xs : List ℕ) (j : ℕ) : Type 0 where
  pub at : ℕ
  pub exists : at < length xs
  pub there : j ≡ number xs at

-- the first locals can get the values of the second, from number i on: they differ, are none of those, and all exist
pub record CanMove (xs ys : List ℕ) (i : ℕ) (E : Env) : Type 0 where
  pub differ : (c d : ℕ) → c < length xs → d < length xs → number xs c ≡ number xs d → c ≡ d
  pub beside : (c d : ℕ) → c < length xs → d < length xs → number xs c ≢ number ys (i + d)
  pub within : (c : ℕ) → c < length xs → number xs c < length E
  pub there : (d : ℕ) → d < length xs → (w : BValue) × (slice_get E (number ys (i + d)) ≡ Some w)

-- they have got them, and no other local was changed
pub record AreMoved (ts : List BType) (b : Bound) (xs ys : List ℕ) (i : ℕ) (E : Env) : Type 0 where
  pub after : Env
  pub done : (cs : List BChoice) → brun ts b (copies xs ys i) E cs ≡ Done after cs
  pub kept : (n : ℕ) → KeptBut (IsOneOf xs) n E after
  pub same : (c : ℕ) → c < length xs → slice_get after (number xs c) ≡ slice_get E (number ys (i + c))

module _ (ts : List BType) (b : Bound) (ys : List ℕ) where
  pub are_moved : (xs : List ℕ) (i : ℕ) (E : Env) → CanMove xs ys i E → AreMoved ts b xs ys i E
  are_moved [] i E can = record {
    after = E;
    done = λ cs. refl;
    kept = λ n. record { length = refl; same = λ j below other. refl };
    same = λ c low. absurd (omega (arith, low));
  }
  are_moved (x ∷ xs) i E can =
      let source = can.there 0 (omega arith) in
      let w = source.0 in let F = slice_set E x w in
      let first : slice_get E (number ys i) ≡ Some w = ap (λ k. slice_get E (number ys k)) (omega arith) ∙ source.1 in
      let later : (d : ℕ) → d < length xs → slice_get F (number ys (i + 1 + d)) ≡ slice_get E (number ys (i + suc d)) =
      λ d low. ap (λ k. slice_get F (number ys k)) (omega arith) ∙ set_there E x (number ys (i + suc d)) w (can.beside 0 (suc d) (omega arith) (omega (arith, low))) in
      let rest = are_moved xs (i + 1) F (record {
        differ = λ c d low high same. omega (arith, can.differ (suc c) (suc d) (omega (arith, low)) (omega (arith, high)) same);
        beside = λ c d low high same. can.beside (suc c) (suc d) (omega (arith, low)) (omega (arith, high)) (same ∙ ap (number ys) (omega arith));
        within = λ c low. omega (arith, can.within (suc c) (omega (arith, low)), set_length E x w);
        there = λ d low. let o = can.there (suc d) (omega (arith, low)) in (o.0, later d low ∙ o.1);
      }) in
      record {
        after = rest.after;
        done = λ cs. copy_run ts b x (number ys i) w (copies xs ys (i + 1)) E cs first ∙ rest.done cs;
        kept = λ n. record {
          length = (rest.kept n).length ∙ set_length E x w;
          same = λ j below other.
              (rest.kept n).same j below (λ one. other (record { at = suc one.at; exists = omega (arith, one.exists); there = one.there }))
              ∙ set_there E x j w (λ e. other (record { at = 0; exists = omega arith; there = sym e }));
        };
        same = λ c low. by_place c low rest first later;
      }
    where
      by_place : (c : ℕ) → c < suc (length xs) → (rest : AreMoved ts b xs ys (i + 1) (slice_set E x (can.there 0 (omega arith)).0)) → slice_get E (number ys i) ≡ Some (can.there 0 (omega arith)).0 →
          ((d : ℕ) → d < length xs → slice_get (slice_set E x (can.there 0 (omega arith)).0) (number ys (i + 1 + d)) ≡ slice_get E (number ys (i + suc d))) →
          slice_get rest.after (number (x ∷ xs) c) ≡ slice_get E (number ys (i + c))
      by_place zero low rest first later =
          (rest.kept (x + 1)).same x (omega arith) (λ one. omega (arith, can.differ 0 (suc one.at) (omega arith) (omega (arith, one.exists)) one.there))
          ∙ set_here E x (can.there 0 (omega arith)).0 (can.within 0 (omega arith)) ∙ sym first ∙ ap (λ k. slice_get E (number ys k)) (omega arith)
      by_place (suc c) low rest first later = rest.same c (omega (arith, low)) ∙ later c (omega (arith, low))

pub number_range : (x k i : ℕ) → i < k → number (range_with_len x k) i ≡ x + i
number_range x k i h = get_or-range_with_len x k i 0 h

-- maps of one kind, one for each of these
abbrev pub HaveMaps : {U K V : Type 0} → (U → MapKind K V) → List U → ℕ → List ℕ → List (Map K V) → Env → Type 0
HaveMaps {U} kind us n ys maps E = (i : ℕ) (u : U) → slice_get us i ≡ Some u → HasMap (kind u) n (number ys i) maps i E

module _ {U K V : Type 0} (ts : List BType) (b : Bound) (kind : U → MapKind K V) (us : List U) where
  -- the maps of the second locals stand in the first ones too
  pub record AreMapsMoved (xs ys : List ℕ) (maps : List (Map K V)) (m : ℕ) (E : Env) : Type 0 where
    pub after : Env
    pub done : (cs : List BChoice) → brun ts b (copies xs ys 0) E cs ≡ Done after cs
    pub kept : (n : ℕ) → KeptBut (IsOneOf xs) n E after
    pub have : HaveMaps kind us m xs maps after

  pub maps_moved : (n m : ℕ) (xs ys : List ℕ) (maps : List (Map K V)) (E : Env) → length xs ≡ length us → HaveMaps kind us n ys maps E →
      ((c d : ℕ) → c < length us → d < length us → number xs c ≡ number xs d → c ≡ d) → ((c d : ℕ) → c < length us → d < length us → number xs c ≢ number ys d) →
      ((c : ℕ) → c < length us → number xs c < m) → m ≤ length E → AreMapsMoved xs ys maps m E
  maps_moved n m xs ys maps E long h differ beside below within =
      let moved = are_moved ts b ys xs 0 E (record {
        differ = λ c d low high same. differ c d (omega (arith, low, long)) (omega (arith, high, long)) same;
        beside = λ c d low high same. beside c d (omega (arith, low, long)) (omega (arith, high, long)) (same ∙ ap (number ys) (omega arith));
        within = λ c low. omega (arith, below c (omega (arith, low, long)), within);
        there = λ d low.
            let u = item_there us d (omega (arith, low, long)) in
            let map = h d u.0 u.1 in (Many map.image, ap (λ k. slice_get E (number ys k)) (omega arith) ∙ map.here);
      }) in
      record {
        after = moved.after;
        done = moved.done;
        kept = moved.kept;
        have = λ i u there.
            let low = slice_get_within us i u there in
            map_moved (below i low) (moved.same i (omega (arith, low, long)) ∙ ap (λ k. slice_get E (number ys k)) (omega arith)) (h i u there);
      }

  pub record AreMapsCopied (ys : List ℕ) (maps : List (Map K V)) (x : ℕ) (E : Env) : Type 0 where
    pub after : Env
    pub sets : Sets ts b (copies (range_with_len x (length us)) ys 0) x E after
    pub have : HaveMaps kind us (x + length us) (range_with_len x (length us)) maps after

  -- into new locals, from x on
  pub maps_copied : (n : ℕ) (ys : List ℕ) (maps : List (Map K V)) (x : ℕ) (E : Env) → HaveMaps kind us n ys maps E → n ≤ x → x + length us ≤ length E → AreMapsCopied ys maps x E
  maps_copied n ys maps x E h before within =
      let k = length us in let xs = range_with_len x k in
      let moved = maps_moved n (x + k) xs ys maps E (length-range_with_len x k) h
      (λ c d low high same. omega (arith, number_range x k c low, number_range x k d high, same))
      (λ c d low high same. let u = item_there us d high in omega (arith, number_range x k c low, (h d u.0 u.1).below, before, same))
      (λ c low. omega (arith, number_range x k c low, low)) within in
      record {
        after = moved.after;
        sets = record {
          done = moved.done;
          kept = but_none (omega arith)
              (λ i below one. omega (arith, below, one.there, number_range x k one.at (omega (arith, one.exists, length-range_with_len x k)))) (moved.kept x);
        };
        have = moved.have;
      }

-- ---- a copy of a state

state_length : (layout : Layout) → length (state_types layout) ≡ length layout.fields + length layout.fields + length layout.keys + length layout.keys
state_length layout =
    let f = layout.fields in let q = layout.keys in
    let places = map heap_type f ++ map mask_type f in let amounts = places ++ map amount_type q in
    let one : length places ≡ length (map heap_type f) + length (map mask_type f) = length-append (map heap_type f) (map mask_type f) in
    let two : length amounts ≡ length places + length (map amount_type q) = length-append places (map amount_type q) in
    let three : length (state_types layout) ≡ length amounts + length (map content_type q) = length-append amounts (map content_type q) in
    omega (arith, one, two, three, length-map f heap_type, length-map f mask_type, length-map q amount_type, length-map q content_type)

-- maps of its own, from x on, that hold the state
pub record IsCopied (ts : List BType) (b : Bound) (layout : Layout) (m : Maps) (s : State) (x : ℕ) (E : Env) : Type 0 where
  pub after : Env
  pub sets : Sets ts b (copy_state (maps_from layout x) m) x E after
  pub maps : HasMaps layout (x + length (state_types layout)) (maps_from layout x) s after

module _ (ts : List BType) (b : Bound) (layout : Layout) (m : Maps) (s : State) (x : ℕ) where
  abbrev AreHeaps : ℕ → Env → Type 0
  AreHeaps y E = AreMapsCopied ts b heap_kind layout.fields m.heap s.heap y E

  abbrev AreMasks : ℕ → Env → Type 0
  AreMasks y E = AreMapsCopied ts b (λ (u : Ty). mask_kind) layout.fields m.mask s.mask y E

  abbrev AreAmounts : ℕ → Env → Type 0
  AreAmounts y E = AreMapsCopied ts b amount_kind layout.keys m.amount s.amount y E

  abbrev AreContents : ℕ → Env → Type 0
  AreContents y E = AreMapsCopied ts b content_kind layout.keys m.content s.content y E

  state_from : (E : Env) (one : AreHeaps x E) (two : AreMasks (x + length layout.fields) one.after) (three : AreAmounts (x + length layout.fields + length layout.fields) two.after)
      (four : AreContents (x + length layout.fields + length layout.fields + length layout.keys) three.after) → IsCopied ts b layout m s x E
  state_from E one two three four =
      let long = state_length layout in
      let l = kept_then (omega arith) three.sets.kept four.sets.kept in let k = kept_then (omega arith) two.sets.kept l in
      record {
        after = four.after;
        sets = sets_then (omega arith) one.sets (sets_then (omega arith) two.sets (sets_then (omega arith) three.sets four.sets));
        maps = record {
          heap = λ f u there. map_kept (omega (arith, long)) k (one.have f u there);
          mask = λ f u there. map_kept (omega (arith, long)) l (two.have f u there);
          amount = λ q us there. map_kept (omega (arith, long)) four.sets.kept (three.have q us there);
          content = λ q us there. map_kept (omega (arith, long)) (kept_itself _ four.after) (four.have q us there);
        };
      }

pub state_copied : (ts : List BType) (b : Bound) (layout : Layout) (m : Maps) (s : State) (n x : ℕ) (E : Env) → HasMaps layout n m s E → n ≤ x → x + length (state_types layout) ≤ length E →
    IsCopied ts b layout m s x E
state_copied ts b layout m s n x E h before within =
    let f = length layout.fields in let q = length layout.keys in
    let long = state_length layout in
    let one = maps_copied ts b heap_kind layout.fields n m.heap s.heap x E h.heap before (omega (arith, within, long)) in
    let F = one.after in let k : Kept n E F = kept_then {G = F} before (kept_itself n E) one.sets.kept in
    let two = maps_copied ts b (λ (u : Ty). mask_kind) layout.fields n m.mask s.mask (x + f) F (λ i u there. map_kept {F = F} (omega arith) k (h.mask i u there)) (omega (arith, before))
    (omega (arith, within, long, one.sets.kept.length)) in
    let G = two.after in let l : Kept n E G = kept_then {F = F} {G = G} (omega (arith, before)) k two.sets.kept in
    let three = maps_copied ts b amount_kind layout.keys n m.amount s.amount (x + f + f) G (λ i u there. map_kept {F = G} (omega arith) l (h.amount i u there)) (omega (arith, before))
    (omega (arith, within, long, one.sets.kept.length, two.sets.kept.length)) in
    let H = three.after in let r : Kept n E H = kept_then {F = G} {G = H} (omega (arith, before)) l three.sets.kept in
    let four = maps_copied ts b content_kind layout.keys n m.content s.content (x + f + f + q) H (λ i u there. map_kept {F = H} (omega arith) r (h.content i u there)) (omega (arith, before))
    (omega (arith, within, long, one.sets.kept.length, two.sets.kept.length, three.sets.kept.length)) in
    state_from ts b layout m s x E one two three four

-- ---- a state goes to other maps

-- maps of this kind go from the second maps to the first ones, which are others
module _ (ts : List BType) (b : Bound) (layout : Layout) (P : Spot → Type 0) (m l : Maps) (n k : ℕ) (own : AreApart P (IsLocalAt P layout l) layout m) (below : (i : Spot) → P i → IsSpot layout i → local_at m i < n) where
  -- the fields or predicates of one list, in both
  record AreIn {U : Type 0} (us : List U) (xs ys : List ℕ) (spot : ℕ → Spot) : Type 0 where
    pub long : length xs ≡ length us
    pub kind : (c : ℕ) → P (spot c)
    pub exists : (c : ℕ) → c < length us → IsSpot layout (spot c)
    pub mine : (c : ℕ) → local_at m (spot c) ≡ number xs c
    pub theirs : (c : ℕ) → local_at l (spot c) ≡ number ys c
    pub differ : (c d : ℕ) → spot c ≡ spot d → c ≡ d

  -- maps of one list have gone, and nothing but maps of this kind was changed
  record HaveGone {U K V : Type 0} (kind : U → MapKind K V) (us : List U) (xs ys : List ℕ) (maps : List (Map K V)) (E : Env) : Type 0 where
    pub moved : AreMapsMoved ts b kind us xs ys maps n E
    pub kept : (j : ℕ) → KeptBut (IsLocalAt P layout m) j E moved.after

  go : {U K V : Type 0} (kind : U → MapKind K V) (us : List U) (xs ys : List ℕ) (maps : List (Map K V)) (spot : ℕ → Spot) (E : Env) → AreIn us xs ys spot → n ≤ length E → HaveMaps kind us k ys maps E → HaveGone kind us xs ys maps E
  go kind us xs ys maps spot E are within h =
      let moved = maps_moved ts b kind us k n xs ys maps E are.long h
      (λ c d low high same. are.differ c d (own.apart (spot c) (spot d) (are.kind c) (are.exists c low) (are.exists d high) (are.mine c ∙ same ∙ sym (are.mine d))))
      (λ c d low high same. own.beside (spot c) (are.kind c) (are.exists c low) (record { spot = spot d; kind = are.kind d; exists = are.exists d high; there = are.mine c ∙ same ∙ sym (are.theirs d) }))
      (λ c low. subst (λ i. i < n) (are.mine c) (below (spot c) (are.kind c) (are.exists c low))) within in
      record {
        moved = moved;
        kept = λ j. but_less (λ i one. record { spot = spot one.at; kind = are.kind one.at; exists = are.exists one.at (omega (arith, one.exists, are.long)); there = one.there ∙ sym (are.mine one.at) }) (moved.kept j);
      }

  -- what was there before stays: maps of another list of the first ones, and those of the second ones
  stay : {T U K V : Type 0} {kind : U → MapKind K V} (us : List U) (xs ys : List ℕ) (spot : ℕ → Spot) (ws : List T) (zs vs : List ℕ) (other : ℕ → Spot) {maps : List (Map K V)} {E F : Env} → AreIn us xs ys spot → AreIn ws zs vs other →
      ((c d : ℕ) → spot c ≡ other d → ⊥) → KeptBut (IsOneOf zs) n E F → HaveMaps kind us n xs maps E → HaveMaps kind us n xs maps F
  stay us xs ys spot ws zs vs other are others differ kept h = λ i u there.
      let low = slice_get_within us i u there in let map = h i u there in
      map_moved map.below (kept.same (number xs i) map.below (λ one.
      differ i one.at (own.apart (spot i) (other one.at) (are.kind i) (are.exists i low) (others.exists one.at (omega (arith, one.exists, others.long))) (are.mine i ∙ one.there ∙ sym (others.mine one.at))))) map

  still : {U K V : Type 0} {kind : U → MapKind K V} (us : List U) (xs ys : List ℕ) (spot : ℕ → Spot) {maps : List (Map K V)} {E F : Env} → AreIn us xs ys spot → KeptBut (IsLocalAt P layout m) k E F →
      HaveMaps kind us k ys maps E → HaveMaps kind us k ys maps F
  still us xs ys spot are kept h = λ i u there.
      let low = slice_get_within us i u there in let map = h i u there in
      map_moved map.below (kept.same (number ys i) map.below (λ changed.
      own_apart own (record { spot = spot i; kind = are.kind i; exists = are.exists i low; there = sym (are.theirs i) }) changed)) map

module _ (ts : List BType) (b : Bound) (layout : Layout) (m l : Maps) (s : State) (n k : ℕ) (sizes : HasSizes layout m) where
  -- masks and amounts
  pub record IsHeldMoved (E : Env) : Type 0 where
    pub after : Env
    pub done : (cs : List BChoice) → brun ts b (join (copies m.mask l.mask 0) (copies m.amount l.amount 0)) E cs ≡ Done after cs
    pub kept : (j : ℕ) → KeptBut (IsLocalAt IsHeld layout m) j E after
    pub held : HasHeld layout n m s after

  pub held_moved : (E : Env) → AreApart IsHeld (IsLocalAt IsHeld layout l) layout m → ((i : Spot) → IsHeld i → IsSpot layout i → local_at m i < n) → n ≤ length E → HasHeld layout k l s E → IsHeldMoved E
  held_moved E own below within h =
      let masks : AreIn ts b layout IsHeld m l n k own below layout.fields m.mask l.mask Mask = record {
        long = sizes.mask;
        kind = λ c. tt;
        exists = λ c low. low;
        mine = λ c. refl;
        theirs = λ c. refl;
        differ = λ c d same. same_mask same;
      } in
      let amounts : AreIn ts b layout IsHeld m l n k own below layout.keys m.amount l.amount Amount = record {
        long = sizes.amount;
        kind = λ c. tt;
        exists = λ c low. low;
        mine = λ c. refl;
        theirs = λ c. refl;
        differ = λ c d same. same_amount same;
      } in
      let one = go ts b layout IsHeld m l n k own below (λ (u : Ty). mask_kind) layout.fields m.mask l.mask s.mask Mask E masks within h.mask in
      let F = one.moved.after in
      let two = go ts b layout IsHeld m l n k own below amount_kind layout.keys m.amount l.amount s.amount Amount F amounts (omega (arith, within, (one.kept 0).length))
      (still ts b layout IsHeld m l n k own below layout.keys m.amount l.amount Amount amounts (one.kept k) h.amount) in
      record {
        after = two.moved.after;
        done = λ cs. join_done ts b (copies m.mask l.mask 0) (copies m.amount l.amount 0) E F cs cs (one.moved.done cs) ∙ two.moved.done cs;
        kept = λ j. but_then (omega arith) (one.kept j) (two.kept j);
        held = record {
          mask = stay ts b layout IsHeld m l n k own below layout.fields m.mask l.mask Mask layout.keys m.amount l.amount Amount masks amounts (λ c d same. cc) (two.moved.kept n) one.moved.have;
          amount = two.moved.have;
        };
      }

  -- the whole state
  pub record IsMoved (E : Env) : Type 0 where
    pub after : Env
    pub done : (cs : List BChoice) → brun ts b (copy_state m l) E cs ≡ Done after cs
    pub kept : (j : ℕ) → KeptBut (IsLocalOf layout m) j E after
    pub maps : HasMaps layout n m s after

  pub state_moved : (E : Env) → AreApart IsAnySpot (IsLocalOf layout l) layout m → ((i : Spot) → IsSpot layout i → local_at m i < n) → n ≤ length E → HasMaps layout k l s E → IsMoved E
  state_moved E own below within h =
      let low : (i : Spot) → IsAnySpot i → IsSpot layout i → local_at m i < n = λ i mine. below i in
      let heaps : AreIn ts b layout IsAnySpot m l n k own low layout.fields m.heap l.heap Heap = record {
        long = sizes.heap;
        kind = λ c. tt;
        exists = λ c low. low;
        mine = λ c. refl;
        theirs = λ c. refl;
        differ = λ c d same. same_heap same;
      } in
      let masks : AreIn ts b layout IsAnySpot m l n k own low layout.fields m.mask l.mask Mask = record {
        long = sizes.mask;
        kind = λ c. tt;
        exists = λ c low. low;
        mine = λ c. refl;
        theirs = λ c. refl;
        differ = λ c d same. same_mask same;
      } in
      let amounts : AreIn ts b layout IsAnySpot m l n k own low layout.keys m.amount l.amount Amount = record {
        long = sizes.amount;
        kind = λ c. tt;
        exists = λ c low. low;
        mine = λ c. refl;
        theirs = λ c. refl;
        differ = λ c d same. same_amount same;
      } in
      let contents : AreIn ts b layout IsAnySpot m l n k own low layout.keys m.content l.content Content = record {
        long = sizes.content;
        kind = λ c. tt;
        exists = λ c low. low;
        mine = λ c. refl;
        theirs = λ c. refl;
        differ = λ c d same. same_content same;
      } in
      let one = go ts b layout IsAnySpot m l n k own low heap_kind layout.fields m.heap l.heap s.heap Heap E heaps within h.heap in
      let F = one.moved.after in
      let two = go ts b layout IsAnySpot m l n k own low (λ (u : Ty). mask_kind) layout.fields m.mask l.mask s.mask Mask F masks (omega (arith, within, (one.kept 0).length))
      (still ts b layout IsAnySpot m l n k own low layout.fields m.mask l.mask Mask masks (one.kept k) h.mask) in
      let G = two.moved.after in let kept2 : (j : ℕ) → KeptBut (IsLocalOf layout m) j E G = λ j. but_then (omega arith) (one.kept j) (two.kept j) in
      let three = go ts b layout IsAnySpot m l n k own low amount_kind layout.keys m.amount l.amount s.amount Amount G amounts (omega (arith, within, (kept2 0).length))
      (still ts b layout IsAnySpot m l n k own low layout.keys m.amount l.amount Amount amounts (kept2 k) h.amount) in
      let H = three.moved.after in let kept3 : (j : ℕ) → KeptBut (IsLocalOf layout m) j E H = λ j. but_then (omega arith) (kept2 j) (three.kept j) in
      let four = go ts b layout IsAnySpot m l n k own low content_kind layout.keys m.content l.content s.content Content H contents (omega (arith, within, (kept3 0).length))
      (still ts b layout IsAnySpot m l n k own low layout.keys m.content l.content Content contents (kept3 k) h.content) in
      let rest3 = copies m.content l.content 0 in let rest2 = join (copies m.amount l.amount 0) rest3 in let rest1 = join (copies m.mask l.mask 0) rest2 in
      record {
        after = four.moved.after;
        done = λ cs.
            join_done ts b (copies m.heap l.heap 0) rest1 E F cs cs (one.moved.done cs) ∙ join_done ts b (copies m.mask l.mask 0) rest2 F G cs cs (two.moved.done cs)
            ∙ join_done ts b (copies m.amount l.amount 0) rest3 G H cs cs (three.moved.done cs) ∙ four.moved.done cs;
        kept = λ j. but_then (omega arith) (kept3 j) (four.kept j);
        maps = record {
          heap = stay ts b layout IsAnySpot m l n k own low layout.fields m.heap l.heap Heap layout.keys m.content l.content Content heaps contents (λ c d same. cc) (four.moved.kept n)
              (stay ts b layout IsAnySpot m l n k own low layout.fields m.heap l.heap Heap layout.keys m.amount l.amount Amount heaps amounts (λ c d same. cc) (three.moved.kept n)
              (stay ts b layout IsAnySpot m l n k own low layout.fields m.heap l.heap Heap layout.fields m.mask l.mask Mask heaps masks (λ c d same. cc) (two.moved.kept n) one.moved.have));
          mask = stay ts b layout IsAnySpot m l n k own low layout.fields m.mask l.mask Mask layout.keys m.content l.content Content masks contents (λ c d same. cc) (four.moved.kept n)
              (stay ts b layout IsAnySpot m l n k own low layout.fields m.mask l.mask Mask layout.keys m.amount l.amount Amount masks amounts (λ c d same. cc) (three.moved.kept n) two.moved.have);
          amount = stay ts b layout IsAnySpot m l n k own low layout.keys m.amount l.amount Amount layout.keys m.content l.content Content amounts contents (λ c d same. cc) (four.moved.kept n) three.moved.have;
          content = four.moved.have;
        };
      }

-- ---- maps of its own are no other locals

-- where each stands
abbrev spot_at : Layout → ℕ → Spot → ℕ
spot_at layout x (Heap f) = x + f
spot_at layout x (Mask f) = x + length layout.fields + f
spot_at layout x (Amount q) = x + length layout.fields + length layout.fields + q
spot_at layout x (Content q) = x + length layout.fields + length layout.fields + length layout.keys + q

spot_is : (layout : Layout) (x : ℕ) (i : Spot) → IsSpot layout i → local_at (maps_from layout x) i ≡ spot_at layout x i
spot_is layout x (Heap f) h = number_range x (length layout.fields) f h
spot_is layout x (Mask f) h = number_range (x + length layout.fields) (length layout.fields) f h
spot_is layout x (Amount q) h = number_range (x + length layout.fields + length layout.fields) (length layout.keys) q h
spot_is layout x (Content q) h = number_range (x + length layout.fields + length layout.fields + length layout.keys) (length layout.keys) q h

spots_apart : (layout : Layout) (x : ℕ) (i j : Spot) → IsSpot layout i → IsSpot layout j → spot_at layout x i ≡ spot_at layout x j → i ≡ j
spots_apart layout x (Heap i) (Heap j) h g same = ap Heap (omega (arith, same))
spots_apart layout x (Heap i) (Mask j) h g same = absurd (omega (arith, h, g, same))
spots_apart layout x (Heap i) (Amount j) h g same = absurd (omega (arith, h, g, same))
spots_apart layout x (Heap i) (Content j) h g same = absurd (omega (arith, h, g, same))
spots_apart layout x (Mask i) (Heap j) h g same = absurd (omega (arith, h, g, same))
spots_apart layout x (Mask i) (Mask j) h g same = ap Mask (omega (arith, same))
spots_apart layout x (Mask i) (Amount j) h g same = absurd (omega (arith, h, g, same))
spots_apart layout x (Mask i) (Content j) h g same = absurd (omega (arith, h, g, same))
spots_apart layout x (Amount i) (Heap j) h g same = absurd (omega (arith, h, g, same))
spots_apart layout x (Amount i) (Mask j) h g same = absurd (omega (arith, h, g, same))
spots_apart layout x (Amount i) (Amount j) h g same = ap Amount (omega (arith, same))
spots_apart layout x (Amount i) (Content j) h g same = absurd (omega (arith, h, g, same))
spots_apart layout x (Content i) (Heap j) h g same = absurd (omega (arith, h, g, same))
spots_apart layout x (Content i) (Mask j) h g same = absurd (omega (arith, h, g, same))
spots_apart layout x (Content i) (Amount j) h g same = absurd (omega (arith, h, g, same))
spots_apart layout x (Content i) (Content j) h g same = ap Content (omega (arith, same))

maps_differ : (layout : Layout) (x : ℕ) (i j : Spot) → IsSpot layout i → IsSpot layout j → local_at (maps_from layout x) i ≡ local_at (maps_from layout x) j → i ≡ j
maps_differ layout x i j h g same = spots_apart layout x i j h g (sym (spot_is layout x i h) ∙ same ∙ spot_is layout x j g)

pub maps_after : (layout : Layout) (x : ℕ) (i : Spot) → IsSpot layout i → x ≤ local_at (maps_from layout x) i
maps_after layout x (Heap f) h = omega (arith, spot_is layout x (Heap f) h)
maps_after layout x (Mask f) h = omega (arith, spot_is layout x (Mask f) h)
maps_after layout x (Amount q) h = omega (arith, spot_is layout x (Amount q) h)
maps_after layout x (Content q) h = omega (arith, spot_is layout x (Content q) h)

-- they are none of the first locals
pub maps_apart : {O : ℕ → Type 0} (layout : Layout) (n x : ℕ) → ((i : ℕ) → O i → i < n) → n ≤ x → AreApart IsAnySpot O layout (maps_from layout x)
maps_apart layout n x first before = record {
  apart = λ i j mine h g same. maps_differ layout x i j h g same;
  beside = λ i mine h other. omega (arith, maps_after layout x i h, first _ other, before);
}

-- where nothing but maps of its own was changed, and locals behind the first, no earlier local was
pub copies_kept : (layout : Layout) (n x m : ℕ) (E F : Env) → n ≤ x → n ≤ m → KeptBut (IsLocalOf layout (maps_from layout x)) m E F → Kept n E F
copies_kept layout n x m E F before within h = but_none within (λ i below own. omega (arith, below, own.there, before, maps_after layout x own.spot own.exists)) h

-- they are none of the old state
pub own_maps : (b : Bound) (c : Context) (n x : ℕ) (p : Place) (s : State) (sc : Scene) (E : Env) → IsCoupled b c n p s sc E → n ≤ x → IsOwn c (with_now (maps_from c.program.layout x) p)
own_maps b c n x p s sc E h before =
    maps_apart c.program.layout n x (λ i old. subst (λ j. j < n) (sym old.there) (maps_below c.program.layout n p.old sc.old E h.old old.spot old.exists)) before

-- the copies provide them
pub copies_provide : (ts : List BType) (b : Bound) (layout : Layout) (m : Maps) (s : State) (x : ℕ) (E : Env) → HasMaps layout x m s E → x + length (state_types layout) ≤ length E →
    Provides ts b layout (copy_state (maps_from layout x) m) (maps_from layout x) s x (x + length (state_types layout)) E
copies_provide ts b layout m s x E h within =
    let copy = state_copied ts b layout m s x x E h (omega arith) within in
    record { after = copy.after; done = copy.sets.done; kept = but_from copy.sets.kept; singles = singles_kept copy.sets.kept; maps = copy.maps }

-- ---- an instance that is opened in copies

module _ (ts : List BType) (b : Bound) (c : Context) (d : Predicate) (p : Place) (g : Guard) (s : State) (sc : Scene) (q : ℕ) (key : Key) (vs : List Value) (w : Fraction) (at : Pos) (n : ℕ) (xs : List Operand) (m : Operand) (E : Env) where
  -- the locals of the arguments, then the amount, then the copies, and the content
  abbrev l : Code Located
  l = located xs n

  abbrev a : Code Atom
  a = atomic m l.next

  abbrev x : ℕ
  x = a.next

  abbrev own : Maps
  own = maps_from c.program.layout x

  abbrev from : ℕ
  from = x + length (state_types c.program.layout)

  pub copy_opened : (cs : List BChoice) → IsCoupled b c n p s sc E → IsAwake g n E → length E ≡ length ts → AreLocals ts n l.locals → AreLocals ts l.next a.locals → from < length ts →
      slice_get c.program.layout.keys q ≡ Some d.params → AreValues b n E xs d.params vs → All (IsProperValue b) vs → Some key ≡ key_of vs → Holds b n m.expr E (Real w) → IsProperFraction b w →
      Alike (IsOpened b c d p own s sc q key vs w n from l.value.locals a.value.expr E) b (taken b sc s q key w at) cs
      (brun ts b (guarded g (join l.value.sets (join a.value.sets (taking p own (copy_state own p.now) q (index l.value.locals) a.value.expr from at)))) E cs)
  copy_opened cs coupled awake full locals more_locals within there values proper is_key amount proper_amount =
      let low : n ≤ x = omega (arith, (located_counted xs).next n, (atomic_counted m).next l.next) in
      instance_opened ts b c d p g s sc q key vs w at n xs m E own (copy_state own p.now) from (own_maps b c n x p s sc E coupled low) (omega arith)
      (λ G now long. copies_provide ts b c.program.layout p.now s x G now.now (omega (arith, within, long))) cs coupled awake full locals more_locals within there values proper is_key amount proper_amount
