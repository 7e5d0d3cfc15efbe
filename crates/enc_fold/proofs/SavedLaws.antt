-- Masks and amounts of their own hold what the present ones do, and so do whole copies of a state.
use Rattle.std.proofs.Common.{◌≡◌, ◌+◌, ◌<◌, ◌≤◌, ℕ, List, [], ◌∷◌, length, length-append, append-nil, map, None, inl, inr, refl, sym, ap, subst, ◌∙◌, arith}
use Rattle.std.proofs.lemmas.List.{length-map}
use Rattle.std.proofs.lemmas.Option.{slice_get_within}
use Rattle.vb_value.specs.Bound.{Bound}
use Rattle.vb_value.specs.Layout.{Layout}
use Rattle.vb_value.specs.declared.values.Ty.{Ty}
use Rattle.viper_core.specs.Typing.{Context}
use Rattle.viper_state.specs.State.{State}
use Rattle.viper_state.specs.Run.{Scene}
use Rattle.viper_meaning.specs.Run.{Run}
use Rattle.boogie_tree.specs.Program.{BType}
use Rattle.boogie_tree.specs.Value.{BChoice}
use Rattle.boogie_meaning.specs.Run.{Done, brun}
use Rattle.moves.specs.Maps.{mask_type, amount_type, state_types}
use Rattle.enc_expr.specs.Place.{Maps, Place, with_now, Spot, Heap, Mask, Amount, Content, IsSpot, local_at, IsHeld, AreApart}
use Rattle.enc_expr.specs.Code.{Emitting, gives, then_emit, declares_all, puts}
use Rattle.enc_expr.specs.Encoding.{maps_from, copy_state}
use Rattle.enc_expr.specs.Coupling.{Env, HasMaps, IsCoupled, AreLocals, IsOwn, mask_kind, amount_kind}
use Rattle.enc_expr.specs.Alike.{Kept}
use Rattle.enc_expr.proofs.Simulated.{IsCounted, Sets}
use Rattle.enc_expr.proofs.RunLaws.{join_skip, join_done}
use Rattle.enc_expr.proofs.FrameLaws.{kept_itself, kept_then, map_kept, maps_below, coupled_kept}
use Rattle.enc_expr.proofs.AtomLaws.{sets_then}
use Rattle.enc_expr.proofs.CodeLaws.{gives_counted, then_counted, all_counted, puts_counted}
use Rattle.enc_expr.proofs.CopyLaws.{number_range, maps_copied, IsCopied, state_copied}
use Rattle.enc_assert.specs.Held.{IsRead, IsShrinking}
use Rattle.enc_assert.specs.Alongside.{AreAlongside}
use Rattle.enc_assert.proofs.AlongsideLaws.{run_alongside}
use Rattle.enc_fold.specs.Saved.{held_types, held_from, copy_held, saving, copying}

-- ---- straight code in front of a run

module _ (W : Type 0) (ts : List BType) (b : Bound) (layout : Layout) {X Y : Type 0} (m : Emitting X) (go : X → Emitting Y) (n : ℕ) (E : Env) where
  -- it runs through, takes no choice, and the run goes on behind it
  pub straight_first : {Z : Type 0} {R : Z → Env → Type 0} {v : Run Z} (F : Env) → ((cs : List BChoice) → brun ts b (m n).stmts E cs ≡ Done F cs) →
      AreAlongside W b layout R v (λ cs. brun ts b (go (m n).value (m n).next).stmts F cs) → AreAlongside W b layout R v (λ cs. brun ts b (then_emit m go n).stmts E cs)
  straight_first F done h = run_alongside W b layout (λ cs. join_done ts b (m n).stmts (go (m n).value (m n).next).stmts E F cs cs (done cs)) h

-- ---- masks and amounts of their own

pub held_length : (layout : Layout) → length (held_types layout) ≡ length layout.fields + length layout.keys
held_length layout =
    let all : length (held_types layout) ≡ length (map mask_type layout.fields) + length (map amount_type layout.keys) = length-append (map mask_type layout.fields) (map amount_type layout.keys) in
    omega (arith, all, length-map layout.fields mask_type, length-map layout.keys amount_type)

-- the locals from n on hold the permission of the state, whose heaps and contents stay where they are
pub record IsSaved (ts : List BType) (b : Bound) (layout : Layout) (m : Maps) (s : State) (n : ℕ) (E : Env) : Type 0 where
  pub after : Env
  pub sets : Sets ts b (copy_held (held_from layout m n) m) n E after
  pub maps : HasMaps layout (n + length (held_types layout)) (held_from layout m n) s after

pub held_saved : (ts : List BType) (b : Bound) (layout : Layout) (m : Maps) (s : State) (n : ℕ) (E : Env) → HasMaps layout n m s E → n + length (held_types layout) ≤ length E → IsSaved ts b layout m s n E
held_saved ts b layout m s n E h within =
    let f = length layout.fields in
    let long = held_length layout in
    let one = maps_copied ts b (λ (u : Ty). mask_kind) layout.fields n m.mask s.mask n E h.mask (omega arith) (omega (arith, within, long)) in
    let F = one.after in let k : Kept n E F = one.sets.kept in
    let two = maps_copied ts b amount_kind layout.keys n m.amount s.amount (n + f) F (λ q us there. map_kept {F = F} (omega arith) k (h.amount q us there)) (omega arith) (omega (arith, within, long, k.length)) in
    let G = two.after in let all : Kept n E G = kept_then {F = F} {G = G} (omega arith) k two.sets.kept in
    record {
      after = G;
      sets = sets_then (omega arith) one.sets two.sets;
      maps = record {
        heap = λ i u there. map_kept {F = G} (omega arith) all (h.heap i u there);
        mask = λ i u there. map_kept {F = G} (omega (arith, long)) two.sets.kept (one.have i u there);
        amount = λ q us there. map_kept {F = G} (omega (arith, long)) (kept_itself (n + f + length layout.keys) G) (two.have q us there);
        content = λ q us there. map_kept {F = G} (omega arith) all (h.content q us there);
      };
    }

-- ---- they are other locals

-- each mask and each amount of its own comes behind the first locals, and heaps and contents are those of the state
data IsOf (layout : Layout) (m : Maps) (n : ℕ) (i : Spot) : Type 0 where
  own : IsHeld i → n ≤ local_at (held_from layout m n) i → IsOf layout m n i
  same : (IsHeld i → ⊥) → local_at (held_from layout m n) i ≡ local_at m i → IsOf layout m n i

held_spot : (layout : Layout) (m : Maps) (n : ℕ) (i : Spot) → IsSpot layout i → IsOf layout m n i
held_spot layout m n (Heap f) h = same (λ held. held) refl
held_spot layout m n (Mask f) h = own tt (omega (arith, number_range n (length layout.fields) f h))
held_spot layout m n (Amount q) h = own tt (omega (arith, number_range (n + length layout.fields) (length layout.keys) q h))
held_spot layout m n (Content q) h = same (λ held. held) refl

held_behind : (layout : Layout) (m : Maps) (n : ℕ) (i : Spot) → IsHeld i → IsSpot layout i → n ≤ local_at (held_from layout m n) i
held_behind layout m n i held there = at (held_spot layout m n i there)
  where
    at : IsOf layout m n i → n ≤ local_at (held_from layout m n) i
    at (own kind low) = low
    at (same none e) = absurd (none held)

-- two of them differ
held_differ : (layout : Layout) (m : Maps) (n : ℕ) (i j : Spot) → IsHeld i → IsHeld j → IsSpot layout i → IsSpot layout j → local_at (held_from layout m n) i ≡ local_at (held_from layout m n) j → i ≡ j
held_differ layout m n (Heap f) j a b h g e = absurd a
held_differ layout m n (Content q) j a b h g e = absurd a
held_differ layout m n (Mask f) (Heap g) a b h k e = absurd b
held_differ layout m n (Mask f) (Content g) a b h k e = absurd b
held_differ layout m n (Amount f) (Heap g) a b h k e = absurd b
held_differ layout m n (Amount f) (Content g) a b h k e = absurd b
held_differ layout m n (Mask f) (Mask g) a b h k e = ap Mask (omega (arith, e, number_range n (length layout.fields) f h, number_range n (length layout.fields) g k))
held_differ layout m n (Mask f) (Amount q) a b h k e = absurd (omega (arith, e, h, number_range n (length layout.fields) f h, number_range (n + length layout.fields) (length layout.keys) q k))
held_differ layout m n (Amount q) (Mask f) a b h k e = absurd (omega (arith, e, k, number_range n (length layout.fields) f k, number_range (n + length layout.fields) (length layout.keys) q h))
held_differ layout m n (Amount q) (Amount r) a b h k e = ap Amount (omega (arith, e, number_range (n + length layout.fields) (length layout.keys) q h, number_range (n + length layout.fields) (length layout.keys) r k))

-- Where the maps of the state and all others that count are among the first n locals, the masks and amounts from x on can be
-- changed: each has a local of its own.
pub held_apart : {O : ℕ → Type 0} (layout : Layout) (m : Maps) (n x : ℕ) → ((i : Spot) → IsSpot layout i → local_at m i < n) → ((i : ℕ) → O i → i < n) → n ≤ x → AreApart IsHeld O layout (held_from layout m x)
held_apart layout m n x below first before = record {
  apart = λ i j held there also e. by_kind i j held there also e (held_spot layout m x j also);
  beside = λ i held there other. omega (arith, held_behind layout m x i held there, first _ other, before);
}
  where
    by_kind : (i j : Spot) → IsHeld i → IsSpot layout i → IsSpot layout j → local_at (held_from layout m x) i ≡ local_at (held_from layout m x) j → IsOf layout m x j → i ≡ j
    by_kind i j held there also e (own kind low) = held_differ layout m x i j held kind there also e
    by_kind i j held there also e (same none known) = absurd (omega (arith, held_behind layout m x i held there, e, known, below j also, before))

module _ (b : Bound) (c : Context) (p : Place) (n x : ℕ) {s : State} {sc : Scene} {E : Env} (coupled : IsCoupled b c n p s sc E) (before : n ≤ x) where
  now_below : (i : Spot) → IsSpot c.program.layout i → local_at p.now i < n
  now_below i there = maps_below c.program.layout n p.now s E coupled.now i there

  read_below : (i : ℕ) → IsRead c p i → i < n
  read_below i (inl l) = subst (λ j. j < n) (sym l.there) (now_below l.spot l.exists)
  read_below i (inr l) = subst (λ j. j < n) (sym l.there) (maps_below c.program.layout n p.old sc.old E coupled.old l.spot l.exists)

  -- permission may be taken from copies while the state is read
  pub copy_shrinks : IsShrinking c p (held_from c.program.layout p.now x)
  copy_shrinks = held_apart c.program.layout p.now n x now_below read_below before

  -- and it may be taken from the state while copies are read
  pub start_shrinks : IsOwn c p → IsShrinking c (with_now (held_from c.program.layout p.now x) p) p.now
  start_shrinks is_own = record {
    apart = λ i j held there also e. is_own.apart i j tt there also e;
    beside = λ i held there other. by_side i held there other;
  }
    where
      of_start : (i j : Spot) → IsHeld i → IsSpot c.program.layout i → IsSpot c.program.layout j → local_at p.now i ≡ local_at (held_from c.program.layout p.now x) j → IsOf c.program.layout p.now x j → ⊥
      of_start i j held there also e (own kind low) = omega (arith, e, low, now_below i there, before)
      of_start i j held there also e (same none known) = none (subst IsHeld (is_own.apart i j tt there also (e ∙ known)) held)

      by_side : (i : Spot) → IsHeld i → IsSpot c.program.layout i → IsRead c (with_now (held_from c.program.layout p.now x) p) (local_at p.now i) → ⊥
      by_side i held there (inl l) = of_start i l.spot held there l.exists l.there (held_spot c.program.layout p.now x l.spot l.exists)
      by_side i held there (inr l) = is_own.beside i tt there l

-- ---- the code

-- it is nothing but the copying
pub saving_is : (layout : Layout) (m : Maps) (n : ℕ) → (saving layout m n).stmts ≡ copy_held (held_from layout m n) m
saving_is layout m n = join_skip (copy_held (held_from layout m n) m)

pub copying_is : (layout : Layout) (m : Maps) (n : ℕ) → (copying layout m n).stmts ≡ copy_state (maps_from layout n) m
copying_is layout m n = join_skip (copy_state (maps_from layout n) m)

pub saving_counted : (layout : Layout) (m : Maps) → IsCounted (saving layout m)
saving_counted layout m =
    then_counted (declares_all (held_types layout)) (λ n. then_emit (puts None (copy_held (held_from layout m n) m)) (λ u. gives (held_from layout m n))) (all_counted (held_types layout)) (λ n.
    then_counted (puts None (copy_held (held_from layout m n) m)) (λ u. gives (held_from layout m n)) (puts_counted None (copy_held (held_from layout m n) m)) (λ u. gives_counted (held_from layout m n)))

pub copying_counted : (layout : Layout) (m : Maps) → IsCounted (copying layout m)
copying_counted layout m =
    then_counted (declares_all (state_types layout)) (λ n. then_emit (puts None (copy_state (maps_from layout n) m)) (λ u. gives (maps_from layout n))) (all_counted (state_types layout)) (λ n.
    then_counted (puts None (copy_state (maps_from layout n) m)) (λ u. gives (maps_from layout n)) (puts_counted None (copy_state (maps_from layout n) m)) (λ u. gives_counted (maps_from layout n)))

-- what it declares exists
behind : (ts us : List BType) (n : ℕ) (E : Env) → length E ≡ length ts → n ≤ length ts → AreLocals ts n us → n + length us ≤ length E
behind ts us n E full low locals = omega (arith, full, room us n low locals)
  where
    room : (us : List BType) (n : ℕ) → n ≤ length ts → AreLocals ts n us → n + length us ≤ length ts
    room [] n low locals = omega (arith, low)
    room (u ∷ us) n low locals = omega (arith, room us (n + 1) (omega (arith, slice_get_within ts n u locals.0)) locals.1)

-- The code runs through, and then the new masks and amounts hold what the state does.
module _ (ts : List BType) (b : Bound) (layout : Layout) (m : Maps) (s : State) (n : ℕ) (E : Env) (h : HasMaps layout n m s E) (full : length E ≡ length ts) (low : n ≤ length ts) where
  pub saving_sets : AreLocals ts n (saving layout m n).locals → IsSaved ts b layout m s n E
  saving_sets locals = held_saved ts b layout m s n E h (behind ts (held_types layout) n E full low (subst (AreLocals ts n) (append-nil (held_types layout)) locals))

  pub copying_sets : AreLocals ts n (copying layout m n).locals → IsCopied ts b layout m s n E
  copying_sets locals = state_copied ts b layout m s n n E h (omega arith) (behind ts (state_types layout) n E full low (subst (AreLocals ts n) (append-nil (state_types layout)) locals))

-- the state is coupled at its copies too
pub saved_coupled : (ts : List BType) (b : Bound) (c : Context) (n : ℕ) (p : Place) (s : State) (sc : Scene) (E : Env) → IsCoupled b c n p s sc E → (saved : IsSaved ts b c.program.layout p.now s n E) →
    IsCoupled b c (n + length (held_types c.program.layout)) (with_now (held_from c.program.layout p.now n) p) s sc saved.after
saved_coupled ts b c n p s sc E coupled saved =
    let m = n + length (held_types c.program.layout) in
    let later = coupled_kept b c n m p s sc E saved.after (omega arith) saved.sets.kept coupled in
    record { now = saved.maps; old = later.old; vars = later.vars; at = later.at; sound = later.sound; old_sound = later.old_sound; store = later.store }

pub copied_coupled : (ts : List BType) (b : Bound) (c : Context) (n : ℕ) (p : Place) (s : State) (sc : Scene) (E : Env) → IsCoupled b c n p s sc E → (copied : IsCopied ts b c.program.layout p.now s n E) →
    IsCoupled b c (n + length (state_types c.program.layout)) (with_now (maps_from c.program.layout n) p) s sc copied.after
copied_coupled ts b c n p s sc E coupled copied =
    let m = n + length (state_types c.program.layout) in
    let later = coupled_kept b c n m p s sc E copied.after (omega arith) copied.sets.kept coupled in
    record { now = copied.maps; old = later.old; vars = later.vars; at = later.at; sound = later.sound; old_sound = later.old_sound; store = later.store }
