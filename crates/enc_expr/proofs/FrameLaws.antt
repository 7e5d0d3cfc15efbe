-- What stays where nothing but some locals was changed: maps, variables, atoms, and the coupling.
use Rattle.std.proofs.Common.{refl, ap, sym, subst, ◌∙◌, ◌≡◌, ◌≢◌, ◌+◌, ◌<◌, ◌≤◌, ℕ, zero, suc, List, [], ◌∷◌, ◌++◌, length, Some, None, Contains, slice_get, slice_set, arith}
use Rattle.std.proofs.lemmas.Option.{slice_get_within, same_Some}
use Rattle.lemmas.proofs.Lists.{item_there}
use Rattle.sparse.specs.Map.{Map}
use Rattle.vb_value.specs.Layout.{Layout}
use Rattle.vb_value.specs.Bound.{Bound}
use Rattle.vb_value.specs.Content as content
use Rattle.vb_value.specs.Fraction.{Fraction}
use Rattle.vb_value.specs.declared.values.Ty.{Ty}
use Rattle.vb_value.specs.declared.values.Value.{Value}
use Rattle.viper_core.specs.Typing.{Context}
use Rattle.viper_state.specs.State.{State}
use Rattle.viper_state.specs.Run.{Scene}
use Rattle.boogie_tree.specs.Expr as t
use Rattle.boogie_tree.specs.Program.{BType}
use Rattle.boogie_tree.specs.Value.{Key, BScalar, BValue, One, Many}
use Rattle.boogie_meaning.proofs.PatternLaws.{set_there}
use Rattle.moves.specs.Scalars.{scalar}
use Rattle.enc_expr.specs.Place.{Maps, Place, with_now, number, Spot, Heap, Mask, Amount, Content, IsSpot, local_at, IsHeld, IsLocalAt, IsLocalOf, AreApart}
use Rattle.enc_expr.specs.Code.{Guard}
use Rattle.enc_expr.specs.Coupling.{Env, MapKind, HasMap, HasMaps, HasHeld, HasVariable, IsAwake, AreLocals, IsReady, IsSound, IsCoupled, IsOwn}
use Rattle.enc_expr.specs.Alike as alike
use Rattle.enc_expr.specs.Alike.{Kept, KeptBut, HasAtom, AreLocated, IsScale, IsSource, variable, int, real, truth, null}

-- ---- nothing but new locals

pub kept_itself : (n : ℕ) (E : Env) → Kept n E E
kept_itself n E = record { length = refl; same = λ i h. refl }

pub kept_then : {n m : ℕ} {E F G : Env} → n ≤ m → Kept n E F → Kept m F G → Kept n E G
kept_then h k l = record { length = l.length ∙ k.length; same = λ i below. l.same i (omega (arith, below, h)) ∙ k.same i below }

pub set_length : (E : Env) (i : ℕ) (v : BValue) → length (slice_set E i v) ≡ length E
set_length [] i v = refl
set_length (w ∷ E) zero v = refl
set_length (w ∷ E) (suc i) v = omega (arith, set_length E i v)

-- a new local is set
pub kept_set : (n i : ℕ) (v : BValue) (E : Env) → n ≤ i → Kept n E (slice_set E i v)
kept_set n i v E h = record { length = set_length E i v; same = λ j below. set_there E i j v (λ same. omega (arith, same, below, h)) }

pub locals_first : (ts : List BType) (n : ℕ) (us ws : List BType) → AreLocals ts n (us ++ ws) → AreLocals ts n us
locals_first ts n [] ws h = tt
locals_first ts n (u ∷ us) ws h = (h.0, locals_first ts (n + 1) us ws h.1)

pub locals_rest : (ts : List BType) (n : ℕ) (us ws : List BType) → AreLocals ts n (us ++ ws) → AreLocals ts (n + length us) ws
locals_rest ts n [] ws h = subst (λ i. AreLocals ts i ws) (omega arith) h
locals_rest ts n (u ∷ us) ws h = subst (λ i. AreLocals ts i ws) (omega arith) (locals_rest ts (n + 1) us ws h.1)

-- ---- nothing but new locals and some others

pub but_from : {O : ℕ → Type 0} {n : ℕ} {E F : Env} → Kept n E F → KeptBut O n E F
but_from h = record { length = h.length; same = λ i below other. h.same i below }

pub but_less : {O P : ℕ → Type 0} {n : ℕ} {E F : Env} → ((i : ℕ) → O i → P i) → KeptBut O n E F → KeptBut P n E F
but_less more h = record { length = h.length; same = λ i below other. h.same i below (λ own. other (more i own)) }

-- where these are no earlier locals
pub but_none : {O : ℕ → Type 0} {n m : ℕ} {E F : Env} → n ≤ m → ((i : ℕ) → i < n → O i → ⊥) → KeptBut O m E F → Kept n E F
but_none within apart h = record { length = h.length; same = λ i below. h.same i (omega (arith, below, within)) (apart i below) }

pub but_then : {O : ℕ → Type 0} {n m : ℕ} {E F G : Env} → n ≤ m → KeptBut O n E F → KeptBut O m F G → KeptBut O n E G
but_then h k l = record { length = l.length ∙ k.length; same = λ i below other. l.same i (omega (arith, below, h)) other ∙ k.same i below other }

pub kept_but_then : {O : ℕ → Type 0} {n m : ℕ} {E F G : Env} → n ≤ m → Kept n E F → KeptBut O m F G → KeptBut O n E G
kept_but_then within kept h = but_then within (but_from kept) h

pub then_kept_but : {O : ℕ → Type 0} {n m : ℕ} {E F G : Env} → n ≤ m → KeptBut O n E F → Kept m F G → KeptBut O n E G
then_kept_but within h kept = but_then within h (but_from kept)

pub but_set : {O : ℕ → Type 0} (n : ℕ) (E : Env) (i : ℕ) (w : BValue) → O i → KeptBut O n E (slice_set E i w)
but_set {O} n E i w own = record { length = set_length E i w; same = λ j below other. set_there E i j w (λ e. other (subst O e own)) }

-- ---- the frame

-- both have the same at those of the first n locals of which P holds
abbrev pub Frames : (ℕ → Type 0) → ℕ → Env → Env → Type 0
Frames P n E F = (i : ℕ) → P i → i < n → slice_get F i ≡ slice_get E i

-- it is the local of a variable that the part can name
pub record IsVariableOf (c : Context) (p : Place) (i : ℕ) : Type 0 where
  pub variable : ℕ
  pub ty : Ty
  pub visible : Contains c.visible variable
  pub typed : slice_get c.vars variable ≡ Some ty
  pub there : i ≡ number p.vars variable

-- it is a local that the place names
pub data Names (c : Context) (p : Place) (i : ℕ) : Type 0 where
  of_variable : IsVariableOf c p i → Names c p i
  of_now : IsLocalOf c.program.layout p.now i → Names c p i
  of_old : IsLocalOf c.program.layout p.old i → Names c p i

-- the same map in another local
pub map_moved : {K V : Type 0} {k : MapKind K V} {n m x y : ℕ} {maps : List (Map K V)} {i : ℕ} {E F : Env} → y < m → slice_get F y ≡ slice_get E x → HasMap k n x maps i E → HasMap k m y maps i F
map_moved below same h = record {
  m = h.m;
  there = h.there;
  tidy = h.tidy;
  below = below;
  image = h.image;
  here = same ∙ h.here;
  typed = h.typed;
  same = h.same;
  rests = h.rests;
}

pub maps_framed : {layout : Layout} {n m : ℕ} {l : Maps} {s : State} {E F : Env} → n ≤ m → Frames (IsLocalOf layout l) n E F → HasMaps layout n l s E → HasMaps layout m l s F
maps_framed {layout} {n} {m} {l} {s} {E} {F} within frame h = record {
  heap = λ f u there. framed (Heap f) (slice_get_within layout.fields f u there) (h.heap f u there);
  mask = λ f u there. framed (Mask f) (slice_get_within layout.fields f u there) (h.mask f u there);
  amount = λ q us there. framed (Amount q) (slice_get_within layout.keys q us there) (h.amount q us there);
  content = λ q us there. framed (Content q) (slice_get_within layout.keys q us there) (h.content q us there);
}
  where
    framed : {K V : Type 0} {k : MapKind K V} {maps : List (Map K V)} {i : ℕ} (spot : Spot) → IsSpot layout spot → HasMap k n (local_at l spot) maps i E → HasMap k m (local_at l spot) maps i F
    framed spot exists map = map_moved (omega (arith, map.below, within)) (frame (local_at l spot) (record { spot = spot; kind = tt; exists = exists; there = refl }) map.below) map

variable_moved : {u : Ty} {n m i : ℕ} {store : List Value} {x : ℕ} {E F : Env} → i < m → slice_get F i ≡ slice_get E i → HasVariable u n i store x E → HasVariable u m i store x F
variable_moved below same h = record { v = h.v; there = h.there; typed = h.typed; below = below; here = same ∙ h.here }

-- another state in other maps, where variables and the old state are as before
pub coupled_changed : (b : Bound) (c : Context) (n m : ℕ) (p : Place) (l : Maps) (s less : State) (sc : Scene) (E F : Env) → n ≤ m → Frames (IsVariableOf c p) n E F → Frames (IsLocalOf c.program.layout p.old) n E F →
    HasMaps c.program.layout m l less F → IsSound b c.program.layout less → IsCoupled b c n p s sc E → IsCoupled b c m (with_now l p) less sc F
coupled_changed b c n m p l s less sc E F within variables before maps sound h = record {
  now = maps;
  old = maps_framed within before h.old;
  vars = λ x u visible there.
      let it = h.vars x u visible there in
      let same = variables (number p.vars x) (record { variable = x; ty = u; visible = visible; typed = there; there = refl }) it.below in
      variable_moved (omega (arith, it.below, within)) same it;
  at = h.at;
  sound = sound;
  old_sound = h.old_sound;
  store = h.store;
}

-- the coupling asks nothing of locals that the place does not name
pub coupled_framed : (b : Bound) (c : Context) (n m : ℕ) (p : Place) (s : State) (sc : Scene) (E F : Env) → n ≤ m → Frames (Names c p) n E F → IsCoupled b c n p s sc E → IsCoupled b c m p s sc F
coupled_framed b c n m p s sc E F within frame h =
    coupled_changed b c n m p p.now s s sc E F within (λ i named. frame i (of_variable named)) (λ i named. frame i (of_old named)) (maps_framed within (λ i named. frame i (of_now named)) h.now) h.sound h

pub maps_but : {O : ℕ → Type 0} {layout : Layout} {n m : ℕ} {l : Maps} {s : State} {E F : Env} → n ≤ m → KeptBut O n E F → ((i : ℕ) → IsLocalOf layout l i → O i → ⊥) → HasMaps layout n l s E → HasMaps layout m l s F
maps_but within kept apart h = maps_framed within (λ i named below. kept.same i below (apart i named)) h

pub coupled_but : {O : ℕ → Type 0} (b : Bound) (c : Context) (n m : ℕ) (p : Place) (s : State) (sc : Scene) (E F : Env) → n ≤ m → KeptBut O n E F → ((i : ℕ) → Names c p i → O i → ⊥) → IsCoupled b c n p s sc E → IsCoupled b c m p s sc F
coupled_but b c n m p s sc E F within kept apart h = coupled_framed b c n m p s sc E F within (λ i named below. kept.same i below (apart i named)) h

-- a map that stands in a local that was not changed
pub map_kept : {K V : Type 0} {k : MapKind K V} {n m x : ℕ} {maps : List (Map K V)} {i : ℕ} {E F : Env} → n ≤ m → Kept n E F → HasMap k n x maps i E → HasMap k m x maps i F
map_kept within kept h = map_moved (omega (arith, h.below, within)) (kept.same _ h.below) h

pub maps_kept : {layout : Layout} {n m : ℕ} {l : Maps} {s : State} {E F : Env} → n ≤ m → Kept n E F → HasMaps layout n l s E → HasMaps layout m l s F
maps_kept within kept h = maps_framed within (λ i named below. kept.same i below) h

-- the same of those maps that hold permission
pub maps_held : {layout : Layout} {n : ℕ} {l : Maps} {s : State} {E : Env} → HasMaps layout n l s E → HasHeld layout n l s E
maps_held h = record { mask = h.mask; amount = h.amount }

pub held_framed : {layout : Layout} {n m : ℕ} {l : Maps} {s : State} {E F : Env} → n ≤ m → Frames (IsLocalAt IsHeld layout l) n E F → HasHeld layout n l s E → HasHeld layout m l s F
held_framed {layout} {l = l} within frame h = record {
  mask = λ f u there.
      let map = h.mask f u there in
      map_moved (omega (arith, map.below, within)) (frame (number l.mask f) (record { spot = Mask f; kind = tt; exists = slice_get_within layout.fields f u there; there = refl }) map.below) map;
  amount = λ q us there.
      let map = h.amount q us there in
      map_moved (omega (arith, map.below, within)) (frame (number l.amount q) (record { spot = Amount q; kind = tt; exists = slice_get_within layout.keys q us there; there = refl }) map.below) map;
}

pub held_but : {O : ℕ → Type 0} {layout : Layout} {n m : ℕ} {l : Maps} {s : State} {E F : Env} → n ≤ m → KeptBut O n E F → ((i : ℕ) → IsLocalAt IsHeld layout l i → O i → ⊥) → HasHeld layout n l s E → HasHeld layout m l s F
held_but within kept apart h = held_framed within (λ i named below. kept.same i below (apart i named)) h

pub held_kept : {layout : Layout} {n m : ℕ} {l : Maps} {s : State} {E F : Env} → n ≤ m → Kept n E F → HasHeld layout n l s E → HasHeld layout m l s F
held_kept within kept h = held_framed within (λ i named below. kept.same i below) h

pub coupled_kept : (b : Bound) (c : Context) (n m : ℕ) (p : Place) (s : State) (sc : Scene) (E F : Env) → n ≤ m → Kept n E F → IsCoupled b c n p s sc E → IsCoupled b c m p s sc F
coupled_kept b c n m p s sc E F within kept h = coupled_framed b c n m p s sc E F within (λ i named below. kept.same i below) h

-- ---- the locals of a state

-- each is below the next one
pub maps_below : (layout : Layout) (n : ℕ) (m : Maps) (s : State) (E : Env) → HasMaps layout n m s E → (i : Spot) → IsSpot layout i → local_at m i < n
maps_below layout n m s E h (Heap f) there = let u = item_there layout.fields f there in (h.heap f u.0 u.1).below
maps_below layout n m s E h (Mask f) there = let u = item_there layout.fields f there in (h.mask f u.0 u.1).below
maps_below layout n m s E h (Amount q) there = let u = item_there layout.keys q there in (h.amount q u.0 u.1).below
maps_below layout n m s E h (Content q) there = let u = item_there layout.keys q there in (h.content q u.0 u.1).below

-- each holds a map
pub map_there : (layout : Layout) (n : ℕ) (m : Maps) (s : State) (E : Env) → HasMaps layout n m s E → (i : Spot) → IsSpot layout i → (map : Map Key BScalar) × (slice_get E (local_at m i) ≡ Some (Many map))
map_there layout n m s E h (Heap f) there = let u = item_there layout.fields f there in let map = h.heap f u.0 u.1 in (map.image, map.here)
map_there layout n m s E h (Mask f) there = let u = item_there layout.fields f there in let map = h.mask f u.0 u.1 in (map.image, map.here)
map_there layout n m s E h (Amount q) there = let u = item_there layout.keys q there in let map = h.amount q u.0 u.1 in (map.image, map.here)
map_there layout n m s E h (Content q) there = let u = item_there layout.keys q there in let map = h.content q u.0 u.1 in (map.image, map.here)

pub one_is_no_map : (E : Env) (y i : ℕ) (map : Map Key BScalar) (w : BScalar) → slice_get E y ≡ Some (Many map) → slice_get E i ≡ Some (One w) → y ≢ i
one_is_no_map E y i map w there here e = no_map (same_Some _ _ (sym there ∙ ap (λ j. slice_get E j) e ∙ here))
  where
    no_map : {map : Map Key BScalar} {w : BScalar} → Many map ≡ One w → ⊥
    no_map e = cc

-- a local that holds no map is none of them
pub not_map : (layout : Layout) (n : ℕ) (l : Maps) (s : State) (E : Env) (i : ℕ) (w : BScalar) → HasMaps layout n l s E → slice_get E i ≡ Some (One w) → IsLocalOf layout l i → ⊥
not_map layout n l s E i w h here own = let map = map_there layout n l s E h own.spot own.exists in one_is_no_map E (local_at l own.spot) i map.0 w map.1 here (sym own.there)

-- ---- what is no map

-- what is no map, of the first n locals, is as before
pub record Singles (n : ℕ) (E F : Env) : Type 0 where
  pub same : (i : ℕ) (w : BScalar) → i < n → slice_get E i ≡ Some (One w) → slice_get F i ≡ Some (One w)

pub singles_itself : (n : ℕ) (E : Env) → Singles n E E
singles_itself n E = record { same = λ i w below here. here }

pub singles_then : {n m : ℕ} {E F G : Env} → n ≤ m → Singles n E F → Singles m F G → Singles n E G
singles_then within h g = record { same = λ i w below here. g.same i w (omega (arith, below, within)) (h.same i w below here) }

pub singles_kept : {n : ℕ} {E F : Env} → Kept n E F → Singles n E F
singles_kept h = record { same = λ i w below here. h.same i below ∙ here }

-- a map is set
pub singles_put : (n : ℕ) (E : Env) (y : ℕ) (map : Map Key BScalar) (z : BValue) → slice_get E y ≡ Some (Many map) → Singles n E (slice_set E y z)
singles_put n E y map z there = record { same = λ i w below here. set_there E y i z (one_is_no_map E y i map w there here) ∙ here }

-- nothing but maps of a state was changed
pub singles_but : (layout : Layout) (n m : ℕ) (l : Maps) (s : State) (E F : Env) → HasMaps layout m l s E → KeptBut (IsLocalOf layout l) n E F → Singles n E F
singles_but layout n m l s E F h kept = record { same = λ i w below here. kept.same i below (not_map layout m l s E i w h here) ∙ here }

pub atom_single : {n m : ℕ} {E F : Env} {x : t.BExpr} {w : BScalar} → n ≤ m → Singles n E F → HasAtom n E x w → HasAtom m F x w
atom_single within h (variable below here) = variable (omega (arith, below, within)) (h.same _ _ below here)
atom_single within h int = int
atom_single within h real = real
atom_single within h truth = truth
atom_single within h null = null

pub located_single : {n m : ℕ} {E F : Env} {is : List ℕ} {vs : List Value} → n ≤ m → Singles n E F → AreLocated n E is vs → AreLocated m F is vs
located_single within h alike.AreLocated.none = alike.AreLocated.none
located_single within h (alike.AreLocated.more below here rest) = alike.AreLocated.more (omega (arith, below, within)) (h.same _ _ below here) (located_single within h rest)

pub awake_single : (g : Guard) {n m : ℕ} {E F : Env} → n ≤ m → Singles n E F → IsAwake g n E → IsAwake g m F
awake_single None within h awake = tt
awake_single (Some i) within h awake = (omega (arith, awake.0, within), h.same i _ awake.0 awake.1)

pub scale_single : {b : Bound} {n m : ℕ} {E F : Env} {x : t.BExpr} {q : Fraction} → n ≤ m → Singles n E F → IsScale b n E x q → IsScale b m F x q
scale_single within h scale = record { atom = atom_single within h scale.atom; positive = scale.positive; proper = scale.proper }

pub source_single : {b : Bound} {n m : ℕ} {E F : Env} {from : ℕ} {d : content.Content} → n ≤ m → Singles n E F → IsSource b n E from d → IsSource b m F from d
source_single within h source = record { below = omega (arith, source.below, within); here = h.same _ _ source.below source.here; reduced = source.reduced; proper = source.proper }

-- ---- maps that may be changed

pub own_apart : {P : Spot → Type 0} {O : ℕ → Type 0} {layout : Layout} {m : Maps} {i : ℕ} → AreApart P O layout m → O i → IsLocalAt P layout m i → ⊥
own_apart {O = O} own other mine = own.beside mine.spot mine.kind mine.exists (subst O mine.there other)

-- another state in such maps, where nothing but these and new locals was changed
pub coupled_own : (b : Bound) (c : Context) (n m : ℕ) (p : Place) (l : Maps) (s less : State) (sc : Scene) (E F : Env) → IsOwn c (with_now l p) → n ≤ m → KeptBut (IsLocalOf c.program.layout l) n E F → Singles n E F →
    HasMaps c.program.layout m l less F → IsSound b c.program.layout less → IsCoupled b c n p s sc E → IsCoupled b c m (with_now l p) less sc F
coupled_own b c n m p l s less sc E F own within kept singles maps sound h =
    let variables : Frames (IsVariableOf c p) n E F = λ i named below.
    let it = h.vars named.variable named.ty named.visible named.typed in
    subst (λ j. slice_get F j ≡ slice_get E j) (sym named.there) (singles.same (number p.vars named.variable) (scalar it.v) it.below it.here ∙ sym it.here) in
    coupled_changed b c n m p l s less sc E F within variables (λ i named below. kept.same i below (own_apart own named)) maps sound h

-- ---- going on under a guard

pub awake_kept : (g : Guard) {n m : ℕ} {E F : Env} → n ≤ m → Kept n E F → IsAwake g n E → IsAwake g m F
awake_kept g within kept h = awake_single g within (singles_kept kept) h

pub ready_rest : (ts : List BType) (g : Guard) (n m : ℕ) (us ws : List BType) (E F : Env) → n + length us ≡ m → Kept n E F → IsReady ts g n (us ++ ws) E → IsReady ts g m ws F
ready_rest ts g n m us ws E F e k h = record {
  awake = awake_kept g (omega (arith, e)) k h.awake;
  full = k.length ∙ h.full;
  locals = subst (λ i. AreLocals ts i ws) e (locals_rest ts n us ws h.locals);
}
