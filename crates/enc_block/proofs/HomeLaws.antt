-- A configuration that stands in an environment still stands there where nothing but other locals was changed, and another one
-- stands there where just what differs was changed.
use Rattle.std.proofs.Common.{refl, sym, ap, subst, ◌∙◌, ◌≡◌, ◌<◌, ◌≤◌, ℕ, List, length, Some, slice_get, slice_set, inl, inr, arith}
use Rattle.std.proofs.lemmas.Option.{slice_get_within}
use Rattle.lemmas.proofs.Lists.{item_there}
use Rattle.sparse.specs.Map.{Map}
use Rattle.vb_base.specs.declared.places.Pos.{Pos}
use Rattle.vb_value.specs.Bound.{Bound}
use Rattle.vb_value.specs.Value.{type_of, IsProperValue}
use Rattle.vb_value.specs.declared.values.Ty.{Ty}
use Rattle.vb_value.specs.declared.values.Value.{Value}
use Rattle.viper_core.proofs.UnitLaws.{lt-below}
use Rattle.viper_state.specs.Fits.{FitsValue}
use Rattle.viper_state.proofs.Paired.{get_set_same, get_set_other}
use Rattle.viper_state.specs.State.{State}
use Rattle.viper_meaning.specs.Statements.{Activation, Configuration, scene, with_state, with_variable}
use Rattle.viper_meaning.proofs.StatementKeptLaws.{All-with}
use Rattle.viper_meaning.proofs.StatementFitsLaws.{set_fits}
use Rattle.boogie_tree.specs.Program.{BType}
use Rattle.boogie_tree.specs.Value.{BScalar, One}
use Rattle.boogie_meaning.proofs.PatternLaws.{set_here, set_there}
use Rattle.moves.specs.Scalars.{scalar}
use Rattle.enc_expr.specs.Place.{Maps, number, Spot, Heap, Mask, Amount, Content, IsSpot, IsHeld, local_at, IsLocalOf}
use Rattle.enc_expr.specs.Coupling.{Env, MapKind, HasMap, HasMaps, HasVariable, HasVariables, IsSound, IsCoupled}
use Rattle.enc_expr.specs.Alike.{Kept, KeptBut}
use Rattle.enc_expr.proofs.FrameLaws.{maps_framed, maps_but, held_framed, not_map, one_is_no_map, set_length, Frames}
use Rattle.enc_expr.proofs.MapLaws.{at_each}
use Rattle.enc_assert.specs.Held.{IsHeldLocalOf}
use Rattle.enc_block.specs.Home.{Home, place, whole, IsHome, IsAt}

module _ (k : Activation) (h : Home) where
  -- it is a local of the home
  pub data IsOfHome (i : ℕ) : Type 0 where
    variable : (x : ℕ) (u : Ty) → slice_get k.vars x ≡ Some u → i ≡ number h.vars x → IsOfHome i
    present : IsLocalOf k.program.layout h.now i → IsOfHome i
    before : IsLocalOf k.program.layout h.old i → IsOfHome i
    zero : IsHeldLocalOf k.program.layout h.nothing i → IsOfHome i

  variables_framed : {n m : ℕ} {store : List Value} {E F : Env} → n ≤ m → ((x : ℕ) (u : Ty) → slice_get k.vars x ≡ Some u → HasVariable u n (number h.vars x) store x E → slice_get F (number h.vars x) ≡ slice_get E (number h.vars x)) →
      HasVariables (whole k) n h.vars store E → HasVariables (whole k) m h.vars store F
  variables_framed within same v x u visible there =
      let it = v x u visible there in
      record { v = it.v; there = it.there; typed = it.typed; below = omega (arith, it.below, within); here = same x u there it ∙ it.here }

-- no map of the present state is one of the old state, nor one in which nothing is held
module _ {ts : List BType} {k : Activation} {h : Home} (home : IsHome ts k h) where
  old_beside : (i : ℕ) → IsLocalOf k.program.layout h.old i → IsLocalOf k.program.layout h.now i → ⊥
  old_beside i named own = home.now.beside own.spot tt own.exists (inl (subst (IsLocalOf k.program.layout h.old) own.there named))

  nothing_beside : (i : ℕ) → IsHeldLocalOf k.program.layout h.nothing i → IsLocalOf k.program.layout h.now i → ⊥
  nothing_beside i named own = home.now.beside own.spot tt own.exists (inr (subst (IsHeldLocalOf k.program.layout h.nothing) own.there named))

module _ {ts : List BType} {b : Bound} {k : Activation} {h : Home} where
  -- each part of a program is read in coupled states
  pub coupled_at : {n : ℕ} {d : Configuration} {E : Env} → IsAt ts b k h n d E → (at : Pos) → IsCoupled b (whole k) n (place h at) d.state (scene k d at) E
  coupled_at it at = record { now = it.now; old = it.old; vars = it.vars; at = refl; sound = it.sound; old_sound = it.old_sound; store = it.store }

  -- where all of these stay, the configuration does
  pub at_framed : {n m : ℕ} {d : Configuration} {E F : Env} → n ≤ m → length F ≡ length E → Frames (IsOfHome k h) n E F → IsAt ts b k h n d E → IsAt ts b k h m d F
  at_framed within long frame it = record {
    now = maps_framed within (λ i named below. frame i (present named) below) it.now;
    old = maps_framed within (λ i named below. frame i (before named) below) it.old;
    vars = variables_framed k h within (λ x u there v. frame (number h.vars x) (variable x u there refl) v.below) it.vars;
    nothing = held_framed within (λ i named below. frame i (zero named) below) it.nothing;
    sound = it.sound;
    old_sound = it.old_sound;
    store = it.store;
    fits = it.fits;
    full = long ∙ it.full;
  }

  -- new locals alone were changed
  pub at_kept : {n m : ℕ} {d : Configuration} {E F : Env} → n ≤ m → Kept n E F → IsAt ts b k h n d E → IsAt ts b k h m d F
  at_kept within kept it = at_framed within kept.length (λ i named below. kept.same i below) it

  -- there is a local for each variable, which holds it
  pub variable_at : {n : ℕ} {d : Configuration} {E : Env} → IsAt ts b k h n d E → (x : ℕ) (u : Ty) → slice_get k.vars x ≡ Some u → HasVariable u n (number h.vars x) d.store x E
  variable_at it x u there = it.vars x u (lt-below (length k.vars) x (slice_get_within k.vars x u there)) there

  module _ (home : IsHome ts k h) where
    -- Maps of the present state were changed, and new locals, and the maps hold another state.
    pub at_maps : {n m : ℕ} {d : Configuration} {s : State} {E F : Env} → n ≤ m → KeptBut (IsLocalOf k.program.layout h.now) n E F → HasMaps k.program.layout m h.now s F → IsSound b k.program.layout s →
        IsAt ts b k h n d E → IsAt ts b k h m (with_state d s) F
    at_maps {n} {m} {d} {s} {E} {F} within kept maps sound it = record {
      now = maps;
      old = maps_but within kept (old_beside home) it.old;
      vars = variables_framed k h within (λ x u there v. kept.same (number h.vars x) v.below (not_map k.program.layout n h.now d.state E (number h.vars x) (scalar v.v) it.now v.here)) it.vars;
      nothing = held_framed within (λ i named below. kept.same i below (nothing_beside home i named)) it.nothing;
      sound = sound;
      old_sound = it.old_sound;
      store = it.store;
      fits = it.fits;
      full = kept.length ∙ it.full;
    }

    -- a variable was set
    pub at_set : {n : ℕ} {d : Configuration} {E : Env} (x : ℕ) (u : Ty) (v : Value) → slice_get k.vars x ≡ Some u → type_of v ≡ u → IsProperValue b v → FitsValue u v → IsAt ts b k h n d E →
        IsAt ts b k h n (with_variable d x v) (slice_set E (number h.vars x) (One (scalar v)))
    at_set {n} {d} {E} x u v there typed proper fits it =
        let own = variable_at it x u there in
        let y = number h.vars x in let F = slice_set E y (One (scalar v)) in
        let inside : y < length E = slice_get_within E y (One (scalar own.v)) own.here in
        let no_map : (l : Maps) (s : State) → HasMaps k.program.layout n l s E → Frames (IsLocalOf k.program.layout l) n E F =
        λ l s maps i named below. set_there E y i (One (scalar v)) (λ e. not_map k.program.layout n l s E i (scalar own.v) maps (ap (slice_get E) (sym e) ∙ own.here) named) in
        record {
          now = maps_framed (omega arith) (no_map h.now d.state it.now) it.now;
          old = maps_framed (omega arith) (no_map h.old k.old it.old) it.old;
          vars = λ z w visible there_too. at_each k.vars (λ z w. HasVariable w n (number h.vars z) (slice_set d.store x v) z F) x u there
              (record { v = v; there = get_set_same d.store x own.v v own.there; typed = typed; below = own.below; here = set_here E y (One (scalar v)) inside })
              (λ z w there_too other. let it2 = variable_at it z w there_too in record {
                v = it2.v;
                there = get_set_other d.store x z v other ∙ it2.there;
                typed = it2.typed;
                below = it2.below;
                here = set_there E y (number h.vars z) (One (scalar v)) (λ e. other (home.vars x z u w there there_too e)) ∙ it2.here;
              }) z w there_too;
          nothing = held_framed (omega arith) (λ i named below. set_there E y i (One (scalar v)) (λ e. is_no_mask it i named (ap (slice_get E) (sym e) ∙ own.here))) it.nothing;
          sound = it.sound;
          old_sound = it.old_sound;
          store = All-with (IsProperValue b) d.store x v it.store proper;
          fits = set_fits k.vars d.store x u v it.fits there fits;
          full = set_length E y (One (scalar v)) ∙ it.full;
        }
      where
        no_one : {n x : ℕ} {K V : Type 0} {kind : MapKind K V} {maps : List (Map K V)} {i : ℕ} {w : BScalar} → HasMap kind n x maps i E → slice_get E x ≡ Some (One w) → ⊥
        no_one {x = x} {w = w} map here = one_is_no_map E x x map.image w map.here here refl

        is_no_mask : {n : ℕ} {d : Configuration} {w : BScalar} → IsAt ts b k h n d E → (i : ℕ) → IsHeldLocalOf k.program.layout h.nothing i → slice_get E i ≡ Some (One w) → ⊥
        is_no_mask {w = w} it i named here = by_spot named.spot named.kind named.exists (ap (slice_get E) (sym named.there) ∙ here)
          where
            by_spot : (spot : Spot) → IsHeld spot → IsSpot k.program.layout spot → slice_get E (local_at h.nothing spot) ≡ Some (One w) → ⊥
            by_spot (Mask f) held exists here = let u = item_there k.program.layout.fields f exists in no_one (it.nothing.mask f u.0 u.1) here
            by_spot (Amount q) held exists here = let u = item_there k.program.layout.keys q exists in no_one (it.nothing.amount q u.0 u.1) here
            by_spot (Heap _) held exists here = elim held [ ]
            by_spot (Content _) held exists here = elim held [ ]
