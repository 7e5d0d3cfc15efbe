-- An expression without `unfolding` records no events; nor do arguments and amounts without it.
use Rattle.std.proofs.Common.{◌≡◌, refl, sym, subst, ℕ, ◌==◌, List, [], ◌∷◌, All, slice_get}
use Rattle.std.proofs.lemmas.List.Elements.{All-nil, All-head}
use Rattle.vb_base.specs.declared.labels.Kind.TheVariants as kind
use Rattle.vb_base.specs.declared.places.Pos.{Pos}
use Rattle.vb_value.specs.Bound.{Bound}
use Rattle.vb_value.specs.Fraction.{is_none}
use Rattle.viper_core.specs.Expr as t
use Rattle.viper_core.specs.Plain.{OpensNothing, OpenNothing, AmountOpensNothing}
use Rattle.viper_state.specs.State.{State, value_at, mask_at}
use Rattle.viper_state.specs.Event.{Event}
use Rattle.viper_state.specs.Run.{Scene}
use Rattle.viper_meaning.specs.Ends.{Evaluated, ends, Is, Fails, Blocked, Over, events_of}
use Rattle.viper_meaning.specs.Operators.{class_of}
use Rattle.viper_meaning.specs.Places.{read_field, key_of}
use Rattle.viper_meaning.specs.Value.{value, values, amount_of, truth_in, perm_in, ref_in, key_in}
use Rattle.viper_meaning.specs.Kept as kept
use Rattle.viper_meaning.specs.Kept.{IsAny, Keeps}
use Rattle.viper_meaning.proofs.ClosedLaws.{any_closed, any_found}
use Rattle.viper_meaning.proofs.KeptLaws as k
use Rattle.viper_meaning.proofs.KeptLaws.{any_kept, fails_kept, blocks_kept, then_kept, found_kept, unless_kept, if_kept}

-- ---- each event on the way has any property, since there is none

module _ {E : Event → Type 0} (b : Bound) where
  read_quiet : (sc : Scene) (s : State) (f : ℕ) (at : Pos) (r : ℕ) → Keeps E IsAny (read_field sc s f at r)
  read_quiet sc s f at r =
      unless_kept (r == 0) (fails_kept sc at kind.Null) (then_kept (found_kept (mask_at s f r) (any_found (mask_at s f r))) (λ held u.
      unless_kept (is_none held) (fails_kept sc at kind.Perm) (found_kept (value_at s f r) (any_found (value_at s f r)))))

  value_quiet : (e : t.Expr) (s : State) (sc : Scene) → OpensNothing e → Keeps E IsAny (value b e s sc)
  value_quiet (t.Var x) s sc h = found_kept (slice_get sc.store x) (any_found (slice_get sc.store x))
  value_quiet (t.Int n) s sc h = any_kept _
  value_quiet (t.Bool a) s sc h = any_kept _
  value_quiet t.Null s sc h = any_kept _
  value_quiet (t.Part q) s sc h = any_kept _
  value_quiet (t.Neg a) s sc h = then_kept (value_quiet a s sc h) (k.negative_kept b IsAny IsAny IsAny IsAny IsAny (any_closed b))
  value_quiet (t.Not a) s sc h = then_kept (value_quiet a s sc h) (λ v p. k.negation_kept b IsAny IsAny IsAny IsAny IsAny (any_closed b) v)
  value_quiet (t.Bin o x y at) s sc h = k.in_class_kept b IsAny IsAny IsAny IsAny IsAny (any_closed b) (class_of o) sc o at (value_quiet x s sc h.0) (value_quiet y s sc h.1)
  value_quiet (t.Choose a x y) s sc h =
      then_kept (k.truth_kept b IsAny IsAny IsAny IsAny IsAny (any_closed b) (value_quiet a s sc h.0)) (λ holds u. if_kept holds (value_quiet x s sc h.1) (value_quiet y s sc h.2))
  value_quiet (t.Field a f at) s sc h =
      then_kept (k.ref_kept b IsAny IsAny IsAny IsAny IsAny (any_closed b) (value_quiet a s sc h)) (λ r u. read_quiet sc s f at r)
  value_quiet (t.Old a) s sc h = value_quiet a sc.old sc h
  value_quiet (t.Unfolding o) s sc h = absurd h

  pub truth_quiet : (e : t.Expr) (s : State) (sc : Scene) → OpensNothing e → Keeps E IsAny (truth_in b e s sc)
  truth_quiet e s sc h = k.truth_kept b IsAny IsAny IsAny IsAny IsAny (any_closed b) (value_quiet e s sc h)

  pub perm_quiet : (e : t.Expr) (s : State) (sc : Scene) → OpensNothing e → Keeps E IsAny (perm_in b e s sc)
  perm_quiet e s sc h = k.perm_kept b IsAny IsAny IsAny IsAny IsAny (any_closed b) (value_quiet e s sc h)

  pub ref_quiet : (e : t.Expr) (s : State) (sc : Scene) → OpensNothing e → Keeps E IsAny (ref_in b e s sc)
  ref_quiet e s sc h = k.ref_kept b IsAny IsAny IsAny IsAny IsAny (any_closed b) (value_quiet e s sc h)

  values_quiet : (es : t.Exprs) (s : State) (sc : Scene) → OpenNothing es → Keeps E IsAny (values b es s sc)
  values_quiet t.none s sc h = any_kept _
  values_quiet (t.more a rest) s sc h = then_kept (value_quiet a s sc h.0) (λ v u. then_kept (values_quiet rest s sc h.1) (λ vs w. any_kept _))

  pub key_quiet : (es : t.Exprs) (s : State) (sc : Scene) → OpenNothing es → Keeps E IsAny (key_in b es s sc)
  key_quiet es s sc h = then_kept (values_quiet es s sc h) (λ vs u. found_kept (key_of vs) (any_found (key_of vs)))

  pub amount_quiet : (m : t.Amt) (s : State) (sc : Scene) → AmountOpensNothing m → Keeps E IsAny (amount_of b m s sc)
  amount_quiet (t.Is e) s sc h = perm_quiet e s sc h
  amount_quiet t.Wildcard s sc h = blocks_kept

-- ---- so there are no events

-- there is no such event
abbrev pub IsNone : Event → Type 0
IsNone e = ⊥

-- it records no events
abbrev pub IsQuiet : {X : Type 0} → Evaluated X → Type 0
IsQuiet e = Keeps IsNone IsAny e

pub none_recorded : (es : List Event) → All IsNone es → es ≡ []
none_recorded [] h = refl
none_recorded (e ∷ es) h = absurd (All-head IsNone e es h)

pub no_events : {X : Type 0} (e : Evaluated X) → IsQuiet e → events_of e ≡ []
no_events _ (kept.value h p) = none_recorded _ h
no_events _ (kept.failure h) = none_recorded _ h
no_events _ (kept.blocked h) = none_recorded _ h
no_events _ (kept.over h) = none_recorded _ h

pub is_quiet : {X : Type 0} (e : Evaluated X) → events_of e ≡ [] → IsQuiet e
is_quiet (ends es (Is x)) h = kept.value (subst (All IsNone) (sym h) (All-nil IsNone)) tt
is_quiet (ends es (Fails l)) h = kept.failure (subst (All IsNone) (sym h) (All-nil IsNone))
is_quiet (ends es Blocked) h = kept.blocked (subst (All IsNone) (sym h) (All-nil IsNone))
is_quiet (ends es (Over at)) h = kept.over (subst (All IsNone) (sym h) (All-nil IsNone))

pub nothing_recorded : (b : Bound) (e : t.Expr) (s : State) (sc : Scene) → OpensNothing e → events_of (value b e s sc) ≡ []
nothing_recorded b e s sc h = no_events (value b e s sc) (value_quiet b e s sc h)
