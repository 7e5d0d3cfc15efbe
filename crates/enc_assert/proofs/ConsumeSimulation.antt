-- The code of consuming an assertion ends as consuming does, in both directions.
use Rattle.std.specs.Bool.{⊤}
use Rattle.std.proofs.Common.{◌≡◌, ◌≤◌, ℕ, Bool as Truth, true, false, List, [], Some, if◌then◌else◌, inl, inr, refl, ap, subst, ◌∙◌, arith}
use Rattle.vb_base.specs.declared.labels.Kind.TheVariants as kind
use Rattle.vb_value.specs.Bound.{Bound}
use Rattle.vb_value.specs.Fraction.{Fraction}
use Rattle.vb_value.specs.declared.values.Ty.TheVariants as ty
use Rattle.viper_core.specs.Expr as e
use Rattle.viper_core.specs.Formed.{IsFormed}
use Rattle.viper_core.specs.Typing as y
use Rattle.viper_core.specs.Typing.{Context, IsAmount, IsAssertion}
use Rattle.viper_core.proofs.FormedLaws.{predicate_of_typed}
use Rattle.viper_meaning.proofs.TypedLaws.{keys_at}
use Rattle.viper_core.proofs.LiteralLaws.{assertion_literals, literals_proper}
use Rattle.viper_state.specs.Fits.{FitsStore}
use Rattle.viper_state.specs.State.{State}
use Rattle.viper_state.specs.Run.{Scene}
use Rattle.viper_meaning.specs.Assertions as meaning
use Rattle.viper_meaning.specs.Assertions.{consume}
use Rattle.viper_meaning.specs.Ends.{Evaluated, is as is_end, fails}
use Rattle.viper_meaning.specs.Kept.{IsAny}
use Rattle.viper_meaning.specs.KeptRuns.{KeepsRun}
use Rattle.viper_meaning.specs.Resource as resource
use Rattle.viper_meaning.specs.Value.{truth_in}
use Rattle.viper_meaning.proofs.RunFitsLaws.{consume_fits}
use Rattle.viper_meaning.proofs.RunSignLaws.{consume_sign}
use Rattle.viper_meaning.proofs.RunWithinLaws.{consume_proper}
use Rattle.boogie_tree.specs.Expr as t
use Rattle.boogie_tree.specs.Program.{BType}
use Rattle.boogie_tree.specs.Stmt as stmt
use Rattle.boogie_tree.specs.Value.{BChoice}
use Rattle.boogie_meaning.specs.Run as r
use Rattle.boogie_meaning.specs.Run.{Done, Stops}
use Rattle.moves.specs.Scalars.{scalar}
use Rattle.enc_expr.specs.Place.{Place, Maps, number, with_now}
use Rattle.enc_expr.specs.Kinds.{kinds_in}
use Rattle.enc_expr.specs.Code.{then_emit, Guard, puts}
use Rattle.enc_expr.specs.Pieces.{Operand, one, label}
use Rattle.enc_expr.specs.Encoding.{code, codes, amount_code}
use Rattle.enc_expr.specs.Coupling.{Env, HasMaps, IsSound, IsCoupled}
use Rattle.enc_expr.specs.Alike.{Alike, IsScale}
use Rattle.enc_expr.proofs.RunLaws.{assert_run, guarded_awake}
use Rattle.enc_expr.proofs.AlikeLaws.{is_alike}
use Rattle.enc_expr.proofs.FrameLaws.{Names, of_variable, of_now, of_old, coupled_but, not_map, maps_kept, Singles, singles_but, scale_single, but_from, but_less, but_then, own_apart, kept_but_then, then_kept_but, locals_first, coupled_kept, awake_kept, ready_rest}
use Rattle.enc_expr.proofs.CodeLaws.{code_counted, codes_counted}
use Rattle.enc_expr.proofs.OpeningLaws.{alike_run, fails_alike}
use Rattle.enc_expr.proofs.UnfoldingLaws.{emit_alike}
use Rattle.enc_expr.proofs.BodyLaws.{ref_alike}
use Rattle.enc_expr.proofs.ChoiceLaws.{scale_kept}
use Rattle.enc_expr.proofs.Simulation.{expression, arguments, proper_amount}
use Rattle.enc_assert.specs.Encoding.{consume_amount, consume_code, field_target, instance_target}
use Rattle.enc_assert.specs.Held.{IsHeldLocalOf, IsShrinking, IsConsumed}
use Rattle.enc_assert.specs.Alongside.{IsGiven, AreAlongside}
use Rattle.enc_assert.proofs.AlongsideLaws.{same_alongside, ended_alongside, law_alongside, weaken_alongside}
use Rattle.enc_assert.proofs.AimLaws.{field_aims, instance_aims}
use Rattle.enc_assert.proofs.GiveLaws.{IsGrown}
use Rattle.enc_assert.proofs.GoingLaws.{emit_alongside}
use Rattle.enc_assert.proofs.WayLaws.{bool_alike, made_alike, key_alike, both_kept, any_run, Way, Acts, both_act, implied_acts, chosen_acts}
use Rattle.enc_assert.proofs.ProduceLaws.{held_is_local, grown_after}
use Rattle.enc_assert.proofs.ConsumeLaws.{AmountReads, amount_consumed}
use Rattle.enc_assert.proofs.WrittenLaws.{consume_counted, consume_sleeps}

-- ---- the simulation

-- the start is coupled, the other maps hold what is left, and the local of the scale holds it
pub record IsConsuming (b : Bound) (c : Context) (p : Place) (left : Maps) (start : State) (sc : Scene) (scale : t.BExpr) (k : Fraction) (n : ℕ) (u : State) (E : Env) : Type 0 where
  pub coupled : IsCoupled b c n p start sc E
  pub maps : HasMaps c.program.layout n left u E
  pub sound : IsSound b c.program.layout u
  pub scales : IsScale b n E scale k

module _ (b : Bound) (c : Context) (p : Place) (left : Maps) (own : IsShrinking c p left) (start : State) (sc : Scene) where
  -- what is read is none of the maps that are changed
  left_beside : {n : ℕ} {u : State} {E : Env} → IsCoupled b c n p start sc E → HasMaps c.program.layout n left u E → (i : ℕ) → Names c p i → IsHeldLocalOf c.program.layout left i → ⊥
  left_beside {n} {u} {E} coupled maps i (of_variable named) mine =
      let it = coupled.vars named.variable named.ty named.visible named.typed in
      not_map c.program.layout n left u E (number p.vars named.variable) (scalar it.v) maps it.here (held_is_local (number p.vars named.variable) (subst (IsHeldLocalOf c.program.layout left) named.there mine))
  left_beside coupled maps i (of_now named) mine = own_apart own (inl named) mine
  left_beside coupled maps i (of_old named) mine = own_apart own (inr named) mine

  -- so it stays coupled
  pub start_coupled : {n m : ℕ} {u w : State} {E F : Env} → n ≤ m → IsCoupled b c n p start sc E → HasMaps c.program.layout n left u E → IsConsumed b c n m left E w F → IsCoupled b c m p start sc F
  start_coupled within coupled maps after = coupled_but b c _ _ p start sc _ _ within after.kept (left_beside coupled maps) coupled

  -- and what is left is coupled in place of it
  pub left_coupled : {n m : ℕ} {u w : State} {E F : Env} → n ≤ m → IsCoupled b c n p start sc E → HasMaps c.program.layout n left u E → IsConsumed b c n m left E w F → IsCoupled b c m (with_now left p) w sc F
  left_coupled within coupled maps after =
      let read = start_coupled within coupled maps after in
      record { now = after.maps; old = read.old; vars = read.vars; at = read.at; sound = after.sound; old_sound = read.old_sound; store = read.store }

module _ (b : Bound) (c : Context) (p : Place) (left : Maps) (own : IsShrinking c p left) (start : State) (sc : Scene) (scale : t.BExpr) (k : Fraction) where
  -- what is no map stays
  pub left_singles : {n m : ℕ} {u w : State} {E F : Env} → IsConsuming b c p left start sc scale k n u E → IsConsumed b c n m left E w F → Singles n E F
  left_singles {n} {u = u} {E = E} {F} h after = singles_but c.program.layout n n left u E F h.maps (but_less held_is_local after.kept)

  -- each expression is read in the state at the start
  abbrev pub consuming : Way b c p sc
  consuming = record {
    read_in = λ u. start;
    Before = IsConsuming b c p left start sc scale k;
    After = λ n m E u F. IsConsumed b c n m left E u F;
    coupled = λ h. h.coupled;
    later = λ within kept h. record {
      coupled = coupled_kept b c _ _ p start sc _ _ within kept h.coupled;
      maps = maps_kept within kept h.maps;
      sound = h.sound;
      scales = scale_kept within kept h.scales;
    };
    again = λ within h after. record {
      coupled = start_coupled b c p left own start sc within h.coupled h.maps after;
      maps = after.maps;
      sound = after.sound;
      scales = scale_single within (left_singles h after) h.scales;
    };
    singles = left_singles;
    length = λ after. after.kept.length;
    itself = λ within kept h. record { kept = but_from kept; maps = maps_kept within kept h.maps; sound = h.sound };
    behind = λ within kept after. record { kept = kept_but_then within kept after.kept; maps = after.maps; sound = after.sound };
    before = λ within more after kept. record { kept = then_kept_but within after.kept kept; maps = maps_kept more kept after.maps; sound = after.sound };
    both = λ within after more. record { kept = but_then within after.kept more.kept; maps = more.maps; sound = more.sound };
  }

module _ (ts : List BType) (b : Bound) (c : Context) (formed : IsFormed c.program) (p : Place) (left : Maps) (own : IsShrinking c p left) (start : State) (sc : Scene) (fits : FitsStore c.vars sc.store) (scale : t.BExpr) (k : Fraction) where
  abbrev Sound : State → Type 0
  Sound = IsSound b c.program.layout

  abbrev way : Way b c p sc
  way = consuming b c p left own start sc scale k

  -- what is consumed keeps the state sound
  sound_run : {n : ℕ} {E : Env} (a : e.Assertion) (u : State) → IsAssertion c a → IsConsuming b c p left start sc scale k n u E → KeepsRun IsAny (IsGiven b c.program.layout) Sound (consume b a start sc k u)
  sound_run a u typed h =
      let coupled = h.coupled in
      let one = consume_fits b c formed a start sc k u typed coupled.sound.fits h.sound.fits (record { store = fits; old = coupled.old_sound.fits }) h.scales.proper.reduced in
      let two = consume_proper b a start sc k u (assertion_literals _ _ (literals_proper b) c formed.typed typed) coupled.sound.proper h.sound.proper (record { store = coupled.store; old = coupled.old_sound.proper }) h.scales.proper.reduced in
      let three = consume_sign b a start sc k u h.sound.nonnegative in
      let first = both_kept {G = IsGiven b c.program.layout} (λ d given. (given.fits, given.proper)) one two in
      let all = both_kept {G = IsGiven b c.program.layout} (λ d given. (given, tt)) first three in
      any_run (λ d given. given) (λ u h. record { fits = h.0.0; proper = h.0.1; nonnegative = h.1 }) all

  whole : {n m : ℕ} {E : Env} {run : List BChoice → r.Run} (a : e.Assertion) (u : State) → IsAssertion c a → IsConsuming b c p left start sc scale k n u E →
      AreAlongside ⊤ b c.program.layout (IsGrown c left n m E) (consume b a start sc k u) run → AreAlongside ⊤ b c.program.layout (IsConsumed b c n m left E) (consume b a start sc k u) run
  whole a u typed before h = law_alongside ⊤ b c.program.layout (sound_run a u typed before) (λ w F sound grown. record { kept = grown.kept; maps = grown.maps; sound = sound }) h

  -- the amount of an accessibility predicate is read, and proper
  amount_reads : (g : Guard) (m : e.Amt) {n : ℕ} {u : State} {E : Env} → IsAmount c m → IsConsuming b c p left start sc scale k n u E → AmountReads ts b c p left g start sc scale k m
  amount_reads g (e.Is a) (y.amount typed) h = (expression ts b c p g start sc a ty.Perm formed typed, proper_amount b c formed h.coupled typed)
  amount_reads g e.Wildcard typed h = tt

  pub assertion_consumed : (g : Guard) (u : State) (a : e.Assertion) → IsAssertion c a → Acts ts b c p sc way g (consume_code (kinds_in c) p left g scale a) u (consume b a start sc k u)
  assertion_consumed g u (e.Fact a at) (y.fact typed) = record {
    alongside = λ n E before ready.
        let coupled = before.coupled in
        let first = code (kinds_in c) p g a in let x = first n in let n1 = x.next in
        let low : n ≤ n1 = omega (arith, (code_counted (kinds_in c) p g a).next n) in
        let l = label p at kind.Fact in
        let go : Truth → Evaluated State = λ holds. if holds then is_end u else fails sc at kind.Fact in
        ended_alongside ⊤ b c.program.layout _ (λ cs.
        emit_alike ts b first (λ x. puts g (one (stmt.Assert l x.expr))) n E cs (truth_in b a start sc) go
        (bool_alike (λ w F z. z.typed) ((expression ts b c p g start sc a ty.Bool formed typed).alike n E cs coupled (record { awake = ready.awake; full = ready.full; locals = locals_first ts n x.locals [] ready.locals })))
        (λ q F rest z.
        alike_run (guarded_awake ts b g n1 (one (stmt.Assert l x.value.expr)) F rest (awake_kept g low z.kept ready.awake) ∙ assert_run ts b l x.value.expr q stmt.skip F rest (z.here F (λ i below. refl)))
        (by_truth F rest coupled.at q (way.itself low z.kept before))));
  }
    where
      by_truth : {Q : State → Env → Type 0} (F : Env) (cs : List BChoice) → p.at ≡ sc.at → (q : Truth) → Q u F →
          Alike Q b (if q then is_end u else fails sc at kind.Fact) cs (if q then Done F cs else Stops (r.Failed (label p at kind.Fact)) cs)
      by_truth F cs same true h = is_alike h
      by_truth F cs same false h = fails_alike p sc at kind.Fact same
  assertion_consumed g u (e.Acc a f m at) (y.access {u = z} typed there exact) = record {
    alongside = λ n E before ready.
        let coupled = before.coupled in
        let first = code (kinds_in c) p g a in let x = first n in let n1 = x.next in
        let go = λ (x : Operand). then_emit (amount_code (kinds_in c) p g m) (λ q. then_emit (field_target f x) (consume_amount p left g scale at m q)) in
        let last = go x.value n1 in
        let counted = code_counted (kinds_in c) p g a in
        let low : n ≤ n1 = omega (arith, counted.next n) in
        whole (e.Acc a f m at) u (y.access typed there exact) before (
        emit_alongside ⊤ ts b c.program.layout first go n E (meaning.place_in b a f start sc) (meaning.consume_amount b m start sc k at u)
        (λ cs. made_alike (resource.Place f) (ref_alike (λ w F z. z.typed) ((expression ts b c p g start sc a ty.Ref formed typed).alike n E cs coupled (record { awake = ready.awake; full = ready.full; locals = locals_first ts n x.locals last.locals ready.locals }))))
        (λ w F made.
        let q = made.1.1 in let now = way.later low q.kept before in
        same_alongside ⊤ b c.program.layout (ap (meaning.consume_amount b m start sc k at u) made.1.0) (
        weaken_alongside ⊤ b c.program.layout (λ w G grown. grown_after low q.kept grown)
        (amount_consumed ts b c p left g start sc scale k own at n1 F u now.coupled now.maps now.sound now.scales (field_target f x.value) (resource.Place f made.0)
        (field_aims ts b c.program.layout n1 F f made.0 z x.value there (record { value = q.here })) m (amount_reads g m exact before) (ready_rest ts g n n1 x.locals last.locals E F (counted.next n) q.kept ready)))));
  }
  assertion_consumed g u (e.Inst q args m at) (y.instance d there typed exact) = record {
    alongside = λ n E before ready.
        let coupled = before.coupled in
        let first = codes (kinds_in c) p g args in let x = first n in let n1 = x.next in
        let go = λ (xs : List Operand). then_emit (amount_code (kinds_in c) p g m) (λ z. then_emit (instance_target q xs) (consume_amount p left g scale at m z)) in
        let last = go x.value n1 in
        let counted = codes_counted (kinds_in c) p g args in
        let low : n ≤ n1 = omega (arith, counted.next n) in
        let keys = keys_at c formed q d there in
        let no_perm = (predicate_of_typed c.program formed.typed q d there).params in
        whole (e.Inst q args m at) u (y.instance d there typed exact) before (
        emit_alongside ⊤ ts b c.program.layout first go n E (meaning.instance_in b q args start sc) (meaning.consume_amount b m start sc k at u)
        (λ cs. made_alike (resource.Instance q) (key_alike no_perm ((arguments ts b c p g start sc args d.params formed typed).alike n E cs coupled (record { awake = ready.awake; full = ready.full; locals = locals_first ts n x.locals last.locals ready.locals }))))
        (λ w F made.
        let found = made.1.1 in let now = way.later low found.valued.kept before in
        same_alongside ⊤ b c.program.layout (ap (meaning.consume_amount b m start sc k at u) made.1.0) (
        weaken_alongside ⊤ b c.program.layout (λ w G grown. grown_after low found.valued.kept grown)
        (amount_consumed ts b c p left g start sc scale k own at n1 F u now.coupled now.maps now.sound now.scales (instance_target q x.value) (resource.Instance q made.0)
        (instance_aims ts b c.program.layout n1 F q made.0 d.params x.value found.values keys found.fits found.is_key found.valued.values) m (amount_reads g m exact before)
        (ready_rest ts g n n1 x.locals last.locals E F (counted.next n) found.valued.kept ready)))));
  }
  assertion_consumed g u (e.And a d) (y.both typed typed2) =
      both_act ts b c p sc way g (consume_code (kinds_in c) p left g scale a) (consume_code (kinds_in c) p left g scale d) u (consume b a start sc k u) (consume b d start sc k) (consume_counted (kinds_in c) p left g scale a)
      (consume_counted (kinds_in c) p left g scale d) (assertion_consumed g u a typed) (λ w. assertion_consumed g w d typed2)
  assertion_consumed g u (e.Implies a d) (y.implied typed typed2) =
      implied_acts ts b c p sc way g a (λ h. consume_code (kinds_in c) p left h scale d) u (consume b d start sc k u) (λ s. expression ts b c p g s sc a ty.Bool formed typed) (λ h. consume_counted (kinds_in c) p left h scale d)
      (λ i. consume_sleeps (kinds_in c) p left i scale d refl) (λ i. assertion_consumed (Some i) u d typed2)
  assertion_consumed g u (e.ChooseAssertion a d f) (y.chosen typed typed1 typed2) =
      chosen_acts ts b c p sc way g a (λ h. consume_code (kinds_in c) p left h scale d) (λ h. consume_code (kinds_in c) p left h scale f) u (consume b d start sc k u) (consume b f start sc k u)
      (λ s. expression ts b c p g s sc a ty.Bool formed typed) (λ h. consume_counted (kinds_in c) p left h scale d) (λ h. consume_counted (kinds_in c) p left h scale f)
      (λ i. consume_sleeps (kinds_in c) p left i scale d refl) (λ i. consume_sleeps (kinds_in c) p left i scale f refl) (λ i. assertion_consumed (Some i) u d typed1) (λ i. assertion_consumed (Some i) u f typed2)
