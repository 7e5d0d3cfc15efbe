-- The code of producing an assertion ends as producing does, in both directions.
use Rattle.std.specs.Bool.{⊤}
use Rattle.std.proofs.Common.{◌≤◌, ℕ, Bool as Truth, true, false, List, [], Some, if◌then◌else◌, refl, ap, ◌∙◌, arith}
use Rattle.vb_value.specs.Bound.{Bound}
use Rattle.vb_value.specs.Fraction.{Fraction}
use Rattle.vb_value.proofs.SignLaws.{positive_not_negative}
use Rattle.vb_value.specs.declared.values.Ty.TheVariants as ty
use Rattle.viper_core.specs.Expr as e
use Rattle.viper_core.specs.Formed.{IsFormed}
use Rattle.viper_core.specs.Typing as y
use Rattle.viper_core.specs.Typing.{Context, IsAmount, IsAssertion}
use Rattle.viper_core.proofs.FormedLaws.{predicate_of_typed}
use Rattle.viper_meaning.proofs.TypedLaws.{keys_at}
use Rattle.viper_core.proofs.LiteralLaws.{assertion_literals, literals_proper}
use Rattle.viper_state.specs.Fits.{FitsStore}
use Rattle.viper_state.specs.State.{State}
use Rattle.viper_state.specs.Run.{Scene}
use Rattle.viper_meaning.specs.Assertions as meaning
use Rattle.viper_meaning.specs.Assertions.{produce}
use Rattle.viper_meaning.specs.Ends.{Evaluated, is as is_end, blocks}
use Rattle.viper_meaning.specs.Kept.{IsAny}
use Rattle.viper_meaning.specs.KeptRuns.{KeepsRun}
use Rattle.viper_meaning.specs.Resource as resource
use Rattle.viper_meaning.specs.Value.{truth_in}
use Rattle.viper_meaning.proofs.RunFitsLaws.{produce_fits}
use Rattle.viper_meaning.proofs.RunSignLaws.{produce_sign}
use Rattle.viper_meaning.proofs.RunWithinLaws.{produce_proper}
use Rattle.boogie_tree.specs.Expr as t
use Rattle.boogie_tree.specs.Program.{BType}
use Rattle.boogie_tree.specs.Stmt as stmt
use Rattle.boogie_tree.specs.Value.{BChoice}
use Rattle.boogie_meaning.specs.Run as r
use Rattle.boogie_meaning.specs.Run.{Done, Stops}
use Rattle.enc_expr.specs.Place.{Place}
use Rattle.enc_expr.specs.Kinds.{kinds_in}
use Rattle.enc_expr.specs.Code.{then_emit, Guard, puts}
use Rattle.enc_expr.specs.Pieces.{Operand, one}
use Rattle.enc_expr.specs.Encoding.{code, codes, amount_code}
use Rattle.enc_expr.specs.Coupling.{Env, IsSound, IsCoupled}
use Rattle.enc_expr.specs.Alike.{Alike, KeptBut, IsScale}
use Rattle.enc_expr.proofs.RunLaws.{guarded_awake, assume_run}
use Rattle.enc_expr.proofs.AlikeLaws.{is_alike}
use Rattle.enc_expr.proofs.FrameLaws.{Singles, singles_but, scale_single, but_from, but_less, but_then, kept_but_then, then_kept_but, locals_first, coupled_kept, awake_kept, ready_rest}
use Rattle.enc_expr.proofs.CodeLaws.{code_counted, codes_counted}
use Rattle.enc_expr.proofs.OpeningLaws.{alike_run}
use Rattle.enc_expr.proofs.UnfoldingLaws.{emit_alike}
use Rattle.enc_expr.proofs.FillLaws.{stopped_first}
use Rattle.enc_expr.proofs.BodyLaws.{ref_alike}
use Rattle.enc_expr.proofs.ChoiceLaws.{scale_kept}
use Rattle.enc_expr.proofs.Simulation.{expression, arguments, proper_amount}
use Rattle.enc_assert.specs.Encoding.{produce_amount, produce_code, field_target, instance_target}
use Rattle.enc_assert.specs.Held.{IsHeldLocalOf, IsGrowing, IsProduced}
use Rattle.enc_assert.specs.Alongside.{IsGiven, AreAlongside}
use Rattle.enc_assert.proofs.AlongsideLaws.{same_alongside, ended_alongside, law_alongside, weaken_alongside}
use Rattle.enc_assert.proofs.AimLaws.{field_aims, instance_aims}
use Rattle.enc_assert.proofs.GiveLaws.{IsGrown}
use Rattle.enc_assert.proofs.GoingLaws.{emit_alongside}
use Rattle.enc_assert.proofs.WayLaws.{bool_alike, made_alike, key_alike, both_kept, any_run, Way, Acts, both_act, implied_acts, chosen_acts}
use Rattle.enc_assert.proofs.ProduceLaws.{held_is_local, grown_after, grown_coupled, AmountReads, amount_produced}
use Rattle.enc_assert.proofs.WrittenLaws.{produce_counted, produce_sleeps}

-- ---- what is no map stays while permission is produced

pub held_singles : {b : Bound} {c : Context} (n : ℕ) (p : Place) (s : State) (sc : Scene) (E F : Env) → IsCoupled b c n p s sc E → KeptBut (IsHeldLocalOf c.program.layout p.now) n E F → Singles n E F
held_singles {c = c} n p s sc E F coupled kept = singles_but c.program.layout n n p.now s E F coupled.now (but_less held_is_local kept)

-- ---- the simulation

-- the state is coupled, and the local of the scale holds it
pub record IsProducing (b : Bound) (c : Context) (p : Place) (sc : Scene) (scale : t.BExpr) (k : Fraction) (n : ℕ) (u : State) (E : Env) : Type 0 where
  pub coupled : IsCoupled b c n p u sc E
  pub scales : IsScale b n E scale k

-- each expression is read in the state that is produced so far
abbrev pub producing : (b : Bound) (c : Context) (p : Place) (sc : Scene) (scale : t.BExpr) (k : Fraction) → Way b c p sc
producing b c p sc scale k = record {
  read_in = λ u. u;
  Before = IsProducing b c p sc scale k;
  After = λ n m E u F. IsProduced b c n m p sc E u F;
  coupled = λ h. h.coupled;
  later = λ within kept h. record { coupled = coupled_kept b c _ _ p _ sc _ _ within kept h.coupled; scales = scale_kept within kept h.scales };
  again = λ within h after. record { coupled = after.coupled; scales = scale_single within (held_singles _ p _ sc _ _ h.coupled after.kept) h.scales };
  singles = λ h after. held_singles _ p _ sc _ _ h.coupled after.kept;
  length = λ after. after.kept.length;
  itself = λ within kept h. record { kept = but_from kept; coupled = coupled_kept b c _ _ p _ sc _ _ within kept h.coupled };
  behind = λ within kept after. record { kept = kept_but_then within kept after.kept; coupled = after.coupled };
  before = λ within more after kept. record { kept = then_kept_but within after.kept kept; coupled = coupled_kept b c _ _ p _ sc _ _ more kept after.coupled };
  both = λ within after more. record { kept = but_then within after.kept more.kept; coupled = more.coupled };
}

module _ (ts : List BType) (b : Bound) (c : Context) (formed : IsFormed c.program) (p : Place) (own : IsGrowing c p) (sc : Scene) (fits : FitsStore c.vars sc.store) (scale : t.BExpr) (k : Fraction) where
  abbrev Sound : State → Type 0
  Sound = IsSound b c.program.layout

  -- what is produced keeps the state sound
  sound_run : {n : ℕ} {E : Env} (a : e.Assertion) (s : State) → IsAssertion c a → IsCoupled b c n p s sc E → IsScale b n E scale k → KeepsRun IsAny (IsGiven b c.program.layout) Sound (produce b a sc k s)
  sound_run a s typed coupled scales =
      let one = produce_fits b c formed a sc k s typed coupled.sound.fits (record { store = fits; old = coupled.old_sound.fits }) scales.proper.reduced in
      let two = produce_proper b a sc k s (assertion_literals _ _ (literals_proper b) c formed.typed typed) coupled.sound.proper (record { store = coupled.store; old = coupled.old_sound.proper }) scales.proper.reduced in
      let three = produce_sign b a sc k s (positive_not_negative k scales.positive) coupled.sound.nonnegative in
      let first = both_kept {G = IsGiven b c.program.layout} (λ d given. (given.fits, given.proper)) one two in
      let all = both_kept {G = IsGiven b c.program.layout} (λ d given. (given, tt)) first three in
      any_run (λ d given. given) (λ u h. record { fits = h.0.0; proper = h.0.1; nonnegative = h.1 }) all

  -- and all is coupled again
  whole : {n m : ℕ} {E : Env} {run : List BChoice → r.Run} (a : e.Assertion) (s : State) → n ≤ m → IsAssertion c a → IsCoupled b c n p s sc E → IsScale b n E scale k →
      AreAlongside ⊤ b c.program.layout (IsGrown c p.now n m E) (produce b a sc k s) run → AreAlongside ⊤ b c.program.layout (IsProduced b c n m p sc E) (produce b a sc k s) run
  whole {n} {m} {E} a s within typed coupled scales h =
      law_alongside ⊤ b c.program.layout (sound_run a s typed coupled scales) (λ u F sound grown. record { kept = grown.kept; coupled = grown_coupled b c n m p s u sc E F own within coupled sound grown }) h

  -- the amount of an accessibility predicate is read, and proper
  amount_reads : (g : Guard) (s : State) (m : e.Amt) {n : ℕ} {E : Env} → IsAmount c m → IsCoupled b c n p s sc E → AmountReads ts b c p g s sc scale k m
  amount_reads g s (e.Is a) (y.amount typed) coupled = (expression ts b c p g s sc a ty.Perm formed typed, proper_amount b c formed coupled typed)
  amount_reads g s e.Wildcard typed coupled = tt

  abbrev way : Way b c p sc
  way = producing b c p sc scale k

  pub assertion_produced : (g : Guard) (s : State) (a : e.Assertion) → IsAssertion c a → Acts ts b c p sc way g (produce_code (kinds_in c) p g scale a) s (produce b a sc k s)
  assertion_produced g s (e.Fact a at) (y.fact typed) = record {
    alongside = λ n E before ready.
        let coupled = before.coupled in let scales = before.scales in
        let first = code (kinds_in c) p g a in let x = first n in let n1 = x.next in
        let low : n ≤ n1 = omega (arith, (code_counted (kinds_in c) p g a).next n) in
        let go : Truth → Evaluated State = λ holds. if holds then is_end s else blocks in
        ended_alongside ⊤ b c.program.layout _ (λ cs.
        emit_alike ts b first (λ x. puts g (one (stmt.Assume x.expr))) n E cs (truth_in b a s sc) go
        (bool_alike (λ w F z. z.typed) ((expression ts b c p g s sc a ty.Bool formed typed).alike n E cs coupled (record { awake = ready.awake; full = ready.full; locals = locals_first ts n x.locals [] ready.locals })))
        (λ q F rest z.
        let produced : IsProduced b c n n1 p sc E s F = record { kept = but_from z.kept; coupled = coupled_kept b c n n1 p s sc E F low z.kept coupled } in
        alike_run (guarded_awake ts b g n1 (one (stmt.Assume x.value.expr)) F rest (awake_kept g low z.kept ready.awake) ∙ assume_run ts b x.value.expr q stmt.skip F rest (z.here F (λ i below. refl)))
        (by_truth F rest q produced)));
  }
    where
      by_truth : {Q : State → Env → Type 0} (F : Env) (cs : List BChoice) (q : Truth) → Q s F → Alike Q b (if q then is_end s else blocks) cs (if q then Done F cs else Stops r.Blocked cs)
      by_truth F cs true h = is_alike h
      by_truth F cs false h = stopped_first cs
  assertion_produced g s (e.Acc a f m at) (y.access {u = u} typed there exact) = record {
    alongside = λ n E before ready.
        let coupled = before.coupled in let scales = before.scales in
        let first = code (kinds_in c) p g a in let x = first n in let n1 = x.next in
        let go = λ (x : Operand). then_emit (amount_code (kinds_in c) p g m) (λ q. then_emit (field_target f x) (produce_amount p g scale at m q)) in
        let last = go x.value n1 in
        let counted = code_counted (kinds_in c) p g a in
        let low : n ≤ n1 = omega (arith, counted.next n) in
        let all = (produce_counted (kinds_in c) p g scale (e.Acc a f m at)).next n in
        whole (e.Acc a f m at) s (omega (arith, all)) (y.access typed there exact) coupled scales (
        emit_alongside ⊤ ts b c.program.layout first go n E (meaning.place_in b a f s sc) (meaning.produce_amount b m sc k at s)
        (λ cs. made_alike (resource.Place f) (ref_alike (λ w F z. z.typed) ((expression ts b c p g s sc a ty.Ref formed typed).alike n E cs coupled (record { awake = ready.awake; full = ready.full; locals = locals_first ts n x.locals last.locals ready.locals }))))
        (λ z F made.
        let ref = made.0 in let q = made.1.1 in
        same_alongside ⊤ b c.program.layout (ap (meaning.produce_amount b m sc k at s) made.1.0) (
        weaken_alongside ⊤ b c.program.layout (λ u G grown. grown_after low q.kept grown)
        (amount_produced ts b c p g s sc scale k own at n1 F (coupled_kept b c n n1 p s sc E F low q.kept coupled) (scale_kept low q.kept scales) (field_target f x.value) (resource.Place f ref)
        (field_aims ts b c.program.layout n1 F f ref u x.value there (record { value = q.here })) m (amount_reads g s m exact coupled) (ready_rest ts g n n1 x.locals last.locals E F (counted.next n) q.kept ready)))));
  }
  assertion_produced g s (e.Inst q args m at) (y.instance d there typed exact) = record {
    alongside = λ n E before ready.
        let coupled = before.coupled in let scales = before.scales in
        let first = codes (kinds_in c) p g args in let x = first n in let n1 = x.next in
        let go = λ (xs : List Operand). then_emit (amount_code (kinds_in c) p g m) (λ z. then_emit (instance_target q xs) (produce_amount p g scale at m z)) in
        let last = go x.value n1 in
        let counted = codes_counted (kinds_in c) p g args in
        let low : n ≤ n1 = omega (arith, counted.next n) in
        let all = (produce_counted (kinds_in c) p g scale (e.Inst q args m at)).next n in
        let keys = keys_at c formed q d there in
        let no_perm = (predicate_of_typed c.program formed.typed q d there).params in
        whole (e.Inst q args m at) s (omega (arith, all)) (y.instance d there typed exact) coupled scales (
        emit_alongside ⊤ ts b c.program.layout first go n E (meaning.instance_in b q args s sc) (meaning.produce_amount b m sc k at s)
        (λ cs. made_alike (resource.Instance q) (key_alike no_perm ((arguments ts b c p g s sc args d.params formed typed).alike n E cs coupled (record { awake = ready.awake; full = ready.full; locals = locals_first ts n x.locals last.locals ready.locals }))))
        (λ z F made.
        let key = made.0 in let found = made.1.1 in let vs = found.values in
        same_alongside ⊤ b c.program.layout (ap (meaning.produce_amount b m sc k at s) made.1.0) (
        weaken_alongside ⊤ b c.program.layout (λ u G grown. grown_after low found.valued.kept grown)
        (amount_produced ts b c p g s sc scale k own at n1 F (coupled_kept b c n n1 p s sc E F low found.valued.kept coupled) (scale_kept low found.valued.kept scales) (instance_target q x.value) (resource.Instance q key)
        (instance_aims ts b c.program.layout n1 F q key d.params x.value vs keys found.fits found.is_key found.valued.values) m (amount_reads g s m exact coupled)
        (ready_rest ts g n n1 x.locals last.locals E F (counted.next n) found.valued.kept ready)))));
  }
  assertion_produced g s (e.And a d) (y.both typed typed2) =
      both_act ts b c p sc way g (produce_code (kinds_in c) p g scale a) (produce_code (kinds_in c) p g scale d) s (produce b a sc k s) (produce b d sc k) (produce_counted (kinds_in c) p g scale a) (produce_counted (kinds_in c) p g scale d)
      (assertion_produced g s a typed) (λ w. assertion_produced g w d typed2)
  assertion_produced g s (e.Implies a d) (y.implied typed typed2) =
      implied_acts ts b c p sc way g a (λ h. produce_code (kinds_in c) p h scale d) s (produce b d sc k s) (λ s. expression ts b c p g s sc a ty.Bool formed typed) (λ h. produce_counted (kinds_in c) p h scale d)
      (λ i. produce_sleeps (kinds_in c) p i scale d refl) (λ i. assertion_produced (Some i) s d typed2)
  assertion_produced g s (e.ChooseAssertion a d f) (y.chosen typed typed1 typed2) =
      chosen_acts ts b c p sc way g a (λ h. produce_code (kinds_in c) p h scale d) (λ h. produce_code (kinds_in c) p h scale f) s (produce b d sc k s) (produce b f sc k s) (λ s. expression ts b c p g s sc a ty.Bool formed typed)
      (λ h. produce_counted (kinds_in c) p h scale d) (λ h. produce_counted (kinds_in c) p h scale f) (λ i. produce_sleeps (kinds_in c) p i scale d refl) (λ i. produce_sleeps (kinds_in c) p i scale f refl)
      (λ i. assertion_produced (Some i) s d typed1) (λ i. assertion_produced (Some i) s f typed2)
