-- The code of producing an assertion ends as producing does, from what its parts do.
use Rattle.std.specs.Bool.{⊤}
use Rattle.std.proofs.Common.{◌≡◌, ◌+◌, ◌<◌, ◌≤◌, ℕ, Bool as Truth, true, false, not, List, [], ◌∷◌, ◌++◌, length, slice_get, slice_set, if◌then◌else◌, refl, sym, ap, subst, ◌∙◌, arith}
use Rattle.std.proofs.lemmas.Option.{slice_get_within}
use Rattle.std.proofs.lemmas.Bool.{true≢false}
use Rattle.vb_base.specs.declared.labels.Kind.TheVariants as kind
use Rattle.vb_base.specs.declared.places.Pos.{Pos}
use Rattle.vb_value.specs.Bound.{Bound}
use Rattle.vb_value.specs.Layout.{Layout}
use Rattle.vb_value.specs.Fraction.{Fraction, IsProperFraction, is_negative, is_positive, is_none}
use Rattle.vb_value.proofs.SignLaws.{positive_not_negative}
use Rattle.vb_value.specs.declared.values.Ty.{Ty}
use Rattle.vb_value.specs.declared.values.Ty.TheVariants as ty
use Rattle.viper_core.specs.Expr as e
use Rattle.viper_core.specs.Typing.{Context}
use Rattle.viper_state.specs.State.{State}
use Rattle.viper_state.specs.Run.{Scene}
use Rattle.viper_meaning.specs.Assertions as meaning
use Rattle.viper_meaning.specs.Ends.{is as is_end}
use Rattle.viper_meaning.specs.Kept.{Keeps, IsAny}
use Rattle.viper_meaning.specs.Resource.{Resource}
use Rattle.viper_meaning.specs.Value.{value, perm_in}
use Rattle.boogie_tree.specs.Expr as t
use Rattle.boogie_tree.specs.Program.{BType}
use Rattle.boogie_tree.specs.Stmt.{BStmts}
use Rattle.boogie_tree.specs.Value.{BChoice, One, Real}
use Rattle.boogie_tree.specs.Values.{plain_type}
use Rattle.boogie_tree.specs.declared.exprs.BBase.TheVariants as base
use Rattle.boogie_meaning.specs.Run as r
use Rattle.boogie_meaning.specs.Run.{Done, brun}
use Rattle.boogie_meaning.proofs.PatternLaws.{set_here}
use Rattle.moves.specs.Scalars.{scalar}
use Rattle.enc_expr.specs.Place.{Place, Maps, IsLocalOf}
use Rattle.enc_expr.specs.Kinds.{kinds_in}
use Rattle.enc_expr.specs.Code.{Emitting, join, then_emit, Guard, guarded, puts}
use Rattle.enc_expr.specs.Pieces.{atomic, label, check_nonnegative}
use Rattle.enc_expr.specs.Encoding.{code, amount_code}
use Rattle.enc_expr.specs.Coupling.{Env, IsSound, IsCoupled, IsAwake, AreLocals, IsReady}
use Rattle.enc_expr.specs.Alike.{Alike, Kept, IsValued, HasAtom, IsScale, variable}
use Rattle.enc_expr.proofs.Simulated.{Simulates}
use Rattle.enc_expr.proofs.RunLaws.{join_done, guarded_awake}
use Rattle.enc_expr.proofs.AlikeLaws.{weaken_alike, kept_alike}
use Rattle.enc_expr.proofs.FrameLaws.{kept_then, kept_set, kept_but_then, but_less, own_apart, singles_but, locals_first, locals_rest, coupled_kept, coupled_changed, ready_rest}
use Rattle.enc_expr.proofs.CodeLaws.{code_counted, atomic_counted}
use Rattle.enc_expr.proofs.AtomLaws.{Holds, holds_more, atomic_set}
use Rattle.enc_expr.proofs.AmountLaws.{check_nonnegative_run}
use Rattle.enc_expr.proofs.OpeningLaws.{alike_run, alike_of, unless_alike, fails_alike, stops_first}
use Rattle.enc_expr.proofs.UnfoldingLaws.{emit_alike, quiet_alike, atomic_quiet, perm_alike}
use Rattle.enc_expr.proofs.FillLaws.{positive_unless_none}
use Rattle.enc_expr.proofs.ChoiceLaws.{scale_kept}
use Rattle.enc_assert.specs.Target.{AccessTarget, Aimed}
use Rattle.enc_assert.specs.Encoding.{more_held, gives_code, gives_some, produce_amount}
use Rattle.enc_assert.specs.Held.{IsHeldLocalOf, IsGrowing}
use Rattle.enc_assert.specs.Alongside.{AreAlongside}
use Rattle.enc_assert.proofs.AlongsideLaws.{run_alongside, ended_alongside}
use Rattle.enc_assert.proofs.ChosenLaws.{some_alongside}
use Rattle.enc_assert.proofs.TargetLaws.{Aims, field, instance, aimed}
use Rattle.enc_assert.proofs.AimLaws.{CanAim, aims_more}
use Rattle.enc_assert.proofs.GiveLaws.{IsGrown, instance_given, place_given}

-- ---- what stays

pub held_is_local : {layout : Layout} {l : Maps} (x : ℕ) → IsHeldLocalOf layout l x → IsLocalOf layout l x
held_is_local x h = record { spot = h.spot; kind = tt; exists = h.exists; there = h.there }

pub grown_after : {c : Context} {l : Maps} {n m j : ℕ} {E F G : Env} {s : State} → n ≤ m → Kept n E F → IsGrown c l m j F s G → IsGrown c l n j E s G
grown_after within kept h = record { kept = kept_but_then within kept h.kept; maps = h.maps }

-- where what is held now is sound, all is coupled again
pub grown_coupled : (b : Bound) (c : Context) (n m : ℕ) (p : Place) (s less : State) (sc : Scene) (E F : Env) → IsGrowing c p → n ≤ m → IsCoupled b c n p s sc E → IsSound b c.program.layout less →
    IsGrown c p.now n m E less F → IsCoupled b c m p less sc F
grown_coupled b c n m p s less sc E F own within coupled sound h =
    let singles = singles_but c.program.layout n n p.now s E F coupled.now (but_less held_is_local h.kept) in
    coupled_changed b c n m p p.now s less sc E F within
    (λ i named below.
    let it = coupled.vars named.variable named.ty named.visible named.typed in
    subst (λ j. slice_get F j ≡ slice_get E j) (sym named.there) (singles.same _ (scalar it.v) it.below it.here ∙ sym it.here))
    (λ i named below. h.kept.same i below (λ mine. own_apart own named mine))
    h.maps sound coupled

-- ---- an amount

module _ (ts : List BType) (b : Bound) (c : Context) (p : Place) (g : Guard) (s : State) (sc : Scene) (scale : t.BExpr) (k : Fraction) where
  -- an expression of this type, read in the state
  abbrev pub Reads : e.Expr → Ty → Type 0
  Reads a u = Simulates ts b c p g s sc (code (kinds_in c) p g a) (value b a s sc) (λ n m x E. IsValued b n m x u E)

  -- an amount that is written is read, and proper
  abbrev pub AmountReads : e.Amt → Type 0
  AmountReads (e.Is a) = Reads a ty.Perm × Keeps IsAny (IsProperFraction b) (perm_in b a s sc)
  AmountReads e.Wildcard = ⊤

  -- so much more of what is aimed at
  given_more : (own : IsGrowing c p) (n : ℕ) (E : Env) (coupled : IsCoupled b c n p s sc E) (scales : IsScale b n E scale k) (q : t.BExpr) (w : Fraction) (atom : HasAtom n E q (Real w)) (proper : IsProperFraction b w) (at : Pos)
      (y : AccessTarget) (x : Resource) → Aims c.program.layout n E y x → is_negative w ≡ false → (cs : List BChoice) →
      Alike (IsGrown c p.now n n E) b (if is_none w then is_end s else meaning.more_held b k x at s w) cs (brun ts b (more_held p.now scale y q) E cs)
  given_more own n E coupled scales q w atom proper at _ _ (field there ref) sign cs =
      place_given ts b c p.now n n s E coupled.now coupled.sound k scale scales q w atom proper at ref (aimed b c n n p.now s E own coupled.now coupled.sound (field there ref)) cs sign
  given_more own n E coupled scales q w atom proper at _ _ (instance there fits located is_key) sign cs =
      instance_given ts b c p.now n n s E coupled.now coupled.sound k scale scales q w atom proper at
      (aimed b c n n p.now s E own coupled.now coupled.sound (instance there fits located is_key)) cs

  -- an amount that is written: a negative one fails
  given_alike : (own : IsGrowing c p) (n : ℕ) (E : Env) (coupled : IsCoupled b c n p s sc E) (scales : IsScale b n E scale k) (q : t.BExpr) (w : Fraction) (atom : HasAtom n E q (Real w)) (proper : IsProperFraction b w) (at : Pos)
      (y : AccessTarget) (x : Resource) → Aims c.program.layout n E y x → (cs : List BChoice) →
      Alike (IsGrown c p.now n n E) b (meaning.given_to b sc k x at s w) cs (brun ts b (gives_code p scale at y q) E cs)
  given_alike own n E coupled scales q w atom proper at y x aims cs =
      let l = label p at kind.Negative in
      let check = check_nonnegative_run ts b n l q w E cs atom proper in
      unless_alike (is_negative w)
      (λ negative. alike_run (stops_first ts b (check_nonnegative l q) (more_held p.now scale y q) E (r.Failed l) cs cs (check.1 negative)) (fails_alike p sc at kind.Negative coupled.at))
      (λ sign. alike_run (join_done ts b (check_nonnegative l q) (more_held p.now scale y q) E E cs cs (check.0 sign)) (given_more own n E coupled scales q w atom proper at y x aims sign cs))

  -- a row of code, behind what sets the target and the amount
  pub set_run : (n : ℕ) (E : Env) {F G : Env} (y z xs : BStmts) (cs : List BChoice) → IsAwake g n E → ((ds : List BChoice) → brun ts b y E ds ≡ Done F ds) → ((ds : List BChoice) → brun ts b z F ds ≡ Done G ds) →
      brun ts b (guarded g (join y (join z xs))) E cs ≡ brun ts b xs G cs
  set_run n E {F} {G} y z xs cs awake first second =
      guarded_awake ts b g n (join y (join z xs)) E cs awake ∙ join_done ts b y (join z xs) E F cs cs (first cs) ∙ join_done ts b z xs F G cs cs (second cs)

  module _ (own : IsGrowing c p) (at : Pos) (n : ℕ) (E : Env) (coupled : IsCoupled b c n p s sc E) (scales : IsScale b n E scale k) (tg : Emitting Aimed) (x : Resource) (aim : CanAim ts b c.program.layout n E tg x) where
    -- an amount that is written
    exact_alongside : (a : e.Expr) → Reads a ty.Perm → Keeps IsAny (IsProperFraction b) (perm_in b a s sc) →
        (let z = then_emit (amount_code (kinds_in c) p g (e.Is a)) (λ m. then_emit tg (produce_amount p g scale at (e.Is a) m)) n in IsReady ts g n z.locals E →
        AreAlongside ⊤ b c.program.layout (IsGrown c p.now n z.next E) (meaning.produce_amount b (e.Is a) sc k at s x) (λ cs. brun ts b z.stmts E cs))
    exact_alongside a reads proper = λ ready.
        let first = code (kinds_in c) p g a in let m = first n in let n1 = m.next in
        let t1 = tg n1 in let n2 = t1.next in let q = atomic m.value n2 in let n3 = q.next in
        let counted = code_counted (kinds_in c) p g a in
        let low : n ≤ n1 = omega (arith, counted.next n) in let mid : n1 ≤ n2 = omega (arith, aim.counted.next n1) in let high : n2 ≤ n3 = omega (arith, (atomic_counted m.value).next n2) in
        let rest = t1.locals ++ (q.locals ++ []) in
        ended_alongside ⊤ b c.program.layout _ (λ cs.
        emit_alike ts b first (λ m. then_emit tg (produce_amount p g scale at (e.Is a) m)) n E cs (perm_in b a s sc) (meaning.given_to b sc k x at s)
        (kept_alike proper (perm_alike (λ w F z. z.typed) (reads.alike n E cs coupled (record { awake = ready.awake; full = ready.full; locals = locals_first ts n m.locals rest ready.locals }))))
        (λ w F left z.
        let ready1 = ready_rest ts g n n1 m.locals rest E F (counted.next n) z.0.kept ready in
        let at_q : AreLocals ts n2 (q.locals ++ []) = subst (λ i. AreLocals ts i (q.locals ++ [])) (aim.counted.next n1) (locals_rest ts n1 t1.locals (q.locals ++ []) ready1.locals) in
        let set1 = aim.set n1 F low z.0.kept.same ready1.full (locals_first ts n1 t1.locals (q.locals ++ []) ready1.locals) in
        let G = set1.after in let k1 = set1.sets.kept in
        let held : Holds b n1 m.value.expr F (Real w) = record { value = z.0.here } in
        let set2 = atomic_set ts b n2 G (k1.length ∙ ready1.full) m.value (Real w) (holds_more mid k1.same held) (locals_first ts n2 q.locals [] at_q) in
        let H = set2.after in let k2 = set2.sets.kept in
        let kept : Kept n E H = kept_then low z.0.kept (kept_then {F = G} mid k1 k2) in
        let within : n ≤ n3 = omega (arith, low, mid, high) in
        quiet_alike ts b tg (produce_amount p g scale at (e.Is a) m.value) n1 F left (aim.quiet n1) (
        quiet_alike ts b (atomic m.value) (λ q. puts g (join t1.value.sets (join q.sets (gives_code p scale at t1.value.target q.expr)))) n2 F left (atomic_quiet m.value n2) (
        alike_run (set_run n1 F t1.value.sets q.value.sets (gives_code p scale at t1.value.target q.value.expr) left ready1.awake set1.sets.done set2.sets.done)
        (weaken_alike (λ t I grown. grown_after within kept grown)
        (given_alike own n3 H (coupled_kept b c n n3 p s sc E H within kept coupled) (scale_kept within kept scales) q.value.expr w set2.atom z.1 at t1.value.target x (aims_more high k2.same set1.aims) left))))))

    -- an amount that is chosen
    chosen_alongside : (let z = then_emit (amount_code (kinds_in c) p g e.Wildcard) (λ m. then_emit tg (produce_amount p g scale at e.Wildcard m)) n in IsReady ts g n z.locals E →
        AreAlongside ⊤ b c.program.layout (IsGrown c p.now n z.next E) (meaning.produce_amount b e.Wildcard sc k at s x) (λ cs. brun ts b z.stmts E cs))
    chosen_alongside = λ ready.
        let t1 = tg n in let n1 = t1.next in let own_type = plain_type base.Real in
        let low : n ≤ n1 = omega (arith, aim.counted.next n) in
        let locals : AreLocals ts n1 (own_type ∷ []) = subst (λ i. AreLocals ts i (own_type ∷ [])) (aim.counted.next n) (locals_rest ts n t1.locals (own_type ∷ []) ready.locals) in
        let set1 = aim.set n E (omega arith) (λ i below. refl) ready.full (locals_first ts n t1.locals (own_type ∷ []) ready.locals) in
        let F = set1.after in let k1 = set1.sets.kept in
        let long : n1 < length F = omega (arith, slice_get_within ts n1 own_type locals.0, k1.length, ready.full) in
        let row = gives_some p scale t1.value.target n1 in
        let more = more_held p.now scale t1.value.target (t.Var n1) in
        let run : (cs : List BChoice) → brun ts b (join (tg n).stmts (guarded g (join t1.value.sets row))) E cs ≡ brun ts b row F cs =
        λ cs. ap (λ xs. brun ts b (join xs (guarded g (join t1.value.sets row))) E cs) (aim.quiet n) ∙ guarded_awake ts b g n (join t1.value.sets row) E cs ready.awake ∙ join_done ts b t1.value.sets row E F cs cs (set1.sets.done cs) in
        run_alongside ⊤ b c.program.layout run (some_alongside ts b c.program.layout n1 F locals.0 long more (meaning.more_held b k x at s) (λ w proper sign ds.
        let G = slice_set F n1 (One (Real w)) in
        let k2 : Kept n1 F G = kept_set n1 n1 (One (Real w)) F (omega arith) in
        let kept : Kept n E G = kept_then low k1 k2 in
        let within : n ≤ n1 + 1 = omega (arith, low) in
        let atom : HasAtom (n1 + 1) G (t.Var n1) (Real w) = variable (omega arith) (set_here F n1 (One (Real w)) long) in
        weaken_alike (λ u I grown. grown_after within kept grown)
        (alike_of (some_is_given w sign) (given_more own (n1 + 1) G (coupled_kept b c n (n1 + 1) p s sc E G within kept coupled) (scale_kept within kept scales) (t.Var n1) w atom proper at t1.value.target x
        (aims_more (omega arith) k2.same set1.aims) (positive_not_negative w sign) ds))))
      where
        some_is_given : (w : Fraction) → is_positive w ≡ true → meaning.more_held b k x at s w ≡ (if is_none w then is_end s else meaning.more_held b k x at s w)
        some_is_given w sign = by_none (is_none w) refl
          where
            by_none : (z : Truth) → is_none w ≡ z → meaning.more_held b k x at s w ≡ (if z then is_end s else meaning.more_held b k x at s w)
            by_none true e = absurd (true≢false (sym sign ∙ positive_unless_none w (positive_not_negative w sign) ∙ ap not e))
            by_none false e = refl

    -- either
    pub amount_produced : (a : e.Amt) → AmountReads a → (let z = then_emit (amount_code (kinds_in c) p g a) (λ m. then_emit tg (produce_amount p g scale at a m)) n in IsReady ts g n z.locals E →
        AreAlongside ⊤ b c.program.layout (IsGrown c p.now n z.next E) (meaning.produce_amount b a sc k at s x) (λ cs. brun ts b z.stmts E cs))
    amount_produced (e.Is a) h = exact_alongside a h.0 h.1
    amount_produced e.Wildcard h = chosen_alongside
