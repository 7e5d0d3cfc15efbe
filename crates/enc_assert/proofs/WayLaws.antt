-- What goes on in both ways of running an assertion alike: one part and then another, and parts that count under a condition.
use Rattle.std.specs.Bool.{⊤}
use Rattle.std.proofs.Common.{◌≡◌, ◌≢◌, ◌+◌, ◌<◌, ◌≤◌, ℕ, Bool as Truth, true, false, not, List, [], ◌++◌, All, Some, length, slice_get, slice_set, if◌then◌else◌, refl, sym, ap, subst, ◌∙◌, arith}
use Rattle.std.proofs.lemmas.Option.{slice_get_within}
use Rattle.enc_expr.proofs.Simulation.{both_laws, any_law}
use Rattle.vb_value.specs.Bound.{Bound}
use Rattle.vb_value.specs.Value.{type_of}
use Rattle.vb_value.specs.declared.values.Ty.{Ty}
use Rattle.vb_value.specs.declared.values.Ty.TheVariants as ty
use Rattle.vb_value.specs.declared.values.Value.{Value}
use Rattle.vb_value.specs.declared.values.Value.TheVariants as v
use Rattle.viper_core.specs.Expr as e
use Rattle.viper_core.specs.Typing.{Context}
use Rattle.viper_state.specs.Choice.{Choice}
use Rattle.viper_state.specs.Event.{Event}
use Rattle.viper_state.specs.Fits.{FitsKey}
use Rattle.viper_state.specs.State.{Key, State}
use Rattle.viper_state.specs.Run.{Scene}
use Rattle.viper_meaning.specs.Ends.{Evaluated, is as is_end, found, then_with}
use Rattle.viper_meaning.specs.Kept as kept
use Rattle.viper_meaning.specs.Kept.{IsAny}
use Rattle.viper_meaning.specs.KeptRuns.{KeepsRun, at_end, later}
use Rattle.viper_meaning.specs.Operators.{truth_of}
use Rattle.viper_meaning.specs.Places as places
use Rattle.viper_meaning.specs.Run.{Run, goes, evaluating, then_do}
use Rattle.viper_meaning.specs.Value.{as_truth, as_key, value, truth_in}
use Rattle.viper_meaning.proofs.SignLaws.{any_events}
use Rattle.boogie_tree.specs.Expr as t
use Rattle.boogie_tree.specs.Program.{BType}
use Rattle.boogie_tree.specs.Stmt as stmt
use Rattle.boogie_tree.specs.Value as bv
use Rattle.boogie_tree.specs.Value.{BChoice, One}
use Rattle.boogie_meaning.specs.Ends as end
use Rattle.boogie_meaning.specs.Operators as m
use Rattle.boogie_meaning.specs.Value.{scalar_in}
use Rattle.boogie_meaning.specs.Quantified.{bvalue}
use Rattle.boogie_meaning.specs.Run as r
use Rattle.boogie_meaning.specs.Run.{Done, brun}
use Rattle.boogie_meaning.proofs.PatternLaws.{set_here}
use Rattle.enc_expr.specs.Place.{Place}
use Rattle.enc_expr.specs.Kinds.{kinds_in}
use Rattle.enc_expr.specs.Code.{Emitting, join, then_emit, Guard, guards, under}
use Rattle.enc_expr.specs.Pieces.{Operand, one}
use Rattle.enc_expr.specs.Operators.{choose_code}
use Rattle.enc_expr.specs.Encoding.{code}
use Rattle.enc_expr.specs.Coupling.{Env, IsCoupled, AreLocals, IsReady}
use Rattle.enc_expr.specs.Alike.{Alike, Kept, IsValued, AreValued}
use Rattle.enc_expr.proofs.Simulated.{IsCounted, Sleeps, Simulates, AreAsleep, Rests}
use Rattle.enc_expr.proofs.RunLaws.{join_skip, join_run, join_done, assign_run, under_awake, then_done}
use Rattle.enc_expr.proofs.AlikeLaws.{is_alike, then_alike}
use Rattle.enc_expr.proofs.FrameLaws.{Singles, awake_single, kept_then, kept_set, locals_first, locals_rest, awake_kept, ready_rest}
use Rattle.enc_expr.proofs.CodeLaws.{code_counted}
use Rattle.enc_expr.proofs.OpeningLaws.{alike_run}
use Rattle.enc_expr.proofs.FormLaws.{guarded_by, are_guarded}
use Rattle.enc_expr.proofs.BodyLaws.{key_typed}
use Rattle.enc_expr.proofs.ChoiceLaws.{nothing}
use Rattle.enc_assert.specs.Alongside.{AreAlongside}
use Rattle.enc_assert.proofs.AlongsideLaws.{run_alongside, ended_alongside, weaken_alongside, quiet_alongside, each_alongside}
use Rattle.enc_assert.proofs.GoingLaws.{emit_alongside, emit_both}

-- ---- truths and resources

bool_is : {b : Bound} (Q : Value → Env → Type 0) {E : Env} {cs : List BChoice} (w : Value) → type_of w ≡ ty.Bool → Q w E → Alike (λ q F. Q (v.Bool q) F) b (truth_of w) cs (Done E cs)
bool_is Q (v.Bool q) typed h = is_alike h
bool_is Q (v.Int n) typed h = absurd (cc)
bool_is Q (v.Ref r) typed h = absurd (cc)
bool_is Q (v.Perm q) typed h = absurd (cc)

pub bool_alike : {b : Bound} {Q : Value → Env → Type 0} {a : Evaluated Value} {cs : List BChoice} {run : r.Run} → ((w : Value) (E : Env) → Q w E → type_of w ≡ ty.Bool) → Alike Q b a cs run → Alike (λ q E. Q (v.Bool q) E) b (as_truth a) cs run
bool_alike {Q} {run = run} typed h = alike_run (sym (then_done run)) (then_alike h (λ w E rest q. bool_is Q w (typed w E q) q))

-- the value of an evaluation, made into another thing
pub made_alike : {b : Bound} {X Z : Type 0} {Q : X → Env → Type 0} {a : Evaluated X} {cs : List BChoice} {run : r.Run} (make : X → Z) → Alike Q b a cs run → Alike (λ z F. (x : X) × ((z ≡ make x) × Q x F)) b (then_with a (λ x. is_end (make x))) cs run
made_alike {run = run} make h = alike_run (sym (then_done run)) (then_alike h (λ x E rest q. is_alike (x, (refl, q))))

-- values of these types make a key
pub record IsFoundKey (b : Bound) (n m : ℕ) (xs : List Operand) (us : List Ty) (E : Env) (key : Key) (F : Env) : Type 0 where
  pub values : List Value
  pub valued : AreValued b n m xs us E values F
  pub is_key : Some key ≡ places.key_of values
  pub fits : FitsKey us key

pub key_alike : {b : Bound} {n m : ℕ} {xs : List Operand} {us : List Ty} {E : Env} {a : Evaluated (List Value)} {cs : List BChoice} {run : r.Run} → All (λ u. u ≢ ty.Perm) us → Alike (λ vs F. AreValued b n m xs us E vs F) b a cs run →
    Alike (IsFoundKey b n m xs us E) b (as_key a) cs run
key_alike {b} {n} {m} {xs} {us} {E} {run = run} no_perm h = alike_run (sym (then_done run)) (then_alike h (λ vs F rest valued.
    let key = key_typed valued.values no_perm in
    let is_found : IsFoundKey b n m xs us E key.0 F = record { values = vs; valued = valued; is_key = key.1.0; fits = key.1.1 } in
    subst (λ o. Alike (IsFoundKey b n m xs us E) b (found o) rest (Done F rest)) key.1.0 (is_alike is_found)))

-- ---- both guards of a choice

pub choice_run : (ts : List BType) (b : Bound) (c : Context) (p : Place) (g : Guard) (s : State) (sc : Scene) {X Y : Type 0} (x : t.BExpr) (left right : Guard → Emitting X) (both : ℕ → X → X → Y) (q : Truth) (n : ℕ) (E : Env) (cs : List BChoice) →
    bvalue b x E ≡ end.Is (bv.Bool q) → IsReady ts g n (choose_code g x left right both n).locals E →
    (let l = left (Some n) (n + 1 + 1) in let o = right (Some (n + 1)) l.next in brun ts b (choose_code g x left right both n).stmts E cs ≡ brun ts b (join l.stmts o.stmts) (guarded_by ts b c p g s sc E n q) cs)
choice_run ts b c p g s sc x left right both q n E cs here ready =
    let l = left (Some n) (n + 1 + 1) in let o = right (Some (n + 1)) l.next in
    let F1 = slice_set E n (One (bv.Bool q)) in let other = t.Not (t.Var n) in let rest = join l.stmts (join o.stmts stmt.skip) in
    let within : n < length E = omega (arith, slice_get_within ts n _ ready.locals.0, ready.full) in
    let at : slice_get F1 n ≡ Some (One (bv.Bool q)) = set_here E n (One (bv.Bool q)) within in
    let awake = awake_kept g (omega arith) (kept_set n n (One (bv.Bool q)) E (omega arith)) ready.awake in
    let not_value : bvalue b other F1 ≡ end.Is (bv.Bool (not q)) = λ j. end.then_with (end.then_with (end.found (at j)) scalar_in) m.negation in
    assign_run ts b n (under g x) (bv.Bool q) (stmt.first (stmt.Assign (n + 1) (under g other)) rest) E cs (under_awake ts b g n x q E ready.awake here)
    ∙ assign_run ts b (n + 1) (under g other) (bv.Bool (not q)) rest F1 cs (under_awake ts b g (n + 1) other (not q) F1 awake not_value)
    ∙ ap (λ xs. brun ts b (join l.stmts xs) (guarded_by ts b c p g s sc E n q) cs) (join_skip o.stmts)

-- ---- what a run keeps

pub both_kept : {X : Type 0} {V W : Event → Type 0} {C D G : Choice → Type 0} {P Q : X → Type 0} {run : Run X} → ((c : Choice) → G c → C c × D c) → KeepsRun V C P run → KeepsRun W D Q run → KeepsRun IsAny G (λ x. P x × Q x) run
both_kept f (at_end h) (at_end g) = at_end (both_laws h g)
both_kept f (later h k) (later i g) = later (any_events _) (λ c p. let q = f c p in both_kept f (k c q.0) (g c q.1))

pub any_run : {X : Type 0} {V : Event → Type 0} {C G : Choice → Type 0} {P Q : X → Type 0} {run : Run X} → ((c : Choice) → G c → C c) → ((x : X) → P x → Q x) → KeepsRun V C P run → KeepsRun IsAny G Q run
any_run f g (at_end h) = at_end (any_law g h)
any_run f g (later h k) = later (any_events _) (λ c p. any_run f g (k c (f c p)))

-- ---- a way of running assertions

-- How a state that changes on the way stands in an environment. Expressions are read in another one, which may be the same. Before
-- is said of the number of locals, the state and the environment; after of the number of locals before, of that now, of the
-- environment before, of the state and of the environment now.
pub record Way (b : Bound) (c : Context) (p : Place) (sc : Scene) : Type 1 where
  pub read_in : State → State
  pub Before : ℕ → State → Env → Type 0
  pub After : ℕ → ℕ → Env → State → Env → Type 0
  pub coupled : {n : ℕ} {u : State} {E : Env} → Before n u E → IsCoupled b c n p (read_in u) sc E
  pub later : {n m : ℕ} {u : State} {E F : Env} → n ≤ m → Kept n E F → Before n u E → Before m u F
  pub again : {n m : ℕ} {u w : State} {E F : Env} → n ≤ m → Before n u E → After n m E w F → Before m w F
  pub singles : {n m : ℕ} {u w : State} {E F : Env} → Before n u E → After n m E w F → Singles n E F
  pub length : {n m : ℕ} {E F : Env} {w : State} → After n m E w F → length F ≡ length E
  pub itself : {n m : ℕ} {u : State} {E F : Env} → n ≤ m → Kept n E F → Before n u E → After n m E u F
  pub behind : {n m j : ℕ} {E F G : Env} {w : State} → n ≤ m → Kept n E F → After m j F w G → After n j E w G
  pub before : {n m j : ℕ} {E F G : Env} {w : State} → n ≤ m → m ≤ j → After n m E w F → Kept m F G → After n j E w G
  pub both : {n m j : ℕ} {E F G : Env} {u w : State} → n ≤ m → After n m E u F → After m j F w G → After n j E w G

module _ (ts : List BType) (b : Bound) (c : Context) (p : Place) (sc : Scene) (way : Way b c p sc) where
  -- the code ends as the run from the state does
  pub record Acts (g : Guard) (m : Emitting ⊤) (u : State) (run : Run State) : Type 0 where
    pub alongside : (n : ℕ) (E : Env) → way.Before n u E → IsReady ts g n (m n).locals E → AreAlongside ⊤ b c.program.layout (way.After n (m n).next E) run (λ cs. brun ts b (m n).stmts E cs)

  -- a condition is read
  abbrev pub Tests : Guard → e.Expr → Type 0
  Tests g a = (s : State) → Simulates ts b c p g s sc (code (kinds_in c) p g a) (value b a s sc) (λ n m x E. IsValued b n m x ty.Bool E)

  -- one part, and then another
  pub both_act : (g : Guard) (first second : Emitting ⊤) (u : State) (one : Run State) (two : State → Run State) → IsCounted first → IsCounted second → Acts g first u one → ((w : State) → Acts g second w (two w)) →
      Acts g (then_emit first (λ x. second)) u (then_do one two)
  both_act g first second u one two counted counted2 acts acts2 = record {
    alongside = λ n E before ready.
        let x = first n in let n1 = x.next in let last = second n1 in
        let low : n ≤ n1 = omega (arith, counted.next n) in let high : n1 ≤ last.next = omega (arith, counted2.next n1) in
        emit_both ⊤ ts b c.program.layout first (λ u. second) n E one two
        (acts.alongside n E before (record { awake = ready.awake; full = ready.full; locals = locals_first ts n x.locals last.locals ready.locals }))
        (λ w F after.
        let ready1 : IsReady ts g n1 last.locals F = record {
          awake = awake_single g low (way.singles before after) ready.awake;
          full = way.length after ∙ ready.full;
          locals = subst (λ i. AreLocals ts i last.locals) (counted.next n) (locals_rest ts n x.locals last.locals ready.locals);
        } in
        weaken_alongside ⊤ b c.program.layout (λ z G more. way.both low after more) ((acts2 w).alongside n1 F (way.again low before after) ready1));
  }

  -- a part that counts under a condition
  pub implied_acts : (g : Guard) (a : e.Expr) (side : Guard → Emitting ⊤) (u : State) (run : Run State) → Tests g a → ((h : Guard) → IsCounted (side h)) → ((i : ℕ) → Sleeps (λ j. j ≡ i) (side (Some i))) →
      ((i : ℕ) → Acts (Some i) (side (Some i)) u run) →
      Acts g (then_emit (code (kinds_in c) p g a) (λ x. then_emit (guards g x.expr) (λ h. side (Some h)))) u (evaluating (truth_in b a (way.read_in u) sc) (λ holds. if holds then run else goes u))
  implied_acts g a side u run tests counted2 sleeps acts = record {
    alongside = λ n E before ready.
        let s = way.read_in u in
        let first = code (kinds_in c) p g a in let x = first n in let n1 = x.next in
        let l = side (Some n1) (n1 + 1) in
        let go : Operand → Emitting ⊤ = λ x. then_emit (guards g x.expr) (λ h. side (Some h)) in let last = go x.value n1 in
        let counted = code_counted (kinds_in c) p g a in
        let low : n ≤ n1 = omega (arith, counted.next n) in let high : n1 + 1 ≤ l.next = omega (arith, (counted2 (Some n1)).next (n1 + 1)) in
        emit_alongside ⊤ ts b c.program.layout first go n E (truth_in b a s sc) (λ holds. if holds then run else goes u)
        (λ cs. bool_alike (λ w F z. z.typed) ((tests s).alike n E cs (way.coupled before) (record { awake = ready.awake; full = ready.full; locals = locals_first ts n x.locals last.locals ready.locals })))
        (λ q F z.
        let ready1 = ready_rest ts g n n1 x.locals last.locals E F (counted.next n) z.kept ready in
        let G = slice_set F n1 (One (bv.Bool q)) in
        let within : n1 < length F = omega (arith, slice_get_within ts n1 _ ready1.locals.0, ready1.full) in
        let k2 : Kept n1 F G = kept_set n1 n1 (One (bv.Bool q)) F (omega arith) in
        let kept : Kept n E G = kept_then low z.kept k2 in
        let here : slice_get G n1 ≡ Some (One (bv.Bool q)) = set_here F n1 (One (bv.Bool q)) within in
        let run_is : (cs : List BChoice) → brun ts b (go x.value n1).stmts F cs ≡ brun ts b l.stmts G cs =
        λ cs. assign_run ts b n1 (under g x.value.expr) (bv.Bool q) l.stmts F cs (under_awake ts b g n1 x.value.expr q F ready1.awake (z.here F (λ i below. refl))) in
        run_alongside ⊤ b c.program.layout run_is (by_truth n n1 E G l.next l.stmts q (omega (arith, low)) high kept (way.later (omega (arith, low)) kept before) before
        (λ yes. (acts n1).alongside (n1 + 1) G (way.later (omega (arith, low)) kept before)
        (record { awake = (omega arith, here ∙ ap (λ (t : Truth). Some (One (bv.Bool t))) yes); full = k2.length ∙ ready1.full; locals = ready1.locals.1 }))
        (λ no cs. (sleeps n1).rests ts b (n1 + 1) G cs
        (λ j same. (omega (arith, same), ap (slice_get G) same ∙ here ∙ ap (λ (t : Truth). Some (One (bv.Bool t))) no)) (k2.length ∙ ready1.full) ready1.locals.1)));
  }
    where
      by_truth : (n n1 : ℕ) (E G : Env) (m : ℕ) (xs : stmt.BStmts) (q : Truth) → n ≤ n1 + 1 → n1 + 1 ≤ m → Kept n E G → way.Before (n1 + 1) u G → way.Before n u E →
          (q ≡ true → AreAlongside ⊤ b c.program.layout (way.After (n1 + 1) m G) run (λ cs. brun ts b xs G cs)) → (q ≡ false → (cs : List BChoice) → Rests (brun ts b xs G cs) (n1 + 1) G cs) →
          AreAlongside ⊤ b c.program.layout (way.After n m E) (if q then run else goes u) (λ cs. brun ts b xs G cs)
      by_truth n n1 E G m xs true low high kept now before h i = weaken_alongside ⊤ b c.program.layout (λ w F z. way.behind low kept z) (h refl)
      by_truth n n1 E G m xs false low high kept now before h i =
          ended_alongside ⊤ b c.program.layout (is_end u) (λ cs.
          let rest = i refl cs in
          alike_run rest.done (is_alike (way.itself (omega (arith, low, high)) (kept_then {F = G} low kept rest.kept) before)))

  -- one of two parts, as a condition says
  pub chosen_acts : (g : Guard) (a : e.Expr) (left right : Guard → Emitting ⊤) (u : State) (one two : Run State) → Tests g a → ((h : Guard) → IsCounted (left h)) → ((h : Guard) → IsCounted (right h)) →
      ((i : ℕ) → Sleeps (λ j. j ≡ i) (left (Some i))) → ((i : ℕ) → Sleeps (λ j. j ≡ i) (right (Some i))) → ((i : ℕ) → Acts (Some i) (left (Some i)) u one) → ((i : ℕ) → Acts (Some i) (right (Some i)) u two) →
      Acts g (then_emit (code (kinds_in c) p g a) (λ x. choose_code g x.expr left right nothing)) u (evaluating (truth_in b a (way.read_in u) sc) (λ holds. if holds then one else two))
  chosen_acts g a left right u one two tests counted1 counted2 sleeps1 sleeps2 acts1 acts2 = record {
    alongside = λ n0 E0 before0 ready0.
        let s = way.read_in u in
        let first = code (kinds_in c) p g a in let x = first n0 in let n = x.next in
        let go : Operand → Emitting ⊤ = λ x. choose_code g x.expr left right nothing in let last = go x.value n in
        let l = left (Some n) (n + 1 + 1) in let o = right (Some (n + 1)) l.next in
        let counted = code_counted (kinds_in c) p g a in
        let low0 : n0 ≤ n = omega (arith, counted.next n0) in
        let low : n + 1 + 1 ≤ l.next = omega (arith, (counted1 (Some n)).next (n + 1 + 1)) in let high : l.next ≤ o.next = omega (arith, (counted2 (Some (n + 1))).next l.next) in
        emit_alongside ⊤ ts b c.program.layout first go n0 E0 (truth_in b a s sc) (λ holds. if holds then one else two)
        (λ cs. bool_alike (λ w F z. z.typed) ((tests s).alike n0 E0 cs (way.coupled before0) (record { awake = ready0.awake; full = ready0.full; locals = locals_first ts n0 x.locals last.locals ready0.locals })))
        (λ q E z.
        let ready = ready_rest ts g n0 n x.locals last.locals E0 E (counted.next n0) z.kept ready0 in
        let F = guarded_by ts b c p g s sc E n q in
        let within : n + 1 < length E = omega (arith, slice_get_within ts (n + 1) _ ready.locals.1.0, ready.full) in
        let guarded = are_guarded ts b c p g s sc n q E within in
        let full : length F ≡ length ts = guarded.kept.length ∙ ready.full in
        let kept0 : Kept n0 E0 F = kept_then {F = E} low0 z.kept guarded.kept in
        let before = way.later (omega (arith, low0)) kept0 before0 in
        let l_locals : AreLocals ts (n + 1 + 1) l.locals = locals_first ts (n + 1 + 1) l.locals (o.locals ++ []) ready.locals.1.1 in
        let r_locals : AreLocals ts l.next o.locals = locals_first ts l.next o.locals []
        (subst (λ i. AreLocals ts i (o.locals ++ [])) ((counted1 (Some n)).next (n + 1 + 1)) (locals_rest ts (n + 1 + 1) l.locals (o.locals ++ []) ready.locals.1.1)) in
        run_alongside ⊤ b c.program.layout (λ cs. choice_run ts b c p g s sc x.value.expr left right nothing q n E cs (z.here E (λ i below. refl)) ready)
        (by_truth n0 n E0 F l.next o.next l.stmts o.stmts q (omega (arith, low0)) low high kept0 before full guarded.second
        (λ yes. (acts1 n).alongside (n + 1 + 1) F before (record { awake = (omega arith, guarded.first ∙ ap (λ (t : Truth). Some (One (bv.Bool t))) yes); full = full; locals = l_locals }))
        (λ G cs sleep long. (sleeps2 (n + 1)).rests ts b l.next G cs sleep long r_locals)
        (λ no cs. (sleeps1 n).rests ts b (n + 1 + 1) F cs
        (λ j same. (omega (arith, same), ap (slice_get F) same ∙ guarded.first ∙ ap (λ (t : Truth). Some (One (bv.Bool t))) no)) full l_locals)
        (λ no G sleeping. (acts2 (n + 1)).alongside l.next G (way.later low sleeping before)
        (record { awake = (omega (arith, low), sleeping.same (n + 1) (omega arith) ∙ guarded.second ∙ ap (λ (t : Truth). Some (One (bv.Bool (not t)))) no); full = sleeping.length ∙ full; locals = r_locals }))));
  }
    where
      by_truth : (n0 n : ℕ) (E0 F : Env) (j m : ℕ) (xs zs : stmt.BStmts) (q : Truth) → n0 ≤ n + 1 + 1 → n + 1 + 1 ≤ j → j ≤ m → Kept n0 E0 F → way.Before (n + 1 + 1) u F → length F ≡ length ts →
          slice_get F (n + 1) ≡ Some (One (bv.Bool (not q))) → (q ≡ true → AreAlongside ⊤ b c.program.layout (way.After (n + 1 + 1) j F) one (λ cs. brun ts b xs F cs)) →
          ((G : Env) (cs : List BChoice) → AreAsleep (λ i. i ≡ n + 1) j G → length G ≡ length ts → Rests (brun ts b zs G cs) j G cs) →
          (q ≡ false → (cs : List BChoice) → Rests (brun ts b xs F cs) (n + 1 + 1) F cs) →
          (q ≡ false → (G : Env) → Kept (n + 1 + 1) F G → AreAlongside ⊤ b c.program.layout (way.After j m G) two (λ cs. brun ts b zs G cs)) →
          AreAlongside ⊤ b c.program.layout (way.After n0 m E0) (if q then one else two) (λ cs. brun ts b (join xs zs) F cs)
      by_truth n0 n E0 F j m xs zs true low0 low high kept before full second first rests_two rests_one other =
          run_alongside ⊤ b c.program.layout (λ cs. join_run ts b xs zs F cs) (
          quiet_alongside ⊤ b c.program.layout (λ w G cs z.
          let rest = rests_two G cs (λ i same. (omega (arith, same, low), ap (slice_get G) same ∙ (way.singles before z).same (n + 1) (bv.Bool false) (omega arith) second)) (way.length z ∙ full) in
          (rest.after, (rest.done, way.behind low0 kept (way.before low high z rest.kept)))) (first refl))
      by_truth n0 n E0 F j m xs zs false low0 low high kept before full second first rests_two rests_one other =
          run_alongside ⊤ b c.program.layout (λ cs. join_done ts b xs zs F (rests_one refl cs).after cs cs (rests_one refl cs).done) (
          each_alongside ⊤ b c.program.layout (λ ds cs. brun ts b zs (rests_one refl ds).after cs) (λ ds.
          let rest = rests_one refl ds in
          weaken_alongside ⊤ b c.program.layout (λ w G z. way.behind (omega (arith, low0, low)) (kept_then {F = F} low0 kept rest.kept) z) (other refl rest.after rest.kept)))
