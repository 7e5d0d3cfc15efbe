-- Loops: each turn of an execution is one arbitrary turn of the modular run, and its exit is how that goes on after the loop.
use Rattle.std.proofs.Common.{◌≡◌, ◌≢◌, ◌⊎◌, inl, inr, refl, sym, ap, ◌∙◌, subst, arith, ◌<◌, ℕ, zero, suc, Bool, true, false, List, length, All, Contains, slice_get, get_or, if◌then◌else◌}
use Rattle.std.proofs.lemmas.Bool.{true≢false}
use Rattle.std.proofs.lemmas.List.Elements.{All-weaker, filter_passes}
use Rattle.std.proofs.lemmas.Option.{slice_get-get_or}
use Rattle.std.proofs.lemmas.Slice.Zip.{AllZip-long}
use Rattle.vb_base.specs.declared.places.Pos.{Pos}
use Rattle.vb_value.specs.Bound.{Unbounded}
use Rattle.vb_value.specs.declared.values.Value.{Value}
use Rattle.vb_value.specs.declared.values.Value.TheVariants as v
use Rattle.viper_core.specs.Expr as t
use Rattle.viper_core.specs.Formed.{IsFormed}
use Rattle.viper_core.specs.Part.{IsPartStmt}
use Rattle.viper_core.specs.Scope.{Scope, stmts_scope, some_assigns, loop_targets}
use Rattle.viper_core.specs.Stmt as s
use Rattle.viper_core.specs.Typing.{IsAssertion, MethodContext, inside}
use Rattle.viper_core.specs.Written.{HasNoWildcard}
use Rattle.viper_core.proofs.ScopeLaws.{fresh-stmts_scope, later-stmts_scope}
use Rattle.viper_core.proofs.StmtParts.{guard_part, turn_part, turn_targets}
use Rattle.viper_core.proofs.TargetLaws.{targets_exist}
use Rattle.viper_state.specs.Fits.{FitsValue, FitsStore, FitsState, FitsScene, FitsMemo, FitsChoice}
use Rattle.viper_state.specs.State.{Memo, State, empty_state}
use Rattle.viper_state.proofs.FitsLaws.{memo_fits, empty_state_fits}
use Rattle.viper_state.proofs.ProperLaws.{scene_proper}
use Rattle.viper_meaning.specs.Configurations.{FitsConfiguration}
use Rattle.viper_meaning.specs.Ends.{blocks}
use Rattle.viper_meaning.specs.Forgotten.{forgotten, with_memo, forget}
use Rattle.viper_meaning.specs.HeldWhole.{HoldsAtMostWhole}
use Rattle.viper_meaning.specs.Run.{Run, ended, goes, evaluating, then_do}
use Rattle.viper_meaning.specs.Sat.{Share, memo_of_state}
use Rattle.viper_meaning.specs.Statements.{Configuration, scene, with_state, stored, taking_values, taking_branch, in_vain, produce_all, consume_all, exhale_all, after_loop, run_turn, run_loop, run_block}
use Rattle.viper_meaning.specs.Value.{truth_in}
use Rattle.viper_meaning.proofs.ChangeLaws as change
use Rattle.viper_meaning.proofs.ChangeLaws.{among_passing, stored_elsewhere}
use Rattle.viper_meaning.proofs.MoreLaws.{ScenesAgree}
use Rattle.viper_meaning.proofs.NearLaws.{Close}
use Rattle.viper_meaning.proofs.StatementFitsLaws.{ValuesOf, stored_fits}
use Rattle.viper_meaning.proofs.UnderLaws.{Rest, Under, Owes}
use Rattle.viper_exec_meaning.specs.Execution.{Went, Still, Spent, beginning, going_on, asserting, exec_turns}
use Rattle.viper_exec_meaning.proofs.AssembleLaws.{Stands}
use Rattle.viper_exec_meaning.proofs.AssertLaws.{asserted, produced, Result, narrower, scenes_stand}
use Rattle.viper_exec_meaning.proofs.LeftLaws.{after_fits}
use Rattle.viper_exec_meaning.proofs.MoveLaws.{starts, begins_again, comes_back}
use Rattle.viper_exec_meaning.proofs.SafeLaws.{SafeEnd, Safely, goes_safe, evaluating_safe, then_safe, weaker_safe, first_evaluated, first_safe, safe_goes, agrees_safe}
use Rattle.viper_exec_meaning.proofs.StepLaws.{EndsIn, going_safe, beginning_safe, both_ends, keep_safe, each_kept, safe_forget, safe_branch, safe_values, safe_state}
use Rattle.viper_exec_meaning.proofs.StmtLaws.{from}
use Rattle.viper_exec_meaning.proofs.StoreLaws.{present, stored_read}
use Rattle.viper_exec_meaning.proofs.TwoLaws.{truth_two}
use Rattle.viper_exec_meaning.proofs.Under.{Gives, besides, AskAll, GivesUpAll}

-- ---- variables

-- a variable that is not assigned is no target
no_target : (sc : Scope) (block : s.Stmts) (targets : List ℕ) → targets ≡ loop_targets sc block → (x : ℕ) → some_assigns x block ≡ false → All (λ y. y ≢ x) targets
no_target sc block targets same x e =
    subst (All (λ y. y ≢ x)) (sym same) (All-weaker (λ y. some_assigns y block ≡ true) (λ y. y ≢ x) (λ y f equal. true≢false (sym f ∙ ap (λ z. some_assigns z block) equal ∙ e)) (loop_targets sc block) (filter_passes (λ y. some_assigns y block) sc.visible))

-- in these variables a turn changed nothing
abbrev pub IsLeft : Scope → s.Stmts → List Value → List Value → Type 0
IsLeft sc block before now = (x : ℕ) → x < sc.fresh → some_assigns x block ≡ false → slice_get now x ≡ slice_get before x

-- ---- where an execution stands between two turns

-- What was given up before the loop is forgotten so, and the targets have such values, that the modular run sees just what the
-- execution does; and the execution asked for the invariant.
pub record Turn (m : MethodContext) (sc : Scope) (invariants : List t.Assertion) (targets : List ℕ) (old : State) (G : Rest) (own : List Value) (w : Configuration) : Type 0 where
  pub memo : Memo
  pub memo_fits : FitsMemo m.program.layout memo
  pub shares : List Share
  pub owes : Owes G shares (empty_state m.program.layout memo) w.state
  pub place : Pos
  pub asked : AskAll w.state (scene (from m old) w place) invariants shares
  pub fits : FitsConfiguration m.program.layout m.vars w
  pub whole : HoldsAtMostWhole w.state
  pub values : List Value
  pub taken : ValuesOf m.vars targets values
  pub seen : (x : ℕ) → Contains sc.visible x → slice_get (stored own targets values) x ≡ slice_get w.store x

-- a turn begins in the modular run too
pub record Begun (m : MethodContext) (sc : Scope) (older : State) (invariants : List t.Assertion) (block : s.Stmts) (turn : Pos) (G : Rest) (own : List Value) (w : Configuration) : Type 0 where
  pub small : Configuration
  pub stands : Stands G m sc small w
  pub kept : IsLeft sc block own small.store
  pub safe : Safely (FitsChoice m.program.layout) (λ e. Safely (FitsChoice m.program.layout) (λ left. Unit {0}) (consume_all Unbounded invariants e.state (scene (from m older) e turn) e.state)) (run_block Unbounded (from m older) block small)

module _ (m : MethodContext) (formed : IsFormed m.program) (older old : State) (olds : Close older old) (older_fits : FitsState m.program.layout older) (sc : Scope) (at : Pos) (guard : t.Expr) (invariants : List t.Assertion) (block : s.Stmts) (turn : Pos)
    (targets : List ℕ) (part : IsPartStmt m sc (s.While (s.loop at guard invariants block turn targets))) (typed : All (IsAssertion (inside m sc)) invariants) (written : All HasNoWildcard invariants) where
  abbrev Safe : {X : Type 0} → (X → Type 0) → Run X → Type 0
  Safe P r = Safely (FitsChoice m.program.layout) P r

  -- the targets have their present values
  seen_again : (own : List Value) (w : Configuration) → FitsStore m.vars own → (fits : FitsConfiguration m.program.layout m.vars w) → ((x : ℕ) → Contains sc.visible x → some_assigns x block ≡ false → slice_get own x ≡ slice_get w.store x) →
      (values : List Value) × ValuesOf m.vars targets values × ((x : ℕ) → Contains sc.visible x → slice_get (stored own targets values) x ≡ slice_get w.store x)
  seen_again own w own_fits fits same =
      let now = present m.vars w.store targets fits.store (targets_exist (turn_part part).typed (turn_targets part)) in (
        now.0,
        now.1,
        λ x seen.
            let low : x < length own = omega (arith, part.frame.visible x seen, fresh-stmts_scope sc block, part.numbered, AllZip-long FitsValue m.vars own own_fits) in
            stored_read x w.store own targets now.0 (get_or own x (v.Bool false)) (slice_get-get_or own x (v.Bool false) low) now.2 (by x seen (some_assigns x block) refl),
      )
    where
      by : (x : ℕ) → Contains sc.visible x → (is : Bool) → some_assigns x block ≡ is → (slice_get own x ≡ slice_get w.store x) ⊎ Contains targets x
      by x seen true e = inr (subst (λ xs. Contains xs x) (sym (turn_targets part)) (among_passing (λ y. some_assigns y block) sc.visible x seen e))
      by x seen false e = inl (same x seen e)

  -- how the modular run goes on once the invariant is given up and the rest is forgotten
  abbrev any_turn : Configuration → Run State
  any_turn any = run_turn Unbounded (from m older) at guard invariants (λ d. run_block Unbounded (from m older) block d) turn any

  abbrev branching : Configuration → Bool → Run Configuration
  branching any turns = if turns then in_vain (any_turn any) else after_loop Unbounded (from m older) at guard invariants any

  abbrev given_up : Configuration → State → Run Configuration
  given_up a s = then_do (taking_values m.vars targets) (λ vs. taking_branch (branching (record { store = stored a.store targets vs; state = s })))

  module _ (F : Rest) (P : Configuration → Type 0) (a : Configuration) (before left : State) (xs : List Share) (under : Under F a.state before) (fits : FitsConfiguration m.program.layout m.vars a)
      (left_fits : FitsState m.program.layout left) (gave : Gives xs a.state left) (h : Safe (λ s. Safe P (given_up a s)) (forget m.program.layout left)) where
    abbrev G : Rest
    G = besides F left gave.full before

    abbrev any_of : (w : Configuration) → Turn m sc invariants targets old G a.store w → Configuration
    any_of w t = record { store = stored a.store targets t.values; state = with_memo left (forgotten left t.memo) }

    chosen : (w : Configuration) (t : Turn m sc invariants targets old G a.store w) (turns : Bool) → Safe P (branching (any_of w t) turns)
    chosen w t turns =
        let s : State = with_memo left (forgotten left t.memo) in
        let go : List Value → Run Configuration = λ vs. taking_branch (branching (record { store = stored a.store targets vs; state = s })) in
        let taken = first_safe (taking_values m.vars targets) go (safe_forget m.program.layout left t.memo t.memo_fits h) in
        safe_branch m.program.layout (branching (any_of w t)) turns (safe_values m.program.layout m.vars targets t.values t.taken taken)

    any_scene_fits : (w : Configuration) (t : Turn m sc invariants targets old G a.store w) (p : Pos) → FitsScene m.program.layout m.vars (scene (from m older) (any_of w t) p)
    any_scene_fits w t p = record { store = stored_fits m.vars a.store targets t.values fits.store t.taken; old = older_fits }

    any_agrees : (w : Configuration) (t : Turn m sc invariants targets old G a.store w) (p q : Pos) → ScenesAgree (inside m sc) (scene (from m older) (any_of w t) p) (scene (from m old) w q)
    any_agrees w t p q = record { proper = scene_proper m.program.layout m.vars (scene (from m older) (any_of w t) p) (any_scene_fits w t p); seen = t.seen; old = λ allowed. olds }

    -- the guard, in the small state and in the whole one
    guards : (R : Rest) {Q : Bool → Type 0} (w : Configuration) (t : Turn m sc invariants targets old G a.store w) (u : State) → Under R u w.state →
        SafeEnd Q (truth_in Unbounded guard u (scene (from m older) (any_of w t) at)) → SafeEnd (λ y. (x : Bool) × Q x × (x ≡ y)) (truth_in Unbounded guard w.state (scene (from m old) w at))
    guards R w t u lies e = agrees_safe (truth_two R (inside m sc) formed.typed u w.state (scene (from m older) (any_of w t) at) (scene (from m old) w at) lies (any_agrees w t at at) (guard_part part).typed) e

    abbrev turn_goes : Configuration → State → Bool → Run State
    turn_goes any u holds =
        if holds then then_do (run_block Unbounded (from m older) block (with_state any u)) (λ d. consume_all Unbounded invariants d.state (scene (from m older) d turn) d.state) else ended blocks

    abbrev end_goes : Configuration → State → Bool → Run Configuration
    end_goes any u holds = if holds then ended blocks else goes (with_state any u)

    -- the invariant is produced where nothing is held
    turn_begins : (w : Configuration) (t : Turn m sc invariants targets old G a.store w) →
        (u : State) × Under G u w.state × FitsState m.program.layout u × SafeEnd (λ holds. Safe (λ x. Unit {0}) (turn_goes (any_of w t) u holds)) (truth_in Unbounded guard u (scene (from m older) (any_of w t) at))
    turn_begins w t =
        let any : Configuration = any_of w t in
        let start : State = empty_state m.program.layout t.memo in
        let go : State → Run State = λ u. evaluating (truth_in Unbounded guard u (scene (from m older) any at)) (turn_goes any u) in
        let vain : Safe (λ x. Unit {0}) (any_turn any) = weaker_safe (λ x p. tt) (first_safe (any_turn any) (λ x. ended blocks) (chosen w t true)) in
        let made = safe_state m.program (λ s. then_do (produce_all Unbounded invariants (scene (from m older) any at) s) go) t.memo t.memo_fits vain in
        let u = produced (inside m sc) formed G start w.state (scene (from m older) any at) (scene (from m old) w t.place) invariants t.shares typed t.asked t.owes t.fits.state t.whole
        (empty_state_fits m.program.layout t.memo t.memo_fits) (any_scene_fits w t at) (any_agrees w t at t.place) (first_safe (produce_all Unbounded invariants (scene (from m older) any at) start) go made) in
        (u.0, u.1, u.2.1, first_evaluated (truth_in Unbounded guard u.0 (scene (from m older) any at)) (turn_goes any u.0) u.2.0)

    -- or on top of what was left
    loop_ends : (w : Configuration) (t : Turn m sc invariants targets old G a.store w) →
        (u : State) × Under F u w.state × FitsState m.program.layout u × SafeEnd (λ holds. Safe P (end_goes (any_of w t) u holds)) (truth_in Unbounded guard u (scene (from m older) (any_of w t) at))
    loop_ends w t =
        let any : Configuration = any_of w t in
        let go : State → Run Configuration = λ u. evaluating (truth_in Unbounded guard u (scene (from m older) any at)) (end_goes any u) in
        let u = produced (inside m sc) formed F any.state w.state (scene (from m older) any at) (scene (from m old) w t.place) invariants t.shares typed t.asked
        (comes_back m.program.layout under left_fits t.memo_fits gave t.owes) t.fits.state t.whole (after_fits m.program.layout left t.memo left_fits t.memo_fits) (any_scene_fits w t at) (any_agrees w t at t.place)
        (first_safe (produce_all Unbounded invariants (scene (from m older) any at) any.state) go (chosen w t false)) in
        (u.0, u.1, u.2.1, first_evaluated (truth_in Unbounded guard u.0 (scene (from m older) any at)) (end_goes any u.0) u.2.0)

    -- the guard decides for both
    abbrev Guarded : Configuration → Bool → Type 0
    Guarded w true = Begun m sc older invariants block turn G a.store w
    Guarded w false = Result F m sc P w

    guarded : (w : Configuration) (t : Turn m sc invariants targets old G a.store w) (holds : Bool) →
        ((x : Bool) × Safe (λ y. Unit {0}) (turn_goes (any_of w t) (turn_begins w t).0 x) × (x ≡ holds)) → ((x : Bool) × Safe P (end_goes (any_of w t) (loop_ends w t).0 x) × (x ≡ holds)) → Guarded w holds
    guarded w t true (x, p, e) q =
        let any : Configuration = any_of w t in
        let u = turn_begins w t in
        record {
          small = with_state any u.0;
          stands = record { under = u.1; less = record { store = stored_fits m.vars a.store targets t.values fits.store t.taken; state = u.2 }; more = t.fits; whole = t.whole; seen = t.seen };
          kept = λ z low f. stored_elsewhere z a.store targets t.values (no_target sc block targets (turn_targets part) z f);
          safe = first_safe (run_block Unbounded (from m older) block (with_state any u.0)) (λ d. consume_all Unbounded invariants d.state (scene (from m older) d turn) d.state) (subst (λ z. Safe (λ y. Unit {0}) (turn_goes any u.0 z)) e p);
        }
    guarded w t false p (x, q, e) =
        let any : Configuration = any_of w t in
        let u = loop_ends w t in
        record {
          small = with_state any u.0;
          goes = safe_goes (subst (λ z. Safe P (end_goes any u.0 z)) e q);
          stands = record { under = u.1; less = record { store = stored_fits m.vars a.store targets t.values fits.store t.taken; state = u.2 }; more = t.fits; whole = t.whole; seen = t.seen };
        }

    guard_safe : (w : Configuration) (t : Turn m sc invariants targets old G a.store w) →
        SafeEnd (λ holds. ((x : Bool) × Safe (λ y. Unit {0}) (turn_goes (any_of w t) (turn_begins w t).0 x) × (x ≡ holds)) × ((x : Bool) × Safe P (end_goes (any_of w t) (loop_ends w t).0 x) × (x ≡ holds)))
        (truth_in Unbounded guard w.state (scene (from m old) w at))
    guard_safe w t =
        let u = turn_begins w t in
        let v = loop_ends w t in
        both_ends (guards G w t u.0 u.1 u.3) (guards F w t v.0 v.1 v.3)

    -- ---- turns

    -- the body of the loop goes on as the modular run of its statements
    module _ (body : ℕ → Configuration → Run (Went Configuration))
        (body_safe : (R : Rest) (Q : Configuration → Type 0) (c d : Configuration) (n : ℕ) → Stands R m sc c d → Safe Q (run_block Unbounded (from m older) block c) → Safe (EndsIn (Result R m (stmts_scope sc block) Q)) (body n d)) where
      abbrev TurnEnds : Configuration → Configuration → Type 0
      TurnEnds c e = Safe (λ left. Unit {0}) (consume_all Unbounded invariants e.state (scene (from m older) e turn) e.state) × IsLeft sc block c.store e.store

      body_kept : (c : Configuration) → Safe (λ e. Safe (λ left. Unit {0}) (consume_all Unbounded invariants e.state (scene (from m older) e turn) e.state)) (run_block Unbounded (from m older) block c) →
          Safe (TurnEnds c) (run_block Unbounded (from m older) block c)
      body_kept c safe = weaker_safe (λ e p. (p.0, λ x low f. p.1 (x, (low, f)))) (keep_safe (λ x i. tt) (each_kept (run_block Unbounded (from m older) block c)
          (λ (i : (x : ℕ) × ((x < sc.fresh) × (some_assigns x block ≡ false))). change.block_changes Unbounded (from m older) i.0 block c (turn_part part).typed i.1.0 i.1.1)) safe)

      next_turn : (w : Configuration) (g : Begun m sc older invariants block turn G a.store w) (d : Configuration) (r : Result G m (stmts_scope sc block) (TurnEnds g.small) d) (rest other : State) →
          GivesUpAll G d.state (scene (from m old) d turn) invariants r.small.state rest other → Turn m sc invariants targets old G a.store d
      next_turn w g d r rest other z =
          let again = seen_again a.store d fits.store r.stands.more (λ x seen e.
          let low = part.frame.visible x seen in
          sym (g.kept x low e) ∙ sym (r.goes.1 x low e) ∙ r.stands.seen x (later-stmts_scope sc block x seen)) in
          record {
            memo = memo_of_state r.small.state;
            memo_fits = memo_fits m.program.layout r.small.state r.stands.less.state;
            shares = z.shares;
            owes = begins_again m.program.layout r.stands.under r.stands.less.state z.given;
            place = turn;
            asked = z.asked;
            fits = r.stands.more;
            whole = r.stands.whole;
            values = again.0;
            taken = again.1;
            seen = again.2;
          }

      one_turn : (most n : ℕ) (w : Configuration) → ((n : ℕ) (d : Configuration) → Turn m sc invariants targets old G a.store d → Safe (EndsIn (Result F m sc P)) (exec_turns Unbounded (from m old) at guard invariants body turn most n d)) →
          (holds : Bool) → Guarded w holds → Safe (EndsIn (Result F m sc P)) (if holds
          then beginning n (λ n. going_on (body n w) (λ n d. asserting Unbounded invariants d.state (scene (from m old) d turn) (exec_turns Unbounded (from m old) at guard invariants body turn most n d)))
          else goes (Still n w))
      one_turn most n w again true g =
          beginning_safe n (λ n. going_safe (body_safe G (TurnEnds g.small) g.small w n g.stands (body_kept g.small g.safe)) (λ n d r.
          then_safe (asserted (inside m sc) formed G r.small.state d.state (scene (from m older) r.small turn) (scene (from m old) d turn) invariants typed written r.stands.under r.stands.less.state
          (record { store = r.stands.less.store; old = older_fits }) (scenes_stand older old olds older_fits (narrower {sc = sc} (later-stmts_scope sc block) r.stands) turn turn) r.goes.0)
          (λ other z. again n d (next_turn w g d r z.0 other z.2))))
      one_turn most n w again false g = goes_safe g

      no_turn : (n : ℕ) (w : Configuration) (holds : Bool) → Guarded w holds → Safe (EndsIn (Result F m sc P)) (if holds then goes Spent else goes (Still n w))
      no_turn n w true g = goes_safe tt
      no_turn n w false g = goes_safe g

      pub turns_safe : (most n : ℕ) (w : Configuration) → Turn m sc invariants targets old G a.store w → Safe (EndsIn (Result F m sc P)) (exec_turns Unbounded (from m old) at guard invariants body turn most n w)
      turns_safe zero n w t = evaluating_safe (guard_safe w t) (λ holds g. no_turn n w holds (guarded w t holds g.0 g.1))
      turns_safe (suc most) n w t = evaluating_safe (guard_safe w t) (λ holds g. one_turn most n w (turns_safe most) holds (guarded w t holds g.0 g.1))

  -- ---- the loop

  first_turn : (F : Rest) (a d : Configuration) (rest other : State) → Stands F m sc a d → (z : GivesUpAll F d.state (scene (from m old) d at) invariants a.state rest other) → Turn m sc invariants targets old (besides F rest z.given.full d.state) a.store d
  first_turn F a d rest other stands z =
      let now = seen_again a.store d stands.less.store stands.more (λ x seen e. stands.seen x seen) in
      record {
        memo = memo_of_state a.state;
        memo_fits = memo_fits m.program.layout a.state stands.less.state;
        shares = z.shares;
        owes = starts m.program.layout stands.under stands.less.state z.given;
        place = at;
        asked = z.asked;
        fits = stands.more;
        whole = stands.whole;
        values = now.0;
        taken = now.1;
        seen = now.2;
      }

  -- where the modular run of a loop never fails, the execution does not, and both go on together
  pub loop_safe : (F : Rest) (P : Configuration → Type 0) (a d : Configuration) (n : ℕ) (body : ℕ → Configuration → Run (Went Configuration)) →
      ((R : Rest) (Q : Configuration → Type 0) (c d : Configuration) (n : ℕ) → Stands R m sc c d → Safe Q (run_block Unbounded (from m older) block c) → Safe (EndsIn (Result R m (stmts_scope sc block) Q)) (body n d)) →
      Stands F m sc a d → Safe P (run_loop Unbounded (from m older) at guard invariants (λ c. run_block Unbounded (from m older) block c) turn targets a) →
      Safe (EndsIn (Result F m sc P)) (asserting Unbounded invariants d.state (scene (from m old) d at) (exec_turns Unbounded (from m old) at guard invariants body turn n n d))
  loop_safe F P a d n body body_safe stands h =
      let exhaled = first_safe (exhale_all Unbounded m.program invariants a.state (scene (from m older) a at)) (given_up a) h in
      then_safe (asserted (inside m sc) formed F a.state d.state (scene (from m older) a at) (scene (from m old) d at) invariants typed written stands.under stands.less.state
      (record { store = stands.less.store; old = older_fits }) (scenes_stand older old olds older_fits stands at at)
      (first_safe (consume_all Unbounded invariants a.state (scene (from m older) a at) a.state) (forget m.program.layout) exhaled)) (λ other z.
      turns_safe F P a d.state z.0 z.2.shares stands.under stands.less z.1.1 z.2.given z.1.0 body body_safe n n d (first_turn F a d z.0 other stands z.2))
