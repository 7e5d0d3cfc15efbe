-- Units and their procedures: a procedure goes alongside its unit from each start, and so some run of one fails at a label exactly
-- when some run of the other does.
use Rattle.std.specs.Bool.{⊤}
use Rattle.std.proofs.Common.{◌≡◌, ◌+◌, ℕ, suc, List, [], ◌∷◌, ◌++◌, map, drop, take, length, length-append, All, None, Some, slice_get, refl, sym, ap, subst, ◌∙◌, append-nil, inl, inr, ◌⊎◌, arith}
use Rattle.std.proofs.lemmas.List.{length-map, take-append-drop}
use Rattle.std.proofs.lemmas.List.Elements.{All-nil, All-cons, All-head, All-tail, All-append, All-weaker}
use Rattle.moves.proofs.PrintableLaws.{moves_reduced}
use Rattle.lemmas.proofs.Lists.{map_append, all_left, all_both, zip_length, there_right}
use Rattle.vb_base.specs.declared.labels.Label.{Label}
use Rattle.vb_value.specs.Bound.{Bound, Bounded, Unbounded, IfBounded}
use Rattle.vb_value.specs.Value.{default_of, IsProperValue}
use Rattle.vb_value.specs.declared.values.Ty.{Ty}
use Rattle.vb_value.specs.declared.values.Ty.TheVariants as ty
use Rattle.viper_core.specs.Expr as e
use Rattle.viper_core.specs.Formed.{IsFormed, IsMethod, method_scope}
use Rattle.viper_core.specs.Program.{Program, Predicate, Method}
use Rattle.viper_core.specs.declared.programs.Unit.{Unit}
use Rattle.viper_core.specs.declared.programs.Unit.TheVariants as unit
use Rattle.viper_core.proofs.FormedLaws.{method_of_typed, predicate_body_of_typed, method_body_of_typed}
use Rattle.viper_core.proofs.UnitLaws.{unit_method, unit_predicate}
use Rattle.viper_state.specs.Choice.{Choice}
use Rattle.viper_state.specs.Event.{Event}
use Rattle.viper_state.specs.Fits.{FitsStore, FitsOpening, FitsChoice, FitsEvent}
use Rattle.viper_state.specs.Run.{Opening}
use Rattle.viper_state.specs.State.{State, empty_state}
use Rattle.viper_state.specs.Within.{IsProperOpening, IsWithinOpening, IsWithinChoice}
use Rattle.viper_state.proofs.ProperLaws.{opening_proper_by, choice_proper_by, none_proper}
use Rattle.viper_meaning.specs.Asked as asked
use Rattle.viper_meaning.specs.ComparedRuns.{is_over}
use Rattle.viper_meaning.specs.Kept.{value, failure, blocked, over}
use Rattle.viper_meaning.specs.KeptRuns.{KeepsRun, at_end, later}
use Rattle.viper_meaning.specs.Run.{Run, Ran, Fails, ran, on, since}
use Rattle.viper_meaning.specs.Units.{first_store, start_method, start_predicate, unit_run, opening_types, ViperFails}
use Rattle.viper_meaning.proofs.AskedLaws.{unit_asks}
use Rattle.viper_meaning.proofs.FoundLaws.{method_found, predicate_found}
use Rattle.viper_meaning.proofs.RunBoundLaws.{small_run}
use Rattle.viper_meaning.proofs.StatementBoundLaws.{unit_run_bounded}
use Rattle.viper_meaning.proofs.StatementFitsLaws.{first_fits, unit_run_fits}
use Rattle.viper_meaning.proofs.TakenLaws.{passed}
use Rattle.boogie_tree.specs.Program.{BType, Local}
use Rattle.boogie_tree.specs.Stmt as s
use Rattle.boogie_tree.specs.Value.{BChoice}
use Rattle.boogie_tree.specs.Values.{IsReducedChoice, IsEnvironment, IsOfType}
use Rattle.boogie_meaning.specs.Programs as b
use Rattle.boogie_meaning.specs.Programs.{brun_proc, ProcFails}
use Rattle.boogie_meaning.specs.Run as r
use Rattle.boogie_meaning.specs.Run.{Stops, brun, then_run}
use Rattle.moves.specs.Moves.{moves}
use Rattle.enc_expr.specs.Code.{then_emit, puts}
use Rattle.enc_expr.specs.Coupling.{Env, AreLocals}
use Rattle.enc_expr.specs.Emits.{temporaries}
use Rattle.enc_expr.specs.Front.{types_of, types_of_method, types_of_predicate, front_names, front_values}
use Rattle.enc_expr.specs.Locals.{types_of_others, others_of_method, fixed_names, fixed_types, named, names_from, first_other, state_names, old_names, zero_names, predicate_names, mask_name, amount_name, old_heap_name, old_mask_name, old_amount_name, old_content_name, zero_name}
use Rattle.enc_expr.specs.Pieces.{one_real}
use Rattle.enc_expr.proofs.FrontLaws.{front}
use Rattle.enc_expr.proofs.RunLaws.{join_run}
use Rattle.enc_assert.specs.Alongside.{IsGiven, IsProperMove}
use Rattle.enc_assert.specs.Encoding.{produce_code}
use Rattle.enc_assert.proofs.AlongsideLaws.{same_alongside}
use Rattle.enc_block.specs.Encoding.{with_body, with_method, method_code}
use Rattle.enc_block.specs.Home.{place, IsHome, HasRoom}
use Rattle.enc_units.specs.Units.{home_of, start_code, kinds_with, with_predicate, running_code, unit_code, further_types, unit_procedure, HoldsOpening, HasZeros, started, IsExact, Transfers}
use Rattle.enc_block.proofs.BlockLaws.{block_runs}
use Rattle.enc_block.proofs.CountedLaws.{block_counted}
use Rattle.enc_units.proofs.FailLaws.{HasFailed, fails_so, failed_back}
use Rattle.enc_block.proofs.GoingLaws.{Along, sets_along}
use Rattle.enc_block.proofs.MethodLaws.{home_again}
use Rattle.enc_units.proofs.OpenedLaws.{opening_read, opening_holds, start_has_zeros, start_is_typed}
use Rattle.enc_units.proofs.OpeningLaws.{opened_fits}
use Rattle.enc_units.proofs.ReducedLaws.{move_proper}
use Rattle.enc_units.proofs.StartLaws.{IsStarted, starts, zeros_or_blocked}
use Rattle.enc_units.proofs.UnitHomeLaws.{front_length, fixed_length, home_is_home}
use Rattle.enc_units.proofs.UnitLaws.{method_goes, predicate_goes}

-- ---- events of a run

abbrev events_in : {X : Type 0} → Ran X → List Event
events_in (ran events step left) = events

since_events : {X : Type 0} (es : List Event) (x : Ran X) → events_in (since es x) ≡ es ++ events_in x
since_events es (ran events step left) = refl

-- what a run records has the property that it keeps
events_kept : {X : Type 0} {E : Event → Type 0} {C : Choice → Type 0} {P : X → Type 0} {run : Run X} → KeepsRun E C P run → (choices : List Choice) → All C choices → All E (events_in (on run choices))
events_kept (at_end (value all h)) choices given = all
events_kept (at_end (failure all)) choices given = all
events_kept (at_end (blocked all)) choices given = all
events_kept (at_end (over all)) choices given = all
events_kept (later all h) [] given = all
events_kept {E = E} {C = C} (later {events = es} {next = next} all h) (c ∷ choices) given =
    subst (All E) (sym (since_events es (on (next c) choices)))
    (All-append E es (events_in (on (next c) choices)) all (events_kept (h c (All-head C c choices given)) choices (All-tail C c choices given)))

-- ---- choices that a run took

-- they fit, and on just those the run fails alike
record Taken (p : Program) (i : ℕ) (o : Opening) (events : List Event) (label : Label) : Type 0 where
  pub taken : List Choice
  pub fit : All (FitsChoice p.layout) taken
  pub within : All IsWithinChoice taken
  pub fails : on (unit_run Bounded p i o) taken ≡ ran events (Fails label) []

what_was_taken : (p : Program) (i : ℕ) (o : Opening) (choices : List Choice) (events : List Event) (left : List Choice) (label : Label) → All asked.IsReducedChoice choices → All IsWithinChoice choices →
    on (unit_run Bounded p i o) choices ≡ ran events (Fails label) left → Taken p i o events label
what_was_taken p i o choices events left label reduced within is =
    let h = passed p.layout (unit_run Bounded p i o) (unit_asks Bounded p i o) choices events (Fails label) left is tt reduced in
    record {
      taken = h.0.taken;
      fit = h.1;
      within = all_left IsWithinChoice h.0.taken left (subst (All IsWithinChoice) h.0.split within);
      fails = subst (λ cs. on (unit_run Bounded p i o) cs ≡ ran events (Fails label) []) (append-nil h.0.taken) (h.0.alike []);
    }

-- ---- stores

default_proper : (b : Bound) (w : Ty) → IsProperValue b (default_of w)
default_proper Unbounded ty.Int = tt
default_proper Bounded ty.Int = omega arith
default_proper b ty.Bool = tt
default_proper b ty.Ref = tt
default_proper b ty.Perm = none_proper b

defaults_proper : (b : Bound) (ws : List Ty) → All (IsProperValue b) (map default_of ws)
defaults_proper b [] = All-nil (IsProperValue b)
defaults_proper b (w ∷ ws) = All-cons (IsProperValue b) (default_of w) (map default_of ws) (default_proper b w) (defaults_proper b ws)

-- ---- room

pub are_locals : (ts : List BType) (n : ℕ) (us : List BType) → ((i : ℕ) (w : BType) → slice_get us i ≡ Some w → slice_get ts (n + i) ≡ Some w) → AreLocals ts n us
are_locals ts n [] h = tt
are_locals ts n (u ∷ us) h =
    let first : n ≡ n + 0 = omega arith in
    (ap (slice_get ts) first ∙ h 0 u refl, are_locals ts (n + 1) us (λ i w there. let next : n + 1 + i ≡ n + suc i = omega arith in ap (slice_get ts) next ∙ h (suc i) w there))

room_behind : (xs us : List BType) → HasRoom (xs ++ us) (length xs) us
room_behind xs us = record { low = omega (arith, length-append xs us); locals = are_locals (xs ++ us) (length xs) us (λ i w there. there_right xs us i ∙ there) }

-- ---- a unit goes alongside

module _ (b : Bound) (p : Program) (formed : IsFormed p) (us : List BType) (o : Opening) where
  abbrev Q : State → Env → Type 0
  Q s F = ⊤

  -- the start of the procedure of a unit: the opening stands, and the zero maps are zero
  pub record IsStart (u : Unit) (E : Env) : Type 0 where
    pub full : length E ≡ length (fixed_types p u ++ us)
    pub holds : HoldsOpening p u o E
    pub zeros : HasZeros p u E
    pub fits : FitsOpening p.layout (types_of p u) o
    pub proper : IsProperOpening b o

  abbrev from : Unit → ℕ
  from u = length (fixed_types p u)

  of_method : (k : ℕ) (m : Method) → slice_get p.methods k ≡ Some m → (E : Env) → IsStart (unit.Method k) E →
      HasRoom (fixed_types p (unit.Method k) ++ us) (from (unit.Method k)) (method_code p (kinds_with p m.vars) (home_of p (unit.Method k)) m (from (unit.Method k))).locals →
      Along b p.layout Q (start_method b p m o)
      (λ cs. brun (fixed_types p (unit.Method k) ++ us) b (then_emit (puts None (start_code p (unit.Method k))) (λ x. method_code p (kinds_with p m.vars) (home_of p (unit.Method k)) m) (from (unit.Method k))).stmts E cs)
  of_method k m exists E start room =
      let u = unit.Method k in let ts = fixed_types p u ++ us in let n = from u in let h = home_of p u in let k0 = empty_state p.layout o.memo in
      let are : types_of p u ++ types_of_others p u ≡ m.vars = subst (λ q. types_of_method q ++ others_of_method q ≡ m.vars) (sym exists) (take-append-drop (m.params + m.returns) m.vars) in
      let all : o.store ++ map default_of (types_of_others p u) ≡ first_store m o.store = subst (λ q. o.store ++ map default_of (others_of_method q) ≡ first_store m o.store) (sym exists) refl in
      let is_method : IsMethod p m = method_of_typed p formed.typed k m exists in
      let home : IsHome ts (record { program = p; vars = m.vars; old = k0 }) h = home_is_home p u m.vars are k0 us in
      let start_is : IsStarted b p u us o m.vars are (first_store m o.store) all E =
      starts b p u us o m.vars are (first_store m o.store) all E start.full start.holds start.zeros start.fits start.proper
      (All-append (IsProperValue b) o.store (map default_of (drop (m.params + m.returns) m.vars)) start.proper.store (defaults_proper b (drop (m.params + m.returns) m.vars)))
      (first_fits b p formed m o.store (subst (λ q. FitsStore (types_of_method q) o.store) exists start.fits.store)) in
      sets_along ts b p.layout (puts None (start_code p u)) (λ x. method_code p (kinds_with p m.vars) h m) n E start_is.after (record { done = start_is.done })
      (method_goes ts b p formed o h m is_method home
      (λ s body has. record {
        counted = block_counted (record { program = p; vars = m.vars; old = s }) h body.stmts;
        runs = block_runs ts b (record { program = p; vars = m.vars; old = s }) h (home_again s home) formed m.params (method_scope m) body.stmts (method_body_of_typed p formed.typed k m body exists has).stmts;
      })
      n start_is.after start_is.at room)

  of_predicate : (k : ℕ) (d : Predicate) (body : e.Assertion) → slice_get p.predicates k ≡ Some d → d.body ≡ Some body → (E : Env) → IsStart (unit.Predicate k) E →
      HasRoom (fixed_types p (unit.Predicate k) ++ us) (from (unit.Predicate k)) (produce_code (kinds_with p d.params) (place (home_of p (unit.Predicate k)) d.at) None one_real body (from (unit.Predicate k))).locals →
      Along b p.layout Q (start_predicate b p d body o)
      (λ cs. brun (fixed_types p (unit.Predicate k) ++ us) b
      (then_emit (puts None (start_code p (unit.Predicate k))) (λ x. produce_code (kinds_with p d.params) (place (home_of p (unit.Predicate k)) d.at) None one_real body) (from (unit.Predicate k))).stmts E cs)
  of_predicate k d body exists has E start room =
      let u = unit.Predicate k in let ts = fixed_types p u ++ us in let n = from u in let h = home_of p u in let k0 = empty_state p.layout o.memo in
      let are : types_of p u ++ types_of_others p u ≡ d.params = subst (λ q. types_of_predicate q ++ [] ≡ d.params) (sym exists) (append-nil d.params) in
      let all : o.store ++ map default_of (types_of_others p u) ≡ o.store = append-nil o.store in
      let home : IsHome ts (record { program = p; vars = d.params; old = k0 }) h = home_is_home p u d.params are k0 us in
      let start_is : IsStarted b p u us o d.params are o.store all E =
      starts b p u us o d.params are o.store all E start.full start.holds start.zeros start.fits start.proper start.proper.store (subst (λ q. FitsStore (types_of_predicate q) o.store) exists start.fits.store) in
      sets_along ts b p.layout (puts None (start_code p u)) (λ x. produce_code (kinds_with p d.params) (place h d.at) None one_real body) n E start_is.after (record { done = start_is.done })
      (predicate_goes ts b p formed o h d body (predicate_body_of_typed p formed.typed k d body exists has) home n start_is.after start_is.at room)

  -- from each start
  pub unit_along : (u : Unit) (i : ℕ) → slice_get p.units i ≡ Some u → (E : Env) → IsStart u E → HasRoom (fixed_types p u ++ us) (length (fixed_types p u)) (running_code p u (length (fixed_types p u))).locals →
      Along b p.layout (λ s F. ⊤) (unit_run b p i o) (λ cs. brun (fixed_types p u ++ us) b (unit_code p u (length (fixed_types p u))).stmts E cs)
  unit_along (unit.Method k) i there E start room =
      let m = unit_method p formed.typed.units i k there in
      let h = home_of p (unit.Method k) in let n = from (unit.Method k) in let ts = fixed_types p (unit.Method k) ++ us in
      same_alongside ⊥ b p.layout (method_found b p i k o m.0 there m.1)
      (subst (λ q. HasRoom ts n (with_method q (λ m. method_code p (kinds_with p m.vars) h m) n).locals → Along b p.layout Q (start_method b p m.0 o)
      (λ cs. brun ts b (then_emit (puts None (start_code p (unit.Method k))) (λ x. with_method q (λ m. method_code p (kinds_with p m.vars) h m)) n).stmts E cs)) (sym m.1) (of_method k m.0 m.1 E start) room)
  unit_along (unit.Predicate k) i there E start room =
      let d = unit_predicate p formed.typed.units i k there in
      let h = home_of p (unit.Predicate k) in let n = from (unit.Predicate k) in let ts = fixed_types p (unit.Predicate k) ++ us in
      same_alongside ⊥ b p.layout (predicate_found b p i k o d.predicate d.body there d.exists d.has_body)
      (subst (λ q. HasRoom ts n (with_predicate q (λ d. with_body d.body (λ body. produce_code (kinds_with p d.params) (place h d.at) None one_real body)) n).locals → Along b p.layout Q (start_predicate b p d.predicate d.body o)
      (λ cs. brun ts b (then_emit (puts None (start_code p (unit.Predicate k))) (λ x. with_predicate q (λ d. with_body d.body (λ body. produce_code (kinds_with p d.params) (place h d.at) None one_real body))) n).stmts E cs)) (sym d.exists)
      (subst (λ q. HasRoom ts n (with_body q (λ body. produce_code (kinds_with p d.predicate.params) (place h d.predicate.at) None one_real body) n).locals → Along b p.layout Q (start_predicate b p d.predicate d.body o)
      (λ cs. brun ts b (then_emit (puts None (start_code p (unit.Predicate k))) (λ x. with_body q (λ body. produce_code (kinds_with p d.predicate.params) (place h d.predicate.at) None one_real body)) n).stmts E cs)) (sym d.has_body)
      (of_predicate k d.predicate d.body d.exists d.has_body E start)) room)

-- ---- the types of all locals

named_types : (xs : List (List ℕ)) (ws : List BType) → length ws ≡ length xs → map (λ (l : Local). l.ty) (named xs ws) ≡ ws
named_types [] [] e = refl
named_types [] (w ∷ ws) e = absurd (omega (arith, e))
named_types (x ∷ xs) [] e = absurd (omega (arith, e))
named_types (x ∷ xs) (w ∷ ws) e = ap (λ vs. w ∷ vs) (named_types xs ws (omega (arith, e)))

temporary_types : (n : ℕ) (ws : List BType) → map (λ (l : Local). l.ty) (temporaries n ws) ≡ ws
temporary_types n [] = refl
temporary_types n (w ∷ ws) = ap (λ vs. w ∷ vs) (temporary_types (n + 1) ws)

names_from_length : (n : ℕ) (ws : List Ty) → length (names_from n ws) ≡ length ws
names_from_length n [] = refl
names_from_length n (w ∷ ws) = ap suc (names_from_length (n + 1) ws)

module _ (p : Program) (formed : IsFormed p) (u : Unit) where
  fields_long : length p.layout.fields ≡ length p.fields
  fields_long = formed.typed.layout.fields

  keys_long : length p.layout.keys ≡ length (predicate_names p)
  keys_long = ap length formed.typed.layout.keys ∙ (length-map p.predicates (λ (d : Predicate). d.params) ∙ sym (length-map p.predicates (λ (d : Predicate). d.name)))

  abbrev other_names : List (List ℕ)
  other_names = names_from (first_other p u) (types_of_others p u)

  -- each fixed local has a type
  fixed_as_many : length (fixed_types p u) ≡ length (fixed_names p u)
  fixed_as_many = omega (
    arith,
    fixed_length p u,
    front_length p u,
    (front p u formed).as_many,
    fields_long,
    keys_long,
    names_from_length (first_other p u) (types_of_others p u),
    length-append (front_names p u) (state_names p ++ (old_names p ++ (zero_names p ++ other_names))),
    length-append (state_names p) (old_names p ++ (zero_names p ++ other_names)),
    length-append (old_names p) (zero_names p ++ other_names),
    length-append (zero_names p) other_names,
    length-append (map mask_name p.fields) (map amount_name (predicate_names p)),
    length-append (map old_heap_name p.fields ++ map old_mask_name p.fields ++ map old_amount_name (predicate_names p)) (map old_content_name (predicate_names p)),
    length-append (map old_heap_name p.fields ++ map old_mask_name p.fields) (map old_amount_name (predicate_names p)),
    length-append (map old_heap_name p.fields) (map old_mask_name p.fields),
    length-map p.fields mask_name,
    length-map (predicate_names p) amount_name,
    length-map p.fields old_heap_name,
    length-map p.fields old_mask_name,
    length-map (predicate_names p) old_amount_name,
    length-map (predicate_names p) old_content_name,
    length-map ([] ∷ predicate_names p) zero_name,
    length-map (predicate_names p) zero_name,
  )

  pub procedure_types : b.types_of (unit_procedure p u) ≡ fixed_types p u ++ further_types p u
  procedure_types =
      map_append (λ (l : Local). l.ty) (named (fixed_names p u) (fixed_types p u)) (temporaries (length (fixed_types p u)) (further_types p u))
      ∙ (ap (λ ws. ws ++ map (λ (l : Local). l.ty) (temporaries (length (fixed_types p u)) (further_types p u))) (named_types (fixed_names p u) (fixed_types p u) fixed_as_many)
      ∙ ap (λ vs. fixed_types p u ++ vs) (temporary_types (length (fixed_types p u)) (further_types p u)))

  abbrev all_types : List BType
  all_types = fixed_types p u ++ further_types p u

  abbrev whole_code : s.BStmts
  whole_code = (unit_code p u (length (fixed_types p u))).stmts

  runs_as : (bound : Bound) (E : Env) (cs : List BChoice) → brun_proc bound (unit_procedure p u) E cs ≡ brun all_types bound whole_code E cs
  runs_as bound E cs = ap (λ (ls : List BType). brun ls bound whole_code E cs) procedure_types

  -- there is room for all temporaries
  has_room : HasRoom all_types (length (fixed_types p u)) (running_code p u (length (fixed_types p u))).locals
  has_room = room_behind (fixed_types p u) (further_types p u)

  module _ (i : ℕ) (there : slice_get p.units i ≡ Some u) where
    -- ---- openings

    opening_types_are : (w : Unit) → slice_get p.units i ≡ Some w → opening_types p w ≡ Some (types_of p w)
    opening_types_are (unit.Method k) is =
        let m = unit_method p formed.typed.units i k is in let a : opening_types p (unit.Method k) ≡ Some (take (m.0.params + m.0.returns) m.0.vars) = rw (m.1) refl in
        a ∙ ap Some (sym (ap types_of_method m.1))
    opening_types_are (unit.Predicate k) is =
        let d = unit_predicate p formed.typed.units i k is in let a : opening_types p (unit.Predicate k) ≡ Some d.predicate.params = rw (d.exists) refl in a ∙ ap Some (sym (ap types_of_predicate d.exists))

    -- the values of an opening, with defaults behind them, are a start
    started_is : (bound : Bound) (o : Opening) → FitsOpening p.layout (types_of p u) o → IfBounded bound (IsWithinOpening o) → IsStart bound p formed (further_types p u) o u (started all_types (front_values o))
    started_is bound o fits within = record {
      full = sym (zip_length (λ w v. IsOfType v w) all_types (started all_types (front_values o)) (start_is_typed p u (further_types p u) o fits));
      holds = opening_holds p u (further_types p u) o fits;
      zeros = start_has_zeros p u (further_types p u) o fits;
      fits = fits;
      proper = opening_proper_by bound p.layout (types_of p u) o fits within;
    }

    -- a run of the unit that fails is one of the procedure from there
    fails_from : (bound : Bound) (o : Opening) (choices : List Choice) (events : List Event) (left : List Choice) (label : Label) → FitsOpening p.layout (types_of p u) o → IfBounded bound (IsWithinOpening o) →
        All (IsGiven bound p.layout) choices → on (unit_run bound p i o) choices ≡ ran events (Fails label) left → brun all_types bound whole_code (started all_types (front_values o)) (moves events) ≡ Stops (r.Failed label) []
    fails_from bound o choices events left label fits within given is =
        fails_so (unit_along bound p formed (further_types p u) o u i there (started all_types (front_values o)) (started_is bound o fits within) has_room) choices events left label given is

    -- ---- both ways

    from_viper : (label : Label) → ViperFails p i label → ProcFails (unit_procedure p u) label
    from_viper label h =
        let fits = opened_fits p i h.opening u h.opens there in let E : Env = started all_types (front_values h.opening) in
        record {
          environment = E;
          is_environment = subst (λ ws. IsEnvironment ws E) (sym procedure_types) (start_is_typed p u (further_types p u) h.opening fits);
          choices = moves h.events;
          are_reduced = moves_reduced p.layout h.events
              (subst (All (FitsEvent p.layout)) (ap events_in h.fails) (events_kept (unit_run_fits Unbounded p formed i h.opening h.opens) h.choices h.fit));
          fails = record {
            left = [];
            is = runs_as Unbounded E (moves h.events)
                ∙ fails_from Unbounded h.opening h.choices h.events h.left label fits tt
                (All-weaker (FitsChoice p.layout) (IsGiven Unbounded p.layout) (λ c f. record { proper = choice_proper_by Unbounded p.layout c f tt; fits = f }) h.choices h.fit) h.fails;
          };
        }

    from_boogie : (label : Label) → ProcFails (unit_procedure p u) label → ViperFails p i label
    from_boogie label h = by_zeros (zeros_or_blocked Unbounded p u (further_types p u) h.environment typed h.choices)
      where
        typed : IsEnvironment all_types h.environment
        typed = subst (λ ws. IsEnvironment ws h.environment) procedure_types h.is_environment

        fails : brun all_types Unbounded whole_code h.environment h.choices ≡ Stops (r.Failed label) h.fails.left
        fails = sym (runs_as Unbounded h.environment h.choices) ∙ h.fails.is

        of_failed : (o : Opening) → FitsOpening p.layout (types_of p u) o → HasFailed Unbounded p.layout (unit_run Unbounded p i o) label → ViperFails p i label
        of_failed o fits f = record {
          opening = o;
          opens = record { unit = u; types = types_of p u; exists = there; typed = opening_types_are u there; fits = fits };
          choices = f.choices;
          fit = All-weaker (IsGiven Unbounded p.layout) (FitsChoice p.layout) (λ c g. g.fits) f.choices f.given;
          events = f.events;
          left = [];
          fails = f.fails;
        }

        by_zeros : HasZeros p u h.environment ⊎ (brun all_types Unbounded (start_code p u) h.environment h.choices ≡ Stops r.Blocked h.choices) → ViperFails p i label
        by_zeros (inl zeros) =
            let opened = opening_read p u (further_types p u) h.environment typed in
            of_failed opened.opening opened.fits
            (failed_back (unit_along Unbounded p formed (further_types p u) opened.opening u i there h.environment (record {
              full = sym (zip_length (λ w v. IsOfType v w) all_types h.environment typed);
              holds = opened.holds;
              zeros = zeros;
              fits = opened.fits;
              proper = opening_proper_by Unbounded p.layout (types_of p u) opened.opening opened.fits tt;
            }) has_room)
            (λ bounded. absurd (cc)) h.choices h.fails.left label (All-weaker IsReducedChoice (IsProperMove Unbounded) move_proper h.choices h.are_reduced) fails)
        by_zeros (inr stops) =
            let blocks : brun all_types Unbounded whole_code h.environment h.choices ≡ Stops r.Blocked h.choices =
            join_run all_types Unbounded (start_code p u) (running_code p u (length (fixed_types p u))).stmts h.environment h.choices
            ∙ ap (λ (x : r.Run). then_run x (λ F rest. brun all_types Unbounded (running_code p u (length (fixed_types p u))).stmts F rest)) stops in
            let clash : Stops (r.Failed label) h.fails.left ≡ Stops r.Blocked h.choices = sym fails ∙ blocks in absurd (cc)

    pub unit_exact : IsExact p i u
    unit_exact label = (from_boogie label, from_viper label)

    -- ---- the transfer

    pub unit_transfers : Transfers p i u
    unit_transfers o choices events left label opens in_bound reduced within is bound =
        ap (λ (ls : List BType). brun_proc bound (unit_procedure p u) (started ls (front_values o)) (moves events)) procedure_types
        ∙ (runs_as bound (started all_types (front_values o)) (moves events) ∙ by_bound bound (what_was_taken p i o choices events left label reduced within is))
      where
        fits : FitsOpening p.layout (types_of p u) o
        fits = opened_fits p i o u opens there

        by_bound : (bound : Bound) → Taken p i o events label → brun all_types bound whole_code (started all_types (front_values o)) (moves events) ≡ Stops (r.Failed label) []
        by_bound Bounded t =
            fails_from Bounded o t.taken events [] label fits in_bound
            (all_both (FitsChoice p.layout) IsWithinChoice (IsGiven Bounded p.layout) (λ c f w. record { proper = choice_proper_by Bounded p.layout c f w; fits = f }) t.taken t.fit t.within) t.fails
        by_bound Unbounded t =
            fails_from Unbounded o t.taken events [] label fits tt
            (All-weaker (FitsChoice p.layout) (IsGiven Unbounded p.layout) (λ c f. record { proper = choice_proper_by Unbounded p.layout c f tt; fits = f }) t.taken t.fit)
            (sym (small_run (unit_run_bounded p i o) t.taken (ap is_over t.fails)) ∙ t.fails)
