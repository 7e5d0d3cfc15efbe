-- The body of a predicate is consumed, and the instance takes what it contained.
use Rattle.std.specs.Bool.{⊤}
use Rattle.std.proofs.Common.{◌≡◌, ◌+◌, ◌≤◌, ℕ, List, [], ◌∷◌, length, All, true, Some, None, slice_get, slice_set, refl, sym, ap, subst, ◌∙◌, arith}
use Rattle.std.proofs.lemmas.Bool.Decides.{nat_tests}
use Rattle.std.proofs.lemmas.Option.{slice_get_within, get_or_from_slice_get}
use Rattle.vb_base.specs.Limits.{max_content_nodes}
use Rattle.vb_base.specs.declared.places.Pos.{Pos}
use Rattle.vb_value.specs.Bound.{Bound, Bounded, Unbounded, IfBounded}
use Rattle.vb_value.specs.Content.{Content, nodes, IsReducedContent, IsProperContent}
use Rattle.vb_value.specs.Fraction.{Fraction, write, is_positive, IsProperFraction}
use Rattle.vb_value.specs.Value.{IsProperValue}
use Rattle.vb_value.specs.declared.values.Ty.{Ty}
use Rattle.vb_value.specs.declared.values.Value.{Value}
use Rattle.viper_core.specs.Expr as e
use Rattle.viper_core.specs.Formed.{IsFormed, predicate_context}
use Rattle.viper_core.specs.Program.{Predicate}
use Rattle.viper_core.specs.Typing.{Context, IsAssertion}
use Rattle.viper_core.proofs.BodyLaws.{body_opens_nothing, body_has_no_wildcard}
use Rattle.viper_core.proofs.LiteralLaws.{assertion_literals, literals_proper}
use Rattle.viper_state.specs.Event.{Event}
use Rattle.viper_state.specs.Fits.{FitsStore, FitsKey}
use Rattle.viper_state.specs.Run.{Scene, with_variables}
use Rattle.viper_state.specs.State.{Key, State}
use Rattle.viper_state.proofs.ShapeLaws.{state_has_maps}
use Rattle.viper_meaning.specs.Assertions.{consume}
use Rattle.viper_meaning.specs.Contents.{content_in, is_small, closed}
use Rattle.viper_meaning.specs.Ends.{Evaluated, ends, is, then_with, fitting, events_of}
use Rattle.viper_meaning.specs.Kept as kept
use Rattle.viper_meaning.specs.Kept.{Keeps}
use Rattle.viper_meaning.specs.Places.{key_of, fill_held}
use Rattle.viper_meaning.specs.Run.{ended, then_do}
use Rattle.viper_meaning.specs.Sat.{Has}
use Rattle.viper_meaning.proofs.ContentLaws.{consumed_has_content}
use Rattle.viper_meaning.proofs.QuietLaws.{content_unrecorded}
use Rattle.viper_meaning.proofs.StatementFitsLaws.{content_in_fits}
use Rattle.viper_meaning.proofs.StatementKeptLaws.{proper_write, content_in_proper}
use Rattle.boogie_tree.specs.Expr as t
use Rattle.boogie_tree.specs.Program.{BType}
use Rattle.boogie_tree.specs.Stmt as stmt
use Rattle.boogie_tree.specs.Value as w
use Rattle.boogie_tree.specs.Value.{One, BChoice}
use Rattle.boogie_tree.specs.Values.{plain_type}
use Rattle.boogie_tree.specs.declared.exprs.BBase.TheVariants as base
use Rattle.boogie_meaning.specs.Ends as end
use Rattle.boogie_meaning.specs.Quantified.{bvalue}
use Rattle.boogie_meaning.specs.Run.{brun}
use Rattle.boogie_meaning.proofs.PatternLaws.{set_here}
use Rattle.enc_expr.specs.Place.{Maps, Place, with_now, with_vars, IsLocalOf}
use Rattle.enc_expr.specs.Kinds.{kinds_in, body_kinds}
use Rattle.enc_expr.specs.Code.{Emitting, then_emit, declares, puts}
use Rattle.enc_expr.specs.Pieces.{index, one_real}
use Rattle.enc_expr.specs.Encoding.{fill_instance_code}
use Rattle.enc_expr.specs.Plain.{content_expr}
use Rattle.enc_expr.specs.Coupling.{Env, HasMaps, IsCoupled, IsOwn, AreLocals, IsReady}
use Rattle.enc_expr.specs.Alike.{Alike, Kept, KeptBut, HasAtom, real, AreLocated, IsScale}
use Rattle.enc_expr.proofs.RunLaws.{assign_run}
use Rattle.enc_expr.proofs.AlikeLaws.{weaken_alike}
use Rattle.enc_expr.proofs.AmountLaws.{fitting_alike}
use Rattle.enc_expr.proofs.FrameLaws.{kept_set, but_less, but_then, kept_but_then, then_kept_but, maps_kept, Singles, singles_then, singles_kept, singles_but, atom_single, located_single, coupled_own, locals_first, locals_rest}
use Rattle.enc_expr.proofs.FillLaws.{IsChanged, fill_held_alike}
use Rattle.enc_expr.proofs.InsideLaws.{located_variable, amount_scales}
use Rattle.enc_expr.proofs.OpeningLaws.{after_nothing, alike_run, alike_of}
use Rattle.enc_assert.specs.Alongside.{IsGiven, AreAlongside}
use Rattle.enc_assert.specs.Encoding.{consume_code}
use Rattle.enc_assert.specs.Held.{IsConsumed, IsShrinking}
use Rattle.enc_assert.proofs.AlongsideLaws.{ended_alongside, law_alongside}
use Rattle.enc_assert.proofs.ConsumeSimulation.{start_coupled, assertion_consumed}
use Rattle.enc_assert.proofs.GoingLaws.{emit_both, quiet_first}
use Rattle.enc_assert.proofs.ProduceLaws.{held_is_local}
use Rattle.enc_assert.proofs.WayLaws.{any_run}
use Rattle.enc_assert.proofs.WrittenLaws.{consume_counted}
use Rattle.enc_fold.specs.Saved.{held_types, held_from, saving}
use Rattle.enc_fold.specs.Encoding.{closing_code}
use Rattle.enc_expr.proofs.ContentLaws.{content_value}
use Rattle.enc_fold.proofs.SavedLaws.{straight_first, saving_is, saving_counted, saving_sets, start_shrinks}

-- ---- evaluations

-- what has a value and records nothing is that value
value_alone : {X : Type 0} (a : Evaluated X) (x : X) → events_of a ≡ [] → Has x a → a ≡ is x
value_alone (ends es how) x quiet has = λ i. ends (quiet i) (has i)

kept_value : {X : Type 0} {V : Event → Type 0} {P : X → Type 0} {x : X} → Keeps V P (is x) → P x
kept_value (kept.value all p) = p

kept_of : {X : Type 0} {V : Event → Type 0} {P : X → Type 0} {a : Evaluated X} {x : X} → a ≡ is x → Keeps V P a → P x
kept_of {V = V} {P} same h = kept_value (subst (Keeps V P) same h)

small_nodes : (b : Bound) (d : Content) → IfBounded b (is_small d ≡ true) → IfBounded b (nodes d ≤ max_content_nodes)
small_nodes Unbounded d h = tt
small_nodes Bounded d h = grind (arith, nat_tests, h)

-- the body of a predicate names its parameters
pub kinds_of_body : (c : Context) (q : ℕ) (d : Predicate) → slice_get c.program.layout.keys q ≡ Some d.params → kinds_in (predicate_context c.program d) ≡ body_kinds (kinds_in c) q
kinds_of_body c q d keys = ap (λ (us : List Ty). record { vars = us; layout = c.program.layout }) (sym (get_or_from_slice_get c.program.layout.keys q d.params _ keys))

module _ (ts : List BType) (b : Bound) (c : Context) (formed : IsFormed c.program) (d : Predicate) (p : Place) (own : IsOwn c p) (s : State) (sc : Scene) (q : ℕ) (body : e.Assertion) (at : Pos)
    (keys : slice_get c.program.layout.keys q ≡ Some d.params) (typed : IsAssertion (predicate_context c.program d) body) (n : ℕ) (E : Env) (coupled : IsCoupled b c n p s sc E) (full : length E ≡ length ts)
    (vs : List Value) (proper_values : All (IsProperValue b) vs) (fits : FitsStore d.params vs) (key : Key) (is_key : Some key ≡ key_of vs) (fits_key : FitsKey d.params key)
    (is_ : List ℕ) (located : AreLocated n E is_ vs) (amount : t.BExpr) (z : Fraction) (atom : HasAtom n E amount (w.Real z)) (positive : is_positive z ≡ true) (proper : IsProperFraction b z) where
  abbrev pc : Context
  pc = predicate_context c.program d

  abbrev within : Scene
  within = with_variables vs sc

  abbrev start : Maps
  start = held_from c.program.layout p.now n

  -- where the body is read
  abbrev reading : Place
  reading = with_vars is_ (with_now start p)

  abbrev n1 : ℕ
  n1 = n + length (held_types c.program.layout)

  abbrev contained : t.BExpr
  contained = content_expr (body_kinds (kinds_in c) q) reading body

  abbrev consuming : Emitting ⊤
  consuming = consume_code (body_kinds (kinds_in c) q) reading p.now None amount body

  abbrev filling : ℕ → stmt.BStmts
  filling x = fill_instance_code p one_real q (index is_) amount x

  abbrev ending : ℕ → Emitting ⊤
  ending x = puts None (stmt.first (stmt.Assign x contained) (filling x))

  abbrev behind_saving : Emitting ⊤
  behind_saving = then_emit consuming (λ u. then_emit (declares (plain_type base.Snap)) ending)

  abbrev n2 : ℕ
  n2 = (consuming n1).next

  abbrev snap : BType
  snap = plain_type base.Snap

  -- ---- behind the copies

  module _ (F : Env) (kept1 : Kept n E F) (maps1 : HasMaps c.program.layout n1 start s F) where
    low : n ≤ n1
    low = omega arith

    long1 : length F ≡ length ts
    long1 = kept1.length ∙ full

    in_body : IsCoupled b pc n1 reading s within F
    in_body = record {
      now = maps1;
      old = maps_kept low kept1 coupled.old;
      vars = λ i u visible there. located_variable is_ vs d.params i u (located_single low (singles_kept kept1) located) fits there;
      at = coupled.at;
      sound = coupled.sound;
      old_sound = coupled.old_sound;
      store = proper_values;
    }

    now1 : HasMaps c.program.layout n1 p.now s F
    now1 = maps_kept low kept1 coupled.now

    shrinks : IsShrinking pc reading p.now
    shrinks = start_shrinks b c p n n coupled (omega arith) own

    -- ---- behind the body

    module _ (left : State) (G : Env) (after : IsConsumed b pc n1 n2 p.now F left G) (content : Content) (has : Has content (content_in b body s within)) (snap_there : slice_get ts n2 ≡ Some snap) where
      more : n1 ≤ n2
      more = omega (arith, (consume_counted (body_kinds (kinds_in c) q) reading p.now None amount body).next n1)

      is_content : content_in b body s within ≡ is content
      is_content = value_alone (content_in b body s within) content (content_unrecorded b body s within (body_opens_nothing c.program d body typed)) has

      read2 : IsCoupled b pc n2 reading s within G
      read2 = start_coupled b pc reading p.now shrinks s within more in_body now1 after

      value : IfBounded b (is_small content ≡ true) → bvalue b contained G ≡ end.Is (w.Snap content)
      value = subst (λ k. IfBounded b (is_small content ≡ true) → bvalue b (content_expr k reading body) G ≡ end.Is (w.Snap content)) (kinds_of_body c q d keys)
          (kept_of is_content (content_value b pc formed read2 refl refl body typed))

      reduced : IsReducedContent content
      reduced = kept_of is_content (content_in_fits b pc formed body s within typed coupled.sound.fits (record { store = fits; old = coupled.old_sound.fits }))

      proper_content : IfBounded b (is_small content ≡ true) → IsProperContent b content
      proper_content small = record {
        small = small_nodes b content small;
        values = kept_of is_content (content_in_proper b body s within (assertion_literals _ _ (literals_proper b) pc formed.typed typed) coupled.sound.proper (record { store = proper_values; old = coupled.old_sound.proper }));
      }

      -- the content in its local
      abbrev H : Env
      H = slice_set G n2 (One (w.Snap content))

      kept2 : KeptBut (IsLocalOf c.program.layout p.now) n1 F G
      kept2 = but_less held_is_local after.kept

      kept3 : Kept n2 G H
      kept3 = kept_set n2 n2 (One (w.Snap content)) G (omega arith)

      kept_all : KeptBut (IsLocalOf c.program.layout p.now) n E H
      kept_all = then_kept_but {F = G} (omega (arith, low, more)) (kept_but_then {F = F} low kept1 kept2) kept3

      singles : Singles n E H
      singles = singles_then {F = F} low (singles_kept kept1) (singles_then {F = G} more (singles_but c.program.layout n1 n1 p.now s F G now1 kept2) (singles_kept kept3))

      last : IsCoupled b c (n2 + 1) p left sc H
      last = coupled_own b c n (n2 + 1) p p.now s left sc E H own (omega (arith, low, more)) kept_all singles (maps_kept (omega arith) kept3 after.maps) after.sound coupled

      here : slice_get H n2 ≡ Some (One (w.Snap content))
      here = set_here G n2 (One (w.Snap content)) (omega (arith, slice_get_within ts n2 snap snap_there, long1, kept2.length))

      closed_alike : (cs : List BChoice) → Alike (IsChanged c p n (n2 + 1) E) b (closed b body s within q key z at left) cs (brun ts b (stmt.first (stmt.Assign n2 contained) (filling n2)) G cs)
      closed_alike cs =
          let go = λ (d : Content). fill_held b write q key z d at left in
          alike_of (ap (λ a. then_with a (λ d. then_with (fitting b (is_small d) at d) go)) is_content ∙ after_nothing (then_with (fitting b (is_small content) at content) go))
          (fitting_alike b (is_small content) at content go cs (brun ts b (stmt.first (stmt.Assign n2 contained) (filling n2)) G cs) (λ small.
          alike_run (assign_run ts b n2 contained (w.Snap content) (filling n2) G cs (value small))
          (weaken_alike (λ u K changed. record { kept = but_then {F = H} (omega (arith, low, more)) kept_all changed.kept; now = changed.now })
          (fill_held_alike ts b c p left sc own (n2 + 1) H last (kept_all.length ∙ full) write one_real (record { atom = real; positive = refl; proper = proper_write b }) at n2 content
          (record { below = omega arith; here = here; reduced = reduced; proper = proper_content small }) amount z (atom_single (omega (arith, low, more)) singles atom) proper q d.params key is_ vs keys fits_key
          (located_single (omega (arith, low, more)) singles located) is_key cs))))

    -- the body is consumed, and then the rest is done
    behind_alongside : IsReady ts None n1 (behind_saving n1).locals F →
        AreAlongside ⊤ b c.program.layout (IsChanged c p n (n2 + 1) E) (then_do (consume b body s within z s) (λ left. ended (closed b body s within q key z at left))) (λ cs. brun ts b (behind_saving n1).stmts F cs)
    behind_alongside ready =
        let counted = consume_counted (body_kinds (kinds_in c) q) reading p.now None amount body in
        let locals2 : AreLocals ts n2 (snap ∷ []) = subst (λ i. AreLocals ts i (snap ∷ [])) (counted.next n1) (locals_rest ts n1 (consuming n1).locals (snap ∷ []) ready.locals) in
        let has_maps = state_has_maps c.program.layout s coupled.sound.fits in
        let scales : IsScale b n1 F amount z = amount_scales b n n1 E F amount z low (singles_kept kept1) atom positive proper in
        let consumed : AreAlongside ⊤ b c.program.layout (IsConsumed b pc n1 n2 p.now F) (consume b body s within z s) (λ cs. brun ts b (consuming n1).stmts F cs) =
        subst (λ k. IsReady ts None n1 (consume_code k reading p.now None amount body n1).locals F →
        AreAlongside ⊤ b c.program.layout (IsConsumed b pc n1 (consume_code k reading p.now None amount body n1).next p.now F) (consume b body s within z s) (λ cs. brun ts b (consume_code k reading p.now None amount body n1).stmts F cs))
        (kinds_of_body c q d keys)
        ((assertion_consumed ts b pc formed reading p.now shrinks s within fits amount z None s body typed).alongside n1 F (record { coupled = in_body; maps = now1; sound = coupled.sound; scales = scales }))
        (record { awake = tt; full = long1; locals = locals_first ts n1 (consuming n1).locals (snap ∷ []) ready.locals }) in
        emit_both ⊤ ts b c.program.layout consuming (λ u. then_emit (declares snap) ending) n1 F (consume b body s within z s) (λ left. ended (closed b body s within q key z at left))
        (law_alongside ⊤ b c.program.layout {R = λ left G. IsConsumed b pc n1 n2 p.now F left G × ((content : Content) × Has content (content_in b body s within))}
        (any_run {G = IsGiven b c.program.layout} (λ d given. tt) (λ u has. has) (consumed_has_content b c.program.layout within has_maps body z s (body_has_no_wildcard c.program d body typed) has_maps)) (λ u G has after. (after, has)) consumed)
        (λ left G h. quiet_first ⊤ ts b c.program.layout (declares snap) ending n2 G refl
        (ended_alongside ⊤ b c.program.layout (closed b body s within q key z at left) (λ cs. closed_alike left G h.0 h.1.0 h.1.1 locals2.0 cs)))

  -- all of it, once the arguments are in locals and the amount is an atom
  pub closing_alongside : IsReady ts None n (closing_code (kinds_in c) p q body is_ amount n).locals E →
      AreAlongside ⊤ b c.program.layout (IsChanged c p n (closing_code (kinds_in c) p q body is_ amount n).next E) (then_do (consume b body s within z s) (λ left. ended (closed b body s within q key z at left)))
      (λ cs. brun ts b (closing_code (kinds_in c) p q body is_ amount n).stmts E cs)
  closing_alongside ready =
      let copy = saving c.program.layout p.now n in
      let rest = (behind_saving n1).locals in
      let counted = saving_counted c.program.layout p.now in
      let locals1 : AreLocals ts n1 rest = subst (λ i. AreLocals ts i rest) (counted.next n) (locals_rest ts n copy.locals rest ready.locals) in
      let more : n1 ≤ n2 = omega (arith, (consume_counted (body_kinds (kinds_in c) q) reading p.now None amount body).next n1) in
      let locals2 : AreLocals ts n2 (snap ∷ []) =
      subst (λ i. AreLocals ts i (snap ∷ [])) ((consume_counted (body_kinds (kinds_in c) q) reading p.now None amount body).next n1) (locals_rest ts n1 (consuming n1).locals (snap ∷ []) locals1) in
      let room : n ≤ length ts = omega (arith, slice_get_within ts n2 snap locals2.0, more) in
      let saved = saving_sets ts b c.program.layout p.now s n E coupled.now full room (locals_first ts n copy.locals rest ready.locals) in
      straight_first ⊤ ts b c.program.layout (saving c.program.layout p.now) (λ start.
      then_emit (consume_code (body_kinds (kinds_in c) q) (with_vars is_ (with_now start p)) p.now None amount body) (λ u. then_emit (declares snap) (λ x.
      puts None (stmt.first (stmt.Assign x (content_expr (body_kinds (kinds_in c) q) (with_vars is_ (with_now start p)) body)) (fill_instance_code p one_real q (index is_) amount x))))) n E saved.after
      (λ cs. ap (λ xs. brun ts b xs E cs) (saving_is c.program.layout p.now n) ∙ saved.sets.done cs)
      (behind_alongside saved.after saved.sets.kept saved.maps (record { awake = tt; full = saved.sets.kept.length ∙ full; locals = locals1 }))
