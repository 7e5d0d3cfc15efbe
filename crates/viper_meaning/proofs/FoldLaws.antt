-- What blocks a `fold`, and nothing else does.
use Rattle.std.proofs.Common.{◌≡◌, ◌≢◌, refl, sym, ap, subst, ◌∙◌, ℕ, Bool, true, false, not, Option, Some, None, List, [], if◌then◌else◌}
use Rattle.std.specs.Prelude.{◌↔◌}
use Rattle.vb_base.specs.declared.places.Pos.{Pos}
use Rattle.vb_base.specs.declared.labels.Kind.TheVariants as kind
use Rattle.vb_value.specs.Bound.{Bound, Unbounded, Bounded, IfBounded}
use Rattle.vb_value.specs.Content.{Content, same_content}
use Rattle.vb_value.specs.Equality.{Decides-same_content}
use Rattle.vb_value.specs.Fraction.{Fraction, is_positive, is_none, write, sum, product, fits_sum, fits_product}
use Rattle.vb_value.specs.declared.values.Value.{Value}
use Rattle.viper_core.specs.Formed.{predicate_context, IsFormed}
use Rattle.viper_core.specs.Plain.{OpensNothing, OpenNothing}
use Rattle.viper_core.specs.Program.{Program}
use Rattle.viper_core.specs.Stmt.{FoldStmt}
use Rattle.viper_core.specs.Typing.{Context, IsFold}
use Rattle.viper_core.proofs.BodyLaws.{body_opens_nothing, body_has_no_wildcard}
use Rattle.viper_core.proofs.FormedLaws.{predicate_body_of_typed}
use Rattle.viper_state.specs.Choice.{Choice}
use Rattle.viper_state.specs.Event.{Event}
use Rattle.viper_state.specs.Fits.{FitsState, FitsScene}
use Rattle.viper_state.specs.Run.{Scene, with_variables}
use Rattle.viper_state.specs.State.{Key, State, content_at, amount_at, with_amount, with_content}
use Rattle.viper_state.proofs.FitsLaws.{content_found, amount_found}
use Rattle.viper_state.proofs.ShapeLaws.{state_has_maps}
use Rattle.viper_meaning.specs.Assertions.{consume}
use Rattle.viper_meaning.specs.Contents.{content_in, is_small, body_among, body_of, positive_amount, closed, fold_instance}
use Rattle.viper_meaning.specs.Ends.{Evaluated, ends, Is, Fails, Blocked, Over, the_end, IsNotBlocked, is, fails, blocks, after, then_with, found, unless, fitting}
use Rattle.viper_meaning.specs.Kept.{IsAny, Keeps}
use Rattle.viper_meaning.specs.KeptRuns.{KeepsRun, at_end}
use Rattle.viper_meaning.specs.Places.{key_of, added, contained, fill_held}
use Rattle.viper_meaning.specs.Run.{Run, ended, takes, before, evaluating, then_do}
use Rattle.viper_meaning.specs.Sat.{Has}
use Rattle.viper_meaning.specs.StillHeld.{HoldsAnother}
use Rattle.viper_meaning.specs.Value.{values, perm_in}
use Rattle.viper_meaning.proofs.ContentLaws.{consumed_has_content}
use Rattle.viper_meaning.proofs.EveryLaws.{kept_value}
use Rattle.viper_meaning.proofs.QuietLaws.{fold_recorded}
use Rattle.viper_meaning.proofs.TypedLaws.{not_blocked, is_typed, then_typed, fitting_typed, keys_at}
use Rattle.viper_meaning.proofs.UnblockedLaws.{key_there, comes_value, values_unblocked, perm_unblocked, consume_unblocked}

-- ---- evaluations that are blocked

abbrev pub IsBlocked : {X : Type 0} → Evaluated X → Type 0
IsBlocked e = the_end e ≡ Blocked

pub end_after : {X : Type 0} (es : List Event) (e : Evaluated X) → the_end (after es e) ≡ the_end e
end_after es (ends fs end) = refl

pub contradicts : {X : Type 0} {A : Type 0} (e : Evaluated X) → IsNotBlocked e → IsBlocked e → A
contradicts (ends es (Is x)) h b = cc
contradicts (ends es (Fails l)) h b = cc
contradicts (ends es Blocked) h b = absurd h
contradicts (ends es (Over at)) h b = cc

-- what goes on is blocked, where it is not blocked itself
pub later_blocked : {X Y : Type 0} (e : Evaluated X) (go : X → Evaluated Y) → IsNotBlocked e → IsBlocked (then_with e go) → (x : X) × (Has x e × IsBlocked (go x))
later_blocked (ends es (Is x)) go h b = (x, (refl, sym (end_after es (go x)) ∙ b))
later_blocked (ends es (Fails l)) go h b = cc
later_blocked (ends es Blocked) go h b = absurd h
later_blocked (ends es (Over at)) go h b = cc

pub blocked_later : {X Y : Type 0} (e : Evaluated X) (go : X → Evaluated Y) (x : X) → Has x e → IsBlocked (go x) → IsBlocked (then_with e go)
blocked_later (ends es (Is y)) go x h b =
    let same : x ≡ y = cc in
    end_after es (go y) ∙ subst (λ z. IsBlocked (go z)) same b
blocked_later (ends es (Fails l)) go x h b = cc
blocked_later (ends es Blocked) go x h b = refl
blocked_later (ends es (Over at)) go x h b = cc

-- where it has this value
pub value_blocked : {X Y : Type 0} (e : Evaluated X) (go : X → Evaluated Y) (x : X) → Has x e → IsBlocked (then_with e go) → IsBlocked (go x)
value_blocked (ends es (Is y)) go x h b =
    let same : y ≡ x = cc in
    subst (λ z. IsBlocked (go z)) same (sym (end_after es (go y)) ∙ b)
value_blocked (ends es (Fails l)) go x h b = cc
value_blocked (ends es Blocked) go x h b = cc
value_blocked (ends es (Over at)) go x h b = cc

pub found_has : {X : Type 0} (o : Option X) (x : X) → o ≡ Some x → Has x (found o)
found_has (Some y) x e = let same : y ≡ x = cc in ap Is same
found_has None x e = cc

-- ---- runs that are blocked, and take no choice

record IsBlockedRun {X : Type 0} (r : Run X) : Type 0 where
  end : Evaluated X
  same : r ≡ ended end
  blocked : IsBlocked end

of_ended : {X : Type 0} {e : Evaluated X} → IsBlockedRun (ended e) → IsBlocked e
of_ended {e = e} h =
    let hs : ended e ≡ ended h.end = h.same in
    let same : e ≡ h.end = cc in
    ap the_end same ∙ h.blocked

of_before : {X : Type 0} (es : List Event) (r : Run X) → IsBlockedRun (before es r) → IsBlockedRun r
of_before es (ended e) h = record { end = e; same = refl; blocked = sym (end_after es e) ∙ of_ended h }
of_before es (takes fs next) h = let no = h.same in cc

before_blocked : {X : Type 0} (es : List Event) {r : Run X} → IsBlockedRun r → IsBlockedRun (before es r)
before_blocked es h = record { end = after es h.end; same = ap (before es) h.same; blocked = end_after es h.end ∙ h.blocked }

run_later : {X Y : Type 0} (e : Evaluated X) (go : X → Run Y) → IsNotBlocked e → IsBlockedRun (evaluating e go) → (x : X) × (Has x e × IsBlockedRun (go x))
run_later (ends es (Is x)) go h b = (x, (refl, of_before es (go x) b))
run_later (ends es (Fails l)) go h b = let no = of_ended b in cc
run_later (ends es Blocked) go h b = absurd h
run_later (ends es (Over at)) go h b = let no = of_ended b in cc

run_value : {X Y : Type 0} (e : Evaluated X) (go : X → Run Y) (x : X) → Has x e → IsBlockedRun (evaluating e go) → IsBlockedRun (go x)
run_value (ends es (Is y)) go x h b =
    let same : y ≡ x = cc in
    subst (λ z. IsBlockedRun (go z)) same (of_before es (go y) b)
run_value (ends es (Fails l)) go x h b = cc
run_value (ends es Blocked) go x h b = cc
run_value (ends es (Over at)) go x h b = cc

blocked_run : {X Y : Type 0} (e : Evaluated X) (go : X → Run Y) (x : X) → Has x e → IsBlockedRun (go x) → IsBlockedRun (evaluating e go)
blocked_run (ends es (Is y)) go x h b =
    let same : x ≡ y = cc in
    before_blocked es (subst (λ z. IsBlockedRun (go z)) same b)
blocked_run (ends es (Fails l)) go x h b = cc
blocked_run (ends es Blocked) go x h b = cc
blocked_run (ends es (Over at)) go x h b = cc

then_run : {X Y : Type 0} {r : Run X} (go : X → Run Y) (e : Evaluated X) → r ≡ ended e → IsBlockedRun (then_do r go) → IsBlockedRun (evaluating e go)
then_run go e same b = subst (λ r. IsBlockedRun (then_do r go)) same b

run_then : {X Y : Type 0} {r : Run X} (go : X → Run Y) (e : Evaluated X) → r ≡ ended e → IsBlockedRun (evaluating e go) → IsBlockedRun (then_do r go)
run_then go e same b = subst (λ r. IsBlockedRun (then_do r go)) (sym same) b

-- ---- the amount

of_positive : {Y : Type 0} (sc : Scene) (at : Pos) (q : Fraction) (go : Fraction → Run Y) → IsBlockedRun (evaluating (positive_amount sc at q) go) → (is_positive q ≡ true) × IsBlockedRun (go q)
of_positive {Y} sc at q go h = by_sign (is_positive q) refl h
  where
    by_sign : (p : Bool) → is_positive q ≡ p → IsBlockedRun (evaluating (unless (not p) (fails sc at kind.Amount) (is q)) go) → (is_positive q ≡ true) × IsBlockedRun (go q)
    by_sign true e b = (e, of_before [] (go q) b)
    by_sign false e b = let no = of_ended b in cc

positive_has : (sc : Scene) (at : Pos) (q : Fraction) → is_positive q ≡ true → Has q (positive_amount sc at q)
positive_has sc at q e = subst (λ p. Has q (unless (not p) (fails sc at kind.Amount) (is q))) (sym e) refl

-- ---- what the instance takes

of_fitting : (b : Bound) (fits : Bool) (at : Pos) (c : Content) (go : Content → Evaluated State) → IsBlocked (then_with (fitting b fits at c) go) → IfBounded b (fits ≡ true) × IsBlocked (go c)
of_fitting Unbounded fits at c go h = (tt, sym (end_after [] (go c)) ∙ h)
of_fitting Bounded true at c go h = (refl, sym (end_after [] (go c)) ∙ h)
of_fitting Bounded false at c go h = cc

fitting_has : (b : Bound) (fits : Bool) (at : Pos) (c : Content) → IfBounded b (fits ≡ true) → Has c (fitting b fits at c)
fitting_has Unbounded fits at c h = refl
fitting_has Bounded true at c h = refl
fitting_has Bounded false at c h = cc

-- what goes on is never blocked
first_blocked : {X Y : Type 0} (e : Evaluated X) (go : X → Evaluated Y) → ((x : X) → IsNotBlocked (go x)) → IsBlocked (then_with e go) → IsBlocked e
first_blocked (ends es (Is x)) go h b = contradicts (go x) (h x) (sym (end_after es (go x)) ∙ b)
first_blocked (ends es (Fails l)) go h b = cc
first_blocked (ends es Blocked) go h b = refl
first_blocked (ends es (Over at)) go h b = cc

pub blocked_first : {X Y : Type 0} (e : Evaluated X) (go : X → Evaluated Y) → IsBlocked e → IsBlocked (then_with e go)
blocked_first (ends es (Is x)) go b = cc
blocked_first (ends es (Fails l)) go b = cc
blocked_first (ends es Blocked) go b = refl
blocked_first (ends es (Over at)) go b = cc

added_unblocked : (b : Bound) (held k q : Fraction) (at : Pos) (p : ℕ) (key : Key) (t : State) → IsNotBlocked (then_with (added b held k q at) (λ all. is (with_amount t p key all)))
added_unblocked b held k q at p key t =
    not_blocked {E = IsAny} {P = IsAny} (then_typed {P = IsAny} (then_typed {P = IsAny} (fitting_typed b (fits_product k q) at (product k q) tt) (λ more u. fitting_typed b (fits_sum held more) at (sum held more) tt)) (λ all u. is_typed tt))

module _ (left : State) (p : ℕ) (key : Key) (c : Content) (held : Fraction) (old : Content) (there : content_at left p key ≡ Some old) where
  of_contained : IsBlocked (contained left p key c held) → (is_none held ≡ false) × (c ≢ old)
  of_contained h = by_none (is_none held) refl h
    where
      by_same : (same : Bool) → same_content c old ≡ same → IsBlocked (unless (not same) blocks (is left)) → c ≢ old
      by_same true e b = cc
      by_same false e b = λ equal. let yes = (Decides-same_content c old).1 equal in cc

      by_none : (none : Bool) → is_none held ≡ none → IsBlocked (if none then is (with_content left p key c) else then_with (found (content_at left p key)) (λ x. unless (not (same_content c x)) blocks (is left))) →
          (is_none held ≡ false) × (c ≢ old)
      by_none true e b = cc
      by_none false e b = (e, by_same (same_content c old) refl (value_blocked (found (content_at left p key)) (λ x. unless (not (same_content c x)) blocks (is left)) old (found_has (content_at left p key) old there) b))

  contained_blocked : is_none held ≡ false → c ≢ old → IsBlocked (contained left p key c held)
  contained_blocked e apart =
      subst (λ none. IsBlocked (if none then is (with_content left p key c) else then_with (found (content_at left p key)) (λ x. unless (not (same_content c x)) blocks (is left)))) (sym e)
      (blocked_later (found (content_at left p key)) (λ x. unless (not (same_content c x)) blocks (is left)) old (found_has (content_at left p key) old there) (by_same (same_content c old) refl))
    where
      by_same : (same : Bool) → same_content c old ≡ same → IsBlocked (unless (not same) blocks (is left))
      by_same true e = absurd (apart ((Decides-same_content c old).0 e))
      by_same false e = refl

  module _ (b : Bound) (q : Fraction) (at : Pos) (holds : amount_at left p key ≡ Some held) where
    of_filled : IsBlocked (fill_held b write p key q c at left) → (is_none held ≡ false) × (c ≢ old)
    of_filled h =
        of_contained (first_blocked (contained left p key c held) (λ t. then_with (added b held write q at) (λ all. is (with_amount t p key all))) (added_unblocked b held write q at p key)
        (value_blocked (found (amount_at left p key)) (λ x. then_with (contained left p key c x) (λ t. then_with (added b x write q at) (λ all. is (with_amount t p key all)))) held (found_has (amount_at left p key) held holds) h))

    filled_blocked : is_none held ≡ false → c ≢ old → IsBlocked (fill_held b write p key q c at left)
    filled_blocked e apart =
        blocked_later (found (amount_at left p key)) (λ x. then_with (contained left p key c x) (λ t. then_with (added b x write q at) (λ all. is (with_amount t p key all)))) held (found_has (amount_at left p key) held holds)
        (blocked_first (contained left p key c held) (λ t. then_with (added b held write q at) (λ all. is (with_amount t p key all))) (contained_blocked e apart))

-- ---- a fold

at_kept : {X : Type 0} {E : Event → Type 0} {C : Choice → Type 0} {P : X → Type 0} {e : Evaluated X} → KeepsRun E C P (ended e) → Keeps E P e
at_kept (at_end h) = h

pub body_found : (c : Context) (f : FoldStmt) (h : IsFold c f) → body_of c.program f.predicate ≡ Some h.body
body_found c f h = ap body_among h.exists ∙ h.has_body

module _ (b : Bound) (c : Context) (formed : IsFormed c.program) (f : FoldStmt) (h : IsFold c f) (plain : OpenNothing f.args) (quiet : OpensNothing f.amount) (s : State) (sc : Scene)
    (fits : FitsState c.program.layout s) (seen : FitsScene c.program.layout c.vars sc) where
  -- the end of the fold
  closing : (vs : List Value) (key : Key) (q : Fraction) (end : Evaluated State) (left : State) (d : Content) → Has vs (values b f.args s sc) → key_of vs ≡ Some key → Has q (perm_in b f.amount s sc) → is_positive q ≡ true →
      consume b h.body s (with_variables vs sc) q s ≡ ended end → Has left end → Has d (content_in b h.body s (with_variables vs sc)) → FitsState c.program.layout left →
      IsBlocked (closed b h.body s (with_variables vs sc) f.predicate key q f.place left) → HoldsAnother b c.program f s sc
  closing vs key q end left d evaluated keyed by positive consumed leaves contains still blocked =
      let keys = keys_at c formed f.predicate h.predicate h.exists in
      let held = amount_found still f.predicate key h.predicate.params keys in
      let old = content_found still f.predicate key h.predicate.params keys in
      let fill : Content → Evaluated State = λ x. fill_held b write f.predicate key q x f.place left in
      let small = of_fitting b (is_small d) f.place d fill (value_blocked (content_in b h.body s (with_variables vs sc)) (λ x. then_with (fitting b (is_small x) f.place x) fill) d contains blocked) in
      let apart = of_filled left f.predicate key d held.0 old.0 old.1.0 b q f.place held.1.0 small.1 in
      record {
        arguments = vs;
        key = key;
        body = h.body;
        amount = q;
        evaluated = evaluated;
        keyed = keyed;
        has_body = body_found c f h;
        by = by;
        positive = positive;
        end = end;
        left = left;
        consumed = consumed;
        leaves = leaves;
        content = d;
        contained = contains;
        small = small.0;
        held = held.0;
        still_held = held.1.0;
        some = apart.0;
        old = old.0;
        there = old.1.0;
        another = apart.1;
      }

  holds_another : IsBlockedRun (fold_instance b c.program f s sc) → HoldsAnother b c.program f s sc
  holds_another blocked =
      let args = values_unblocked b c formed f.args h.predicate.params s sc h.args plain fits seen in
      let one = run_later (values b f.args s sc) _ (not_blocked args) blocked in
      let store = comes_value args one.1.0 in
      let by = perm_unblocked b c formed f.amount s sc h.amount quiet fits seen in
      let two = run_later (perm_in b f.amount s sc) _ (not_blocked by) one.1.1 in
      let key = key_there c formed f.predicate h.predicate one.0 h.exists store in
      let three = run_value (found (key_of one.0)) _ key.0 (found_has (key_of one.0) key.0 key.1.0) two.1.1 in
      let four = run_value (found (body_of c.program f.predicate)) _ h.body (found_has (body_of c.program f.predicate) h.body (body_found c f h)) three in
      let five = of_positive sc f.place two.0 _ four in
      let typed = predicate_body_of_typed c.program formed.typed f.predicate h.predicate h.body h.exists h.has_body in
      let written = body_has_no_wildcard c.program h.predicate h.body typed in
      let gone = consume_unblocked b (predicate_context c.program h.predicate) formed h.body s (with_variables one.0 sc) two.0 s typed written (body_opens_nothing c.program h.predicate h.body typed) fits fits
      (record { store = store; old = seen.old }) (comes_value by two.1.0) in
      let six = run_later gone.0 _ (not_blocked gone.1.1) (then_run _ gone.0 gone.1.0 five.1) in
      let maps = state_has_maps c.program.layout s fits in
      let contents = consumed_has_content b c.program.layout (with_variables one.0 sc) maps h.body two.0 s written maps in
      let kept = at_kept (subst (λ r. KeepsRun IsAny IsAny (λ u. (d : Content) × Has d (content_in b h.body s (with_variables one.0 sc))) r) gone.1.0 contents) in
      let content = kept_value {x = six.0} kept six.1.0 in
      closing one.0 key.0 two.0 gone.0 six.0 content.0 one.1.0 key.1.0 two.1.0 five.0 gone.1.0 six.1.0 content.1 (comes_value {x = six.0} gone.1.1 six.1.0)
      (of_ended {e = closed b h.body s (with_variables one.0 sc) f.predicate key.0 two.0 f.place six.0} six.1.1)

fold_is_blocked : (b : Bound) (program : Program) (f : FoldStmt) (s : State) (sc : Scene) → HoldsAnother b program f s sc → IsBlockedRun (fold_instance b program f s sc)
fold_is_blocked b program f s sc x =
    let fill : Content → Evaluated State = λ d. fill_held b write f.predicate x.key x.amount d f.place x.left in
    let filled = filled_blocked x.left f.predicate x.key x.content x.held x.old x.there b x.amount f.place x.still_held x.some x.another in
    let small = blocked_later (fitting b (is_small x.content) f.place x.content) fill x.content (fitting_has b (is_small x.content) f.place x.content x.small) filled in
    let all = blocked_later (content_in b x.body s (with_variables x.arguments sc)) (λ d. then_with (fitting b (is_small d) f.place d) fill) x.content x.contained small in
    blocked_run (values b f.args s sc) _ x.arguments x.evaluated (blocked_run (perm_in b f.amount s sc) _ x.amount x.by (
    blocked_run (found (key_of x.arguments)) _ x.key (found_has (key_of x.arguments) x.key x.keyed) (
    blocked_run (found (body_of program f.predicate)) _ x.body (found_has (body_of program f.predicate) x.body x.has_body) (
    blocked_run (positive_amount sc f.place x.amount) _ x.amount (positive_has sc f.place x.amount x.positive) (
    run_then _ x.end x.consumed (blocked_run x.end _ x.left x.leaves (record { end = closed b x.body s (with_variables x.arguments sc) f.predicate x.key x.amount f.place x.left; same = refl; blocked = all })))))))

pub fold_blocked : (b : Bound) (c : Context) (f : FoldStmt) (s : State) (sc : Scene) → IsFormed c.program → IsFold c f → OpenNothing f.args → OpensNothing f.amount → FitsState c.program.layout s → FitsScene c.program.layout c.vars sc →
    (e : Evaluated State) × ((fold_instance b c.program f s sc ≡ ended e) × ((the_end e ≡ Blocked) ↔ HoldsAnother b c.program f s sc))
fold_blocked b c f s sc formed h plain quiet fits seen =
    let run = fold_recorded b c.program formed.typed f s sc in (
      run.0,
      (
        run.1.0,
        (
          λ blocked. holds_another b c formed f h plain quiet s sc fits seen (record { end = run.0; same = run.1.0; blocked = blocked }),
          λ x. of_ended (subst IsBlockedRun run.1.0 (fold_is_blocked b c.program f s sc x)),
        ),
      ),
    )
