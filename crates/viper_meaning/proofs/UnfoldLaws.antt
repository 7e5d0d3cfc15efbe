-- What blocks an `unfold` and an `unfolding`, and nothing else does.
use Rattle.std.proofs.Common.{◌≡◌, refl, sym, ◌∙◌, ℕ, Some, List, slice_get}
use Rattle.std.specs.Prelude.{◌↔◌}
use Rattle.vb_base.specs.declared.places.Pos.{Pos}
use Rattle.vb_value.specs.Bound.{Bound}
use Rattle.vb_value.specs.Content.{Content, IsReducedContent}
use Rattle.vb_value.specs.Fraction.{Fraction, IsReduced}
use Rattle.vb_value.specs.declared.values.Ty.{Ty}
use Rattle.vb_value.specs.declared.values.Ty.TheVariants as ty
use Rattle.vb_value.specs.declared.values.Value.{Value}
use Rattle.viper_core.specs.Expr as t
use Rattle.viper_core.specs.Formed.{IsFormed, predicate_context}
use Rattle.viper_core.specs.Plain.{OpensNothing, OpenNothing}
use Rattle.viper_core.specs.Program.{Predicate}
use Rattle.viper_core.specs.Stmt.{FoldStmt}
use Rattle.viper_core.specs.Typing.{Context, HasType, HaveTypes, IsFold, unfolded, opens}
use Rattle.viper_core.proofs.FormedLaws.{predicate_body_of_typed}
use Rattle.viper_state.specs.Fits.{FitsKey, FitsStore, FitsState, FitsScene, FitsEvent}
use Rattle.viper_state.specs.Run.{Scene, with_variables}
use Rattle.viper_state.specs.State.{Key, State, content_at}
use Rattle.viper_state.proofs.FitsLaws.{content_found}
use Rattle.viper_meaning.specs.BodyBlocked.{BodyBlocks}
use Rattle.viper_meaning.specs.Contents.{body_of, unfold_instance}
use Rattle.viper_meaning.specs.Ends.{Evaluated, ends, Is, Fails, Blocked, Over, the_end, IsNotBlocked, then_with, found}
use Rattle.viper_meaning.specs.Places.{key_of, taken}
use Rattle.viper_meaning.specs.Sat.{Has}
use Rattle.viper_meaning.specs.Value.{value, values, perm_in, opened}
use Rattle.viper_meaning.proofs.EveryLaws.{kept_value}
use Rattle.viper_meaning.proofs.FoldLaws.{IsBlocked, end_after, contradicts, later_blocked, blocked_later, value_blocked, found_has, blocked_first, body_found}
use Rattle.viper_meaning.proofs.TypedLaws.{Comes, not_blocked, taken_typed, keys_at, value_not_blocked, opened_fits}
use Rattle.viper_meaning.proofs.UnblockedLaws.{key_there, comes_value, values_unblocked, perm_unblocked}

-- what goes on is not blocked, where it goes on
first_is_blocked : {X Y : Type 0} (e : Evaluated X) (go : X → Evaluated Y) → ((x : X) → Has x e → IsNotBlocked (go x)) → IsBlocked (then_with e go) → IsBlocked e
first_is_blocked (ends es (Is x)) go h b = contradicts (go x) (h x refl) (sym (end_after es (go x)) ∙ b)
first_is_blocked (ends es (Fails l)) go h b = cc
first_is_blocked (ends es Blocked) go h b = refl
first_is_blocked (ends es (Over at)) go h b = cc

-- the arguments and the amount, after which something is blocked
record Front (b : Bound) (c : Context) (d : Predicate) (args : t.Exprs) (amount : t.Expr) (s : State) (sc : Scene) {Y : Type 0} (go : List Value → Fraction → Key → Evaluated Y) : Type 0 where
  arguments : List Value
  evaluated : Has arguments (values b args s sc)
  typed : FitsStore d.params arguments
  by : Fraction
  has_amount : Has by (perm_in b amount s sc)
  reduced : IsReduced by
  key : Key
  keyed : key_of arguments ≡ Some key
  key_fits : FitsKey d.params key
  blocked : IsBlocked (go arguments by key)

module _ (b : Bound) (c : Context) (formed : IsFormed c.program) (p : ℕ) (d : Predicate) (there : slice_get c.program.predicates p ≡ Some d) (args : t.Exprs) (typed : HaveTypes c args d.params) (plain : OpenNothing args)
    (amount : t.Expr) (i : HasType c amount ty.Perm) (quiet : OpensNothing amount) (at : Pos) (s : State) (sc : Scene) (fits : FitsState c.program.layout s) (seen : FitsScene c.program.layout c.vars sc) where
  front : {Y : Type 0} (go : List Value → Fraction → Key → Evaluated Y) → IsBlocked (then_with (values b args s sc) (λ vs. then_with (perm_in b amount s sc) (λ q. then_with (found (key_of vs)) (go vs q)))) → Front b c d args amount s sc go
  front go blocked =
      let store = values_unblocked b c formed args d.params s sc typed plain fits seen in
      let one = later_blocked (values b args s sc) (λ vs. then_with (perm_in b amount s sc) (λ q. then_with (found (key_of vs)) (go vs q))) (not_blocked store) blocked in
      let by = perm_unblocked b c formed amount s sc i quiet fits seen in
      let two = later_blocked (perm_in b amount s sc) (λ q. then_with (found (key_of one.0)) (go one.0 q)) (not_blocked by) one.1.1 in
      let key = key_there c formed p d one.0 there (comes_value store one.1.0) in
      record {
        arguments = one.0;
        evaluated = one.1.0;
        typed = comes_value store one.1.0;
        by = two.0;
        has_amount = two.1.0;
        reduced = comes_value by two.1.0;
        key = key.0;
        keyed = key.1.0;
        key_fits = key.1.1;
        blocked = value_blocked (found (key_of one.0)) (go one.0 two.0) key.0 (found_has (key_of one.0) key.0 key.1.0) two.1.1;
      }

  taken_fits : (key : Key) (q : Fraction) → FitsKey d.params key → IsReduced q → Comes (FitsEvent c.program.layout) ⊥ (FitsState c.program.layout) (taken b sc s p key q at)
  taken_fits key q h r = taken_typed c.program.layout b sc s p d.params key q at (keys_at c formed p d there) h r fits

  content_there : (key : Key) → (x : Content) × ((content_at s p key ≡ Some x) × IsReducedContent x)
  content_there key = content_found fits p key d.params (keys_at c formed p d there)

  -- what is blocked after the front is the body, or what follows it
  body_blocks : {Y : Type 0} (body : t.Assertion) (go : List Value → Fraction → Content → State → Evaluated Y) →
      ((vs : List Value) (q : Fraction) (less : State) (x : Content) → FitsStore d.params vs → IsReduced q → FitsState c.program.layout less → IsReducedContent x → IsBlocked (go vs q x less) → IsBlocked (opened b body x less (with_variables vs sc) q)) →
      Front b c d args amount s sc (λ vs q key. then_with (taken b sc s p key q at) (λ less. then_with (found (content_at s p key)) (λ x. go vs q x less))) → BodyBlocks b p args amount body at s sc
  body_blocks body go h f =
      let takes = taken_fits f.key f.by f.key_fits f.reduced in
      let less = later_blocked (taken b sc s p f.key f.by at) (λ y. then_with (found (content_at s p f.key)) (λ x. go f.arguments f.by x y)) (not_blocked takes) f.blocked in
      let x = content_there f.key in
      let last = value_blocked (found (content_at s p f.key)) (λ z. go f.arguments f.by z less.0) x.0 (found_has (content_at s p f.key) x.0 x.1.0) less.1.1 in
      record {
        arguments = f.arguments;
        key = f.key;
        evaluated = f.evaluated;
        keyed = f.keyed;
        by = f.by;
        has_amount = f.has_amount;
        less = less.0;
        takes = less.1.0;
        content = x.0;
        contained = x.1.0;
        blocked = h f.arguments f.by less.0 x.0 f.typed f.reduced (comes_value takes less.1.0) x.1.1 last;
      }

-- and the other way round
blocked_front : {Y : Type 0} (b : Bound) (args : t.Exprs) (amount : t.Expr) (s : State) (sc : Scene) (go : List Value → Fraction → Key → Evaluated Y) (vs : List Value) (q : Fraction) (key : Key) → Has vs (values b args s sc) → Has q (perm_in b amount s sc) →
    key_of vs ≡ Some key → IsBlocked (go vs q key) → IsBlocked (then_with (values b args s sc) (λ vs. then_with (perm_in b amount s sc) (λ q. then_with (found (key_of vs)) (go vs q))))
blocked_front b args amount s sc go vs q key h i k blocked =
    blocked_later (values b args s sc) (λ ws. then_with (perm_in b amount s sc) (λ r. then_with (found (key_of ws)) (go ws r))) vs h
    (blocked_later (perm_in b amount s sc) (λ r. then_with (found (key_of vs)) (go vs r)) q i (blocked_later (found (key_of vs)) (go vs q) key (found_has (key_of vs) key k) blocked))

blocked_opening : {Y : Type 0} (b : Bound) (p : ℕ) (at : Pos) (s : State) (sc : Scene) (key : Key) (q : Fraction) (go : Content → State → Evaluated Y) (less : State) (x : Content) → Has less (taken b sc s p key q at) → content_at s p key ≡ Some x →
    IsBlocked (go x less) → IsBlocked (then_with (taken b sc s p key q at) (λ y. then_with (found (content_at s p key)) (λ z. go z y)))
blocked_opening b p at s sc key q go less x h e blocked =
    blocked_later (taken b sc s p key q at) (λ y. then_with (found (content_at s p key)) (λ z. go z y)) less h (blocked_later (found (content_at s p key)) (λ z. go z less) x (found_has (content_at s p key) x e) blocked)

-- ---- `unfold`

module _ (b : Bound) (c : Context) (f : FoldStmt) (h : IsFold c f) (s : State) (sc : Scene) where
  -- after the arguments and the amount
  abbrev taking_body : t.Assertion → List Value → Fraction → Key → Evaluated State
  taking_body body vs q key = then_with (taken b sc s f.predicate key q f.place) (λ less. then_with (found (content_at s f.predicate key)) (λ x. opened b body x less (with_variables vs sc) q))

  abbrev finding_body : List Value → Fraction → Key → Evaluated State
  finding_body vs q key = then_with (found (body_of c.program f.predicate)) (λ body. taking_body body vs q key)

  has_body : Has h.body (found (body_of c.program f.predicate))
  has_body = found_has (body_of c.program f.predicate) h.body (body_found c f h)

  unfold_only : IsFormed c.program → OpenNothing f.args → OpensNothing f.amount → FitsState c.program.layout s → FitsScene c.program.layout c.vars sc → IsBlocked (unfold_instance b c.program f s sc) →
      BodyBlocks b f.predicate f.args f.amount h.body f.place s sc
  unfold_only formed plain quiet fits seen blocked =
      let first = front b c formed f.predicate h.predicate h.exists f.args h.args plain f.amount h.amount quiet f.place s sc fits seen finding_body blocked in
      let inside = value_blocked (found (body_of c.program f.predicate)) (λ body. taking_body body first.arguments first.by first.key) h.body has_body first.blocked in
      body_blocks b c formed f.predicate h.predicate h.exists f.args h.args plain f.amount h.amount quiet f.place s sc fits seen h.body (λ vs q x less. opened b h.body x less (with_variables vs sc) q) (λ vs q less x i j k l m. m)
      (record {
        arguments = first.arguments;
        evaluated = first.evaluated;
        typed = first.typed;
        by = first.by;
        has_amount = first.has_amount;
        reduced = first.reduced;
        key = first.key;
        keyed = first.keyed;
        key_fits = first.key_fits;
        blocked = inside;
      })

  unfold_back : BodyBlocks b f.predicate f.args f.amount h.body f.place s sc → IsBlocked (unfold_instance b c.program f s sc)
  unfold_back y =
      blocked_front b f.args f.amount s sc finding_body y.arguments y.by y.key y.evaluated y.has_amount y.keyed
      (blocked_later (found (body_of c.program f.predicate)) (λ body. taking_body body y.arguments y.by y.key) h.body has_body
      (blocked_opening b f.predicate f.place s sc y.key y.by (λ x less. opened b h.body x less (with_variables y.arguments sc) y.by) y.less y.content y.takes y.contained y.blocked))

pub unfold_blocked : (b : Bound) (c : Context) (f : FoldStmt) (h : IsFold c f) (s : State) (sc : Scene) → IsFormed c.program → OpenNothing f.args → OpensNothing f.amount → FitsState c.program.layout s → FitsScene c.program.layout c.vars sc →
    (the_end (unfold_instance b c.program f s sc) ≡ Blocked) ↔ BodyBlocks b f.predicate f.args f.amount h.body f.place s sc
unfold_blocked b c f h s sc formed plain quiet fits seen = (unfold_only b c f h s sc formed plain quiet fits seen, unfold_back b c f h s sc)

-- ---- `unfolding`

module _ (b : Bound) (c : Context) (p : ℕ) (args : t.Exprs) (amount : t.Expr) (body : t.Assertion) (inner : t.Expr) (at : Pos) (s : State) (sc : Scene) where
  abbrev reading : List Value → Fraction → Content → State → Evaluated Value
  reading vs q x less = then_with (opened b body x less (with_variables vs sc) q) (λ copy. value b inner copy sc)

  abbrev taking_inner : List Value → Fraction → Key → Evaluated Value
  taking_inner vs q key = then_with (taken b sc s p key q at) (λ less. then_with (found (content_at s p key)) (λ x. reading vs q x less))

  inner_only : (u : Ty) → IsFormed c.program → HasType c (t.Unfolding (t.opened p args amount body inner at)) u → OpenNothing args → OpensNothing amount → OpensNothing inner → FitsState c.program.layout s →
      FitsScene c.program.layout c.vars sc → IsBlocked (value b (t.Unfolding (t.opened p args amount body inner at)) s sc) → BodyBlocks b p args amount body at s sc
  inner_only u formed (unfolded outside (opens d there has i j k)) plain quiet still fits seen blocked =
      body_blocks b c formed p d there args i plain amount j quiet at s sc fits seen body reading (λ vs q less x typed reduced kept small m.
      first_is_blocked (opened b body x less (with_variables vs sc) q) (λ copy. value b inner copy sc) (λ copy y. value_not_blocked b c inner u copy sc formed k still
      (kept_value (opened_fits b (predicate_context c.program d) body x less (with_variables vs sc) q formed (predicate_body_of_typed c.program formed.typed p d body there has) small kept (record { store = typed; old = seen.old }) reduced) y) seen) m)
      (front b c formed p d there args i plain amount j quiet at s sc fits seen taking_inner blocked)

  inner_back : BodyBlocks b p args amount body at s sc → IsBlocked (value b (t.Unfolding (t.opened p args amount body inner at)) s sc)
  inner_back y =
      blocked_front b args amount s sc taking_inner y.arguments y.by y.key y.evaluated y.has_amount y.keyed
      (blocked_opening b p at s sc y.key y.by (reading y.arguments y.by) y.less y.content y.takes y.contained
      (blocked_first (opened b body y.content y.less (with_variables y.arguments sc) y.by) (λ copy. value b inner copy sc) y.blocked))

pub unfolding_blocked : (b : Bound) (c : Context) (p : ℕ) (args : t.Exprs) (amount : t.Expr) (body : t.Assertion) (inner : t.Expr) (at : Pos) (u : Ty) (s : State) (sc : Scene) → IsFormed c.program →
    HasType c (t.Unfolding (t.opened p args amount body inner at)) u → OpenNothing args → OpensNothing amount → OpensNothing inner → FitsState c.program.layout s → FitsScene c.program.layout c.vars sc →
    (the_end (value b (t.Unfolding (t.opened p args amount body inner at)) s sc) ≡ Blocked) ↔ BodyBlocks b p args amount body at s sc
unfolding_blocked b c p args amount body inner at u s sc formed typed plain quiet still fits seen =
    (inner_only b c p args amount body inner at s sc u formed typed plain quiet still fits seen, inner_back b c p args amount body inner at s sc)
