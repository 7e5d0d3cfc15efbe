-- A typed statement of a formed program takes what fits the program to what fits it, and so does a unit.
use Rattle.std.proofs.Common.{◌≡◌, arith, refl, sym, ap, ◌∙◌, subst, inl, ℕ, zero, suc, pos, Bool, true, false, not, Option, Some, None, List, [], ◌∷◌, ◌++◌, All, IfSome, slice_get, slice_set, take, drop, map, if◌then◌else◌}
use Rattle.std.proofs.lemmas.List.{take-append-drop}
use Rattle.std.proofs.lemmas.List.Elements.{All-nil, All-cons, All-head, All-tail}
use Rattle.std.specs.Option.{option_map}
use Rattle.std.specs.Prelude.{⊤, ◌+◌, ◌==◌}
use Rattle.lemmas.proofs.Options.{if_there}
use Rattle.vb_base.specs.declared.labels.Kind.TheVariants as kind
use Rattle.vb_base.specs.declared.places.Pos.{Pos}
use Rattle.vb_value.specs.Bound.{Bound}
use Rattle.vb_value.specs.Content.{Content, Leaf, IsReducedContent}
use Rattle.vb_value.specs.Fraction.{Fraction, IsReduced, write, is_positive}
use Rattle.vb_value.specs.Layout.{Layout}
use Rattle.vb_value.specs.Value.{type_of, same_type, default_of, fraction_eq}
use Rattle.vb_value.specs.declared.values.Ty.{Ty}
use Rattle.vb_value.specs.declared.values.Ty.TheVariants as ty
use Rattle.vb_value.specs.declared.values.Value.{Value}
use Rattle.vb_value.specs.declared.values.Value.TheVariants as v
use Rattle.vb_value.proofs.FractionLaws.{IsReduced-whole}
use Rattle.vb_value.proofs.ReducedLaws.{Decides-same_type}
use Rattle.viper_core.specs.Expr as t
use Rattle.viper_core.specs.Formed.{predicate_context, precondition_context, postcondition_context, method_frame, IsBody, IsFormed}
use Rattle.viper_core.specs.Part.{cut}
use Rattle.viper_core.specs.Program.{Program, Predicate, Method, Body}
use Rattle.viper_core.specs.Scope.{Scope}
use Rattle.viper_core.specs.Stmt as s
use Rattle.viper_core.specs.Typing.{Context, HasType, IsAmount, IsAssertion, access, instance, both, implied, chosen, MethodContext, inside, AreTargets, nothing, also, Receive, assigned, declared, IsFold, params_of, returns_of, IsStmt, declares, initial, assigns, writes, creates, calls, inhales, exhales, asserts, folds, unfolds, branches, loops, AreStmts, ends, goes_on}
use Rattle.viper_core.specs.declared.programs.Unit as unit
use Rattle.viper_core.specs.declared.programs.Unit.TheVariants as u
use Rattle.viper_core.proofs.CutLaws.{preconditions_cut, postconditions_cut}
use Rattle.viper_core.proofs.FormedLaws.{method_of_typed, predicate_body_of_typed}
use Rattle.viper_state.specs.Choice as choice
use Rattle.viper_state.specs.Choice.{Choice}
use Rattle.viper_state.specs.Event as event
use Rattle.viper_state.specs.Event.{Event}
use Rattle.viper_state.specs.Fits.{FitsKey, FitsValue, FitsStore, FitsMemo, FitsState, FitsScene, FitsOpening, FitsChoice, FitsEvent}
use Rattle.viper_state.specs.Run.{Scene, Opening, with_variables}
use Rattle.viper_state.specs.State.{Key, State, value_at, mask_at, content_at, amount_at, with_value, with_mask, empty_state}
use Rattle.viper_state.proofs.FitsLaws.{FitsValue-default, with_value_fits, with_mask_fits, with_amount_fits, value_found, content_found, amount_found, empty_state_fits}
use Rattle.viper_meaning.specs.Configurations.{FitsConfiguration}
use Rattle.viper_meaning.specs.Contents.{contained_at, content_by, content_in, is_small, body_among, body_of, closed, fold_instance, unfold_instance}
use Rattle.viper_meaning.specs.Forgotten.{memo_in}
use Rattle.viper_meaning.specs.Kept.{IsAny, Keeps}
use Rattle.viper_meaning.specs.KeptRuns.{KeepsRun, at_end}
use Rattle.viper_meaning.specs.Places.{key_of, fill_held}
use Rattle.viper_meaning.specs.Resource.{Resource, Place, Instance}
use Rattle.viper_meaning.specs.Run.{Run}
use Rattle.viper_meaning.specs.Statements.{Configuration, Activation, scene, with_state, with_variable, stored, branch_in, fresh_in, value_in, taking_branch, taking_fresh, taking_value, taking_values, taking_state, in_vain, produce_all, consume_all, exhale_all, field_written, is_fresh, created, called, after_loop, run_turn, run_loop, run_stmt, run_block}
use Rattle.viper_meaning.specs.Units.{first_store, check_postcondition, run_body, run_method, start_method, start_predicate, run_of_unit, unit_run, opening_types, Opens}
use Rattle.viper_meaning.specs.Value.{value}
use Rattle.viper_meaning.proofs.ClosedLaws.{any_found}
use Rattle.viper_meaning.proofs.ForgottenLaws.{forget_fits}
use Rattle.viper_meaning.proofs.KeptLaws.{is_kept, fails_kept, blocks_kept, then_kept, found_kept, unless_kept, if_kept, fitting_kept}
use Rattle.viper_meaning.proofs.RunKeptLaws.{before_kept, evaluating_kept, then_do_kept, taking_kept, if_run_kept}
use Rattle.viper_meaning.proofs.RunFitsLaws as r
use Rattle.viper_meaning.proofs.RunFitsLaws.{ResourceFits, produce_fits, consume_fits}
use Rattle.viper_meaning.proofs.TypedLaws.{keeps, ref_typed, key_fits, keys_at, added_typed, taken_typed, contained_typed, value_typed, values_typed, amount_typed, opened_typed}

-- ---- lists

itself : {X : Type 0} (o : Option X) → IfSome o (λ x. o ≡ Some x)
itself (Some x) = refl
itself None = tt

-- the values of these variables, each of its type
abbrev pub ValuesOf : List Ty → List ℕ → List Value → Type 0
ValuesOf us [] [] = ⊤
ValuesOf us [] (w ∷ ws) = ⊥
ValuesOf us (x ∷ xs) [] = ⊥
ValuesOf us (x ∷ xs) (w ∷ ws) = ((y : Ty) × ((slice_get us x ≡ Some y) × FitsValue y w)) × ValuesOf us xs ws

pub set_fits : (us : List Ty) (store : List Value) (x : ℕ) (y : Ty) (w : Value) → FitsStore us store → slice_get us x ≡ Some y → FitsValue y w → FitsStore us (slice_set store x w)
set_fits [] [] x y w h e f = h
set_fits [] (a ∷ store) x y w h e f = absurd h
set_fits (z ∷ us) [] x y w h e f = absurd h
set_fits (z ∷ us) (a ∷ store) zero y w h e f = let same : y ≡ z = cc in (subst (λ i. FitsValue i w) same f, h.1)
set_fits (z ∷ us) (a ∷ store) (suc x) y w h e f = (h.0, set_fits us store x y w h.1 e f)

pub stored_fits : (us : List Ty) (store : List Value) (xs : List ℕ) (ws : List Value) → FitsStore us store → ValuesOf us xs ws → FitsStore us (stored store xs ws)
stored_fits us store [] [] h g = h
stored_fits us store [] (w ∷ ws) h g = absurd g
stored_fits us store (x ∷ xs) [] h g = absurd g
stored_fits us store (x ∷ xs) (w ∷ ws) h g = stored_fits us (slice_set store x w) xs ws (set_fits us store x g.0.0 w h g.0.1.0 g.0.1.1) g.1

pub both_fit : (us ys : List Ty) (vs ws : List Value) → FitsStore us vs → FitsStore ys ws → FitsStore (us ++ ys) (vs ++ ws)
both_fit [] ys [] ws h g = g
both_fit [] ys (w ∷ vs) ws h g = absurd h
both_fit (x ∷ us) ys [] ws h g = absurd h
both_fit (x ∷ us) ys (w ∷ vs) ws h g = (h.0, both_fit us ys vs ws h.1 g)

pub defaults_fit : (us : List Ty) → FitsStore us (map default_of us)
defaults_fit [] = tt
defaults_fit (x ∷ us) = (FitsValue-default x, defaults_fit us)

pub take_both : (n m : ℕ) (us : List Ty) → take n us ++ take m (drop n us) ≡ take (n + m) us
take_both zero m us = let same : m ≡ 0 + m = omega arith in ap (λ n. take n us) same
take_both (suc n) zero [] = let same : suc (n + 0) ≡ suc n + 0 = omega arith in ap (λ i. take i []) same
take_both (suc n) (suc m) [] = let same : suc (n + suc m) ≡ suc n + suc m = omega arith in ap (λ i. take i []) same
take_both (suc n) m (x ∷ us) = let same : suc (n + m) ≡ suc n + m = omega arith in ap (λ ys. x ∷ ys) (take_both n m us) ∙ ap (λ i. take i (x ∷ us)) same

-- the values of targets are of their types

targets_fit : {m : MethodContext} {sc : Scope} (xs : List ℕ) (ys : List Ty) (ws : List Value) → AreTargets m sc xs ys → ValuesOf m.vars xs ws → FitsStore ys ws
targets_fit [] [] [] nothing g = tt
targets_fit [] [] (w ∷ ws) nothing g = absurd g
targets_fit [] (y ∷ ys) ws i g = elim i [ ]
targets_fit (x ∷ xs) [] ws i g = elim i [ ]
targets_fit (x ∷ xs) (y ∷ ys) [] (also i j) g = absurd g
targets_fit (x ∷ xs) (y ∷ ys) (w ∷ ws) (also i j) g =
    let same : Some g.0.0 ≡ Some y = sym g.0.1.0 ∙ i.typed in
    let equal : g.0.0 ≡ y = cc in
    (subst (λ z. FitsValue z w) equal g.0.1.1, targets_fit xs ys ws j g.1)

declared_fits : (us : List Ty) (x : ℕ) (y : Ty) (ws : List Value) → slice_get us x ≡ Some y → ValuesOf us (x ∷ []) ws → FitsStore (y ∷ []) ws
declared_fits us x y [] e g = absurd g
declared_fits us x y (w ∷ []) e g =
    let same : Some g.0.0 ≡ Some y = sym g.0.1.0 ∙ e in
    let equal : g.0.0 ≡ y = cc in
    (subst (λ z. FitsValue z w) equal g.0.1.1, tt)
declared_fits us x y (w ∷ z ∷ ws) e g = absurd g.1

pub received_fit : {m : MethodContext} {sc : Scope} (xs : List ℕ) (ys : List Ty) (ws : List Value) → Receive m sc xs ys → ValuesOf m.vars xs ws → FitsStore ys ws
received_fit xs ys ws (assigned i differ) g = targets_fit xs ys ws i g
received_fit {m} xs ys ws (declared {x = x} {u = y} i e) g = declared_fits m.vars x y ws e g

received_type : {m : MethodContext} {sc : Scope} (x : ℕ) (y : Ty) → Receive m sc (x ∷ []) (y ∷ []) → slice_get m.vars x ≡ Some y
received_type x y (assigned (also i j) differ) = i.typed
received_type x y (declared i e) = e

-- ---- what is taken

write_reduced : IsReduced write
write_reduced = IsReduced-whole (pos 1)

module _ (l : Layout) where
  abbrev pub GoesTo : {X : Type 0} → (X → Type 0) → Run X → Type 0
  GoesTo P r = KeepsRun (FitsEvent l) (FitsChoice l) P r

  one_event : (e : Event) → FitsEvent l e → All (FitsEvent l) (e ∷ [])
  one_event e h = All-cons (FitsEvent l) e [] h (All-nil (FitsEvent l))

  branch_fits : {X : Type 0} {P : X → Type 0} {go : Bool → Run X} → ((x : Bool) → GoesTo P (go x)) → GoesTo P (taking_branch go)
  branch_fits g = taking_kept {Q = IsAny} branch_in (λ c h. any_found (branch_in c)) (λ x h. before_kept (event.Branch x ∷ []) (one_event (event.Branch x) tt) (g x))

  fresh_fits : {X : Type 0} {P : X → Type 0} {go : ℕ → Run X} → ((x : ℕ) → GoesTo P (go x)) → GoesTo P (taking_fresh go)
  fresh_fits g = taking_kept {Q = IsAny} fresh_in (λ c h. any_found (fresh_in c)) (λ x h. before_kept (event.Fresh x ∷ []) (one_event (event.Fresh x) tt) (g x))

  value_in_fits : (y : Ty) (c : Choice) → FitsChoice l c → IfSome (value_in y c) (FitsValue y)
  value_in_fits y (choice.Took w) h = where_same (same_type (type_of w) y) refl
    where
      where_same : (b : Bool) → same_type (type_of w) y ≡ b → IfSome (if b then Some w else None) (FitsValue y)
      where_same true e = record { typed = (Decides-same_type (type_of w) y).0 e; reduced = h }
      where_same false e = tt
  value_in_fits y _ h = tt

  took_fits : {X : Type 0} {P : X → Type 0} (y : Ty) {go : Value → Run X} → ((w : Value) → FitsValue y w → GoesTo P (go w)) → GoesTo P (taking_value y go)
  took_fits y g = taking_kept {Q = FitsValue y} (value_in y) (value_in_fits y) (λ w h. before_kept (event.Took w ∷ []) (one_event (event.Took w) h.reduced) (g w h))

  pub taking_values_fits : (us : List Ty) (xs : List ℕ) → GoesTo (ValuesOf us xs) (taking_values us xs)
  taking_values_fits us [] = at_end (is_kept tt)
  taking_values_fits us (x ∷ xs) =
      evaluating_kept (found_kept {P = λ y. slice_get us x ≡ Some y} (slice_get us x) (itself (slice_get us x))) (λ y e. took_fits y (λ w i.
      then_do_kept (taking_values_fits us xs) (λ ws j. at_end (is_kept ((y, (e, i)), j)))))

  memo_fits : (c : Choice) → FitsChoice l c → IfSome (memo_in l c) (FitsMemo l)
  memo_fits (choice.Filled m) h = where_so _
    where
      where_so : (b : Bool) → IfSome (if b then Some m else None) (FitsMemo l)
      where_so true = h
      where_so false = tt
  memo_fits _ h = tt

  created_fits : (r : ℕ) (fs : List ℕ) (s : State) → FitsState l s → GoesTo (FitsState l) (created l.fields r fs s)
  created_fits r [] s h = at_end (is_kept h)
  created_fits r (f ∷ fs) s h =
      evaluating_kept (found_kept {P = λ y. slice_get l.fields f ≡ Some y} (slice_get l.fields f) (itself (slice_get l.fields f))) (λ y e. took_fits y (λ w i.
      created_fits r fs (with_mask (with_value s f r w) f r write) (with_mask_fits (with_value_fits h f r y w e i) f r write write_reduced)))

  field_written_fits : (sc : Scene) (s : State) (f : ℕ) (at : Pos) (r : ℕ) (y : Ty) (w : Value) → slice_get l.fields f ≡ Some y → FitsState l s → FitsValue y w → Keeps (FitsEvent l) (FitsState l) (field_written sc s f at r w)
  field_written_fits sc s f at r y w e h i =
      unless_kept (r == 0) (fails_kept sc at kind.Null) (then_kept (found_kept {P = IsAny} (mask_at s f r) (any_found (mask_at s f r))) (λ held z.
      unless_kept (not (fraction_eq held write)) (fails_kept sc at kind.Perm) (is_kept (with_value_fits h f r y w e i))))

in_vain_fits : {l : Layout} {X Y : Type 0} {P : X → Type 0} {Q : Y → Type 0} {r : Run X} → KeepsRun (FitsEvent l) (FitsChoice l) P r → KeepsRun (FitsEvent l) (FitsChoice l) Q (in_vain r)
in_vain_fits h = then_do_kept h (λ x p. at_end blocks_kept)

state_fits : {X : Type 0} {P : X → Type 0} (program : Program) {go : State → Run X} → ((s : State) → FitsState program.layout s → KeepsRun (FitsEvent program.layout) (FitsChoice program.layout) P (go s)) →
    KeepsRun (FitsEvent program.layout) (FitsChoice program.layout) P (taking_state program go)
state_fits program g = taking_kept (memo_in program.layout) (memo_fits program.layout) (λ m h.
    before_kept (event.Whole m ∷ []) (one_event program.layout (event.Whole m) h) (g (empty_state program.layout m) (empty_state_fits program.layout m h)))

-- ---- clauses, and contents

module _ (b : Bound) (c : Context) (formed : IsFormed c.program) where
  abbrev ClauseGoes : Run State → Type 0
  ClauseGoes x = KeepsRun (FitsEvent c.program.layout) (FitsChoice c.program.layout) (FitsState c.program.layout) x

  pub produce_all_fits : (list : List t.Assertion) (sc : Scene) (s : State) → All (IsAssertion c) list → FitsState c.program.layout s → FitsScene c.program.layout c.vars sc → ClauseGoes (produce_all b list sc s)
  produce_all_fits [] sc s w h g = at_end (is_kept h)
  produce_all_fits (a ∷ list) sc s w h g =
      then_do_kept (produce_fits b c formed a sc write s (All-head (IsAssertion c) a list w) h g write_reduced) (λ x i. produce_all_fits list sc x (All-tail (IsAssertion c) a list w) i g)

  pub consume_all_fits : (list : List t.Assertion) (start : State) (sc : Scene) (left : State) → All (IsAssertion c) list → FitsState c.program.layout start → FitsState c.program.layout left → FitsScene c.program.layout c.vars sc →
      ClauseGoes (consume_all b list start sc left)
  consume_all_fits [] start sc left w f h g = at_end (is_kept h)
  consume_all_fits (a ∷ list) start sc left w f h g =
      then_do_kept (consume_fits b c formed a start sc write left (All-head (IsAssertion c) a list w) f h g write_reduced) (λ x i. consume_all_fits list start sc x (All-tail (IsAssertion c) a list w) f i g)

  pub exhale_all_fits : (list : List t.Assertion) (s : State) (sc : Scene) → All (IsAssertion c) list → FitsState c.program.layout s → FitsScene c.program.layout c.vars sc → ClauseGoes (exhale_all b c.program list s sc)
  exhale_all_fits list s sc w h g = then_do_kept (consume_all_fits list s sc s w h h g) (λ x i. forget_fits c.program.layout x i)

  contained_reduced : {s : State} → FitsState c.program.layout s → (x : Resource) → ResourceFits c.program.layout x → IfSome (contained_at s x) IsReducedContent
  contained_reduced {s} h (Place f n) i = leaf (value_at s f n) (if_there (value_at s f n) (value_found h f n i.0 i.1))
    where
      leaf : (o : Option Value) → IfSome o (FitsValue i.0) → IfSome (option_map Leaf o) IsReducedContent
      leaf (Some w) p = p.reduced
      leaf None p = tt
  contained_reduced {s} h (Instance p key) i = if_there (content_at s p key) (content_found h p key i.0 i.1.0)

  content_by_fits : (m : t.Amt) (s : State) (sc : Scene) (x : Resource) → IsAmount c m → FitsState c.program.layout s → FitsScene c.program.layout c.vars sc → ResourceFits c.program.layout x →
      Keeps (FitsEvent c.program.layout) IsReducedContent (content_by b m s sc x)
  content_by_fits m s sc x i h g o =
      then_kept (keeps (amount_typed b {B = ⊤} c formed m s sc i tt h g)) (λ q j. if_kept (is_positive q) (found_kept (contained_at s x) (contained_reduced h x o)) (is_kept tt))

  pub content_in_fits : (a : t.Assertion) (s : State) (sc : Scene) → IsAssertion c a → FitsState c.program.layout s → FitsScene c.program.layout c.vars sc → Keeps (FitsEvent c.program.layout) IsReducedContent (content_in b a s sc)
  content_in_fits (t.Fact e at) s sc i h g = is_kept tt
  content_in_fits (t.Acc e f m at) s sc (access {u = y} i there j) h g = then_kept (r.place_fits b c formed e f y s sc i there h g) (λ x o. content_by_fits m s sc x j h g o)
  content_in_fits (t.Inst p args m at) s sc (instance d there i j) h g = then_kept (r.instance_fits b c formed p d args s sc there i h g) (λ x o. content_by_fits m s sc x j h g o)
  content_in_fits (t.And x y) s sc (both i j) h g = then_kept (content_in_fits x s sc i h g) (λ d k. then_kept (content_in_fits y s sc j h g) (λ e n. is_kept (k, n)))
  content_in_fits (t.Implies e x) s sc (implied i j) h g = then_kept (r.truth_fits b c formed e s sc i h g) (λ holds z. if_kept holds (content_in_fits x s sc j h g) (is_kept tt))
  content_in_fits (t.ChooseAssertion e x y) s sc (chosen i j n) h g = then_kept (r.truth_fits b c formed e s sc i h g) (λ holds z. if_kept holds (content_in_fits x s sc j h g) (content_in_fits y s sc n h g))

  -- ---- folding and unfolding

  fill_held_fits : (p : ℕ) (us : List Ty) (key : Key) (q : Fraction) (d : Content) (at : Pos) (s : State) → slice_get c.program.layout.keys p ≡ Some us → FitsKey us key → IsReduced q → IsReducedContent d →
      FitsState c.program.layout s → Keeps (FitsEvent c.program.layout) (FitsState c.program.layout) (fill_held b write p key q d at s)
  fill_held_fits p us key q d at s e k i j h =
      then_kept (found_kept (amount_at s p key) (if_there (amount_at s p key) (amount_found h p key us e))) (λ held o. then_kept (keeps (contained_typed c.program.layout {B = ⊤} tt s p us key d held e k j h)) (λ x w.
      then_kept (keeps (added_typed c.program.layout {B = ⊤} b held write q at o write_reduced i)) (λ all a. is_kept (with_amount_fits w p us key all e k a))))

  body_there : (p : ℕ) (d : Predicate) (body : t.Assertion) → slice_get c.program.predicates p ≡ Some d → d.body ≡ Some body → IfSome (body_of c.program p) (λ x. body ≡ x)
  body_there p d body e h = if_there (body_of c.program p) (body, (ap body_among e ∙ h, refl))

-- the body of a predicate stands in a context of its own
module _ (b : Bound) (c : Context) (formed : IsFormed c.program) where
  closed_fits : (d : Predicate) (body : t.Assertion) (start : State) (sc : Scene) (p : ℕ) (key : Key) (q : Fraction) (at : Pos) (left : State) → IsAssertion (predicate_context c.program d) body → FitsState c.program.layout start →
      FitsScene c.program.layout d.params sc → slice_get c.program.layout.keys p ≡ Some d.params → FitsKey d.params key → IsReduced q → FitsState c.program.layout left →
      Keeps (FitsEvent c.program.layout) (FitsState c.program.layout) (closed b body start sc p key q at left)
  closed_fits d body start sc p key q at left typed h g e k j n =
      then_kept (content_in_fits b (predicate_context c.program d) formed body start sc typed h g) (λ x i. then_kept (fitting_kept {P = IsReducedContent} b (is_small x) at x (λ fits. i)) (λ x i.
      fill_held_fits b c formed p d.params key q x at left e k j i n))

  body_typed : (f : s.FoldStmt) (w : IsFold c f) (body : t.Assertion) → w.body ≡ body → IsAssertion (predicate_context c.program w.predicate) body
  body_typed f w body same = subst (IsAssertion (predicate_context c.program w.predicate)) same (predicate_body_of_typed c.program formed.typed f.predicate w.predicate w.body w.exists w.has_body)

  pub fold_instance_fits : (f : s.FoldStmt) (s : State) (sc : Scene) → IsFold c f → FitsState c.program.layout s → FitsScene c.program.layout c.vars sc →
      KeepsRun (FitsEvent c.program.layout) (FitsChoice c.program.layout) (FitsState c.program.layout) (fold_instance b c.program f s sc)
  fold_instance_fits f s sc w h g =
      evaluating_kept (keeps (values_typed b {B = ⊤} c formed f.args w.predicate.params s sc w.args tt h g)) (λ vs i. evaluating_kept (r.perm_fits b c formed f.amount s sc w.amount h g) (λ q j.
      evaluating_kept (found_kept (key_of vs) (key_fits w.predicate.params vs i)) (λ key k. evaluating_kept (found_kept (body_of c.program f.predicate) (body_there b c formed f.predicate w.predicate w.body w.exists w.has_body)) (λ body same.
      evaluating_kept (unless_kept {P = IsReduced} (not (is_positive q)) (fails_kept sc f.place kind.Amount) (is_kept j)) (λ q j.
      then_do_kept (consume_fits b (predicate_context c.program w.predicate) formed body s (with_variables vs sc) q s (body_typed f w body same) h h (record { store = i; old = g.old }) j) (λ left n.
      at_end (closed_fits w.predicate body s (with_variables vs sc) f.predicate key q f.place left (body_typed f w body same) h (record { store = i; old = g.old }) (keys_at c formed f.predicate w.predicate w.exists) k j n)))))))

  pub unfold_instance_fits : (f : s.FoldStmt) (s : State) (sc : Scene) → IsFold c f → FitsState c.program.layout s → FitsScene c.program.layout c.vars sc →
      Keeps (FitsEvent c.program.layout) (FitsState c.program.layout) (unfold_instance b c.program f s sc)
  unfold_instance_fits f s sc w h g =
      let keys = keys_at c formed f.predicate w.predicate w.exists in
      then_kept (keeps (values_typed b {B = ⊤} c formed f.args w.predicate.params s sc w.args tt h g)) (λ vs i. then_kept (r.perm_fits b c formed f.amount s sc w.amount h g) (λ q j.
      then_kept (found_kept (key_of vs) (key_fits w.predicate.params vs i)) (λ key k. then_kept (found_kept (body_of c.program f.predicate) (body_there b c formed f.predicate w.predicate w.body w.exists w.has_body)) (λ body same.
      then_kept (keeps (taken_typed c.program.layout {B = ⊤} b sc s f.predicate w.predicate.params key q f.place keys k j h)) (λ less n.
      then_kept (found_kept (content_at s f.predicate key) (if_there (content_at s f.predicate key) (content_found h f.predicate key w.predicate.params keys))) (λ d o.
      keeps (opened_typed b {B = ⊤} (predicate_context c.program w.predicate) formed body d less (with_variables vs sc) q (body_typed f w body same) tt o n (record { store = i; old = g.old }) j)))))))

-- ---- statements

module _ (b : Bound) (m : MethodContext) (formed : IsFormed m.program) (old : State) (old_fits : FitsState m.program.layout old) where
  abbrev running : Activation
  running = record { program = m.program; vars = m.vars; old = old }

  abbrev Fit : Configuration → Type 0
  Fit c = FitsConfiguration m.program.layout m.vars c

  abbrev StmtGoes : {X : Type 0} → (X → Type 0) → Run X → Type 0
  StmtGoes P x = KeepsRun (FitsEvent m.program.layout) (FitsChoice m.program.layout) P x

  scene_fits : (c : Configuration) (at : Pos) → Fit c → FitsScene m.program.layout m.vars (scene running c at)
  scene_fits c at h = record { store = h.store; old = old_fits }

  variable_fits : (c : Configuration) (x : ℕ) (y : Ty) (w : Value) → slice_get m.vars x ≡ Some y → Fit c → FitsValue y w → Fit (with_variable c x w)
  variable_fits c x y w e h i = record { store = set_fits m.vars c.store x y w h.store e i; state = h.state }

  value_goes : (sc : Scope) (e : t.Expr) (y : Ty) (c : Configuration) (at : Pos) → HasType (inside m sc) e y → Fit c → Keeps (FitsEvent m.program.layout) (FitsValue y) (value b e c.state (scene running c at))
  value_goes sc e y c at i h = keeps (value_typed b {B = ⊤} (inside m sc) formed e y c.state (scene running c at) i (inl tt) h.state (scene_fits c at h))

  pub called_fits : (sc : Scope) (targets : List ℕ) (k : ℕ) (callee : Method) (args : List Value) (at : Pos) (c : Configuration) → slice_get m.program.methods k ≡ Some callee → FitsStore (params_of callee) args →
      Receive m sc targets (returns_of callee) → Fit c → StmtGoes Fit (called b running targets callee args at c)
  called_fits sc targets k callee args at c there a i h =
      then_do_kept (exhale_all_fits b (cut (precondition_context m.program callee) callee.params) formed callee.preconditions c.state (with_variables args (scene running c at))
      (λ n x within. (preconditions_cut m.program formed k callee there n x within).typed) h.state (record { store = a; old = old_fits })) (λ s j.
      then_do_kept (taking_values_fits m.program.layout m.vars targets) (λ ws n.
      let all : FitsStore (take (callee.params + callee.returns) callee.vars) (args ++ ws) =
      subst (λ us. FitsStore us (args ++ ws)) (take_both callee.params callee.returns callee.vars) (both_fit (params_of callee) (returns_of callee) args ws a (received_fit targets (returns_of callee) ws i n)) in
      then_do_kept (produce_all_fits b (cut (postcondition_context m.program callee) (callee.params + callee.returns)) formed callee.postconditions (record { store = args ++ ws; old = c.state; at = at }) s
      (λ n x within. (postconditions_cut m.program formed k callee there n x within).typed) j (record { store = all; old = h.state })) (λ x o.
      at_end (is_kept (record { store = stored_fits m.vars c.store targets ws h.store n; state = o })))))

  after_loop_fits : (sc : Scope) (at : Pos) (guard : t.Expr) (invariants : List t.Assertion) (c : Configuration) → HasType (inside m sc) guard ty.Bool → All (IsAssertion (inside m sc)) invariants → Fit c →
      StmtGoes Fit (after_loop b running at guard invariants c)
  after_loop_fits sc at guard invariants c i j h =
      then_do_kept (produce_all_fits b (inside m sc) formed invariants (scene running c at) c.state j h.state (scene_fits c at h)) (λ s n.
      evaluating_kept (r.truth_fits b (inside m sc) formed guard s (scene running c at) i n (scene_fits c at h)) (λ holds z. if_run_kept holds (at_end blocks_kept) (at_end (is_kept (record { store = h.store; state = n })))))

  run_turn_fits : (sc : Scope) (at : Pos) (guard : t.Expr) (invariants : List t.Assertion) (body : Configuration → Run Configuration) (turn : Pos) (c : Configuration) → HasType (inside m sc) guard ty.Bool →
      All (IsAssertion (inside m sc)) invariants → ((d : Configuration) → Fit d → StmtGoes Fit (body d)) → Fit c → StmtGoes (FitsState m.program.layout) (run_turn b running at guard invariants body turn c)
  run_turn_fits sc at guard invariants body turn c i j w h =
      state_fits m.program (λ any f. then_do_kept (produce_all_fits b (inside m sc) formed invariants (scene running c at) any j f (scene_fits c at h)) (λ s n.
      evaluating_kept (r.truth_fits b (inside m sc) formed guard s (scene running c at) i n (scene_fits c at h)) (λ holds z. if_run_kept holds
      (then_do_kept (w (with_state c s) (record { store = h.store; state = n })) (λ d o. consume_all_fits b (inside m sc) formed invariants d.state (scene running d turn) d.state j o.state o.state (scene_fits d turn o)))
      (at_end blocks_kept))))

  run_loop_fits : (sc : Scope) (at : Pos) (guard : t.Expr) (invariants : List t.Assertion) (body : Configuration → Run Configuration) (turn : Pos) (targets : List ℕ) (c : Configuration) → HasType (inside m sc) guard ty.Bool →
      All (IsAssertion (inside m sc)) invariants → ((d : Configuration) → Fit d → StmtGoes Fit (body d)) → Fit c → StmtGoes Fit (run_loop b running at guard invariants body turn targets c)
  run_loop_fits sc at guard invariants body turn targets c i j w h =
      then_do_kept (exhale_all_fits b (inside m sc) formed invariants c.state (scene running c at) j h.state (scene_fits c at h)) (λ s n. then_do_kept (taking_values_fits m.program.layout m.vars targets) (λ ws o.
      let after : Fit (record { store = stored c.store targets ws; state = s }) = record { store = stored_fits m.vars c.store targets ws h.store o; state = n } in
      branch_fits m.program.layout (λ turns. if_run_kept turns
      (in_vain_fits (run_turn_fits sc at guard invariants body turn (record { store = stored c.store targets ws; state = s }) i j w after))
      (after_loop_fits sc at guard invariants (record { store = stored c.store targets ws; state = s }) i j after))))

  mutual
    pub run_stmt_fits : (sc : Scope) (x : s.Stmt) (c : Configuration) → IsStmt m sc x → Fit c → StmtGoes Fit (run_stmt b running x c)
    run_stmt_fits sc (s.Var at x None) c (declares i e) h =
        evaluating_kept (found_kept {P = λ y. slice_get m.vars x ≡ Some y} (slice_get m.vars x) (itself (slice_get m.vars x))) (λ y e. took_fits m.program.layout y (λ w j. at_end (is_kept (variable_fits c x y w e h j))))
    run_stmt_fits sc (s.Var at x (Some a)) c (initial {u = y} i e j) h = evaluating_kept (value_goes sc a y c at j h) (λ w k. at_end (is_kept (variable_fits c x y w e h k)))
    run_stmt_fits sc (s.Assign at x a) c (assigns {u = y} i j) h = evaluating_kept (value_goes sc a y c at j h) (λ w k. at_end (is_kept (variable_fits c x y w i.typed h k)))
    run_stmt_fits sc (s.Write at a f place d) c (writes {u = y} i e j) h =
        evaluating_kept (keeps (ref_typed (value_typed b {B = ⊤} (inside m sc) formed a ty.Ref c.state (scene running c at) i (inl tt) h.state (scene_fits c at h)))) (λ n z.
        evaluating_kept (value_goes sc d y c at j h) (λ w k. evaluating_kept (field_written_fits m.program.layout (scene running c at) c.state f place n y w e h.state k) (λ x o. at_end (is_kept (record { store = h.store; state = o })))))
    run_stmt_fits sc (s.New at x fields refs) c (creates i j k) h =
        fresh_fits m.program.layout (λ n. if_run_kept (is_fresh n refs c) (then_do_kept (created_fits m.program.layout n fields c.state h.state) (λ w o.
        at_end (is_kept (variable_fits (with_state c w) x ty.Ref (v.Ref n) (received_type x ty.Ref i) (record { store = h.store; state = o }) (record { typed = refl; reduced = tt })))))
        (at_end blocks_kept))
    run_stmt_fits sc (s.Call at targets k args) c (calls callee there i j) h =
        evaluating_kept (keeps (values_typed b {B = ⊤} (inside m sc) formed args (params_of callee) c.state (scene running c at) i tt h.state (scene_fits c at h))) (λ vs a.
        evaluating_kept (found_kept {P = λ x. callee ≡ x} (slice_get m.program.methods k) (if_there (slice_get m.program.methods k) (callee, (there, refl)))) (λ other same.
        subst (λ x. StmtGoes Fit (called b running targets x vs at c)) same (called_fits sc targets k callee vs at c there a j h)))
    run_stmt_fits sc (s.Inhale at a) c (inhales i) h = then_do_kept (produce_fits b (inside m sc) formed a (scene running c at) write c.state i h.state (scene_fits c at h) write_reduced) (λ w o. at_end (is_kept (record { store = h.store; state = o })))
    run_stmt_fits sc (s.Exhale at a) c (exhales i) h =
        then_do_kept (exhale_all_fits b (inside m sc) formed (a ∷ []) c.state (scene running c at) (All-cons (IsAssertion (inside m sc)) a [] i (All-nil (IsAssertion (inside m sc)))) h.state (scene_fits c at h)) (λ w o. at_end (is_kept (record { store = h.store; state = o })))
    run_stmt_fits sc (s.Assert at a) c (asserts i) h = then_do_kept (consume_fits b (inside m sc) formed a c.state (scene running c at) write c.state i h.state h.state (scene_fits c at h) write_reduced) (λ left o. at_end (is_kept h))
    run_stmt_fits sc (s.Fold f) c (folds i) h = then_do_kept (fold_instance_fits b (inside m sc) formed f c.state (scene running c f.at) i h.state (scene_fits c f.at h)) (λ w o. at_end (is_kept (record { store = h.store; state = o })))
    run_stmt_fits sc (s.Unfold f) c (unfolds i) h = evaluating_kept (unfold_instance_fits b (inside m sc) formed f c.state (scene running c f.at) i h.state (scene_fits c f.at h)) (λ w o. at_end (is_kept (record { store = h.store; state = o })))
    run_stmt_fits sc (s.If at e first second) c (branches i j k) h =
        evaluating_kept (r.truth_fits b (inside m sc) formed e c.state (scene running c at) i h.state (scene_fits c at h)) (λ holds z. if_run_kept holds (run_block_fits first c j h) (run_block_fits second c k h))
    run_stmt_fits sc (s.While (s.loop at guard invariants body turn targets)) c (loops i j k same) h =
        run_loop_fits sc at guard invariants (λ d. run_block b running body d) turn targets c i j (λ d o. run_block_fits body d k o) h

    pub run_block_fits : {sc : Scope} (xs : s.Stmts) (c : Configuration) → AreStmts m sc xs → Fit c → StmtGoes Fit (run_block b running xs c)
    run_block_fits s.skip c ends h = at_end (is_kept h)
    run_block_fits {sc} (s.next x rest) c (goes_on i j) h = then_do_kept (run_stmt_fits sc x c i h) (λ d o. run_block_fits rest d j o)

-- ---- units

module _ (b : Bound) (program : Program) (formed : IsFormed program) where
  abbrev UnitGoes : Run State → Type 0
  UnitGoes x = KeepsRun (FitsEvent program.layout) (FitsChoice program.layout) (FitsState program.layout) x

  check_fits : (k : ℕ) (m : Method) (old : State) (store : List Value) → slice_get program.methods k ≡ Some m → FitsState program.layout old → FitsStore m.vars store →
      UnitGoes (check_postcondition b (record { program = program; vars = m.vars; old = old }) m store)
  check_fits k m old store there f g =
      state_fits program (λ any h. in_vain_fits (produce_all_fits b (postcondition_context program m) formed m.postconditions (record { store = store; old = old; at = m.name_at }) any
      (method_of_typed program formed.typed k m there).postconditions h (record { store = g; old = f })))

  run_body_fits : (k : ℕ) (m : Method) (body : Body) (old : State) (c : Configuration) → slice_get program.methods k ≡ Some m → IsBody program m body → FitsState program.layout old →
      FitsConfiguration program.layout m.vars c → UnitGoes (run_body b (record { program = program; vars = m.vars; old = old }) m body c)
  run_body_fits k m body old c there i f h =
      then_do_kept (run_block_fits b (method_frame program m) formed old f body.stmts c i.stmts h) (λ d o.
      consume_all_fits b (postcondition_context program m) formed m.postconditions d.state (record { store = d.store; old = old; at = body.turn }) d.state
      (method_of_typed program formed.typed k m there).postconditions o.state o.state (record { store = o.store; old = f }))

  run_method_fits : (k : ℕ) (m : Method) (o : Option Body) (old : State) (c : Configuration) → slice_get program.methods k ≡ Some m → IfSome o (IsBody program m) → FitsState program.layout old →
      FitsConfiguration program.layout m.vars c → UnitGoes (run_method b (record { program = program; vars = m.vars; old = old }) m o c)
  run_method_fits k m None old c there i f h = check_fits k m old c.store there f h.store
  run_method_fits k m (Some body) old c there i f h = branch_fits program.layout (λ runs. if_run_kept runs (run_body_fits k m body old c there i f h) (check_fits k m old c.store there f h.store))

  pub first_fits : (m : Method) (given : List Value) → FitsStore (take (m.params + m.returns) m.vars) given → FitsStore m.vars (first_store m given)
  first_fits m given h =
      let n = m.params + m.returns in
      subst (λ us. FitsStore us (first_store m given)) (take-append-drop n m.vars) (both_fit (take n m.vars) (drop n m.vars) given (map default_of (drop n m.vars)) h (defaults_fit (drop n m.vars)))

  start_method_fits : (k : ℕ) (m : Method) (o : Opening) → slice_get program.methods k ≡ Some m → FitsOpening program.layout (take (m.params + m.returns) m.vars) o → UnitGoes (start_method b program m o)
  start_method_fits k m o there h =
      let start = empty_state_fits program.layout o.memo h.memo in
      let store = first_fits m o.store h.store in
      then_do_kept (produce_all_fits b (precondition_context program m) formed m.preconditions (record { store = first_store m o.store; old = empty_state program.layout o.memo; at = m.at }) (empty_state program.layout o.memo)
      (method_of_typed program formed.typed k m there).preconditions start (record { store = store; old = start })) (λ x i.
      run_method_fits k m m.body x (record { store = first_store m o.store; state = x }) there (method_of_typed program formed.typed k m there).body i (record { store = store; state = i }))

  start_predicate_fits : (k : ℕ) (d : Predicate) (body : t.Assertion) (o : Opening) → slice_get program.predicates k ≡ Some d → d.body ≡ Some body → FitsOpening program.layout d.params o → UnitGoes (start_predicate b program d body o)
  start_predicate_fits k d body o there has h =
      let start = empty_state_fits program.layout o.memo h.memo in
      produce_fits b (predicate_context program d) formed body (record { store = o.store; old = empty_state program.layout o.memo; at = d.at }) write (empty_state program.layout o.memo)
      (predicate_body_of_typed program formed.typed k d body there has) start (record { store = h.store; old = start }) write_reduced

  pub method_types_are : (k : ℕ) (m : Method) → slice_get program.methods k ≡ Some m → opening_types program (u.Method k) ≡ Some (take (m.params + m.returns) m.vars)
  method_types_are k m e = rw (e) refl

  predicate_types_are : (k : ℕ) (d : Predicate) → slice_get program.predicates k ≡ Some d → opening_types program (u.Predicate k) ≡ Some d.params
  predicate_types_are k d e = rw (e) refl

  run_of_unit_fits : (x : unit.Unit) (us : List Ty) (o : Opening) → opening_types program x ≡ Some us → FitsOpening program.layout us o → UnitGoes (run_of_unit b program x o)
  run_of_unit_fits (u.Method k) us o e h = evaluating_kept (found_kept {P = λ m. slice_get program.methods k ≡ Some m} (slice_get program.methods k) (itself (slice_get program.methods k))) (λ m there.
      let same : Some us ≡ Some (take (m.params + m.returns) m.vars) = sym e ∙ method_types_are k m there in
      let equal : us ≡ take (m.params + m.returns) m.vars = cc in
      start_method_fits k m o there (subst (λ z. FitsOpening program.layout z o) equal h))
  run_of_unit_fits (u.Predicate k) us o e h = evaluating_kept (found_kept {P = λ d. slice_get program.predicates k ≡ Some d} (slice_get program.predicates k) (itself (slice_get program.predicates k))) (λ d there.
      let same : Some us ≡ Some d.params = sym e ∙ predicate_types_are k d there in
      let equal : us ≡ d.params = cc in
      evaluating_kept (found_kept {P = λ body. d.body ≡ Some body} d.body (itself d.body)) (λ body has. start_predicate_fits k d body o there has (subst (λ z. FitsOpening program.layout z o) equal h)))

  pub unit_run_fits : (n : ℕ) (o : Opening) → Opens program n o → UnitGoes (unit_run b program n o)
  unit_run_fits n o h = evaluating_kept (found_kept {P = λ x. h.unit ≡ x} (slice_get program.units n) (if_there (slice_get program.units n) (h.unit, (h.exists, refl)))) (λ x same.
      run_of_unit_fits x h.types o (ap (opening_types program) (sym same) ∙ h.typed) h.fits)
