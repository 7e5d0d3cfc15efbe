-- A state that has the maps of the program keeps them, in every run.
use Rattle.std.proofs.Common.{◌≡◌, refl, ap, ℕ, ◌==◌, zero, suc, Bool, true, false, not, Option, Some, None, List, [], ◌∷◌, IfSome, length, if◌then◌else◌}
use Rattle.std.specs.Ordering.{nat_cmp, is_lt}
use Rattle.std.specs.declared.cmp.Ordering.{Ordering}
use Rattle.sparse.specs.Map.{Map}
use Rattle.vb_base.specs.declared.labels.Kind.TheVariants as kind
use Rattle.vb_base.specs.declared.places.Pos.{Pos}
use Rattle.vb_value.specs.Bound.{Bound}
use Rattle.vb_value.specs.Content.{Content, same_content}
use Rattle.vb_value.specs.Fraction.{Fraction, is_negative, is_positive, is_none, is_above_one, order, fits_order, write}
use Rattle.vb_value.specs.Key.{key_cmp}
use Rattle.vb_value.specs.Layout.{Layout}
use Rattle.vb_value.specs.Value.{value_eq}
use Rattle.vb_value.specs.declared.values.Ty.{Ty}
use Rattle.vb_value.specs.declared.values.Value.{Value}
use Rattle.viper_core.specs.Expr as t
use Rattle.viper_core.specs.Program.{Program, Method}
use Rattle.viper_core.specs.Stmt as s
use Rattle.viper_state.specs.Choice as choice
use Rattle.viper_state.specs.Choice.{Choice}
use Rattle.viper_state.specs.Event as event
use Rattle.viper_state.specs.Fits.{HasMaps, MemoHasMaps}
use Rattle.viper_state.specs.FitsTest.{fits_memo}
use Rattle.viper_state.specs.Run.{Opening, Scene, with_variables}
use Rattle.viper_state.specs.State.{Key, Memo, State, value_at, mask_at, content_at, amount_at, empty_state}
use Rattle.viper_state.proofs.FitsTestLaws.{Decides-fits_memo}
use Rattle.viper_state.proofs.ShapeLaws.{memo_has_maps, with_value_has_maps, with_mask_has_maps, with_content_has_maps, with_amount_has_maps, empty_state_has_maps}
use Rattle.viper_meaning.specs.Assertions.{produce, consume}
use Rattle.viper_meaning.specs.Contents.{content_in, body_of, positive_amount, closed, is_small, fold_instance, unfold_instance}
use Rattle.viper_meaning.specs.Ends.{Evaluated, found, then_with, is, fitting}
use Rattle.viper_meaning.specs.Forgotten.{forgotten_maps, forgotten, memo_in, forget}
use Rattle.viper_meaning.specs.Kept.{IsAny, Keeps}
use Rattle.viper_meaning.specs.KeptRuns.{KeepsRun, at_end}
use Rattle.viper_meaning.specs.Places.{key_of, taken, unit_of, pair_of, leaf_for, added, written, contained, fill_leaf, fill_place, fill_held, fill_instance}
use Rattle.viper_meaning.specs.Resource.{Resource, Place, Instance, with_held}
use Rattle.viper_meaning.specs.Statements.{Configuration, Activation, produce_all, consume_all, exhale_all, created, called, run_stmt, run_block}
use Rattle.viper_meaning.specs.Units.{unit_run}
use Rattle.viper_meaning.specs.Value.{as_truth, as_ref, as_key, value, values, amount_of, opened, perm_in}
use Rattle.viper_meaning.proofs.HeldKeptLaws.{produce_keeps, consume_keeps}
use Rattle.viper_meaning.proofs.KeptLaws.{is_kept, fails_kept, blocks_kept, then_kept, unless_kept, if_kept}
use Rattle.viper_meaning.proofs.RunKeptLaws.{before_kept, then_do_kept, taking_kept}
use Rattle.viper_meaning.proofs.SignLaws.{any_events, after_any}
use Rattle.viper_meaning.proofs.StateKeptLaws as k
use Rattle.viper_meaning.proofs.StateKeptLaws.{IsKeptByRuns, OfState, then_any}

module _ (l : Layout) where
  abbrev Shaped : Evaluated State → Type 0
  Shaped e = Keeps IsAny (HasMaps l) e

  pub with_held_has_maps : {s : State} → HasMaps l s → (x : Resource) (q : Fraction) → HasMaps l (with_held s x q)
  with_held_has_maps h (Place f r) q = with_mask_has_maps h f r q
  with_held_has_maps h (Instance p key) q = with_amount_has_maps h p key q

  -- ---- producing and consuming

  pub produce_shape : (b : Bound) (a : t.Assertion) (sc : Scene) (k : Fraction) (s : State) → HasMaps l s → KeepsRun IsAny IsAny (HasMaps l) (produce b a sc k s)
  produce_shape b a sc k s h = produce_keeps b (HasMaps l) (λ u x q i. with_held_has_maps i x q) a sc k s h

  pub consume_shape : (b : Bound) (a : t.Assertion) (start : State) (sc : Scene) (k : Fraction) (left : State) → HasMaps l left → KeepsRun IsAny IsAny (HasMaps l) (consume b a start sc k left)
  consume_shape b a start sc k left h = consume_keeps b (HasMaps l) (λ u x q i. with_held_has_maps i x q) a start sc k left h

  -- ---- forgetting

  long : {K V : Type 0} (cmp : K → K → Ordering) (eq : V → V → Bool) (n : ℕ) (news owns : List (Map K V)) (helds : List (Map K Fraction)) → length news ≡ n → length owns ≡ n → length helds ≡ n →
      length (forgotten_maps cmp eq news owns helds) ≡ n
  long cmp eq n [] owns helds h g i = h
  long cmp eq (suc n) (m ∷ ms) (o ∷ os) (d ∷ ds) h g i =
      let new : length ms ≡ n = cc in
      let own : length os ≡ n = cc in
      let held : length ds ≡ n = cc in
      ap suc (long cmp eq n ms os ds new own held)
  long cmp eq zero (m ∷ ms) os ds h g i = cc
  long cmp eq (suc n) (m ∷ ms) [] ds h g i = cc
  long cmp eq (suc n) (m ∷ ms) (o ∷ os) [] h g i = cc

  memo_chosen : (c : Choice) → IfSome (memo_in l c) (MemoHasMaps l)
  memo_chosen (choice.Filled m) = where_so (fits_memo l m) refl
    where
      where_so : (x : Bool) → fits_memo l m ≡ x → IfSome (if x then Some m else None) (MemoHasMaps l)
      where_so true e = memo_has_maps l m ((Decides-fits_memo l m).0 e)
      where_so false e = tt
  memo_chosen _ = tt

  pub forget_shape : (s : State) → HasMaps l s → KeepsRun IsAny IsAny (HasMaps l) (forget l s)
  forget_shape s h = taking_kept (memo_in l) (λ c u. memo_chosen c) (λ m g.
      before_kept (event.Whole (forgotten s m) ∷ []) (any_events (event.Whole (forgotten s m) ∷ [])) (at_end (is_kept (record {
        heap = long nat_cmp value_eq (length l.fields) m.heap s.heap s.mask g.heap h.heap h.mask;
        content = long key_cmp same_content (length l.keys) m.content s.content s.amount g.content h.content h.amount;
        mask = h.mask;
        amount = h.amount;
      }))))

  -- ---- taking and filling

  pub taken_shape : (b : Bound) (sc : Scene) (s : State) (p : ℕ) (key : Key) (q : Fraction) (at : Pos) → HasMaps l s → Keeps IsAny (HasMaps l) (taken b sc s p key q at)
  taken_shape b sc s p key q at h =
      unless_kept (not (is_positive q)) (fails_kept sc at kind.Amount) (after_any (found (amount_at s p key)) (λ held. after_any (fitting b (fits_order held q) at (is_lt (order held q))) (λ less.
      unless_kept less (fails_kept sc at kind.Perm) (after_any _ (λ left. is_kept (with_amount_has_maps h p key left))))))

  nothing_shape : (c : Content) (s : State) → HasMaps l s → Shaped (then_with (unit_of c) (λ u. is s))
  nothing_shape c s h = after_any (unit_of c) (λ u. is_kept h)

  written_shape : (s : State) (f r : ℕ) (v : Value) (held : Fraction) → HasMaps l s → Shaped (written s f r v held)
  written_shape s f r v held h = if_kept (is_none held) (is_kept (with_value_has_maps h f r v)) (after_any (found (value_at s f r)) (λ old. unless_kept (not (value_eq v old)) blocks_kept (is_kept h)))

  fill_leaf_shape : (b : Bound) (k : Fraction) (f r : ℕ) (q : Fraction) (v : Value) (at : Pos) (s : State) → HasMaps l s → Shaped (fill_leaf b k f r q v at s)
  fill_leaf_shape b k f r q v at s h =
      after_any (found (mask_at s f r)) (λ held. then_kept (written_shape s f r v held h) (λ u i. after_any (added b held k q at) (λ all. unless_kept (is_above_one all) blocks_kept (is_kept (with_mask_has_maps i f r all)))))

  pub fill_place_shape : (b : Bound) (sc : Scene) (k : Fraction) (f r : ℕ) (q : Fraction) (c : Content) (at : Pos) (s : State) → HasMaps l s → Keeps IsAny (HasMaps l) (fill_place b sc k f r q c at s)
  fill_place_shape b sc k f r q c at s h =
      unless_kept (is_negative q) (fails_kept sc at kind.Negative) (if_kept (is_none q) (nothing_shape c s h) (after_any (leaf_for s f r c) (λ v. fill_leaf_shape b k f r q v at s h)))

  contained_shape : (s : State) (p : ℕ) (key : Key) (c : Content) (held : Fraction) → HasMaps l s → Shaped (contained s p key c held)
  contained_shape s p key c held h =
      if_kept (is_none held) (is_kept (with_content_has_maps h p key c)) (after_any (found (content_at s p key)) (λ old. unless_kept (not (same_content c old)) blocks_kept (is_kept h)))

  pub fill_held_shape : (b : Bound) (k : Fraction) (p : ℕ) (key : Key) (q : Fraction) (c : Content) (at : Pos) (s : State) → HasMaps l s → Keeps IsAny (HasMaps l) (fill_held b k p key q c at s)
  fill_held_shape b k p key q c at s h =
      after_any (found (amount_at s p key)) (λ held. then_kept (contained_shape s p key c held h) (λ u i. after_any (added b held k q at) (λ all. is_kept (with_amount_has_maps i p key all))))

  pub fill_instance_shape : (b : Bound) (sc : Scene) (k : Fraction) (p : ℕ) (key : Key) (q : Fraction) (c : Content) (at : Pos) (s : State) → HasMaps l s → Keeps IsAny (HasMaps l) (fill_instance b sc k p key q c at s)
  fill_instance_shape b sc k p key q c at s h = unless_kept (is_negative q) (fails_kept sc at kind.Negative) (if_kept (is_none q) (nothing_shape c s h) (fill_held_shape b k p key q c at s h))

  pub opened_shape : (b : Bound) (a : t.Assertion) (c : Content) (s : State) (sc : Scene) (k : Fraction) → HasMaps l s → Keeps IsAny (HasMaps l) (opened b a c s sc k)
  opened_shape b (t.Fact a at) c s sc k h = after_any (as_truth (value b a s sc)) (λ holds. if_kept holds (nothing_shape c s h) blocks_kept)
  opened_shape b (t.Acc a f m at) c s sc k h = after_any (as_ref (value b a s sc)) (λ r. after_any (amount_of b m s sc) (λ q. fill_place_shape b sc k f r q c at s h))
  opened_shape b (t.Inst p args m at) c s sc k h = after_any (as_key (values b args s sc)) (λ key. after_any (amount_of b m s sc) (λ q. fill_instance_shape b sc k p key q c at s h))
  opened_shape b (t.And x y) c s sc k h = after_any (pair_of c) (λ parts. then_kept (opened_shape b x parts.0 s sc k h) (λ u i. opened_shape b y parts.1 u sc k i))
  opened_shape b (t.Implies a x) c s sc k h = after_any (as_truth (value b a s sc)) (λ holds. if_kept holds (opened_shape b x c s sc k h) (nothing_shape c s h))
  opened_shape b (t.ChooseAssertion a x y) c s sc k h = after_any (as_truth (value b a s sc)) (λ holds. if_kept holds (opened_shape b x c s sc k h) (opened_shape b y c s sc k h))

  -- ---- folding and unfolding

  pub closed_shape : (b : Bound) (body : t.Assertion) (start : State) (sc : Scene) (p : ℕ) (key : Key) (q : Fraction) (at : Pos) (left : State) → HasMaps l left → Keeps IsAny (HasMaps l) (closed b body start sc p key q at left)
  closed_shape b body start sc p key q at left h = after_any (content_in b body start sc) (λ c. after_any (fitting b (is_small c) at c) (λ c. fill_held_shape b write p key q c at left h))

  pub fold_instance_shape : (b : Bound) (program : Program) (f : s.FoldStmt) (s : State) (sc : Scene) → HasMaps l s → KeepsRun IsAny IsAny (HasMaps l) (fold_instance b program f s sc)
  fold_instance_shape b program f s sc h =
      then_any (values b f.args s sc) (λ vs. then_any (perm_in b f.amount s sc) (λ q. then_any (found (key_of vs)) (λ key. then_any (found (body_of program f.predicate)) (λ body. then_any (positive_amount sc f.place q) (λ q.
      then_do_kept (consume_shape b body s (with_variables vs sc) q s h) (λ left i. at_end (closed_shape b body s (with_variables vs sc) f.predicate key q f.place left i)))))))

  pub unfold_instance_shape : (b : Bound) (program : Program) (f : s.FoldStmt) (s : State) (sc : Scene) → HasMaps l s → Keeps IsAny (HasMaps l) (unfold_instance b program f s sc)
  unfold_instance_shape b program f s sc h =
      after_any (values b f.args s sc) (λ vs. after_any (perm_in b f.amount s sc) (λ q. after_any (found (key_of vs)) (λ key. after_any (found (body_of program f.predicate)) (λ body.
      then_kept (taken_shape b sc s f.predicate key q f.place h) (λ less i. after_any (found (content_at s f.predicate key)) (λ c. opened_shape b body c less (with_variables vs sc) q i))))))

-- ---- statements, methods and predicates

shape_kept : (b : Bound) (program : Program) → IsKeptByRuns b program (HasMaps program.layout)
shape_kept b program = record {
  produces = λ a sc s h. produce_shape program.layout b a sc write s h;
  consumes = λ a start sc left h. consume_shape program.layout b a start sc write left h;
  forgets = forget_shape program.layout;
  folds = fold_instance_shape program.layout b program;
  unfolds = unfold_instance_shape program.layout b program;
  writes = λ s f r v h. with_value_has_maps h f r v;
  holds = λ s f r n h. with_mask_has_maps h f r write;
  begins = begins;
}
  where
    begin_with : (o : Option Memo) → IfSome o (MemoHasMaps program.layout) → IfSome o (λ m. HasMaps program.layout (empty_state program.layout m))
    begin_with (Some m) h = empty_state_has_maps program.layout m h
    begin_with None h = tt

    begins : (c : Choice) → IfSome (memo_in program.layout c) (λ m. HasMaps program.layout (empty_state program.layout m))
    begins c = begin_with (memo_in program.layout c) (memo_chosen program.layout c)

pub produce_all_shape : (b : Bound) (program : Program) (list : List t.Assertion) (sc : Scene) (s : State) → HasMaps program.layout s → KeepsRun IsAny IsAny (HasMaps program.layout) (produce_all b list sc s)
produce_all_shape b program = k.produce_all_any b program (HasMaps program.layout) (shape_kept b program)

pub consume_all_shape : (b : Bound) (program : Program) (list : List t.Assertion) (start : State) (sc : Scene) (left : State) → HasMaps program.layout left → KeepsRun IsAny IsAny (HasMaps program.layout) (consume_all b list start sc left)
consume_all_shape b program = k.consume_all_any b program (HasMaps program.layout) (shape_kept b program)

pub exhale_all_shape : (b : Bound) (program : Program) (list : List t.Assertion) (s : State) (sc : Scene) → HasMaps program.layout s → KeepsRun IsAny IsAny (HasMaps program.layout) (exhale_all b program list s sc)
exhale_all_shape b program = k.exhale_all_any b program (HasMaps program.layout) (shape_kept b program)

pub created_shape : (b : Bound) (program : Program) (tys : List Ty) (r : ℕ) → (r == 0) ≡ false → (fs : List ℕ) (s : State) → HasMaps program.layout s → KeepsRun IsAny IsAny (HasMaps program.layout) (created tys r fs s)
created_shape b program = k.created_any b program (HasMaps program.layout) (shape_kept b program)

pub called_shape : (b : Bound) (a : Activation) (targets : List ℕ) (callee : Method) (args : List Value) (at : Pos) (c : Configuration) → HasMaps a.program.layout c.state →
    KeepsRun IsAny IsAny (OfState (HasMaps a.program.layout)) (called b a targets callee args at c)
called_shape b a = k.called_any b a (HasMaps a.program.layout) (shape_kept b a.program)

pub run_stmt_shape : (b : Bound) (a : Activation) (x : s.Stmt) (c : Configuration) → HasMaps a.program.layout c.state → KeepsRun IsAny IsAny (OfState (HasMaps a.program.layout)) (run_stmt b a x c)
run_stmt_shape b a = k.run_stmt_any b a (HasMaps a.program.layout) (shape_kept b a.program)

pub run_block_shape : (b : Bound) (a : Activation) (xs : s.Stmts) (c : Configuration) → HasMaps a.program.layout c.state → KeepsRun IsAny IsAny (OfState (HasMaps a.program.layout)) (run_block b a xs c)
run_block_shape b a = k.run_block_any b a (HasMaps a.program.layout) (shape_kept b a.program)

pub unit_run_shape : (b : Bound) (program : Program) (o : Opening) (n : ℕ) → MemoHasMaps program.layout o.memo → KeepsRun IsAny IsAny (HasMaps program.layout) (unit_run b program n o)
unit_run_shape b program o n h = k.unit_run_any b program (HasMaps program.layout) (shape_kept b program) o (empty_state_has_maps program.layout o.memo h) n
