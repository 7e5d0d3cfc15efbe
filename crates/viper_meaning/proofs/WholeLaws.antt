-- Of no place more than the whole is held, and nothing of a field of null, in every run.
use Rattle.std.proofs.Common.{◌≡◌, refl, sym, ap, ◌∙◌, subst, ℕ, zero, suc, ◌==◌, Bool, true, false, not, cond, Option, Some, None, [], ◌∷◌, IfSome, length, slice_get}
use Rattle.std.proofs.lemmas.List.Elements.{All-replicate}
use Rattle.std.specs.Prelude.{⊤}
use Rattle.std.specs.Option.{option_map}
use Rattle.std.specs.Ordering.{nat_cmp, is_lt}
use Rattle.sparse.specs.Map.{Map, empty, get, set}
use Rattle.sparse.proofs.MapLaws.{IsReduced-empty, IsReduced-set, get-set_is, get-set_same, get-set_other}
use Rattle.vb_base.specs.declared.labels.Kind.TheVariants as kind
use Rattle.vb_base.specs.declared.places.Pos.{Pos}
use Rattle.vb_value.specs.Bound.{Bound}
use Rattle.vb_value.specs.Content.{Content, same_content}
use Rattle.vb_value.specs.Fraction.{Fraction, is_negative, is_positive, is_none, is_above_one, difference, product, order, fits_difference, fits_product, fits_order, none, write}
use Rattle.vb_value.specs.Layout.{Layout}
use Rattle.vb_value.specs.Value.{type_of, same_type, value_eq, fraction_eq}
use Rattle.vb_value.specs.declared.values.Value.{Value}
use Rattle.vb_value.proofs.SignLaws.{product_not_negative, positive_not_negative}
use Rattle.viper_core.specs.Expr as t
use Rattle.viper_core.specs.Program.{Program}
use Rattle.viper_core.specs.Stmt as s
use Rattle.viper_state.specs.Event as event
use Rattle.viper_state.specs.Run.{Opening, Scene, with_variables}
use Rattle.viper_state.specs.State.{Key, Memo, State, value_at, mask_at, content_at, amount_at, with_mask, empty_state}
use Rattle.viper_state.specs.Within.{IsNotNegative}
use Rattle.viper_state.proofs.MapLaws.{exact_masks}
use Rattle.viper_state.proofs.Paired.{All-found, All-changed}
use Rattle.viper_meaning.specs.Assertions.{place_in, instance_in, more_held, given_to, produce_amount, produce, rest_of, taken_from, something_held, some_taken_from, consume_amount, consume}
use Rattle.viper_meaning.specs.Contents.{content_in, body_of, closed, is_small, fold_instance, unfold_instance}
use Rattle.viper_meaning.specs.Ends.{Evaluated, found, then_with, is, fitting}
use Rattle.viper_meaning.specs.Forgotten.{memo_in, forgotten, forget}
use Rattle.viper_meaning.specs.HeldWhole.{CanBeMask, HoldsAtMostWhole}
use Rattle.viper_meaning.specs.Kept.{IsAny, Keeps}
use Rattle.viper_meaning.specs.KeptRuns.{KeepsRun, at_end}
use Rattle.viper_meaning.specs.Places.{key_of, taken, unit_of, leaf_of, pair_of, leaf_for, added, written, contained, fill_leaf, fill_place, fill_held, fill_instance}
use Rattle.viper_meaning.specs.Resource.{Resource, Place, Instance, held_at, with_held, is_null, is_too_much}
use Rattle.viper_meaning.specs.Run.{Run}
use Rattle.viper_meaning.specs.Statements.{Configuration, Activation, run_stmt, run_block}
use Rattle.viper_meaning.specs.Units.{unit_run}
use Rattle.viper_meaning.specs.Value.{as_truth, as_ref, as_key, value, values, amount_of, opened, truth_in, perm_in}
use Rattle.viper_meaning.proofs.ClosedLaws.{any_found}
use Rattle.viper_meaning.proofs.HeldKeptLaws.{chosen_any}
use Rattle.viper_meaning.proofs.KeptLaws.{is_kept, fails_kept, blocks_kept, then_kept, found_kept, unless_kept, if_kept, recorded_kept, fitting_kept}
use Rattle.viper_meaning.proofs.LeftLaws.{left_not_above, nothing_left}
use Rattle.viper_meaning.proofs.RunKeptLaws.{before_kept, evaluating_kept, then_do_kept, taking_kept, if_run_kept}
use Rattle.viper_meaning.proofs.RunSignLaws.{where_so, less_is_enough}
use Rattle.viper_meaning.proofs.SignLaws.{any_events, after_any, where_not}
use Rattle.viper_meaning.proofs.StateKeptLaws as k
use Rattle.viper_meaning.proofs.StateKeptLaws.{IsKeptByRuns, OfState, then_any}

abbrev Whole : Evaluated State → Type 0
Whole e = Keeps IsAny HoldsAtMostWhole e

abbrev WholeRun : Run State → Type 0
WholeRun r = KeepsRun IsAny IsAny HoldsAtMostWhole r

-- ---- masks

-- an amount that can be held of a field of this reference
abbrev CanHold : ℕ → Fraction → Type 0
CanHold r q = (is_above_one q ≡ false) × (r ≡ 0 → is_none q ≡ true)

mask_set : (m : Map ℕ Fraction) (r : ℕ) (q : Fraction) → CanHold r q → CanBeMask m → CanBeMask (set nat_cmp fraction_eq m r q)
mask_set m r q h i = record {
  reduced = IsReduced-set exact_masks.total m i.reduced r q;
  at_most_whole = λ x. one_of x;
  nothing_of_null = null r refl;
}
  where
    either : (b : Bool) (x : ℕ) → is_above_one (cond b q (get nat_cmp m x)) ≡ false
    either true x = h.0
    either false x = i.at_most_whole x

    one_of : (x : ℕ) → is_above_one (get nat_cmp (set nat_cmp fraction_eq m r q) x) ≡ false
    one_of x = ap is_above_one (get-set_is exact_masks m i.reduced r x q) ∙ either _ x

    null : (y : ℕ) → r ≡ y → is_none (get nat_cmp (set nat_cmp fraction_eq m r q) 0) ≡ true
    null zero e = subst (λ y. is_none (get nat_cmp (set nat_cmp fraction_eq m r q) y) ≡ true) e (ap is_none (get-set_same exact_masks m i.reduced r q) ∙ h.1 e)
    null (suc y) e = ap is_none (get-set_other exact_masks m i.reduced r 0 q (λ z. let no : suc y ≡ 0 = sym e ∙ z in cc)) ∙ i.nothing_of_null

with_mask_whole : (s : State) → HoldsAtMostWhole s → (f r : ℕ) (q : Fraction) → CanHold r q → HoldsAtMostWhole (with_mask s f r q)
with_mask_whole s h f r q i = All-changed nat_cmp fraction_eq CanBeMask s.mask f r q h (λ m j. mask_set m r q i j)

mask_can : (s : State) → HoldsAtMostWhole s → (f r : ℕ) → IfSome (mask_at s f r) (CanHold r)
mask_can s h f r = by (slice_get s.mask f) (All-found CanBeMask s.mask f h)
  where
    by : (o : Option (Map ℕ Fraction)) → IfSome o CanBeMask → IfSome (option_map (λ m. get nat_cmp m r) o) (CanHold r)
    by (Some m) i = (i.at_most_whole r, λ e. subst (λ x. is_none (get nat_cmp m x) ≡ true) (sym e) i.nothing_of_null)
    by None i = tt

pub empty_whole : (l : Layout) (m : Memo) → HoldsAtMostWhole (empty_state l m)
empty_whole l m = All-replicate CanBeMask (length l.fields) (empty none) (record { reduced = IsReduced-empty exact_masks.total none; at_most_whole = λ r. refl; nothing_of_null = refl })

-- ---- resources

abbrev CanHoldOf : Resource → Fraction → Type 0
CanHoldOf (Place f r) q = CanHold r q
CanHoldOf (Instance p key) q = ⊤

held_can : (s : State) → HoldsAtMostWhole s → (x : Resource) → IfSome (held_at s x) (CanHoldOf x)
held_can s h (Place f r) = mask_can s h f r
held_can s h (Instance p key) = any_found (amount_at s p key)

with_held_whole : (s : State) → HoldsAtMostWhole s → (x : Resource) (q : Fraction) → CanHoldOf x q → HoldsAtMostWhole (with_held s x q)
with_held_whole s h (Place f r) q i = with_mask_whole s h f r q i
with_held_whole s h (Instance p key) q i = h

not_null : (r : ℕ) → (r == 0) ≡ false → r ≡ 0 → ⊥
not_null zero n e = cc
not_null (suc r) n e = cc

-- more, where it is neither null's nor too much
more_can : (x : Resource) (q : Fraction) → is_null x ≡ false → is_too_much x q ≡ false → CanHoldOf x q
more_can (Place f r) q n h = (h, λ e. absurd (not_null r n e))
more_can (Instance p key) q n h = tt

-- what is left
left_can : (x : Resource) (held q : Fraction) → CanHoldOf x held → is_negative q ≡ false → is_lt (order held q) ≡ false → CanHoldOf x (difference held q)
left_can (Place f r) held q h n e = (left_not_above held q h.0 n, λ z. nothing_left held q (h.1 z) n e)
left_can (Instance p key) held q h n e = tt

-- ---- producing

more_held_whole : (b : Bound) (k : Fraction) (x : Resource) (at : Pos) (s : State) (q : Fraction) → HoldsAtMostWhole s → Whole (more_held b k x at s q)
more_held_whole b k x at s q h =
    where_not (is_null x) (is_null x) refl blocks_kept (λ n. after_any (found (held_at s x)) (λ held. after_any (added b held k q at) (λ all.
    where_not (is_too_much x all) (is_too_much x all) refl blocks_kept (λ m. is_kept (with_held_whole s h x all (more_can x all n m))))))

given_to_whole : (b : Bound) (sc : Scene) (k : Fraction) (x : Resource) (at : Pos) (s : State) (q : Fraction) → HoldsAtMostWhole s → Whole (given_to b sc k x at s q)
given_to_whole b sc k x at s q h = unless_kept (is_negative q) (fails_kept sc at kind.Negative) (if_kept (is_none q) (is_kept h) (more_held_whole b k x at s q h))

produce_amount_whole : (b : Bound) (m : t.Amt) (sc : Scene) (k : Fraction) (at : Pos) (s : State) (x : Resource) → HoldsAtMostWhole s → WholeRun (produce_amount b m sc k at s x)
produce_amount_whole b (t.Is e) sc k at s x h = at_end (after_any (perm_in b e s sc) (λ q. given_to_whole b sc k x at s q h))
produce_amount_whole b t.Wildcard sc k at s x h = chosen_any (λ q. at_end (unless_kept (not (is_positive q)) blocks_kept (more_held_whole b k x at s q h)))

pub produce_whole : (b : Bound) (a : t.Assertion) (sc : Scene) (k : Fraction) (s : State) → HoldsAtMostWhole s → KeepsRun IsAny IsAny HoldsAtMostWhole (produce b a sc k s)
produce_whole b (t.Fact e at) sc k s h = at_end (after_any (truth_in b e s sc) (λ holds. if_kept holds (is_kept h) blocks_kept))
produce_whole b (t.Acc e f m at) sc k s h = then_any (place_in b e f s sc) (λ x. produce_amount_whole b m sc k at s x h)
produce_whole b (t.Inst p args m at) sc k s h = then_any (instance_in b p args s sc) (λ x. produce_amount_whole b m sc k at s x h)
produce_whole b (t.And x y) sc k s h = then_do_kept (produce_whole b x sc k s h) (λ u i. produce_whole b y sc k u i)
produce_whole b (t.Implies e x) sc k s h = then_any (truth_in b e s sc) (λ holds. if_run_kept holds (produce_whole b x sc k s h) (at_end (is_kept h)))
produce_whole b (t.ChooseAssertion e x y) sc k s h = then_any (truth_in b e s sc) (λ holds. if_run_kept holds (produce_whole b x sc k s h) (produce_whole b y sc k s h))

-- ---- consuming

-- what is left of an amount, where enough is there
left_kept : (b : Bound) (x : Resource) (at : Pos) (held q : Fraction) → CanHoldOf x held → is_negative q ≡ false → is_lt (order held q) ≡ false → Keeps IsAny (CanHoldOf x) (fitting b (fits_difference held q) at (difference held q))
left_kept b x at held q h n e = fitting_kept b (fits_difference held q) at (difference held q) (λ fits. left_can x held q h n e)

rest_whole : (b : Bound) (sc : Scene) (x : Resource) (at : Pos) (held q : Fraction) → CanHoldOf x held → is_negative q ≡ false → Keeps IsAny (CanHoldOf x) (rest_of b sc at held q)
rest_whole b sc x at held q h n =
    then_kept (fitting_kept {P = λ less. is_lt (order held q) ≡ less} b (fits_order held q) at (is_lt (order held q)) (λ fits. refl)) (λ less e.
    where_not (is_lt (order held q)) less e (fails_kept sc at kind.Perm) (λ enough. left_kept b x at held q h n enough))

taken_from_whole : (b : Bound) (sc : Scene) (k : Fraction) (x : Resource) (at : Pos) (left : State) (q : Fraction) → IsNotNegative k → HoldsAtMostWhole left → Whole (taken_from b sc k x at left q)
taken_from_whole b sc k x at left q i h =
    where_not (is_negative q) (is_negative q) refl (fails_kept sc at kind.Negative) (λ j. then_kept (found_kept (held_at left x) (held_can left h x)) (λ held n.
    then_kept (fitting_kept {P = IsNotNegative} b (fits_product k q) at (product k q) (λ fits. product_not_negative k q i j)) (λ some m.
    then_kept (rest_whole b sc x at held some n m) (λ rest l. is_kept (with_held_whole left h x rest l)))))

some_taken_whole : (b : Bound) (x : Resource) (at : Pos) (left : State) (held q : Fraction) → CanHoldOf x held → HoldsAtMostWhole left → Whole (some_taken_from b x at left held q)
some_taken_whole b x at left held q n h =
    where_so (is_positive q) blocks_kept (λ p. then_kept (fitting_kept {P = λ less. is_lt (order q held) ≡ less} b (fits_order q held) at (is_lt (order q held)) (λ fits. refl)) (λ less e.
    where_so less blocks_kept (λ so. then_kept (left_kept b x at held q n (positive_not_negative q p) (less_is_enough held q (e ∙ so))) (λ rest l. is_kept (with_held_whole left h x rest l)))))

something_whole : (sc : Scene) (x : Resource) (at : Pos) (left : State) → HoldsAtMostWhole left → Keeps IsAny (CanHoldOf x) (something_held sc x at left)
something_whole sc x at left h = then_kept (found_kept (held_at left x) (held_can left h x)) (λ held n. unless_kept (is_none held) (fails_kept sc at kind.Perm) (is_kept n))

consume_amount_whole : (b : Bound) (m : t.Amt) (start : State) (sc : Scene) (k : Fraction) (at : Pos) (left : State) (x : Resource) → IsNotNegative k → HoldsAtMostWhole left → WholeRun (consume_amount b m start sc k at left x)
consume_amount_whole b (t.Is e) start sc k at left x i h = at_end (after_any (perm_in b e start sc) (λ q. taken_from_whole b sc k x at left q i h))
consume_amount_whole b t.Wildcard start sc k at left x i h = evaluating_kept (something_whole sc x at left h) (λ held n. chosen_any (λ q. at_end (some_taken_whole b x at left held q n h)))

pub consume_whole : (b : Bound) (a : t.Assertion) (start : State) (sc : Scene) (k : Fraction) (left : State) → is_negative k ≡ false → HoldsAtMostWhole left → KeepsRun IsAny IsAny HoldsAtMostWhole (consume b a start sc k left)
consume_whole b (t.Fact e at) start sc k left i h = at_end (after_any (truth_in b e start sc) (λ holds. if_kept holds (is_kept h) (fails_kept sc at kind.Fact)))
consume_whole b (t.Acc e f m at) start sc k left i h = then_any (place_in b e f start sc) (λ x. consume_amount_whole b m start sc k at left x i h)
consume_whole b (t.Inst p args m at) start sc k left i h = then_any (instance_in b p args start sc) (λ x. consume_amount_whole b m start sc k at left x i h)
consume_whole b (t.And x y) start sc k left i h = then_do_kept (consume_whole b x start sc k left i h) (λ u j. consume_whole b y start sc k u i j)
consume_whole b (t.Implies e x) start sc k left i h = then_any (truth_in b e start sc) (λ holds. if_run_kept holds (consume_whole b x start sc k left i h) (at_end (is_kept h)))
consume_whole b (t.ChooseAssertion e x y) start sc k left i h =
    then_any (truth_in b e start sc) (λ holds. if_run_kept holds (consume_whole b x start sc k left i h) (consume_whole b y start sc k left i h))

-- ---- forgetting changes no mask

pub forget_whole : (layout : Layout) (s : State) → HoldsAtMostWhole s → KeepsRun IsAny IsAny HoldsAtMostWhole (forget layout s)
forget_whole layout s h = taking_kept {Q = IsAny} (memo_in layout) (λ c u. any_found (memo_in layout c)) (λ m u.
    before_kept (event.Whole (forgotten s m) ∷ []) (any_events (event.Whole (forgotten s m) ∷ [])) (at_end (is_kept h)))

-- ---- taking and filling

taken_whole : (b : Bound) (sc : Scene) (s : State) (p : ℕ) (key : Key) (q : Fraction) (at : Pos) → HoldsAtMostWhole s → Whole (taken b sc s p key q at)
taken_whole b sc s p key q at h =
    unless_kept (not (is_positive q)) (fails_kept sc at kind.Amount) (after_any (found (amount_at s p key)) (λ held. after_any (fitting b (fits_order held q) at (is_lt (order held q))) (λ less.
    unless_kept less (fails_kept sc at kind.Perm) (after_any _ (λ left. is_kept h)))))

nothing_whole : (c : Content) (s : State) → HoldsAtMostWhole s → Whole (then_with (unit_of c) (λ u. is s))
nothing_whole c s h = after_any (unit_of c) (λ u. is_kept h)

-- null takes no value
leaf_for_whole : (s : State) (f r : ℕ) (c : Content) → Keeps IsAny (λ v. (r == 0) ≡ false) (leaf_for s f r c)
leaf_for_whole s f r c =
    where_not (r == 0) (r == 0) refl blocks_kept (λ n. after_any (leaf_of c) (λ v. after_any (found (value_at s f r)) (λ old.
    unless_kept (not (same_type (type_of v) (type_of old))) blocks_kept (recorded_kept (event.Leaf v) tt (is_kept n)))))

written_whole : (s : State) (f r : ℕ) (v : Value) (held : Fraction) → HoldsAtMostWhole s → Whole (written s f r v held)
written_whole s f r v held h = if_kept (is_none held) (is_kept h) (after_any (found (value_at s f r)) (λ old. unless_kept (not (value_eq v old)) blocks_kept (is_kept h)))

fill_leaf_whole : (b : Bound) (k : Fraction) (f r : ℕ) (q : Fraction) (v : Value) (at : Pos) (s : State) → (r == 0) ≡ false → HoldsAtMostWhole s → Whole (fill_leaf b k f r q v at s)
fill_leaf_whole b k f r q v at s n h =
    after_any (found (mask_at s f r)) (λ held. then_kept (written_whole s f r v held h) (λ u i. after_any (added b held k q at) (λ all.
    where_not (is_above_one all) (is_above_one all) refl blocks_kept (λ m. is_kept (with_mask_whole u i f r all (m, λ e. absurd (not_null r n e)))))))

fill_place_whole : (b : Bound) (sc : Scene) (k : Fraction) (f r : ℕ) (q : Fraction) (c : Content) (at : Pos) (s : State) → HoldsAtMostWhole s → Whole (fill_place b sc k f r q c at s)
fill_place_whole b sc k f r q c at s h =
    unless_kept (is_negative q) (fails_kept sc at kind.Negative) (if_kept (is_none q) (nothing_whole c s h) (then_kept (leaf_for_whole s f r c) (λ v n. fill_leaf_whole b k f r q v at s n h)))

contained_whole : (s : State) (p : ℕ) (key : Key) (c : Content) (held : Fraction) → HoldsAtMostWhole s → Whole (contained s p key c held)
contained_whole s p key c held h = if_kept (is_none held) (is_kept h) (after_any (found (content_at s p key)) (λ old. unless_kept (not (same_content c old)) blocks_kept (is_kept h)))

fill_held_whole : (b : Bound) (k : Fraction) (p : ℕ) (key : Key) (q : Fraction) (c : Content) (at : Pos) (s : State) → HoldsAtMostWhole s → Whole (fill_held b k p key q c at s)
fill_held_whole b k p key q c at s h =
    after_any (found (amount_at s p key)) (λ held. then_kept (contained_whole s p key c held h) (λ u i. after_any (added b held k q at) (λ all. is_kept i)))

fill_instance_whole : (b : Bound) (sc : Scene) (k : Fraction) (p : ℕ) (key : Key) (q : Fraction) (c : Content) (at : Pos) (s : State) → HoldsAtMostWhole s → Whole (fill_instance b sc k p key q c at s)
fill_instance_whole b sc k p key q c at s h = unless_kept (is_negative q) (fails_kept sc at kind.Negative) (if_kept (is_none q) (nothing_whole c s h) (fill_held_whole b k p key q c at s h))

pub opened_whole : (b : Bound) (a : t.Assertion) (c : Content) (s : State) (sc : Scene) (k : Fraction) → HoldsAtMostWhole s → Keeps IsAny HoldsAtMostWhole (opened b a c s sc k)
opened_whole b (t.Fact a at) c s sc k h = after_any (as_truth (value b a s sc)) (λ holds. if_kept holds (nothing_whole c s h) blocks_kept)
opened_whole b (t.Acc a f m at) c s sc k h = after_any (as_ref (value b a s sc)) (λ r. after_any (amount_of b m s sc) (λ q. fill_place_whole b sc k f r q c at s h))
opened_whole b (t.Inst p args m at) c s sc k h = after_any (as_key (values b args s sc)) (λ key. after_any (amount_of b m s sc) (λ q. fill_instance_whole b sc k p key q c at s h))
opened_whole b (t.And x y) c s sc k h = after_any (pair_of c) (λ parts. then_kept (opened_whole b x parts.0 s sc k h) (λ u i. opened_whole b y parts.1 u sc k i))
opened_whole b (t.Implies a x) c s sc k h = after_any (as_truth (value b a s sc)) (λ holds. if_kept holds (opened_whole b x c s sc k h) (nothing_whole c s h))
opened_whole b (t.ChooseAssertion a x y) c s sc k h = after_any (as_truth (value b a s sc)) (λ holds. if_kept holds (opened_whole b x c s sc k h) (opened_whole b y c s sc k h))

-- ---- folding and unfolding

closed_whole : (b : Bound) (body : t.Assertion) (start : State) (sc : Scene) (p : ℕ) (key : Key) (q : Fraction) (at : Pos) (left : State) → HoldsAtMostWhole left → Whole (closed b body start sc p key q at left)
closed_whole b body start sc p key q at left h = after_any (content_in b body start sc) (λ c. after_any (fitting b (is_small c) at c) (λ c. fill_held_whole b write p key q c at left h))

pub fold_instance_whole : (b : Bound) (program : Program) (f : s.FoldStmt) (s : State) (sc : Scene) → HoldsAtMostWhole s → KeepsRun IsAny IsAny HoldsAtMostWhole (fold_instance b program f s sc)
fold_instance_whole b program f s sc h =
    then_any (values b f.args s sc) (λ vs. then_any (perm_in b f.amount s sc) (λ q. then_any (found (key_of vs)) (λ key. then_any (found (body_of program f.predicate)) (λ body.
    evaluating_kept {P = λ q. is_positive q ≡ true} (where_so (is_positive q) (fails_kept sc f.place kind.Amount) (λ so. is_kept so)) (λ q so.
    then_do_kept (consume_whole b body s (with_variables vs sc) q s (positive_not_negative q so) h) (λ left i. at_end (closed_whole b body s (with_variables vs sc) f.predicate key q f.place left i)))))))

pub unfold_instance_whole : (b : Bound) (program : Program) (f : s.FoldStmt) (s : State) (sc : Scene) → HoldsAtMostWhole s → Keeps IsAny HoldsAtMostWhole (unfold_instance b program f s sc)
unfold_instance_whole b program f s sc h =
    after_any (values b f.args s sc) (λ vs. after_any (perm_in b f.amount s sc) (λ q. after_any (found (key_of vs)) (λ key. after_any (found (body_of program f.predicate)) (λ body.
    then_kept (taken_whole b sc s f.predicate key q f.place h) (λ less i. after_any (found (content_at s f.predicate key)) (λ c. opened_whole b body c less (with_variables vs sc) q i))))))

-- ---- statements, methods and predicates

pub whole_kept : (b : Bound) (program : Program) → IsKeptByRuns b program HoldsAtMostWhole
whole_kept b program = record {
  produces = λ a sc s h. produce_whole b a sc write s h;
  consumes = λ a start sc left h. consume_whole b a start sc write left refl h;
  forgets = forget_whole program.layout;
  folds = fold_instance_whole b program;
  unfolds = unfold_instance_whole b program;
  writes = λ s f r v h. h;
  holds = λ s f r n h. with_mask_whole s h f r write (refl, λ e. absurd (not_null r n e));
  begins = λ c. begin_with (memo_in program.layout c);
}
  where
    begin_with : (o : Option Memo) → IfSome o (λ m. HoldsAtMostWhole (empty_state program.layout m))
    begin_with (Some m) = empty_whole program.layout m
    begin_with None = tt

pub run_stmt_whole : (b : Bound) (a : Activation) (x : s.Stmt) (c : Configuration) → HoldsAtMostWhole c.state → KeepsRun IsAny IsAny (OfState HoldsAtMostWhole) (run_stmt b a x c)
run_stmt_whole b a = k.run_stmt_any b a HoldsAtMostWhole (whole_kept b a.program)

pub run_block_whole : (b : Bound) (a : Activation) (xs : s.Stmts) (c : Configuration) → HoldsAtMostWhole c.state → KeepsRun IsAny IsAny (OfState HoldsAtMostWhole) (run_block b a xs c)
run_block_whole b a = k.run_block_any b a HoldsAtMostWhole (whole_kept b a.program)

pub unit_run_whole : (b : Bound) (program : Program) (o : Opening) (n : ℕ) → KeepsRun IsAny IsAny HoldsAtMostWhole (unit_run b program n o)
unit_run_whole b program o n = k.unit_run_any b program HoldsAtMostWhole (whole_kept b program) o (empty_whole program.layout o.memo) n
