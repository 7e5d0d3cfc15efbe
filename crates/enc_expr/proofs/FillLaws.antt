-- Filling a place or an instance from a content, by an amount.
use Rattle.std.proofs.Common.{◌≡◌, ◌+◌, ◌<◌, ◌≤◌, ℕ, ℤ, pos, negsuc, zero, suc, Bool as Truth, true, false, not, ◌==◌, List, [], ◌∷◌, ◌++◌, Option, Some, None, IfSome, slice_get, slice_set, length, ◌⊎◌, inl, inr, refl, sym, ap, subst, ◌∙◌, arith, if◌then◌else◌}
use Rattle.std.specs.Ordering.{nat_cmp, int_eq}
use Rattle.std.specs.declared.cmp.Ordering.{Ordering}
use Rattle.std.proofs.lemmas.Bool.{true≢false, false_from_ne_true}
use Rattle.std.proofs.lemmas.Bool.Decides.{Decides-int_eq}
use Rattle.std.proofs.lemmas.Option.{slice_get_within, same_Some}
use Rattle.lemmas.proofs.Lists.{set_there as slice_set_same}
use Rattle.sparse.specs.Map.{Map, get, set, IsReduced as IsTidy}
use Rattle.sparse.specs.Meaning.{IsExact}
use Rattle.sparse.proofs.MapLaws.{set-get, get-set_same}
use Rattle.vb_base.specs.declared.places.Pos.{Pos}
use Rattle.vb_base.specs.declared.labels.Kind.TheVariants as kind
use Rattle.vb_value.specs.Bound.{Bound, IfBounded}
use Rattle.vb_value.specs.Content as content
use Rattle.vb_value.specs.Content.{Content, Leaf, same_content, IsReducedContent}
use Rattle.vb_value.specs.Equality.{Decides-value_eq, Decides-same_content}
use Rattle.vb_value.specs.Fraction.{Fraction, IsProperFraction, is_negative, is_positive, is_none, is_above_one, is_below_zero, is_above_zero, sum, product, fits_product, fits_sum}
use Rattle.vb_value.specs.Key.{key_cmp}
use Rattle.vb_value.specs.Value.{type_of, same_type, value_eq, IsReducedValue}
use Rattle.vb_value.specs.declared.values.Ty.{Ty}
use Rattle.vb_value.specs.declared.values.Ty.TheVariants as ty
use Rattle.vb_value.specs.declared.values.Value.{Value}
use Rattle.vb_value.specs.declared.values.Value.TheVariants as v
use Rattle.vb_value.proofs.ProperLaws.{proper_sum, proper_product}
use Rattle.viper_core.specs.Typing.{Context}
use Rattle.viper_state.specs.Event as event
use Rattle.viper_state.specs.Fits.{FitsKey}
use Rattle.viper_state.specs.Run.{Scene}
use Rattle.viper_state.specs.State.{State, changed, changed_at, value_at, mask_at, content_at, amount_at, with_value, with_mask, with_content, with_amount}
use Rattle.viper_state.specs.Within.{IsNotNegative}
use Rattle.viper_state.proofs.EachLaws.{mask_has, amount_has, mask_not_negative, amount_not_negative}
use Rattle.viper_state.proofs.FitsLaws.{value_found}
use Rattle.viper_state.proofs.MapLaws.{exact_values, exact_contents}
use Rattle.viper_meaning.specs.Ends.{Evaluated, ends, is, fails, blocks, after, then_with, found, unless, recorded}
use Rattle.viper_meaning.specs.Places.{key_of, added, unit_of, leaf_of, fill_leaf, fill_some, fill_place, fill_held, fill_instance}
use Rattle.boogie_tree.specs.Equality.{Decides-same_scalar}
use Rattle.boogie_tree.specs.Expr as t
use Rattle.boogie_tree.specs.Program.{BType}
use Rattle.boogie_tree.specs.Stmt as stmt
use Rattle.boogie_tree.specs.Stmt.{BStmts}
use Rattle.boogie_tree.specs.Value as bv
use Rattle.boogie_tree.specs.Value.{Key, BScalar, BValue, One, Many, Real, Snap, BChoice, Pick, Entries, same_scalar}
use Rattle.boogie_tree.specs.Values.{same_base, base_of_scalar}
use Rattle.boogie_tree.specs.declared.exprs.BOp.TheVariants as op
use Rattle.boogie_meaning.specs.Ends as end
use Rattle.boogie_meaning.specs.Operators as m
use Rattle.boogie_meaning.specs.Quantified.{bvalue, bkey}
use Rattle.boogie_meaning.specs.Value.{scalar_in}
use Rattle.boogie_meaning.specs.Run.{Run, Done, Stops, Failed, Blocked, Short, chosen, brun}
use Rattle.boogie_meaning.proofs.PatternLaws.{set_here, set_there}
use Rattle.boogie_meaning.proofs.ValueLaws.{exact}
use Rattle.moves.specs.Scalars.{scalar, variable_type}
use Rattle.moves.specs.Maps.{place_key, instance_key}
use Rattle.moves.specs.Moves.{moves}
use Rattle.enc_expr.specs.Place as place
use Rattle.enc_expr.specs.Place.{Place, number, IsLocalOf}
use Rattle.enc_expr.specs.Code.{join}
use Rattle.enc_expr.specs.Encoding.{is_unit, leaf, same_where_held, fill_place_code, fill_instance_code, fill_by}
use Rattle.enc_expr.specs.Coupling.{Env, IsSound, HasMaps, IsCoupled, heap_kind, mask_kind, amount_kind, content_kind, IsOwn}
use Rattle.enc_expr.specs.Pieces.{at_one, index, one, label, zero_real, one_real, scaled, check_nonnegative, if_positive, add_to}
use Rattle.enc_expr.specs.Alike.{Alike, IsStopped, Kept, KeptBut, HasAtom, AreLocated, null, IsScale, IsSource}
use Rattle.enc_expr.specs.Alike as alike
use Rattle.enc_expr.proofs.RunLaws.{join_done, assume_run, atom_value, atom_agrees}
use Rattle.enc_expr.proofs.AlikeLaws.{is_alike, after_alike, weaken_alike}
use Rattle.enc_expr.proofs.FrameLaws.{kept_itself, kept_set, but_from, but_then, kept_but_then, but_set, maps_kept, singles_put, singles_but, atom_single, located_single, coupled_own}
use Rattle.enc_expr.proofs.AmountLaws.{added_alike, fits_is, at_value, put_run, add_to_run, if_positive_run, check_nonnegative_run, some_test, one_test, scaled_value}
use Rattle.enc_expr.proofs.OperatorLaws.{plain_value}
use Rattle.enc_expr.proofs.MapLaws.{found_in_map, read_map, value_written, mask_written, amount_written, content_written, index_key}
use Rattle.enc_expr.proofs.OpeningLaws.{after_nothing, alike_run, alike_of, found_alike, unless_alike, fails_alike, stops_first}

-- ---- environments

-- an atom keeps its value while maps change
pub atom_put : {n : ℕ} {E : Env} {x : t.BExpr} {w : BScalar} (y : ℕ) (map : Map Key BScalar) (z : BValue) → slice_get E y ≡ Some (Many map) → HasAtom n E x w → HasAtom n (slice_set E y z) x w
atom_put {n} {E} y map z there h = atom_single (omega arith) (singles_put n E y map z there) h

-- the present maps hold this state, and nothing else but new locals was changed
pub record IsChanged (c : Context) (p : Place) (n m : ℕ) (E : Env) (s : State) (F : Env) : Type 0 where
  pub kept : KeptBut (IsLocalOf c.program.layout p.now) n E F
  pub now : HasMaps c.program.layout m p.now s F

-- behind other changes of these maps
changed_again : {c : Context} {p : Place} {n m : ℕ} {E F G : Env} {s : State} → KeptBut (IsLocalOf c.program.layout p.now) n E F → IsChanged c p n m F s G → IsChanged c p n m E s G
changed_again kept h = record { kept = but_then (omega arith) kept h.kept; now = h.now }

-- where the new state is sound, all is coupled again
pub changed_coupled : (b : Bound) (c : Context) (n m : ℕ) (p : Place) (s : State) (sc : Scene) (E F : Env) → IsOwn c p → n ≤ m → IsCoupled b c n p s sc E → (less : State) → IsSound b c.program.layout less → IsChanged c p n m E less F → IsCoupled b c m p less sc F
changed_coupled b c n m p s sc E F own within coupled less sound h = coupled_own b c n m p p.now s less sc E F own within h.kept (singles_but c.program.layout n n p.now s E F coupled.now h.kept) h.now sound coupled

-- ---- from Unit

pub stopped_first : {b : Bound} {X : Type 0} {Q : X → Env → Type 0} (cs : List BChoice) → Alike Q b blocks cs (Stops Blocked cs)
stopped_first cs = alike.blocked [] (record { same = refl })

pub unit_alike : {X : Type 0} {Q : X → Env → Type 0} (ts : List BType) (b : Bound) (from : ℕ) (d : Content) (go : Evaluated X) (xs : BStmts) (E : Env) (cs : List BChoice) → slice_get E from ≡ Some (One (Snap d)) →
    (d ≡ content.Unit → Alike Q b go cs (brun ts b xs E cs)) → Alike Q b (then_with (unit_of d) (λ u. go)) cs (brun ts b (stmt.first (stmt.Assume (is_unit from)) xs) E cs)
unit_alike {Q} ts b from d go xs E cs here h = by_content d value h
  where
    value : bvalue b (is_unit from) E ≡ end.Is (bv.Bool (same_content d content.Unit))
    value = plain_value b op.Eq (t.Var from) t.Unit (Snap d) (Snap content.Unit) E refl (ap (λ (o : Option BValue). end.then_with (end.found o) scalar_in) here) refl

    by_content : (d : Content) → bvalue b (is_unit from) E ≡ end.Is (bv.Bool (same_content d content.Unit)) → (d ≡ content.Unit → Alike Q b go cs (brun ts b xs E cs)) →
        Alike Q b (then_with (unit_of d) (λ u. go)) cs (brun ts b (stmt.first (stmt.Assume (is_unit from)) xs) E cs)
    by_content content.Unit value h = alike_of (after_nothing go) (alike_run (assume_run ts b (is_unit from) true xs E cs value) (h refl))
    by_content (content.Leaf w) value h = alike_run (assume_run ts b (is_unit from) false xs E cs value) (stopped_first cs)
    by_content (content.Pair x y) value h = alike_run (assume_run ts b (is_unit from) false xs E cs value) (stopped_first cs)

-- ---- by an amount

sign_left : (z : ℤ) → is_below_zero z ≡ false → is_above_zero z ≡ not (int_eq z (pos 0))
sign_left (pos zero) h = refl
sign_left (pos (suc n)) h = ap not (sym (false_from_ne_true (int_eq (pos (suc n)) (pos 0)) (λ e. not_zero ((Decides-int_eq (pos (suc n)) (pos 0)).0 e))))
  where
    not_zero : pos (suc n) ≡ pos 0 → ⊥
    not_zero e = cc
sign_left (negsuc n) h = absurd (cc)

-- what is not negative is none or positive
pub positive_unless_none : (q : Fraction) → is_negative q ≡ false → is_positive q ≡ not (is_none q)
positive_unless_none q h = sign_left q.num h

module _ (ts : List BType) (b : Bound) (c : Context) (p : Place) (s : State) (sc : Scene) (n m : ℕ) (E : Env) (coupled : IsCoupled b c n p s sc E) (more : n ≤ m) (at : Pos) (from : ℕ) (d : Content)
    (source : IsSource b n E from d) (x : t.BExpr) (w : Fraction) (atom : HasAtom n E x (Real w)) (proper : IsProperFraction b w) where
  by_none : (q : Truth) (some : Evaluated State) (xs : BStmts) (cs : List BChoice) → (q ≡ false → Alike (IsChanged c p n m E) b some cs (brun ts b xs E cs)) →
      Alike (IsChanged c p n m E) b (if q then then_with (unit_of d) (λ u. is s) else some) cs (if not q then brun ts b xs E cs else brun ts b (one (stmt.Assume (is_unit from))) E cs)
  by_none true some xs cs h = unit_alike ts b from d (is s) stmt.skip E cs source.here (λ e. is_alike (record { kept = but_from (kept_itself n E); now = maps_kept more (kept_itself n E) coupled.now }))
  by_none false some xs cs h = h refl

  -- it fails at a negative amount, and by none fills nothing
  pub by_amount_alike : (some : Evaluated State) (xs : BStmts) (cs : List BChoice) → (is_positive w ≡ true → Alike (IsChanged c p n m E) b some cs (brun ts b xs E cs)) →
      Alike (IsChanged c p n m E) b (unless (is_negative w) (fails sc at kind.Negative) (if is_none w then then_with (unit_of d) (λ u. is s) else some)) cs (brun ts b (fill_by p at x from xs) E cs)
  by_amount_alike some xs cs h =
      let l = label p at kind.Negative in
      let last = if_positive x xs (one (stmt.Assume (is_unit from))) in
      let check = check_nonnegative_run ts b n l x w E cs atom proper in
      unless_alike (is_negative w)
      (λ e. alike_run (stops_first ts b (check_nonnegative l x) last E (Failed l) cs cs (check.1 e)) (fails_alike p sc at kind.Negative coupled.at))
      (λ e. alike_run (join_done ts b (check_nonnegative l x) last E E cs cs (check.0 e) ∙ if_positive_run ts b n x w xs (one (stmt.Assume (is_unit from))) E cs atom proper ∙
      ap (λ (q : Truth). if q then brun ts b xs E cs else brun ts b (one (stmt.Assume (is_unit from))) E cs) (positive_unless_none w e))
      (by_none (is_none w) some xs cs (λ none. h (positive_unless_none w e ∙ ap not none))))

-- ---- what is held stays as it is

pub implies_value : (b : Bound) (q r : Truth) (x y : end.End BScalar) → x ≡ end.Is (bv.Bool q) → y ≡ end.Is (bv.Bool r) → m.binary b op.Implies x y ≡ end.Is (bv.Bool (if q then r else true))
implies_value b q r x y h g = (λ i. m.binary b op.Implies (h i) (g i)) ∙ by_cases q r
  where
    by_cases : (q r : Truth) → m.binary b op.Implies (end.Is (bv.Bool q)) (end.Is (bv.Bool r)) ≡ end.Is (bv.Bool (if q then r else true))
    by_cases true r = refl
    by_cases false r = refl

if_not : (q r : Truth) → (if not q then r else true) ≡ (if q then true else r)
if_not true r = refl
if_not false r = refl

equal_value : (b : Bound) (x y : t.BExpr) (o w : BScalar) (E : Env) → bvalue b x E ≡ end.Is o → bvalue b y E ≡ end.Is w → same_base (base_of_scalar o) (base_of_scalar w) ≡ true →
    bvalue b (t.Bin op.Eq x y) E ≡ end.Is (bv.Bool (same_scalar o w))
equal_value b x y o w E h g typed = plain_value b op.Eq x y o w E refl h g ∙ ap (λ (q : Truth). if q then end.Is (bv.Bool (same_scalar o w)) else end.Wrong) typed

-- the test whether nothing is held, or what stands there is the same
held_test : (b : Bound) (held old new : t.BExpr) (q : Fraction) (o w : BScalar) (E : Env) → bvalue b held E ≡ end.Is (Real q) → IsProperFraction b q → bvalue b old E ≡ end.Is o → bvalue b new E ≡ end.Is w →
    same_base (base_of_scalar o) (base_of_scalar w) ≡ true →
    bvalue b (t.Bin op.Implies (t.Bin op.Ne held zero_real) (t.Bin op.Eq old new)) E ≡ end.Is (bv.Bool (if is_none q then true else same_scalar o w))
held_test b held old new q o w E h proper there value typed =
    implies_value b (not (is_none q)) (same_scalar o w) (bvalue b (t.Bin op.Ne held zero_real) E) (bvalue b (t.Bin op.Eq old new) E)
    (plain_value b op.Ne held zero_real _ _ E refl h refl ∙ some_test b q proper) (equal_value b old new o w E there value typed)
    ∙ ap (λ (r : Truth). end.Is (bv.Bool r)) (if_not (is_none q) (same_scalar o w))

-- a state is changed where nothing is held, and else it is the same already
held_cases : {X : Type 0} {Q : X → Env → Type 0} (ts : List BType) (b : Bound) (empty same : Truth) (new s : State) (go : State → Evaluated X) (test : t.BExpr) (xs : BStmts) (E : Env) (cs : List BChoice) →
    bvalue b test E ≡ end.Is (bv.Bool (if empty then true else same)) → (same ≡ true → new ≡ s) → Alike Q b (go new) cs (brun ts b xs E cs) →
    Alike Q b (then_with (if empty then is new else unless (not same) blocks (is s)) go) cs (brun ts b (stmt.first (stmt.Assume test) xs) E cs)
held_cases ts b true same new s go test xs E cs value is_same h = alike_run (assume_run ts b test true xs E cs value) (alike_of (after_nothing (go new)) h)
held_cases {Q} ts b false true new s go test xs E cs value is_same h =
    alike_run (assume_run ts b test true xs E cs value) (alike_of (after_nothing (go s)) (subst (λ t. Alike Q b (go t) cs (brun ts b xs E cs)) (is_same refl) h))
held_cases ts b false false new s go test xs E cs value is_same h = alike_run (assume_run ts b test false xs E cs value) (stopped_first cs)

-- nothing changes where the value is put that is there
pub changed_same : {K V : Type 0} {cmp : K → K → Ordering} {eq : V → V → Truth} (exact : IsExact cmp eq) (maps : List (Map K V)) (i : ℕ) (a : K) (m : Map K V) → slice_get maps i ≡ Some m → IsTidy cmp eq m →
    changed_at cmp eq maps i a (get cmp m a) ≡ maps
changed_same {cmp = cmp} {eq = eq} exact maps i a m there tidy =
    ap (changed cmp eq maps i a (get cmp m a)) there ∙ ap (slice_set maps i) (set-get exact m tidy a) ∙ slice_set_same maps i m there

-- ---- values

pub scalar_same : (x y : Value) → scalar x ≡ scalar y → x ≡ y
scalar_same (v.Int x) (v.Int y) h = cc
scalar_same (v.Bool x) (v.Bool y) h = cc
scalar_same (v.Ref x) (v.Ref y) h = cc
scalar_same (v.Perm x) (v.Perm y) h = cc
scalar_same _ _ h = absurd cc

scalar_test : (x y : Value) → same_scalar (scalar x) (scalar y) ≡ value_eq y x
scalar_test x y = by_test (value_eq y x) refl
  where
    by_test : (q : Truth) → value_eq y x ≡ q → same_scalar (scalar x) (scalar y) ≡ q
    by_test true e = (Decides-same_scalar (scalar x) (scalar y)).1 (ap scalar (sym ((Decides-value_eq y x).0 e)))
    by_test false e = false_from_ne_true _ (λ same. true≢false (sym ((Decides-value_eq y x).1 (sym (scalar_same x y ((Decides-same_scalar (scalar x) (scalar y)).0 same)))) ∙ e))

content_test : (x y : Content) → same_content x y ≡ same_content y x
content_test x y = by_test (same_content y x) refl
  where
    by_test : (q : Truth) → same_content y x ≡ q → same_content x y ≡ q
    by_test true e = (Decides-same_content x y).1 (sym ((Decides-same_content y x).0 e))
    by_test false e = false_from_ne_true _ (λ same. true≢false (sym ((Decides-same_content y x).1 (sym ((Decides-same_content x y).0 same))) ∙ e))

same_base_itself : (x y : Value) → type_of x ≡ type_of y → same_base (base_of_scalar (scalar x)) (base_of_scalar (scalar y)) ≡ true
same_base_itself (v.Int x) (v.Int y) h = refl
same_base_itself (v.Bool x) (v.Bool y) h = refl
same_base_itself (v.Ref x) (v.Ref y) h = refl
same_base_itself (v.Perm x) (v.Perm y) h = refl
same_base_itself _ _ h = absurd cc

same_type_itself : (u : Ty) → same_type u u ≡ true
same_type_itself ty.Int = refl
same_type_itself ty.Bool = refl
same_type_itself ty.Ref = refl
same_type_itself ty.Perm = refl

type_same : (u w : Ty) → same_type u w ≡ true → u ≡ w
type_same ty.Int ty.Int h = refl
type_same ty.Bool ty.Bool h = refl
type_same ty.Ref ty.Ref h = refl
type_same ty.Perm ty.Perm h = refl
type_same _ _ h = absurd cc

-- ---- the value of a place is chosen

-- a value of this type is chosen, or none is
pick : (u : Ty) (c : BChoice) → ((w : Value) × ((c ≡ bv.Value (scalar w)) × (type_of w ≡ u))) ⊎ (chosen (variable_type u) c ≡ None)
pick u (bv.Pick q) = inr refl
pick u (bv.Entries es) = inr refl
pick ty.Int (bv.Value (bv.Int n)) = inl (v.Int n, (refl, refl))
pick ty.Bool (bv.Value (bv.Bool n)) = inl (v.Bool n, (refl, refl))
pick ty.Ref (bv.Value (bv.Ref n)) = inl (v.Ref n, (refl, refl))
pick ty.Perm (bv.Value (bv.Real n)) = inl (v.Perm n, (refl, refl))
pick _ (bv.Value _) = inr refl

picked : (u : Ty) (w : Value) → type_of w ≡ u → chosen (variable_type u) (bv.Value (scalar w)) ≡ Some (One (scalar w))
picked u w typed = subst (λ u. chosen (variable_type u) (bv.Value (scalar w)) ≡ Some (One (scalar w))) typed (by_value w)
  where
    by_value : (w : Value) → chosen (variable_type (type_of w)) (bv.Value (scalar w)) ≡ Some (One (scalar w))
    by_value (v.Int n) = refl
    by_value (v.Bool n) = refl
    by_value (v.Ref n) = refl
    by_value (v.Perm n) = refl

leaf_value : (b : Bound) (u : Ty) (w : Value) (i : ℕ) (E : Env) → type_of w ≡ u → slice_get E i ≡ Some (One (scalar w)) → bvalue b (leaf u (t.Var i)) E ≡ end.Is (Snap (Leaf w))
leaf_value b u w i E typed here = subst (λ u. bvalue b (leaf u (t.Var i)) E ≡ end.Is (Snap (Leaf w))) typed (by_value w here)
  where
    by_value : (w : Value) → slice_get E i ≡ Some (One (scalar w)) → bvalue b (leaf (type_of w) (t.Var i)) E ≡ end.Is (Snap (Leaf w))
    by_value (v.Int n) here = ap (λ (o : Option BValue). end.then_with (end.then_with (end.found o) scalar_in) m.leaf_int) here
    by_value (v.Bool n) here = ap (λ (o : Option BValue). end.then_with (end.then_with (end.found o) scalar_in) m.leaf_bool) here
    by_value (v.Ref n) here = ap (λ (o : Option BValue). end.then_with (end.then_with (end.found o) scalar_in) m.leaf_ref) here
    by_value (v.Perm n) here = ap (λ (o : Option BValue). end.then_with (end.then_with (end.found o) scalar_in) m.leaf_perm) here

-- the first choice is no such leaf, and the code stops
stray_leaf : {b : Bound} {X : Type 0} {Q : X → Env → Type 0} (w : Value) (e : Evaluated X) (cs : List BChoice) (run : Run) → ((rest : List BChoice) → cs ≡ bv.Value (scalar w) ∷ rest → ⊥) → IsStopped run →
    Alike Q b (after (event.Leaf w ∷ []) e) cs run
stray_leaf w (ends es how) cs run h stopped = alike.stray (λ rest k. h (moves es ++ rest) k.same) stopped

value_same : (x y : BScalar) (xs ys : List BChoice) → bv.Value x ∷ xs ≡ bv.Value y ∷ ys → x ≡ y
value_same x y xs ys h = cc

pub first_same : (c d : BChoice) (xs ys : List BChoice) → c ∷ xs ≡ d ∷ ys → c ≡ d
first_same c d xs ys h = cc

leaf_same : (x y : Value) → Leaf x ≡ Leaf y → x ≡ y
leaf_same x y h = cc

-- what the meaning does after null
abbrev pub leaf_at : State → ℕ → ℕ → Content → Evaluated Value
leaf_at s f r d = then_with (leaf_of d) (λ w. then_with (found (value_at s f r)) (λ old. unless (not (same_type (type_of w) (type_of old))) blocks (recorded (event.Leaf w) (is w))))

-- it goes on with a leaf of the field's type alone
pub data Fits {X : Type 0} (u : Ty) (d : Content) (e : Evaluated X) (go : Value → Evaluated X) : Type 0 where
  with_leaf : (w : Value) → d ≡ Leaf w → type_of w ≡ u → e ≡ after (event.Leaf w ∷ []) (go w) → Fits u d e go
  not_at_all : ((w : Value) → d ≡ Leaf w → type_of w ≡ u → ⊥) → e ≡ blocks → Fits u d e go

module _ {X : Type 0} (s : State) (f r : ℕ) (u : Ty) (old : Value) (go : Value → Evaluated X) (there : value_at s f r ≡ Some old) (typed : type_of old ≡ u) where
  by_type : (w : Value) (q : Truth) → same_type (type_of w) (type_of old) ≡ q → Fits u (Leaf w) (then_with (leaf_at s f r (Leaf w)) go) go
  by_type w true e = with_leaf w refl (type_same _ _ e ∙ typed) (rw (there, e) refl)
  by_type w false e = not_at_all (λ z same is_u. true≢false (sym (ap (λ z. same_type (type_of z) (type_of old)) (leaf_same w z same) ∙ ap (λ u. same_type u (type_of old)) (is_u ∙ sym typed) ∙ same_type_itself (type_of old)) ∙ e)) (rw (there, e) refl)

  pub fits : (d : Content) → Fits u d (then_with (leaf_at s f r d) go) go
  fits content.Unit = not_at_all (λ w same is_u. cc) refl
  fits (content.Leaf w) = by_type w (same_type (type_of w) (type_of old)) refl
  fits (content.Pair x y) = not_at_all (λ w same is_u. cc) refl

module _ (ts : List BType) (b : Bound) (u : Ty) (i from : ℕ) (d : Content) (ys : BStmts) (E : Env) (there : slice_get ts i ≡ Some (variable_type u)) (long : i < length E) (below : from < i)
    (here : slice_get E from ≡ Some (One (Snap d))) where
  abbrev test : t.BExpr
  test = t.Bin op.Eq (t.Var from) (leaf u (t.Var i))

  abbrev choosing : BStmts
  choosing = stmt.first (stmt.Havoc i) (stmt.first (stmt.Assume test) ys)

  abbrev chose : Value → Env
  chose w = slice_set E i (One (scalar w))

  nothing_chosen : brun ts b choosing E [] ≡ Stops Short []
  nothing_chosen = rw there refl

  wrong_chosen : (c : BChoice) (rest : List BChoice) → chosen (variable_type u) c ≡ None → brun ts b choosing E (c ∷ rest) ≡ Stops Blocked rest
  wrong_chosen c rest h = rw (there, h) refl

  value_chosen : (w : Value) (rest : List BChoice) → type_of w ≡ u → brun ts b choosing E (bv.Value (scalar w) ∷ rest) ≡ (if same_content d (Leaf w) then brun ts b ys (chose w) rest else Stops Blocked rest)
  value_chosen w rest typed =
      havoc ∙ assume_run ts b test (same_content d (Leaf w)) ys (chose w) rest
      (plain_value b op.Eq (t.Var from) (leaf u (t.Var i)) (Snap d) (Snap (Leaf w)) (chose w) refl
      (ap (λ (o : Option BValue). end.then_with (end.found o) scalar_in) (set_there E i from (One (scalar w)) (λ e. omega (arith, e, below)) ∙ here))
      (leaf_value b u w i (chose w) typed (set_here E i (One (scalar w)) long)))
    where
      havoc : brun ts b choosing E (bv.Value (scalar w) ∷ rest) ≡ brun ts b (stmt.first (stmt.Assume test) ys) (chose w) rest
      havoc = rw (there, picked u w typed) refl

  module _ {X : Type 0} {Q : X → Env → Type 0} (e : Evaluated X) (go : Value → Evaluated X) (next : (w : Value) (rest : List BChoice) → d ≡ Leaf w → type_of w ≡ u → Alike Q b (go w) rest (brun ts b ys (chose w) rest)) where
    -- the choice was no leaf that fits
    choice_stops : (cs rest more : List BChoice) (run : Run) → run ≡ Stops Blocked rest → cs ≡ more ++ rest → Fits u d e go → ((w : Value) → d ≡ Leaf w → type_of w ≡ u → (left : List BChoice) → cs ≡ bv.Value (scalar w) ∷ left → ⊥) → Alike Q b e cs run
    choice_stops cs rest more run stops all (with_leaf w same typed goes) h = alike_of goes (alike_run stops (stray_leaf w (go w) cs (Stops Blocked rest) (h w same typed) tt))
    choice_stops cs rest more run stops all (not_at_all none goes) h = alike_of goes (alike_run stops (alike.blocked more (record { same = all })))

    goes_on : (w : Value) (rest : List BChoice) → d ≡ Leaf w → type_of w ≡ u → Fits u d e go → Alike Q b e (bv.Value (scalar w) ∷ rest) (brun ts b ys (chose w) rest)
    goes_on w rest same typed (with_leaf z same_z typed_z goes) =
        let is_w : z ≡ w = leaf_same z w (sym same_z ∙ same) in
        alike_of (goes ∙ ap (λ z. after (event.Leaf z ∷ []) (go z)) is_w) (after_alike {es = event.Leaf w ∷ []} (record { same = refl }) (next w rest same typed))
    goes_on w rest same typed (not_at_all none goes) = absurd (none w same typed)

    compared : (w : Value) (rest : List BChoice) → type_of w ≡ u → Fits u d e go → (q : Truth) → same_content d (Leaf w) ≡ q →
        Alike Q b e (bv.Value (scalar w) ∷ rest) (if q then brun ts b ys (chose w) rest else Stops Blocked rest)
    compared w rest typed fit true e = goes_on w rest ((Decides-same_content d (Leaf w)).0 e) typed fit
    compared w rest typed fit false e = choice_stops (bv.Value (scalar w) ∷ rest) rest (bv.Value (scalar w) ∷ []) (Stops Blocked rest) refl refl fit
        (λ z same is_u left h. true≢false (sym ((Decides-same_content d (Leaf w)).1 (same ∙ ap Leaf (sym (scalar_same w z (value_same (scalar w) (scalar z) rest left h))))) ∙ e))

    pub choice_alike : (cs : List BChoice) → Fits u d e go → Alike Q b e cs (brun ts b choosing E cs)
    choice_alike [] (with_leaf w same typed goes) = alike_of goes (alike_run nothing_chosen (stray_leaf w (go w) [] (Stops Short []) (λ rest h. cc) tt))
    choice_alike [] (not_at_all none goes) = alike_of goes (alike_run nothing_chosen (alike.short [] (record { same = refl })))
    choice_alike (c ∷ rest) fit = elim (pick u c) [
      | inl w ↦ alike_cs (sym w.1.0) (alike_run (value_chosen w.0 rest w.1.1) (compared w.0 rest w.1.1 fit (same_content d (Leaf w.0)) refl))
      | inr none ↦ choice_stops (c ∷ rest) rest (c ∷ []) _ (wrong_chosen c rest none) refl fit
          (λ w same typed left h. none_some (sym none ∙ ap (chosen (variable_type u)) (first_same c (bv.Value (scalar w)) rest left h) ∙ picked u w typed))
    ]
      where
        alike_cs : {d : BChoice} → d ≡ c → Alike Q b e (d ∷ rest) (brun ts b choosing E (d ∷ rest)) → Alike Q b e (c ∷ rest) (brun ts b choosing E (c ∷ rest))
        alike_cs same h = subst (λ c. Alike Q b e (c ∷ rest) (brun ts b choosing E (c ∷ rest))) same h

        none_some : {x : BValue} → None ≡ Some x → ⊥
        none_some h = cc

pub unless_then_alike : {b : Bound} {X Y : Type 0} {Q : Y → Env → Type 0} {cs : List BChoice} {r : Run} (instead e : Evaluated X) (go : X → Evaluated Y) (test : Truth) → (test ≡ true → Alike Q b (then_with instead go) cs r) →
    (test ≡ false → Alike Q b (then_with e go) cs r) → Alike Q b (then_with (unless test instead e) go) cs r
unless_then_alike instead e go true f g = f refl
unless_then_alike instead e go false f g = g refl

-- ---- adding

-- an atom that is a reference, as an index
pub reference_key : (b : Bound) (n : ℕ) (E : Env) (x : t.BExpr) (r : ℕ) → HasAtom n E x (bv.Ref r) → bkey b (t.more x t.none) E ≡ end.Is (place_key r)
reference_key b n E x r h = ap (λ (z : end.End BScalar). end.then_with z (λ v. end.then_with (m.part_of v) (λ p. end.Is (p ∷ [])))) (atom_value b n E x (bv.Ref r) h)

-- so much more than is held, times a scale
module _ (ts : List BType) (b : Bound) (c : Context) (p : Place) (own : IsOwn c p) (n m : ℕ) (s : State) (E : Env) (maps : HasMaps c.program.layout m p.now s E) (k : Fraction) (scale : t.BExpr)
    (scales : HasAtom n E scale (Real k)) (proper_scale : IsProperFraction b k) (q : t.BExpr) (w : Fraction) (atom : HasAtom n E q (Real w)) (proper : IsProperFraction b w) (at : Pos) (held : Fraction) (proper_held : IsProperFraction b held)
    (sign : IsNotNegative held) where
  abbrev more : Fraction
  more = product k w

  abbrev all : Fraction
  all = sum held more

  more_value : IfBounded b (fits_product k w ≡ true) → bvalue b (scaled scale q) E ≡ end.Is (Real more)
  more_value fits = scaled_value b n E scale q k w scales atom proper_scale proper (fits_is b (fits_product k w) (Real more) fits)

  proper_all : IfBounded b (fits_product k w ≡ true) → IfBounded b (fits_sum held more ≡ true) → IsProperFraction b all
  proper_all fits_more fits_all = proper_sum b held more proper_held (proper_product b k w proper_scale proper fits_more) fits_all

  -- of a place, of which there is at most 1
  pub mask_added : (f r : ℕ) (u : Ty) (x : t.BExpr) → slice_get c.program.layout.fields f ≡ Some u → HasAtom n E x (bv.Ref r) → mask_at s f r ≡ Some held → (cs : List BChoice) →
      Alike (IsChanged c p n m E) b (then_with (added b held k w at) (λ all. unless (is_above_one all) blocks (is (with_mask s f r all)))) cs
      (brun ts b (join (add_to (number p.now.mask f) (t.more x t.none) (scaled scale q)) (one (stmt.Assume (t.Bin op.Le (at_one (number p.now.mask f) x) one_real)))) E cs)
  mask_added f r u x there ref is_held cs =
      let mask = number p.now.mask f in let es = t.more x t.none in
      let bounded = one (stmt.Assume (t.Bin op.Le (at_one mask x) one_real)) in
      let old = maps.mask f u there in
      let same_held : get nat_cmp old.m r ≡ held = same_Some _ _ (sym (found_in_map mask_kind m mask s.mask f E r old) ∙ is_held) in
      let image = set key_cmp same_scalar old.image (place_key r) (Real all) in
      let F = slice_set E mask (Many image) in
      let kept : KeptBut (IsLocalOf c.program.layout p.now) n E F = but_set n E mask _ (record { spot = place.Mask f; kind = tt; exists = slice_get_within c.program.layout.fields f u there; there = refl }) in
      added_alike b held k w at _ cs _ (λ fits_more fits_all.
      let fraction = proper_all fits_more fits_all in
      let add = add_to_run ts b mask es (scaled scale q) (place_key r) old.image held more E cs old.here (reference_key b n E x r ref) (old.same r tt ∙ ap Real same_held) (more_value fits_more) proper_held sign fits_all in
      let new : HasMaps c.program.layout m p.now (with_mask s f r all) F = mask_written c m p.now s E own maps f u r all there tt fraction.reduced in
      let here = set_here E mask (Many image) (slice_get_within E mask (Many old.image) old.here) in
      let all_value : bvalue b (at_one mask x) F ≡ end.Is (Real all) =
      at_value b mask es (place_key r) image F here (reference_key b n F x r (atom_put mask old.image _ old.here ref))
      ∙ ap (λ (z : BScalar). end.Is z) (get-set_same exact old.image old.typed.reduced (place_key r) (Real all)) in
      let asked = plain_value b op.Le (at_one mask x) one_real _ _ F refl all_value refl ∙ one_test b all fraction in
      let last : brun ts b (join (add_to mask es (scaled scale q)) bounded) E cs ≡ (if not (is_above_one all) then Done F cs else Stops Blocked cs) =
      join_done ts b (add_to mask es (scaled scale q)) bounded E F cs cs add ∙ assume_run ts b (t.Bin op.Le (at_one mask x) one_real) (not (is_above_one all)) stmt.skip F cs asked in
      unless_alike (is_above_one all)
      (λ above. alike_run (last ∙ ap (λ (z : Truth). if not z then Done F cs else Stops Blocked cs) above) (stopped_first cs))
      (λ above. alike_run (last ∙ ap (λ (z : Truth). if not z then Done F cs else Stops Blocked cs) above) (is_alike (record { kept = kept; now = new }))))

  -- of an instance
  pub amount_added : (j : ℕ) (us : List Ty) (key : Key) (js : List ℕ) (vs : List Value) → slice_get c.program.layout.keys j ≡ Some us → FitsKey us key → AreLocated n E js vs → Some key ≡ key_of vs → amount_at s j key ≡ Some held →
      (cs : List BChoice) → Alike (IsChanged c p n m E) b (then_with (added b held k w at) (λ all. is (with_amount s j key all))) cs (brun ts b (add_to (number p.now.amount j) (index js) (scaled scale q)) E cs)
  amount_added j us key js vs there fits_key located is_key is_held cs =
      let amounts = number p.now.amount j in
      let old = maps.amount j us there in
      let same_held : get key_cmp old.m key ≡ held = same_Some _ _ (sym (found_in_map (amount_kind us) m amounts s.amount j E key old) ∙ is_held) in
      let F = slice_set E amounts (Many (set key_cmp same_scalar old.image (instance_key key) (Real all))) in
      let kept : KeptBut (IsLocalOf c.program.layout p.now) n E F = but_set n E amounts _ (record { spot = place.Amount j; kind = tt; exists = slice_get_within c.program.layout.keys j us there; there = refl }) in
      added_alike b held k w at _ cs _ (λ fits_more fits_all.
      let add = add_to_run ts b amounts (index js) (scaled scale q) (instance_key key) old.image held more E cs old.here (index_key b n E js vs key located is_key) (old.same key fits_key ∙ ap Real same_held) (more_value fits_more) proper_held
      sign fits_all in
      let new : HasMaps c.program.layout m p.now (with_amount s j key all) F = amount_written c m p.now s E own maps j us key all there tt fits_key (proper_all fits_more fits_all).reduced in
      alike_run add (is_alike (record { kept = kept; now = new })))

-- ---- a place

module _ (ts : List BType) (b : Bound) (c : Context) (p : Place) (s : State) (sc : Scene) (own : IsOwn c p) (n : ℕ) (E : Env) (coupled : IsCoupled b c n p s sc E) (full : length E ≡ length ts) (k : Fraction) (scale : t.BExpr)
    (scales : IsScale b n E scale k) (at : Pos) (from : ℕ) (d : Content) (source : IsSource b n E from d) (q : t.BExpr) (w : Fraction) (atom : HasAtom n E q (Real w)) (proper : IsProperFraction b w) where
  module _ (f r : ℕ) (u : Ty) (x : t.BExpr) (there : slice_get c.program.layout.fields f ≡ Some u) (local : slice_get ts n ≡ Some (variable_type u)) (ref : HasAtom n E x (bv.Ref r)) where
    abbrev heap : ℕ
    heap = number p.now.heap f

    abbrev mask : ℕ
    mask = number p.now.mask f

    abbrev es : t.BExprs
    es = t.more x t.none

    abbrev bounded : BStmts
    bounded = one (stmt.Assume (t.Bin op.Le (at_one mask x) one_real))

    abbrev putting : BStmts
    putting = stmt.first (stmt.Put heap es (t.Var n)) (join (add_to mask es (scaled scale q)) bounded)

    fill_leaf_alike : (v : Value) → type_of v ≡ u → IsReducedValue v → (cs : List BChoice) →
        Alike (IsChanged c p n (n + 1) E) b (fill_leaf b k f r w v at s) cs (brun ts b (stmt.first (same_where_held (at_one mask x) (at_one heap x) (t.Var n)) putting) (slice_set E n (One (scalar v))) cs)
    fill_leaf_alike v typed reduced cs =
        let m = n + 1 in
        let exists = slice_get_within c.program.layout.fields f u there in
        let long : n < length E = omega (arith, slice_get_within ts n (variable_type u) local, full) in
        let E1 = slice_set E n (One (scalar v)) in
        let k1 : Kept n E E1 = kept_set n n (One (scalar v)) E (omega arith) in
        let M1 : HasMaps c.program.layout m p.now s E1 = maps_kept (omega arith) k1 coupled.now in
        let mask1 = M1.mask f u there in let heap1 = M1.heap f u there in
        let held = get nat_cmp mask1.m r in let old = get nat_cmp heap1.m r in
        let is_held : mask_at s f r ≡ Some held = found_in_map mask_kind m mask s.mask f E1 r mask1 in
        let is_old : value_at s f r ≡ Some old = found_in_map (heap_kind u) m heap s.heap f E1 r heap1 in
        let proper_held : IsProperFraction b held = subst (λ o. IfSome o (IsProperFraction b)) is_held (mask_has coupled.sound.proper f r) in
        let sign : IsNotNegative held = subst (λ o. IfSome o IsNotNegative) is_held (mask_not_negative coupled.sound.nonnegative f r) in
        let fitting = value_found coupled.sound.fits f r u there in
        let typed_old : type_of old ≡ u = ap type_of (same_Some _ _ (sym is_old ∙ fitting.1.0)) ∙ fitting.1.1.typed in
        let ref1 : HasAtom n E1 x (bv.Ref r) = atom_agrees k1.same ref in
        let key1 = reference_key b n E1 x r ref1 in
        let held_value : bvalue b (at_one mask x) E1 ≡ end.Is (Real held) = read_map mask_kind b m mask s.mask f E1 r es mask1 tt key1 in
        let old_value : bvalue b (at_one heap x) E1 ≡ end.Is (scalar old) = read_map (heap_kind u) b m heap s.heap f E1 r es heap1 tt key1 in
        let new_value : bvalue b (t.Var n) E1 ≡ end.Is (scalar v) = ap (λ (o : Option BValue). end.then_with (end.found o) scalar_in) (set_here E n (One (scalar v)) long) in
        let test = held_test b (at_one mask x) (at_one heap x) (t.Var n) held (scalar old) (scalar v) E1 held_value proper_held old_value new_value (same_base_itself old v (typed_old ∙ sym typed))
        ∙ ap (λ (z : Truth). end.Is (bv.Bool (if is_none held then true else z))) (scalar_test old v) in
        let new = with_value s f r v in
        let go : State → Evaluated State = λ (t : State). then_with (added b held k w at) (λ all. unless (is_above_one all) blocks (is (with_mask t f r all))) in
        let is_same : value_eq v old ≡ true → new ≡ s = λ same. ap (λ z. with_value s f r z) ((Decides-value_eq v old).0 same) ∙ ap (λ (h : List (Map ℕ Value)). record s { heap = h }) (changed_same exact_values s.heap f r heap1.m heap1.there heap1.tidy) in
        let same_written = ap (λ (o : Option Value). then_with (if is_none held then is new else then_with (found o) (λ old. unless (not (value_eq v old)) blocks (is s))) go) is_old
        ∙ ap (λ (z : Evaluated State). then_with (if is_none held then is new else z) go) (after_nothing (unless (not (value_eq v old)) blocks (is s))) in
        let E2 = slice_set E1 heap (Many (set key_cmp same_scalar heap1.image (place_key r) (scalar v))) in
        let M2 : HasMaps c.program.layout m p.now new E2 = value_written c m p.now s E1 own M1 f u r v there tt typed reduced in
        let ref2 : HasAtom n E2 x (bv.Ref r) = atom_put heap heap1.image _ heap1.here ref1 in
        let scale2 : HasAtom n E2 scale (Real k) = atom_put heap heap1.image _ heap1.here (atom_agrees k1.same scales.atom) in
        let atom2 : HasAtom n E2 q (Real w) = atom_put heap heap1.image _ heap1.here (atom_agrees k1.same atom) in
        let kept : KeptBut (IsLocalOf c.program.layout p.now) n E E2 = kept_but_then (omega arith) k1 (but_set n E1 heap _ (record { spot = place.Heap f; kind = tt; exists = exists; there = refl })) in
        found_alike (mask_at s f r) held _ is_held (alike_of same_written (
        held_cases ts b (is_none held) (value_eq v old) new s go (t.Bin op.Implies (t.Bin op.Ne (at_one mask x) zero_real) (t.Bin op.Eq (at_one heap x) (t.Var n))) putting E1 cs test is_same (
        alike_run (put_run ts b heap es (t.Var n) (place_key r) heap1.image (scalar v) (join (add_to mask es (scaled scale q)) bounded) E1 cs heap1.here key1 new_value) (
        weaken_alike (λ t F h. changed_again kept h)
        (mask_added ts b c p own n m new E2 M2 k scale scale2 scales.proper q w atom2 proper at held proper_held sign f r u x there ref2 is_held cs)))))

    pub fill_place_alike : (cs : List BChoice) → Alike (IsChanged c p n (n + 1) E) b (fill_place b sc k f r w d at s) cs (brun ts b (fill_by p at q from (fill_place_code p scale u f x q n from)) E cs)
    fill_place_alike cs =
        let long : n < length E = omega (arith, slice_get_within ts n (variable_type u) local, full) in
        let heap1 = coupled.now.heap f u there in
        let old = get nat_cmp heap1.m r in
        let is_old : value_at s f r ≡ Some old = found_in_map (heap_kind u) n heap s.heap f E r heap1 in
        let fitting = value_found coupled.sound.fits f r u there in
        let typed_old : type_of old ≡ u = ap type_of (same_Some _ _ (sym is_old ∙ fitting.1.0)) ∙ fitting.1.1.typed in
        let not_null = t.Bin op.Ne x t.Null in
        let asked : bvalue b not_null E ≡ end.Is (bv.Bool (not (r == 0))) = plain_value b op.Ne x t.Null (bv.Ref r) (bv.Ref 0) E refl (atom_value b n E x (bv.Ref r) ref) refl in
        let after_choice = stmt.first (same_where_held (at_one mask x) (at_one heap x) (t.Var n)) putting in
        let choosing = stmt.first (stmt.Havoc n) (stmt.first (stmt.Assume (t.Bin op.Eq (t.Var from) (leaf u (t.Var n)))) after_choice) in
        let run = assume_run ts b not_null (not (r == 0)) choosing E cs asked in
        let go : Value → Evaluated State = λ (v : Value). fill_leaf b k f r w v at s in
        by_amount_alike ts b c p s sc n (n + 1) E coupled (omega arith) at from d source q w atom proper (fill_some b k f r w d at s) (fill_place_code p scale u f x q n from) cs (λ positive.
        unless_then_alike blocks (leaf_at s f r d) go (r == 0)
        (λ null. alike_run (run ∙ ap (λ (z : Truth). if not z then brun ts b choosing E cs else Stops Blocked cs) null) (stopped_first cs))
        (λ null. alike_run (run ∙ ap (λ (z : Truth). if not z then brun ts b choosing E cs else Stops Blocked cs) null) (
        choice_alike ts b u n from d after_choice E local long source.below source.here (then_with (leaf_at s f r d) go) go
        (λ v rest same typed. fill_leaf_alike v typed (subst IsReducedContent same source.reduced) rest) cs (fits s f r u old go is_old typed_old d))))

  -- ---- an instance

  module _ (j : ℕ) (us : List Ty) (key : Key) (js : List ℕ) (vs : List Value) (there : slice_get c.program.layout.keys j ≡ Some us) (fits_key : FitsKey us key) (located : AreLocated n E js vs) (is_key : Some key ≡ key_of vs) where
    abbrev amounts : ℕ
    amounts = number p.now.amount j

    abbrev contents : ℕ
    contents = number p.now.content j

    abbrev ks : t.BExprs
    ks = index js

    abbrev filling : BStmts
    filling = stmt.first (stmt.Put contents ks (t.Var from)) (add_to amounts ks (scaled scale q))

    pub fill_held_alike : (cs : List BChoice) → Alike (IsChanged c p n n E) b (fill_held b k j key w d at s) cs (brun ts b (fill_instance_code p scale j ks q from) E cs)
    fill_held_alike cs =
        let exists = slice_get_within c.program.layout.keys j us there in
        let amount1 = coupled.now.amount j us there in let content1 = coupled.now.content j us there in
        let held = get key_cmp amount1.m key in let old = get key_cmp content1.m key in
        let is_held : amount_at s j key ≡ Some held = found_in_map (amount_kind us) n amounts s.amount j E key amount1 in
        let is_old : content_at s j key ≡ Some old = found_in_map (content_kind us) n contents s.content j E key content1 in
        let proper_held : IsProperFraction b held = subst (λ o. IfSome o (IsProperFraction b)) is_held (amount_has coupled.sound.proper j key) in
        let sign : IsNotNegative held = subst (λ o. IfSome o IsNotNegative) is_held (amount_not_negative coupled.sound.nonnegative j key) in
        let key1 = index_key b n E js vs key located is_key in
        let held_value : bvalue b (t.At amounts ks) E ≡ end.Is (Real held) = read_map (amount_kind us) b n amounts s.amount j E key ks amount1 fits_key key1 in
        let old_value : bvalue b (t.At contents ks) E ≡ end.Is (Snap old) = read_map (content_kind us) b n contents s.content j E key ks content1 fits_key key1 in
        let new_value : bvalue b (t.Var from) E ≡ end.Is (Snap d) = ap (λ (o : Option BValue). end.then_with (end.found o) scalar_in) source.here in
        let test = held_test b (t.At amounts ks) (t.At contents ks) (t.Var from) held (Snap old) (Snap d) E held_value proper_held old_value new_value refl
        ∙ ap (λ (z : Truth). end.Is (bv.Bool (if is_none held then true else z))) (content_test old d) in
        let new = with_content s j key d in
        let go : State → Evaluated State = λ (t : State). then_with (added b held k w at) (λ all. is (with_amount t j key all)) in
        let is_same : same_content d old ≡ true → new ≡ s = λ same. ap (λ z. with_content s j key z) ((Decides-same_content d old).0 same) ∙
        ap (λ (h : List (Map Key Content)). record s { content = h }) (changed_same exact_contents s.content j key content1.m content1.there content1.tidy) in
        let same_contained = ap (λ (o : Option Content). then_with (if is_none held then is new else then_with (found o) (λ old. unless (not (same_content d old)) blocks (is s))) go) is_old
        ∙ ap (λ (z : Evaluated State). then_with (if is_none held then is new else z) go) (after_nothing (unless (not (same_content d old)) blocks (is s))) in
        let E2 = slice_set E contents (Many (set key_cmp same_scalar content1.image (instance_key key) (Snap d))) in
        let M2 : HasMaps c.program.layout n p.now new E2 = content_written c n p.now s E own coupled.now j us key d there tt fits_key source.reduced in
        let located2 = located_single (omega arith) (singles_put n E contents content1.image _ content1.here) located in
        let scale2 : HasAtom n E2 scale (Real k) = atom_put contents content1.image _ content1.here scales.atom in
        let atom2 : HasAtom n E2 q (Real w) = atom_put contents content1.image _ content1.here atom in
        let kept : KeptBut (IsLocalOf c.program.layout p.now) n E E2 = but_set n E contents _ (record { spot = place.Content j; kind = tt; exists = exists; there = refl }) in
        found_alike (amount_at s j key) held _ is_held (alike_of same_contained (
        held_cases ts b (is_none held) (same_content d old) new s go (t.Bin op.Implies (t.Bin op.Ne (t.At amounts ks) zero_real) (t.Bin op.Eq (t.At contents ks) (t.Var from))) filling E cs test is_same (
        alike_run (put_run ts b contents ks (t.Var from) (instance_key key) content1.image (Snap d) (add_to amounts ks (scaled scale q)) E cs content1.here key1 new_value) (
        weaken_alike (λ t F h. changed_again kept h)
        (amount_added ts b c p own n n new E2 M2 k scale scale2 scales.proper q w atom2 proper at held proper_held sign j us key js vs there fits_key located2 is_key is_held cs)))))

    pub fill_instance_alike : (cs : List BChoice) → Alike (IsChanged c p n n E) b (fill_instance b sc k j key w d at s) cs (brun ts b (fill_by p at q from (fill_instance_code p scale j ks q from)) E cs)
    fill_instance_alike cs =
        by_amount_alike ts b c p s sc n n E coupled (omega arith) at from d source q w atom proper (fill_held b k j key w d at s) (fill_instance_code p scale j ks q from) cs (λ positive. fill_held_alike cs)
