-- A map of zeros, and a map that is given any values where another one is 0.
use Rattle.std.proofs.Common.{◌≡◌, ◌≢◌, ℕ, zero, suc, ◌<◌, ◌⊎◌, inl, inr, pos, Bool as Truth, true, false, not, cond, Option, Some, None, unwrap_or, List, [], ◌∷◌, All, length, slice_get, slice_set, if◌then◌else◌, refl, sym, ap, subst, ◌∙◌, arith}
use Rattle.std.specs.Map.{keys_of, values_of, lookup}
use Rattle.std.specs.BTreeMap.{is_at}
use Rattle.std.specs.Ordering.{is_eq}
use Rattle.std.proofs.lemmas.List.Elements.{All-head}
use Rattle.sparse.specs.Map.{Map, empty, get}
use Rattle.vb_value.specs.Bound.{Bound}
use Rattle.vb_value.specs.Fraction.{none}
use Rattle.vb_value.specs.Key.{key_cmp}
use Rattle.vb_value.proofs.KeyLaws.{key_cmp_self}
use Rattle.vb_value.proofs.ReducedLaws.{IsReduced-none}
use Rattle.boogie_tree.specs.Expr as t
use Rattle.boogie_tree.specs.Stmt as s
use Rattle.boogie_tree.specs.Program.{BType}
use Rattle.boogie_tree.specs.Value.{Key, BScalar, Real, Bool, same_scalar, BValue, Many, BChoice}
use Rattle.boogie_tree.specs.Equality.{Decides-same_scalar}
use Rattle.boogie_tree.specs.declared.exprs.BBase.{BBase}
use Rattle.boogie_tree.specs.declared.exprs.BBase.TheVariants as base
use Rattle.boogie_tree.specs.declared.exprs.BOp.TheVariants as op
use Rattle.boogie_meaning.specs.Ends.{End, Is, Over, Wrong, then_with, found}
use Rattle.boogie_meaning.specs.Operators.{as_truth, equal, binary}
use Rattle.boogie_tree.specs.Values.{FitsKey, FitsScalar, IsMapOf, IsOfType, many, map_type, IsReducedChoice}
use Rattle.boogie_meaning.specs.Value.{the_map, scalar_in, body_at}
use Rattle.boogie_meaning.specs.Forall.{IsTruth, is}
use Rattle.boogie_meaning.specs.Run.{Run, Done, Stop, Stops, Blocked, Short, unless_blocked, then_run, chosen, brun_stmt, brun}
use Rattle.boogie_meaning.specs.Patterns.{assume_all, zero_code, is_kept, forget_code, Agrees, CanForget, with_both, HasForgotten, GoesFrom, GoesOrBlocks, goes, blocks, is_other, avoid_code, Avoids, AreThere}
use Rattle.boogie_meaning.proofs.AssumeLaws.{done_is, assume_holds, assume_done, assume_ends}
use Rattle.boogie_meaning.proofs.TypeLaws.{same_base_itself}
use Rattle.boogie_meaning.proofs.ValueLaws.{empty_typed, get_typed, chosen_typed}

-- ---- comparisons

equal_is : (f : Truth → Truth) (u : BBase) (v w : BScalar) → FitsScalar u v → FitsScalar u w → equal f v w ≡ Is (Bool (f (same_scalar v w)))
equal_is f u v w g h = rw ((g.typed), (h.typed)) (rw (same_base_itself u) refl)

zero_fits : FitsScalar base.Real (Real none)
zero_fits = record { typed = refl; reduced = IsReduced-none }

-- what a map has at the bound names
abbrev at_bound : List BValue → ℕ → Key → End BScalar
at_bound env m k = then_with (the_map env m) (λ n. Is (get key_cmp n k))

at_bound_is : (env : List BValue) (m : ℕ) (n : Map Key BScalar) (k : Key) → slice_get env m ≡ Some (Many n) → at_bound env m k ≡ Is (get key_cmp n k)
at_bound_is env m n k h = rw h refl

pub is_inj : {X : Type 0} {x y : X} → Is x ≡ Is y → x ≡ y
is_inj {x = x} h = ap (λ e. value-of x e) h
  where
    value-of : {X : Type 0} → X → End X → X
    value-of d (Is x) = x
    value-of d Over = d
    value-of d Wrong = d

-- ---- a map of zeros

zero_entries : (us : List BBase) (z : BScalar) (es : List (Key × BScalar)) → All (FitsKey us) (keys_of es) → All (λ v. same_scalar v z ≡ false) (values_of es) →
    ((k : Key) → FitsKey us k → unwrap_or (lookup (is_at (key_cmp k)) es) z ≡ z) → es ≡ []
zero_entries us z [] h g a = refl
zero_entries us z (e ∷ es) h g a =
    let f : FitsKey us e.0 = All-head (FitsKey us) e.0 (keys_of es) h in
    let n : same_scalar e.1 z ≡ false = All-head (λ v. same_scalar v z ≡ false) e.1 (values_of es) g in
    let here : unwrap_or (cond (is_eq (key_cmp e.0 e.0)) (Some e.1) (lookup (is_at (key_cmp e.0)) es)) z ≡ e.1 = rw (key_cmp_self e.0) refl in
    let s : same_scalar e.1 z ≡ true = (Decides-same_scalar e.1 z).1 (sym here ∙ a e.0 f) in
    absurd (cc)

module _ (ls : List BType) (b : Bound) (us : List BBase) (env : List BValue) (m : ℕ) (n : Map Key BScalar) (there : slice_get env m ≡ Some (Many n)) (h : IsMapOf us base.Real n) (cs : List BChoice) where
  zero_body : (k : Key) → body_at b (t.Bin op.Eq (t.AtBound m) (t.Real (pos 0))) env k ≡ Is (same_scalar (get key_cmp n k) (Real none))
  zero_body k =
      ap (λ e. as_truth (binary b op.Eq e (Is (Real none)))) (at_bound_is env m n k there)
      ∙ ap as_truth (equal_is (λ p. p) base.Real (get key_cmp n k) (Real none) (get_typed h k) zero_fits)

  pub zero_done : (env' : List BValue) (left : List BChoice) → brun_stmt ls b (zero_code us m) env cs ≡ Done env' left → (n ≡ empty (Real none)) × GoesFrom env cs env' left
  zero_done env' left r =
      let p = assume_done ls b us (t.Bin op.Eq (t.AtBound m) (t.Real (pos 0))) env cs env' left r in
      let all : (k : Key) → FitsKey us k → get key_cmp n k ≡ n.default = λ k f. (Decides-same_scalar (get key_cmp n k) (Real none)).0 (is_inj (sym (zero_body k) ∙ p.0 k f)) ∙ sym h.default in
      let es = zero_entries us n.default n.entries h.keys h.reduced.no_default all in
      ((λ i. record { default = h.default i; entries = es i }), p.1)

  pub zero_ends : GoesOrBlocks env cs (brun_stmt ls b (zero_code us m) env cs)
  zero_ends = assume_ends ls b us (t.Bin op.Eq (t.AtBound m) (t.Real (pos 0))) env cs (λ k f. subst IsTruth (sym (zero_body k)) (is (same_scalar (get key_cmp n k) (Real none))))

  pub zero_goes_by : n ≡ empty (Real none) → brun_stmt ls b (zero_code us m) env cs ≡ Done env cs
  zero_goes_by e =
      assume_holds ls b us (t.Bin op.Eq (t.AtBound m) (t.Real (pos 0))) env cs (λ k f. zero_body k ∙ ap Is ((Decides-same_scalar (get key_cmp n k) (Real none)).1 (ap (λ x. get key_cmp x k) e)))

pub zero_goes : (ls : List BType) (b : Bound) (us : List BBase) (env : List BValue) (m : ℕ) (cs : List BChoice) → slice_get env m ≡ Some (Many (empty (Real none))) →
    brun_stmt ls b (zero_code us m) env cs ≡ Done env cs
zero_goes ls b us env m cs there = zero_goes_by ls b us env m (empty (Real none)) there empty_typed cs refl

-- ---- variables after a change

pub set_here : (xs : List BValue) (i : ℕ) (v : BValue) → i < length xs → slice_get (slice_set xs i v) i ≡ Some v
set_here [] i v h = absurd (omega (arith, h))
set_here (x ∷ xs) zero v h = refl
set_here (x ∷ xs) (suc i) v h = set_here xs i v (omega (arith, h))

pub set_there : (xs : List BValue) (i j : ℕ) (v : BValue) → i ≢ j → slice_get (slice_set xs i v) j ≡ slice_get xs j
set_there [] i j v h = refl
set_there (x ∷ xs) zero zero v h = absurd (h refl)
set_there (x ∷ xs) zero (suc j) v h = refl
set_there (x ∷ xs) (suc i) zero v h = refl
set_there (x ∷ xs) (suc i) (suc j) v h = set_there xs i j v (λ e. h (ap suc e))

-- ---- what is kept

abbrev implied : Truth → Truth → Truth
implied p q = if p then q else true

implies_is : (b : Bound) (p q : Truth) → as_truth (binary b op.Implies (Is (Bool p)) (Is (Bool q))) ≡ Is (implied p q)
implies_is b true q = refl
implies_is b false q = refl

from_implied : (p q : Truth) → implied p q ≡ true → p ≡ true → q ≡ true
from_implied true q h e = h
from_implied false q h e = absurd (cc)

to_implied : (p q : Truth) → (p ≡ true → q ≡ true) → implied p q ≡ true
to_implied true q h = h refl
to_implied false q h = refl

not_same : (v w : BScalar) → v ≢ w → not (same_scalar v w) ≡ true
not_same v w h = by (same_scalar v w) (Decides-same_scalar v w).0
  where
    by : (s : Truth) → (s ≡ true → v ≡ w) → not s ≡ true
    by true f = absurd (h (f refl))
    by false f = refl

from_not_same : (v w : BScalar) → not (same_scalar v w) ≡ true → v ≢ w
from_not_same v w h e = let s : same_scalar v w ≡ true = (Decides-same_scalar v w).1 e in absurd (cc)

from_then_run : (r : Run) (go : List BValue → List BChoice → Run) (env' : List BValue) (left : List BChoice) → then_run r go ≡ Done env' left →
    (env : List BValue) × (cs : List BChoice) × (r ≡ Done env cs) × (go env cs ≡ Done env' left)
from_then_run (Done env cs) go env' left h = (env, cs, refl, h)
from_then_run (Stops why cs) go env' left h = absurd (cc)

map_inside : {u : BBase} {us : List BBase} {w : BBase} (v : BValue) → IsOfType v (map_type u us w) → (m : Map Key BScalar) × (v ≡ Many m) × IsMapOf (u ∷ us) w m
map_inside _ (many {m = m} h) = (m, refl, h)

module _ (ls : List BType) (b : Bound) (env : List BValue) (u : BBase) (us : List BBase) (w : BBase) (held old new : ℕ) (mh mo : Map Key BScalar)
    (r : CanForget ls env u us w held old new mh mo) where
  abbrev code : s.BStmts
  code = forget_code (u ∷ us) held old new

  abbrev after : Map Key BScalar → List BValue
  after mn = slice_set env new (Many mn)

  kept_body : (mn : Map Key BScalar) (k : Key) → IsMapOf (u ∷ us) w mn →
      body_at b (is_kept held old new) (after mn) k ≡ Is (implied (not (same_scalar (get key_cmp mh k) (Real none))) (same_scalar (get key_cmp mo k) (get key_cmp mn k)))
  kept_body mn k h =
      let e = at_bound_is (after mn) held mh k (set_there env new held (Many mn) r.new_is_not_held ∙ r.held_there) in
      let f = at_bound_is (after mn) old mo k (set_there env new old (Many mn) r.new_is_not_old ∙ r.old_there) in
      let g = at_bound_is (after mn) new mn k (set_here env new (Many mn) r.new_there) in
      let p = equal_is not base.Real (get key_cmp mh k) (Real none) (get_typed r.held_typed k) zero_fits in
      let q = equal_is (λ p. p) w (get key_cmp mo k) (get key_cmp mn k) (get_typed r.old_typed k) (get_typed h k) in
      (λ i. as_truth (binary b op.Implies (binary b op.Ne (e i) (Is (Real none))) (binary b op.Eq (f i) (g i))))
      ∙ (λ i. as_truth (binary b op.Implies (p i) (q i)))
      ∙ implies_is b _ _

  -- the steps after the new map has its value
  abbrev copied : List BValue → List BChoice → Run
  copied env' rest = brun ls b (s.first (s.Assign old (t.Var new)) s.skip) env' rest

  abbrev checked : List BValue → List BChoice → Run
  checked env' rest = brun ls b (s.first (assume_all (u ∷ us) (is_kept held old new)) (s.first (s.Assign old (t.Var new)) s.skip)) env' rest

  copied_is : (mn : Map Key BScalar) (cs : List BChoice) → copied (after mn) cs ≡ Done (with_both env old new mn) cs
  copied_is mn cs = rw (set_here env new (Many mn) r.new_there) refl

  given_is : (c : BChoice) (cs : List BChoice) → brun ls b code env (c ∷ cs) ≡ then_run (unless_blocked (chosen (map_type u us w) c) cs (λ v rest. Done (slice_set env new v) rest)) checked
  given_is c cs = rw (r.new_type) refl

  -- a choice that agrees goes on, with the new map in both places
  pub forget_goes : (c : BChoice) (cs : List BChoice) (mn : Map Key BScalar) → IsMapOf (u ∷ us) w mn → chosen (map_type u us w) c ≡ Some (Many mn) → Agrees (u ∷ us) mh mo mn →
      brun ls b code env (c ∷ cs) ≡ Done (with_both env old new mn) cs
  forget_goes c cs mn h e a =
      let holds : (k : Key) → FitsKey (u ∷ us) k → body_at b (is_kept held old new) (after mn) k ≡ Is true = λ k f. kept_body mn k h ∙ ap Is (to_implied _ _ (λ n.
      (Decides-same_scalar (get key_cmp mo k) (get key_cmp mn k)).1 (a k f (from_not_same (get key_cmp mh k) (Real none) n)))) in
      given_is c cs
      ∙ ap (λ o. then_run (unless_blocked o cs (λ v rest. Done (slice_set env new v) rest)) checked) e
      ∙ ap (λ x. then_run x copied) (assume_holds ls b (u ∷ us) (is_kept held old new) (after mn) cs holds)
      ∙ copied_is mn cs

  short_is : brun ls b code env [] ≡ Stops Short []
  short_is = rw (r.new_type) refl

  agreed : (c : BChoice) (cs : List BChoice) (v : BValue) → IsOfType v (map_type u us w) → chosen (map_type u us w) c ≡ Some v → (env' : List BValue) (left : List BChoice) →
      checked (slice_set env new v) cs ≡ Done env' left → HasForgotten env u us w old new mh mo (c ∷ cs) env' left
  agreed c cs v f e env' left d =
      let m = map_inside v f in
      let mn = m.0 in
      let d2 : checked (after mn) cs ≡ Done env' left = subst (λ x. checked (slice_set env new x) cs ≡ Done env' left) m.1 d in
      let p = from_then_run (brun_stmt ls b (assume_all (u ∷ us) (is_kept held old new)) (after mn) cs) copied env' left d2 in
      let a = assume_done ls b (u ∷ us) (is_kept held old new) (after mn) cs p.0 p.1 p.2 in
      let back : copied (after mn) cs ≡ Done env' left = (λ i. copied (a.1.environment i) (a.1.choices i)) ∙ p.3 in
      let g = done_is (sym (copied_is mn cs) ∙ back) in
      record {
        choice = c;
        choices = ap (λ x. c ∷ x) g.choices;
        new_map = mn;
        new_typed = m.2;
        is_given = e ∙ ap Some m.1;
        agrees = λ k h n. (Decides-same_scalar (get key_cmp mo k) (get key_cmp mn k)).0
            (from_implied _ _ (is_inj (sym (kept_body mn k m.2) ∙ a.0 k h)) (not_same (get key_cmp mh k) (Real none) n));
        environment = sym g.environment;
      }

  given_by : (c : BChoice) (cs : List BChoice) (o : Option BValue) → chosen (map_type u us w) c ≡ o → IsReducedChoice c → (env' : List BValue) (left : List BChoice) →
      then_run (unless_blocked o cs (λ v rest. Done (slice_set env new v) rest)) checked ≡ Done env' left → HasForgotten env u us w old new mh mo (c ∷ cs) env' left
  given_by c cs (Some v) e q env' left d = agreed c cs v (chosen_typed (map_type u us w) c v q e) e env' left d
  given_by c cs None e q env' left d = absurd (cc)

  -- where the code is done, the choice agrees
  pub forget_agrees : (cs : List BChoice) (env' : List BValue) (left : List BChoice) → All IsReducedChoice cs → brun ls b code env cs ≡ Done env' left →
      HasForgotten env u us w old new mh mo cs env' left
  forget_agrees [] env' left q d = let e : Stops Short [] ≡ Done env' left = sym short_is ∙ d in absurd (cc)
  forget_agrees (c ∷ cs) env' left q d = given_by c cs (chosen (map_type u us w) c) refl (All-head IsReducedChoice c cs q) env' left (sym (given_is c cs) ∙ d)

  -- where it is not done, it blocks or a choice is missing
  stops_after : (mn : Map Key BScalar) (cs : List BChoice) {end : Run} (why : Stop) (left : List BChoice) → GoesOrBlocks (after mn) cs end → then_run end copied ≡ Stops why left →
      (why ≡ Blocked) ⊎ (why ≡ Short)
  stops_after mn cs why left goes d = let e : Done (with_both env old new mn) cs ≡ Stops why left = sym (copied_is mn cs) ∙ d in absurd (cc)
  stops_after mn cs why left blocks d = inl (cc)

  stops_chosen : (cs : List BChoice) (v : BValue) → IsOfType v (map_type u us w) → (why : Stop) (left : List BChoice) → checked (slice_set env new v) cs ≡ Stops why left →
      (why ≡ Blocked) ⊎ (why ≡ Short)
  stops_chosen cs v f why left d =
      let m = map_inside v f in
      let truths : (k : Key) → FitsKey (u ∷ us) k → IsTruth (body_at b (is_kept held old new) (after m.0) k) = λ k g. subst IsTruth (sym (kept_body m.0 k m.2)) (is _) in
      stops_after m.0 cs why left (assume_ends ls b (u ∷ us) (is_kept held old new) (after m.0) cs truths) (subst (λ x. checked (slice_set env new x) cs ≡ Stops why left) m.1 d)

  stops_by : (c : BChoice) (cs : List BChoice) (o : Option BValue) → chosen (map_type u us w) c ≡ o → IsReducedChoice c → (why : Stop) (left : List BChoice) →
      then_run (unless_blocked o cs (λ v rest. Done (slice_set env new v) rest)) checked ≡ Stops why left → (why ≡ Blocked) ⊎ (why ≡ Short)
  stops_by c cs (Some v) e q why left d = stops_chosen cs v (chosen_typed (map_type u us w) c v q e) why left d
  stops_by c cs None e q why left d = inl (cc)

  pub forget_stops : (cs : List BChoice) (why : Stop) (left : List BChoice) → All IsReducedChoice cs → brun ls b code env cs ≡ Stops why left → (why ≡ Blocked) ⊎ (why ≡ Short)
  forget_stops [] why left q d = let e : Stops Short [] ≡ Stops why left = sym short_is ∙ d in inr (cc)
  forget_stops (c ∷ cs) why left q d = stops_by c cs (chosen (map_type u us w) c) refl (All-head IsReducedChoice c cs q) why left (sym (given_is c cs) ∙ d)

-- ---- a value that a map does not have

module _ (ls : List BType) (b : Bound) (us : List BBase) (env : List BValue) (w : BBase) (held m r : ℕ) (mh n : Map Key BScalar) (v : BScalar) (x : AreThere env us w held m r mh n v) (cs : List BChoice) where
  other_body : (k : Key) → body_at b (is_other held m r) env k ≡ Is (implied (not (same_scalar (get key_cmp mh k) (Real none))) (not (same_scalar (get key_cmp n k) v)))
  other_body k =
      let e = at_bound_is env held mh k x.held_there in
      let f = at_bound_is env m n k x.map_there in
      let g : then_with (found (slice_get env r)) scalar_in ≡ Is v = ap (λ o. then_with (found o) scalar_in) x.value_there in
      let p = equal_is not base.Real (get key_cmp mh k) (Real none) (get_typed x.held_typed k) zero_fits in
      let q = equal_is not w (get key_cmp n k) v (get_typed x.map_typed k) x.value_typed in
      (λ i. as_truth (binary b op.Implies (binary b op.Ne (e i) (Is (Real none))) (binary b op.Ne (f i) (g i))))
      ∙ (λ i. as_truth (binary b op.Implies (p i) (q i)))
      ∙ implies_is b _ _

  pub avoid_goes : Avoids us mh n v → brun_stmt ls b (avoid_code us held m r) env cs ≡ Done env cs
  avoid_goes h =
      assume_holds ls b us (is_other held m r) env cs
      (λ k f. other_body k ∙ ap Is (to_implied _ _ (λ e. not_same (get key_cmp n k) v (h k f (from_not_same (get key_cmp mh k) (Real none) e)))))

  pub avoid_done : (env' : List BValue) (left : List BChoice) → brun_stmt ls b (avoid_code us held m r) env cs ≡ Done env' left → Avoids us mh n v × GoesFrom env cs env' left
  avoid_done env' left d =
      let a = assume_done ls b us (is_other held m r) env cs env' left d in
      (λ k f e. from_not_same (get key_cmp n k) v (from_implied _ _ (is_inj (sym (other_body k) ∙ a.0 k f)) (not_same (get key_cmp mh k) (Real none) e)), a.1)

  pub avoid_ends : GoesOrBlocks env cs (brun_stmt ls b (avoid_code us held m r) env cs)
  avoid_ends = assume_ends ls b us (is_other held m r) env cs (λ k f. subst IsTruth (sym (other_body k)) (is _))
