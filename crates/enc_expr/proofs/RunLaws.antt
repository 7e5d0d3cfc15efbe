-- Runs of pieces of code.
use Rattle.std.proofs.Common.{◌≡◌, ℕ, Bool as Truth, true, false, List, Option, Some, None, slice_get, slice_set, if◌then◌else◌, refl, ap, ◌∙◌}
use Rattle.boogie_meaning.proofs.PatternLaws.{is_inj}
use Rattle.vb_base.specs.declared.labels.Label.{Label}
use Rattle.vb_value.specs.Bound.{Bound}
use Rattle.boogie_tree.specs.Expr as t
use Rattle.boogie_tree.specs.Stmt as s
use Rattle.boogie_tree.specs.Stmt.{BStmts}
use Rattle.boogie_tree.specs.Program.{BType}
use Rattle.boogie_tree.specs.Value as v
use Rattle.boogie_tree.specs.Value.{BScalar, BValue, One, Many, BChoice}
use Rattle.boogie_tree.specs.declared.exprs.BOp.TheVariants as op
use Rattle.boogie_meaning.specs.Ends.{Is, Wrong, then_with, found}
use Rattle.boogie_meaning.specs.Operators.{binary}
use Rattle.boogie_meaning.specs.Value.{scalar_in}
use Rattle.boogie_meaning.specs.Quantified.{bvalue, one_of, side}
use Rattle.boogie_meaning.specs.Run.{Run, Done, Stops, Failed, Blocked, with_end, with_truth, assumed, asserted, then_run, brun}
use Rattle.enc_expr.specs.Code.{join, Guard, guarded, under}
use Rattle.enc_expr.specs.Coupling.{Env, IsAwake, IsAsleep}
use Rattle.enc_expr.specs.Alike.{Agree, HasAtom, variable, int, real, truth, null}

pub join_skip : (xs : BStmts) → join xs s.skip ≡ xs
join_skip s.skip = refl
join_skip (s.first x xs) = ap (s.first x) (join_skip xs)

pub join_assoc : (xs ys zs : BStmts) → join (join xs ys) zs ≡ join xs (join ys zs)
join_assoc s.skip ys zs = refl
join_assoc (s.first x xs) ys zs = ap (s.first x) (join_assoc xs ys zs)

-- ---- ends

-- nothing more is run
pub then_done : (r : Run) → then_run r (λ F rest. Done F rest) ≡ r
then_done (Done E cs) = refl
then_done (Stops why cs) = refl

wrong_is : {X : Type 0} {x : X} → Wrong ≡ Is x → ⊥
wrong_is h = cc

-- a local with a value holds it
pub there_is : (o : Option BValue) (w : BScalar) → then_with (found o) scalar_in ≡ Is w → o ≡ Some (One w)
there_is (Some (One v)) w h = ap (λ v. Some (One v)) (is_inj h)
there_is (Some (Many m)) w h = absurd (wrong_is h)
there_is None w h = absurd (wrong_is h)

module _ (ts : List BType) (b : Bound) where
  then_again : (r : Run) (xs ys : BStmts) → ((E : Env) (cs : List BChoice) → brun ts b (join xs ys) E cs ≡ then_run (brun ts b xs E cs) (λ F rest. brun ts b ys F rest)) →
      then_run r (λ F rest. brun ts b (join xs ys) F rest) ≡ then_run (then_run r (λ F rest. brun ts b xs F rest)) (λ F rest. brun ts b ys F rest)
  then_again (Done E cs) xs ys h = h E cs
  then_again (Stops why cs) xs ys h = refl

  pub join_run : (xs ys : BStmts) (E : Env) (cs : List BChoice) → brun ts b (join xs ys) E cs ≡ then_run (brun ts b xs E cs) (λ F rest. brun ts b ys F rest)
  join_run s.skip ys E cs = refl
  join_run (s.first x xs) ys E cs = then_again _ xs ys (λ F rest. join_run xs ys F rest)

  -- where the first part is done
  pub join_done : (xs ys : BStmts) (E F : Env) (cs rest : List BChoice) → brun ts b xs E cs ≡ Done F rest → brun ts b (join xs ys) E cs ≡ brun ts b ys F rest
  join_done xs ys E F cs rest h = join_run xs ys E cs ∙ ap (λ r. then_run r (λ G left. brun ts b ys G left)) h

  -- ---- guards

  -- a block under a guard that has this value
  guard_run : (h : ℕ) (q : Truth) (xs : BStmts) (E : Env) (cs : List BChoice) → slice_get E h ≡ Some (One (v.Bool q)) →
      brun ts b (s.first (s.If (t.Var h) xs s.skip) s.skip) E cs ≡ (if q then brun ts b xs E cs else Done E cs)
  guard_run h q xs E cs e = then_done _ ∙ (λ j. with_truth (then_with (found (e j)) scalar_in) cs (λ p. if p then brun ts b xs E cs else Done E cs))

  pub guarded_awake : (g : Guard) (n : ℕ) (xs : BStmts) (E : Env) (cs : List BChoice) → IsAwake g n E → brun ts b (guarded g xs) E cs ≡ brun ts b xs E cs
  guarded_awake None n xs E cs h = refl
  guarded_awake (Some i) n s.skip E cs h = refl
  guarded_awake (Some i) n (s.first x xs) E cs h = guard_run i true (s.first x xs) E cs h.1

  pub guarded_asleep : (h n : ℕ) (xs : BStmts) (E : Env) (cs : List BChoice) → IsAsleep n h E → brun ts b (guarded (Some h) xs) E cs ≡ Done E cs
  guarded_asleep h n s.skip E cs a = refl
  guarded_asleep h n (s.first x xs) E cs a = guard_run h false (s.first x xs) E cs a.1

  pub under_awake : (g : Guard) (n : ℕ) (x : t.BExpr) (q : Truth) (E : Env) → IsAwake g n E → bvalue b x E ≡ Is (v.Bool q) → bvalue b (under g x) E ≡ Is (v.Bool q)
  under_awake None n x q E h e = e
  under_awake (Some i) n x q E h e = λ j. binary b op.And (then_with (found (h.1 j)) scalar_in) (e j)

  pub under_asleep : (h n : ℕ) (x : t.BExpr) (E : Env) → IsAsleep n h E → bvalue b (under (Some h) x) E ≡ Is (v.Bool false)
  under_asleep h n x E a = λ j. binary b op.And (then_with (found (a.1 j)) scalar_in) (bvalue b x E)

  -- ---- a statement at the front

  side_value : (x : t.BExpr) (w : BScalar) (E : Env) → bvalue b x E ≡ Is w → side b x E ≡ Is (One w)
  side_value (t.Var i) w E h = ap found (there_is (slice_get E i) w h)
  side_value _ w E h = ap one_of h

  pub assign_run : (i : ℕ) (x : t.BExpr) (w : BScalar) (xs : BStmts) (E : Env) (cs : List BChoice) → bvalue b x E ≡ Is w → brun ts b (s.first (s.Assign i x) xs) E cs ≡ brun ts b xs (slice_set E i (One w)) cs
  assign_run i x w xs E cs h = let e = side_value x w E h in λ j. then_run (with_end (e j) cs (λ v. Done (slice_set E i v) cs)) (λ F rest. brun ts b xs F rest)

  pub copy_run : (i j : ℕ) (w : BValue) (xs : BStmts) (E : Env) (cs : List BChoice) → slice_get E j ≡ Some w → brun ts b (s.first (s.Assign i (t.Var j)) xs) E cs ≡ brun ts b xs (slice_set E i w) cs
  copy_run i j w xs E cs h = λ k. then_run (with_end (found (h k)) cs (λ v. Done (slice_set E i v) cs)) (λ F rest. brun ts b xs F rest)

  pub assert_run : (l : Label) (x : t.BExpr) (q : Truth) (xs : BStmts) (E : Env) (cs : List BChoice) → bvalue b x E ≡ Is (v.Bool q) →
      brun ts b (s.first (s.Assert l x) xs) E cs ≡ (if q then brun ts b xs E cs else Stops (Failed l) cs)
  assert_run l x true xs E cs h = λ j. then_run (with_truth (h j) cs (asserted l E cs)) (λ F rest. brun ts b xs F rest)
  assert_run l x false xs E cs h = λ j. then_run (with_truth (h j) cs (asserted l E cs)) (λ F rest. brun ts b xs F rest)

  pub assume_run : (x : t.BExpr) (q : Truth) (xs : BStmts) (E : Env) (cs : List BChoice) → bvalue b x E ≡ Is (v.Bool q) →
      brun ts b (s.first (s.Assume x) xs) E cs ≡ (if q then brun ts b xs E cs else Stops Blocked cs)
  assume_run x true xs E cs h = λ j. then_run (with_truth (h j) cs (assumed E cs)) (λ F rest. brun ts b xs F rest)
  assume_run x false xs E cs h = λ j. then_run (with_truth (h j) cs (assumed E cs)) (λ F rest. brun ts b xs F rest)

-- ---- atoms

pub atom_value : (b : Bound) (n : ℕ) (E : Env) (x : t.BExpr) (w : BScalar) → HasAtom n E x w → bvalue b x E ≡ Is w
atom_value b n E _ w (variable below here) = λ j. then_with (found (here j)) scalar_in
atom_value b n E _ _ int = refl
atom_value b n E _ _ real = refl
atom_value b n E _ _ truth = refl
atom_value b n E _ _ null = refl

pub atom_agrees : {n : ℕ} {E F : Env} {x : t.BExpr} {w : BScalar} → Agree n E F → HasAtom n E x w → HasAtom n F x w
atom_agrees a (variable below here) = variable below (a _ below ∙ here)
atom_agrees a int = int
atom_agrees a real = real
atom_agrees a truth = truth
atom_agrees a null = null
