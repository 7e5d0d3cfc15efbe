-- Operands that are set in locals: atoms, and the arguments of instances.
use Rattle.std.proofs.Common.{◌≡◌, ◌<◌, ◌≤◌, ℕ, zero, suc, Bool as Truth, true, false, List, [], ◌∷◌, ◌++◌, length, take, Some, slice_get, slice_set, if◌then◌else◌, refl, ap, subst, ◌∙◌, arith}
use Rattle.std.proofs.lemmas.Option.{slice_get_within}
use Rattle.std.proofs.lemmas.List.{length-take}
use Rattle.vb_value.specs.Bound.{Bound}
use Rattle.vb_value.specs.declared.values.Ty.{Ty}
use Rattle.vb_value.specs.declared.values.Value.{Value}
use Rattle.boogie_tree.specs.Expr as t
use Rattle.boogie_tree.specs.Program.{BType}
use Rattle.boogie_tree.specs.Stmt as s
use Rattle.boogie_tree.specs.Stmt.{BStmts}
use Rattle.boogie_tree.specs.Value.{BScalar, BValue, One}
use Rattle.boogie_tree.specs.Values.{plain_type}
use Rattle.boogie_meaning.specs.Ends.{Is}
use Rattle.boogie_meaning.specs.Quantified.{bvalue}
use Rattle.boogie_meaning.proofs.PatternLaws.{set_here, is_inj}
use Rattle.moves.specs.Scalars.{scalar}
use Rattle.enc_expr.specs.Code.{Code, join, gives}
use Rattle.enc_expr.specs.Pieces.{Operand, is_atom, Atom, in_local, atomic, Located, located_from, located}
use Rattle.enc_expr.specs.Coupling.{Env, AreLocals}
use Rattle.enc_expr.specs.Alike.{Agree, AreValues, none, more, HasAtom, variable, int, real, truth, null, AreLocated}
use Rattle.enc_expr.specs.Alike as alike
use Rattle.enc_expr.proofs.Simulated.{Sets}
use Rattle.enc_expr.proofs.RunLaws.{there_is, join_done, assign_run}
use Rattle.enc_expr.proofs.FrameLaws.{kept_itself, kept_then, kept_set, locals_first, locals_rest}
use Rattle.enc_expr.proofs.CodeLaws.{from_counted, located_counted}

-- ---- what is set

pub sets_nothing : (ts : List BType) (b : Bound) (n : ℕ) (E : Env) → Sets ts b s.skip n E E
sets_nothing ts b n E = record { done = λ cs. refl; kept = kept_itself n E }

pub sets_then : {ts : List BType} {b : Bound} {xs ys : BStmts} {n m : ℕ} {E F G : Env} → n ≤ m → Sets ts b xs n E F → Sets ts b ys m F G → Sets ts b (join xs ys) n E G
sets_then {ts} {b} {xs} {ys} {E = E} {F = F} within h g = record {
  done = λ cs. join_done ts b xs ys E F cs cs (h.done cs) ∙ g.done cs;
  kept = kept_then within h.kept g.kept;
}

pub sets_one : (ts : List BType) (b : Bound) (n : ℕ) (x : t.BExpr) (w : BScalar) (E : Env) → bvalue b x E ≡ Is w → Sets ts b (s.first (s.Assign n x) s.skip) n E (slice_set E n (One w))
sets_one ts b n x w E h = record { done = λ cs. assign_run ts b n x w s.skip E cs h; kept = kept_set n n (One w) E (omega arith) }

-- ---- what has a value as long as the first locals stay

agree_take : (n : ℕ) (E : Env) → Agree n E (take n E)
agree_take zero E i h = absurd (omega (arith, h))
agree_take (suc n) [] i h = refl
agree_take (suc n) (v ∷ E) zero h = refl
agree_take (suc n) (v ∷ E) (suc i) h = agree_take n E i (omega (arith, h))

taken_within : (n i : ℕ) (E : Env) (v : BValue) → slice_get (take n E) i ≡ Some v → i < n
taken_within n i E v h = omega (arith, slice_get_within (take n E) i v h, length-take n E)

-- the value of an expression in each environment that agrees on the first n locals
pub record Holds (b : Bound) (n : ℕ) (x : t.BExpr) (E : Env) (w : BScalar) : Type 0 where
  pub value : (G : Env) → Agree n E G → bvalue b x G ≡ Is w

-- a variable with such a value is one of them
holds_below : {b : Bound} {n i : ℕ} {E : Env} {w : BScalar} → Holds b n (t.Var i) E w → i < n
holds_below {b} {n} {i} {E} {w} h = taken_within n i E (One w) (there_is (slice_get (take n E) i) w (h.value (take n E) (agree_take n E)))

holds_there : {b : Bound} {n i : ℕ} {E : Env} {w : BScalar} → Holds b n (t.Var i) E w → slice_get E i ≡ Some (One w)
holds_there {b} {n} {i} {E} {w} h = there_is (slice_get E i) w (h.value E (λ j below. refl))

pub holds_more : {b : Bound} {n m : ℕ} {x : t.BExpr} {E F : Env} {w : BScalar} → n ≤ m → Agree n E F → Holds b n x E w → Holds b m x F w
holds_more within same h = record { value = λ G agree. h.value G (λ i below. agree i (omega (arith, below, within)) ∙ same i below) }

-- ---- atoms

holds_atom : {b : Bound} {n : ℕ} {E : Env} {w : BScalar} (x : t.BExpr) → is_atom x ≡ true → Holds b n x E w → HasAtom n E x w
holds_atom (t.Var i) h holds = variable (holds_below holds) (holds_there holds)
holds_atom {E = E} (t.Int z) h holds = subst (HasAtom _ E (t.Int z)) (is_inj (holds.value E (λ j below. refl))) int
holds_atom {E = E} (t.Real z) h holds = subst (HasAtom _ E (t.Real z)) (is_inj (holds.value E (λ j below. refl))) real
holds_atom {E = E} (t.Bool p) h holds = subst (HasAtom _ E (t.Bool p)) (is_inj (holds.value E (λ j below. refl))) truth
holds_atom {E = E} t.Null h holds = subst (HasAtom _ E t.Null) (is_inj (holds.value E (λ j below. refl))) null
holds_atom _ h holds = absurd (cc)

-- the statements of an atom run through, and then it has the value
pub record IsSet (ts : List BType) (b : Bound) (n : ℕ) (c : Code Atom) (E : Env) (w : BScalar) : Type 0 where
  pub after : Env
  pub sets : Sets ts b c.value.sets n E after
  pub atom : HasAtom c.next after c.value.expr w

module _ (ts : List BType) (b : Bound) (n : ℕ) (E : Env) (full : length E ≡ length ts) where
  local_within : (u : BType) → slice_get ts n ≡ Some u → n < length E
  local_within u h = omega (arith, slice_get_within ts n u h, full)

  local_set : (x : Operand) (w : BScalar) → Holds b n x.expr E w → AreLocals ts n (in_local x n).locals → IsSet ts b n (in_local x n) E w
  local_set x w h locals = record {
    after = slice_set E n (One w);
    sets = sets_one ts b n x.expr w E (h.value E (λ i below. refl));
    atom = variable (omega arith) (set_here E n (One w) (local_within (plain_type x.base) locals.0));
  }

  either_set : (x : Operand) (w : BScalar) (q : Truth) → (q ≡ true → is_atom x.expr ≡ true) → Holds b n x.expr E w →
      (let c = if q then gives (record { expr = x.expr; sets = s.skip }) n else in_local x n in AreLocals ts n c.locals → IsSet ts b n c E w)
  either_set x w true is h = λ locals. record { after = E; sets = sets_nothing ts b n E; atom = holds_atom x.expr (is refl) h }
  either_set x w false is h = λ locals. local_set x w h locals

  pub atomic_set : (x : Operand) (w : BScalar) → Holds b n x.expr E w → AreLocals ts n (atomic x n).locals → IsSet ts b n (atomic x n) E w
  atomic_set x w h locals = either_set x w (is_atom x.expr) (λ same. same) h locals

-- ---- arguments

-- they have the same values in each environment with the same first locals
pub values_more : {b : Bound} {n m : ℕ} {E F : Env} {xs : List Operand} {us : List Ty} {vs : List Value} → n ≤ m → Agree n E F → AreValues b n E xs us vs → AreValues b m F xs us vs
values_more within same none = none
values_more {b} {F} within same (more {x} typed here rest) = let held : Holds b _ x.expr F _ = holds_more within same (record { value = here }) in more typed held.value (values_more within same rest)

pub located_more : {n m : ℕ} {E F : Env} {is : List ℕ} {vs : List Value} → n ≤ m → Agree n E F → AreLocated n E is vs → AreLocated m F is vs
located_more within same alike.AreLocated.none = alike.AreLocated.none
located_more within same (alike.AreLocated.more {i} below here rest) = alike.AreLocated.more (omega (arith, below, within)) (same i below ∙ here) (located_more within same rest)

pub located_append : {n : ℕ} {E : Env} {is js : List ℕ} {vs ws : List Value} → AreLocated n E is vs → AreLocated n E js ws → AreLocated n E (is ++ js) (vs ++ ws)
located_append alike.AreLocated.none g = g
located_append (alike.AreLocated.more below here rest) g = alike.AreLocated.more below here (located_append rest g)

-- the statements of locals run through, and then they hold the values
pub record AreSet (ts : List BType) (b : Bound) (n : ℕ) (c : Code Located) (E : Env) (vs : List Value) : Type 0 where
  pub after : Env
  pub sets : Sets ts b c.value.sets n E after
  pub located : AreLocated c.next after c.value.locals vs

module _ (ts : List BType) (b : Bound) where
  from_set : (n : ℕ) (E : Env) (x : Operand) (y : t.BExpr) (v : Value) → length E ≡ length ts → Holds b n y E (scalar v) → x.expr ≡ y → AreLocals ts n (located_from x y n).locals →
      AreSet ts b n (located_from x y n) E (v ∷ [])
  from_set n E x (t.Var i) v full h same locals = record { after = E; sets = sets_nothing ts b n E; located = alike.AreLocated.more (holds_below h) (holds_there h) alike.AreLocated.none }
  from_set n E x _ v full h same locals =
      let F = slice_set E n (One (scalar v)) in
      record {
        after = F;
        sets = sets_one ts b n x.expr (scalar v) E (ap (λ y. bvalue b y E) same ∙ h.value E (λ i below. refl));
        located = alike.AreLocated.more (omega arith) (set_here E n (One (scalar v)) (local_within ts b n E full (plain_type x.base) locals.0)) alike.AreLocated.none;
      }

  pub located_set : (n : ℕ) (E : Env) (xs : List Operand) (us : List Ty) (vs : List Value) → length E ≡ length ts → AreValues b n E xs us vs → AreLocals ts n (located xs n).locals →
      AreSet ts b n (located xs n) E vs
  located_set n E [] us vs full none locals = record { after = E; sets = sets_nothing ts b n E; located = alike.AreLocated.none }
  located_set n E (x ∷ xs) us vs full (more {v} {vs = ws} typed here rest) locals =
      let a = located_from x x.expr n in let c = located xs a.next in
      let counted = from_counted x x.expr in
      let within : n ≤ a.next = omega (arith, counted.next n) in
      let one = from_set n E x x.expr v full (record { value = here }) refl (locals_first ts n a.locals _ locals) in
      let F = one.after in let same = one.sets.kept in
      let fresh : AreLocals ts a.next (c.locals ++ []) = subst (λ i. AreLocals ts i (c.locals ++ [])) (counted.next n) (locals_rest ts n a.locals _ locals) in
      let two = located_set a.next F xs _ ws (same.length ∙ full) (values_more within same.same rest) (locals_first ts a.next c.locals [] fresh) in
      record {
        after = two.after;
        sets = sets_then within one.sets two.sets;
        located = located_append (located_more (omega (arith, (located_counted xs).next a.next)) two.sets.kept.same one.located) two.located;
      }
