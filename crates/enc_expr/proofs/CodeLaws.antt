-- Each piece of code declares what it says, and rests where its guards are false.
use Rattle.std.proofs.Common.{◌≡◌, ◌+◌, ◌<◌, ◌≤◌, ℕ, Bool as Truth, true, false, List, [], ◌∷◌, length, length-append, Some, slice_get, slice_set, if◌then◌else◌, ◌⊎◌, inl, inr, refl, sym, ap, subst, ◌∙◌, arith}
use Rattle.std.specs.Bool.{⊤}
use Rattle.std.proofs.lemmas.Option.{slice_get_within}
use Rattle.vb_base.specs.declared.places.Pos.{Pos}
use Rattle.viper_core.specs.Expr as e
use Rattle.viper_core.specs.declared.exprs.Op.{Op}
use Rattle.viper_meaning.specs.Operators.{Class, Lazy, Division, Plain, class_of}
use Rattle.boogie_tree.specs.Expr as t
use Rattle.boogie_tree.specs.Program.{BType}
use Rattle.boogie_tree.specs.Stmt as s
use Rattle.boogie_tree.specs.Stmt.{BStmts}
use Rattle.boogie_tree.specs.Value.{Bool, One}
use Rattle.boogie_meaning.specs.Run.{brun}
use Rattle.boogie_meaning.proofs.PatternLaws.{set_here}
use Rattle.enc_expr.specs.Place.{Place}
use Rattle.enc_expr.specs.Kinds.{Kinds}
use Rattle.enc_expr.specs.Code.{Emitting, gives, then_emit, declares, declares_all, Guard, puts, under, guards}
use Rattle.enc_expr.specs.Pieces.{Operand, one, atomic, in_local, located_from, located}
use Rattle.enc_expr.specs.Operators.{operand_of, division, right_counts, lazy_operand, in_class_code, chosen_operand, choose_code}
use Rattle.enc_expr.specs.Encoding.{read_code, acc_code, instance_code, is_unit, code, unfolding_code, codes, amount_code, body_code}
use Rattle.enc_expr.specs.Coupling.{Env, IsAsleep, AreLocals}
use Rattle.enc_expr.specs.Alike.{Kept}
use Rattle.enc_expr.proofs.Simulated.{IsCounted, AreAsleep, Sleeps}
use Rattle.enc_expr.proofs.RunLaws.{join_done, guarded_asleep, under_asleep, assign_run}
use Rattle.enc_expr.proofs.FrameLaws.{kept_itself, kept_then, kept_set, locals_first, locals_rest}

-- ---- the ways of writing

-- each statement stands under one of these guards, or under a new one that is made from one of them
pub data IsWritten : (Guard → Type 0) → (X : Type 0) → Emitting X → Type 1 where
  given : {O : Guard → Type 0} {X : Type 0} (x : X) → IsWritten O X (gives x)
  both : {O : Guard → Type 0} {X Y : Type 0} {m : Emitting X} {go : X → Emitting Y} → IsWritten O X m → ((x : X) → IsWritten O Y (go x)) → IsWritten O Y (then_emit m go)
  local : {O : Guard → Type 0} (u : BType) → IsWritten O ℕ (declares u)
  locals : {O : Guard → Type 0} (us : List BType) → IsWritten O ℕ (declares_all us)
  put : {O : Guard → Type 0} (g : Guard) (xs : BStmts) → O g → IsWritten O _ (puts g xs)
  guarded : {O : Guard → Type 0} {Y : Type 0} {go : ℕ → Emitting Y} (g : Guard) (x : t.BExpr) → O g → ((i : ℕ) → IsWritten (λ h. (h ≡ Some i) ⊎ O h) Y (go i)) →
      IsWritten O Y (then_emit (guards g x) go)

-- under whatever guards there are, if its own guard is one of them
abbrev pub AreWritten : {X : Type 0} → (Guard → Emitting X) → Type 1
AreWritten {X} m = (O : Guard → Type 0) (g : Guard) → O g → IsWritten O X (m g)

module _ {O : Guard → Type 0} where
  -- either, as a test says
  either_written : {X : Type 0} (q : Truth) {m l : Emitting X} → IsWritten O X m → IsWritten O X l → IsWritten O X (λ n. if q then m n else l n)
  either_written true h g = h
  either_written false h g = g

  local_written : (x : Operand) → IsWritten O _ (in_local x)
  local_written x = search (both, local, given)

  pub atomic_written : (x : Operand) → IsWritten O _ (atomic x)
  atomic_written x = either_written _ (given _) (local_written x)

  from_written : (x : Operand) (y : t.BExpr) → IsWritten O _ (located_from x y)
  from_written x (t.Var i) = given _
  from_written x _ = search (both, local, given)

  pub located_written : (xs : List Operand) → IsWritten O _ (located xs)
  located_written [] = given _
  located_written (x ∷ xs) = search (both, from_written, located_written xs, given)

  division_written : (p : Place) (g : Guard) (o : Op) (at : Pos) (x y : Operand) → O g → IsWritten O _ (division p g o at x y)
  division_written p g o at x y own = search (both, atomic_written, put, given)

  class_written : (q : Class) (p : Place) (g : Guard) (o : Op) (at : Pos) (left : Emitting Operand) (right : Guard → Emitting Operand) → O g → IsWritten O _ left →
      AreWritten right → IsWritten O _ (in_class_code q p g o at left right)
  class_written Lazy p g o at left right own h i = both h (λ x. guarded g (right_counts o x.expr) own (λ a. both (i _ (Some a) (inl refl)) (λ y. given (lazy_operand o a y))))
  class_written Division p g o at left right own h i = both h (λ x. both (i O g own) (λ y. division_written p g o at x y own))
  class_written Plain p g o at left right own h i = both h (λ x. both (i O g own) (λ y. given (operand_of o x y)))

  pub choose_written : {X Y : Type 0} (g : Guard) (x : t.BExpr) (left right : Guard → Emitting X) (to : ℕ → X → X → Y) → O g → AreWritten left →
      AreWritten right → IsWritten O _ (choose_code g x left right to)
  choose_written g x left right to own h i = guarded g x own (λ a. guarded g (t.Not (t.Var a)) (inr own) (λ c. both (h _ (Some a) (inr (inl refl))) (λ v. both (i _ (Some c) (inl refl)) (λ w. given (to a v w)))))

  read_written : (k : Kinds) (p : Place) (g : Guard) (f : ℕ) (at : Pos) (x : Operand) → O g → IsWritten O _ (read_code k p g f at x)
  read_written k p g f at x own = search (both, atomic_written, put, given)

  acc_written : (k : Kinds) (p : Place) (g : Guard) (scale : t.BExpr) (f : ℕ) (at : Pos) (from : ℕ) (x q : Operand) → O g → IsWritten O _ (acc_code k p g scale f at from x q)
  acc_written k p g scale f at from x q own = search (both, atomic_written, local, put)

  instance_written : (p : Place) (g : Guard) (scale : t.BExpr) (q : ℕ) (at : Pos) (from : ℕ) (xs : List Operand) (m : Operand) → O g → IsWritten O _ (instance_code p g scale q at from xs m)
  instance_written p g scale q at from xs m own = search (both, atomic_written, located_written, put)

mutual
  pub code_written : (O : Guard → Type 0) (k : Kinds) (p : Place) (g : Guard) (a : e.Expr) → O g → IsWritten O _ (code k p g a)
  code_written O k p g (e.Var x) own = given _
  code_written O k p g (e.Int n) own = given _
  code_written O k p g (e.Bool b) own = given _
  code_written O k p g e.Null own = given _
  code_written O k p g (e.Part q) own = given _
  code_written O k p g (e.Neg a) own = search (both, code_written O k p g a own, given)
  code_written O k p g (e.Not a) own = search (both, code_written O k p g a own, given)
  code_written O k p g (e.Bin o a b at) own = class_written (class_of o) p g o at _ _ own (code_written O k p g a own) (λ N h under. code_written N k p h b under)
  code_written O k p g (e.Choose c a b) own = both (code_written O k p g c own) (λ x. choose_written g x.expr _ _ chosen_operand own (λ N h under. code_written N k p h a under) (λ N h under. code_written N k p h b under))
  code_written O k p g (e.Field a f at) own = both (code_written O k p g a own) (λ x. read_written k p g f at x own)
  code_written O k p g (e.Old a) own = code_written O k _ g a own
  code_written O k p g (e.Unfolding o) own = unfolding_written O k p g o own

  unfolding_written : (O : Guard → Type 0) (k : Kinds) (p : Place) (g : Guard) (o : e.Opened) → O g → IsWritten O _ (unfolding_code k p g o)
  unfolding_written O k p g (e.opened q args amount body inner at) own =
      let xs = codes_written O k p g args own in let m = code_written O k p g amount own in
      let fill : (l : Kinds) (r : Place) (scale : t.BExpr) (from : ℕ) → IsWritten O _ (body_code l r g scale body from) = λ l r scale from. body_written O l r g scale body from own in
      let read : (r : Place) → IsWritten O _ (code k r g inner) = λ r. code_written O k r g inner own in
      search (both, xs, m, located_written, atomic_written, locals, local, put, fill, read) depth 12

  pub codes_written : (O : Guard → Type 0) (k : Kinds) (p : Place) (g : Guard) (xs : e.Exprs) → O g → IsWritten O _ (codes k p g xs)
  codes_written O k p g e.none own = given _
  codes_written O k p g (e.more a rest) own = search (both, code_written O k p g a own, codes_written O k p g rest own, given)

  pub amount_written : (O : Guard → Type 0) (k : Kinds) (p : Place) (g : Guard) (m : e.Amt) → O g → IsWritten O _ (amount_code k p g m)
  amount_written O k p g (e.Is a) own = code_written O k p g a own
  amount_written O k p g e.Wildcard own = given _

  body_written : (O : Guard → Type 0) (k : Kinds) (p : Place) (g : Guard) (scale : t.BExpr) (a : e.Assertion) (from : ℕ) → O g → IsWritten O _ (body_code k p g scale a from)
  body_written O k p g scale (e.Fact a at) from own = search (both, code_written O k p g a own, put)
  body_written O k p g scale (e.Acc a f m at) from own = both (code_written O k p g a own) (λ x. both (amount_written O k p g m own) (λ q. acc_written k p g scale f at from x q own))
  body_written O k p g scale (e.Inst q args m at) from own = both (codes_written O k p g args own) (λ xs. both (amount_written O k p g m own) (λ a. instance_written p g scale q at from xs a own))
  body_written O k p g scale (e.And a b) from own =
      let one : (l : ℕ) → IsWritten O _ (body_code k p g scale a l) = λ l. body_written O k p g scale a l own in
      let two : (r : ℕ) → IsWritten O _ (body_code k p g scale b r) = λ r. body_written O k p g scale b r own in
      search (both, local, put, one, two)
  body_written O k p g scale (e.Implies c a) from own =
      both (code_written O k p g c own) (λ x. choose_written g x.expr _ (λ h. puts h (one (s.Assume (is_unit from)))) (λ h u v. tt) own (λ N h under. body_written N k p h scale a from under) (λ N h under. put h _ under))
  body_written O k p g scale (e.ChooseAssertion c a b) from own =
      both (code_written O k p g c own) (λ x. choose_written g x.expr _ _ (λ h u v. tt) own (λ N h under. body_written N k p h scale a from under) (λ N h under. body_written N k p h scale b from under))

-- ---- numbers

-- the next local comes after those that are declared
pub written_counted : {O : Guard → Type 0} {X : Type 0} {m : Emitting X} → IsWritten O X m → IsCounted m
written_counted (given x) = record { next = λ n. omega arith }
written_counted (both {m} {go} h g) = record {
  next = λ n.
      let a = m n in let d = go a.value a.next in
      omega (arith, length-append a.locals d.locals, (written_counted h).next n, (written_counted (g a.value)).next a.next);
}
written_counted (local u) = record { next = λ n. refl }
written_counted (locals us) = record { next = λ n. refl }
written_counted (put g xs own) = record { next = λ n. omega arith }
written_counted (guarded {go} g x own h) = record { next = λ n. omega (arith, (written_counted (h n)).next (n + 1)) }

pub gives_counted : {X : Type 0} (x : X) → IsCounted (gives x)
gives_counted x = written_counted {O = λ g. ⊤} (given x)

pub then_counted : {X Y : Type 0} (m : Emitting X) (go : X → Emitting Y) → IsCounted m → ((x : X) → IsCounted (go x)) → IsCounted (then_emit m go)
then_counted m go h g = record { next = λ n. let a = m n in let d = go a.value a.next in omega (arith, length-append a.locals d.locals, h.next n, (g a.value).next a.next) }

pub declares_counted : (u : BType) → IsCounted (declares u)
declares_counted u = record { next = λ n. refl }

pub all_counted : (us : List BType) → IsCounted (declares_all us)
all_counted us = record { next = λ n. refl }

pub puts_counted : (g : Guard) (xs : BStmts) → IsCounted (puts g xs)
puts_counted g xs = record { next = λ n. omega arith }

pub guards_counted : (g : Guard) (x : t.BExpr) → IsCounted (guards g x)
guards_counted g x = record { next = λ n. refl }

pub atomic_counted : (x : Operand) → IsCounted (atomic x)
atomic_counted x = written_counted {O = λ g. ⊤} (atomic_written x)

pub from_counted : (x : Operand) (y : t.BExpr) → IsCounted (located_from x y)
from_counted x y = written_counted {O = λ g. ⊤} (from_written x y)

pub located_counted : (xs : List Operand) → IsCounted (located xs)
located_counted xs = written_counted {O = λ g. ⊤} (located_written xs)

pub code_counted : (k : Kinds) (p : Place) (g : Guard) (a : e.Expr) → IsCounted (code k p g a)
code_counted k p g a = written_counted (code_written (λ g. ⊤) k p g a tt)

pub unfolding_counted : (k : Kinds) (p : Place) (g : Guard) (o : e.Opened) → IsCounted (unfolding_code k p g o)
unfolding_counted k p g o = written_counted (unfolding_written (λ g. ⊤) k p g o tt)

pub codes_counted : (k : Kinds) (p : Place) (g : Guard) (xs : e.Exprs) → IsCounted (codes k p g xs)
codes_counted k p g xs = written_counted (codes_written (λ g. ⊤) k p g xs tt)

pub amount_counted : (k : Kinds) (p : Place) (g : Guard) (m : e.Amt) → IsCounted (amount_code k p g m)
amount_counted k p g m = written_counted (amount_written (λ g. ⊤) k p g m tt)

pub body_counted : (k : Kinds) (p : Place) (g : Guard) (scale : t.BExpr) (a : e.Assertion) (from : ℕ) → IsCounted (body_code k p g scale a from)
body_counted k p g scale a from = written_counted (body_written (λ g. ⊤) k p g scale a from tt)

-- ---- sleeping code

-- one of these guards
pub data IsUnder (O : ℕ → Type 0) : Guard → Type 0 where
  some : {h : ℕ} → O h → IsUnder O (Some h)

under_more : {O N : ℕ → Type 0} {g : Guard} → ((h : ℕ) → O h → N h) → IsUnder O g → IsUnder N g
under_more more (some {h} own) = some (more h own)

under_new : {O : ℕ → Type 0} (i : ℕ) (g : Guard) → (g ≡ Some i) ⊎ IsUnder O g → IsUnder (λ j. (j ≡ i) ⊎ O j) g
under_new i g (inl same) = subst (IsUnder _) (sym same) (some (inl refl))
under_new i g (inr own) = under_more (λ h o. inr o) own

asleep_kept : {O : ℕ → Type 0} {n m : ℕ} {E F : Env} → n ≤ m → Kept n E F → AreAsleep O n E → AreAsleep O m F
asleep_kept more kept sleep = λ h o. let here = sleep h o in (omega (arith, here.0, more), kept.same h here.0 ∙ here.1)

nothing_sleeps : {O : ℕ → Type 0} {X : Type 0} {m : Emitting X} → ((n : ℕ) → (m n).stmts ≡ s.skip) → Sleeps O m
nothing_sleeps {O} {X} {m} is = record { rests = λ ts b n E cs sleep full locals. record { after = E; done = ap (λ xs. brun ts b xs E cs) (is n); kept = kept_itself n E } }

pub puts_sleeps : {O : ℕ → Type 0} (h : ℕ) (xs : BStmts) → O h → Sleeps O (puts (Some h) xs)
puts_sleeps h xs o = record { rests = λ ts b n E cs sleep full locals. record { after = E; done = guarded_asleep ts b h n xs E cs (sleep h o); kept = kept_itself n E } }

under_puts : {O : ℕ → Type 0} {g : Guard} (xs : BStmts) → IsUnder O g → Sleeps O (puts g xs)
under_puts xs (some {h} own) = puts_sleeps h xs own

pub then_sleeps : {O : ℕ → Type 0} {X Y : Type 0} (m : Emitting X) (go : X → Emitting Y) → IsCounted m → Sleeps O m → ((x : X) → Sleeps O (go x)) → Sleeps O (then_emit m go)
then_sleeps m go c h g = record {
  rests = λ ts b n E cs sleep full locals.
      let a = m n in let d = go a.value a.next in
      let one = h.rests ts b n E cs sleep full (locals_first ts n a.locals d.locals locals) in
      let more : n ≤ a.next = omega (arith, c.next n) in
      let two = (g a.value).rests ts b a.next one.after cs (asleep_kept more one.kept sleep) (one.kept.length ∙ full)
      (subst (λ i. AreLocals ts i d.locals) (c.next n) (locals_rest ts n a.locals d.locals locals)) in
      record { after = two.after; done = join_done ts b a.stmts d.stmts E one.after cs cs one.done ∙ two.done; kept = kept_then more one.kept two.kept };
}

-- a guard under one that is false is false, so what stands under it rests
pub guards_sleep : {O : ℕ → Type 0} {Y : Type 0} (h : ℕ) (x : t.BExpr) (go : ℕ → Emitting Y) → O h → ((i : ℕ) → Sleeps (λ j. (j ≡ i) ⊎ O j) (go i)) → Sleeps O (then_emit (guards (Some h) x) go)
guards_sleep {O} h x go o f = record {
  rests = λ ts b n E cs sleep full locals.
      let F = slice_set E n (One (Bool false)) in
      let within : n < length E = omega (arith, slice_get_within ts n _ locals.0, full) in
      let kept = kept_set n n (One (Bool false)) E (omega arith) in
      let asleep : AreAsleep (λ j. (j ≡ n) ⊎ O j) (n + 1) F = λ j w. elim w as (λ w. IsAsleep (n + 1) j F) [
        | inl same ↦ (omega (arith, same), subst (λ i. slice_get F i ≡ Some (One (Bool false))) (sym same) (set_here E n (One (Bool false)) within))
        | inr other ↦ asleep_kept {n = n} {m = n + 1} (omega arith) kept sleep j other
      ] in
      let two = (f n).rests ts b (n + 1) F cs asleep (kept.length ∙ full) locals.1 in
      record { after = two.after; done = assign_run ts b n (under (Some h) x) (Bool false) (go n (n + 1)).stmts E cs (under_asleep ts b h n x E (sleep h o)) ∙ two.done; kept = kept_then (omega arith) kept two.kept };
}

under_guards : {O : ℕ → Type 0} {Y : Type 0} {g : Guard} (x : t.BExpr) (go : ℕ → Emitting Y) → IsUnder O g → ((i : ℕ) → Sleeps (λ j. (j ≡ i) ⊎ O j) (go i)) → Sleeps O (then_emit (guards g x) go)
under_guards x go (some {h} own) f = guards_sleep h x go own f

-- where all guards are false
pub written_sleeps : {N : Guard → Type 0} {X : Type 0} {m : Emitting X} → IsWritten N X m → (O : ℕ → Type 0) → ((g : Guard) → N g → IsUnder O g) → Sleeps O m
written_sleeps (given x) O all = nothing_sleeps (λ n. refl)
written_sleeps (both {m} {go} h g) O all = then_sleeps m go (written_counted h) (written_sleeps h O all) (λ x. written_sleeps (g x) O all)
written_sleeps (local u) O all = nothing_sleeps (λ n. refl)
written_sleeps (locals us) O all = nothing_sleeps (λ n. refl)
written_sleeps (put g xs own) O all = under_puts xs (all g own)
written_sleeps (guarded {O = N} {go} g x own h) O all =
    under_guards x go (all g own) (λ i. written_sleeps (h i) (λ j. (j ≡ i) ⊎ O j) (λ l w. under_new i l (elim w as (λ w. (l ≡ Some i) ⊎ IsUnder O l) [ inl same ↦ inl same | inr own ↦ inr (all l own) ])))

module _ {O : ℕ → Type 0} where
  pub code_sleeps : (k : Kinds) (p : Place) (h : ℕ) (a : e.Expr) → O h → Sleeps O (code k p (Some h) a)
  code_sleeps k p h a o = written_sleeps (code_written (IsUnder O) k p (Some h) a (some o)) O (λ g under. under)

  pub unfolding_sleeps : (k : Kinds) (p : Place) (h : ℕ) (a : e.Opened) → O h → Sleeps O (unfolding_code k p (Some h) a)
  unfolding_sleeps k p h a o = written_sleeps (unfolding_written (IsUnder O) k p (Some h) a (some o)) O (λ g under. under)

  pub codes_sleep : (k : Kinds) (p : Place) (h : ℕ) (xs : e.Exprs) → O h → Sleeps O (codes k p (Some h) xs)
  codes_sleep k p h xs o = written_sleeps (codes_written (IsUnder O) k p (Some h) xs (some o)) O (λ g under. under)

  pub amount_sleeps : (k : Kinds) (p : Place) (h : ℕ) (m : e.Amt) → O h → Sleeps O (amount_code k p (Some h) m)
  amount_sleeps k p h m o = written_sleeps (amount_written (IsUnder O) k p (Some h) m (some o)) O (λ g under. under)

  pub body_sleeps : (k : Kinds) (p : Place) (h : ℕ) (scale : t.BExpr) (a : e.Assertion) (from : ℕ) → O h → Sleeps O (body_code k p (Some h) scale a from)
  body_sleeps k p h scale a from o = written_sleeps (body_written (IsUnder O) k p (Some h) scale a from (some o)) O (λ g under. under)
