-- Pieces of code have what their parts have.
use Rattle.std.proofs.Common.{◌≡◌, ◌+◌, ◌≤◌, ℕ, Bool, true, false, List, [], ◌∷◌, ◌++◌, Some, None, refl, arith, if◌then◌else◌}
use Rattle.std.specs.Prelude.{⊤, pos}
use Rattle.vb_base.specs.declared.labels.Label.{Label}
use Rattle.vb_base.specs.declared.labels.Kind.TheVariants as kind
use Rattle.vb_base.specs.declared.places.Pos.{Pos}
use Rattle.vb_value.specs.declared.values.Ty.{Ty}
use Rattle.boogie_tree.specs.Expr as t
use Rattle.boogie_tree.specs.Stmt as s
use Rattle.boogie_tree.specs.Stmt.{BStmts}
use Rattle.boogie_tree.specs.Program.{BType}
use Rattle.boogie_tree.specs.declared.exprs.BOp.TheVariants as op
use Rattle.boogie_tree.specs.Values.{plain_type}
use Rattle.enc_expr.specs.Place.{Maps, Place, number}
use Rattle.enc_expr.specs.Code.{Emitting, join, gives, then_emit, declares, declares_all, Guard, guarded, under, puts, guards}
use Rattle.enc_expr.specs.Pieces.{Operand, Atom, Located, is_atom, in_local, atomic, located_from, located, variables, index, one, label, is_one, is_amount_literal, is_divisor_literal, unless_known, check_nonnegative, check_positive, check_divisor, scaled, if_positive, add_to}
use Rattle.enc_expr.specs.Encoding.{read_checks, copies, copy_state, taking, is_unit, take_value, set_value, fill_place_code, fill_instance_code, fill_by, pair_code}
use Rattle.enc_expr.proofs.Property.{Property}

-- of a type without a proposition
abbrev pub Any : {X : Type 0} → X → Type 0
Any x = ⊤

module _ (K : Property) where
  open K use {expr, exprs, stmt, block, more_in, more_in_block, atom, var, zero, zero_real, one_real, null, unit, not, binary, at, content, pair, none, more, assign, put, havoc, assume, assert, branch, skip, first, joined}

  -- ---- statements

  pub one_has : {d : ℕ} {x : s.BStmt} → stmt d x → block d (one x)
  one_has h = more_in_block (first h skip) (omega arith)

  pub guarded_has : {k : ℕ} (g : Guard) (xs : BStmts) → block k xs → block (1 + k) (guarded g xs)
  guarded_has None xs h = more_in_block h (omega arith)
  guarded_has (Some g) s.skip h = more_in_block skip (omega arith)
  guarded_has (Some g) (s.first x xs) h = more_in_block (one_has (branch (var g) h skip)) (omega arith)

  unless_has : {k : ℕ} {xs : BStmts} (known : Bool) → block k xs → block k (unless_known known xs)
  unless_has true h = more_in_block skip (omega arith)
  unless_has false h = h

  -- ---- indices

  variables_have : (is : List ℕ) → exprs 0 (variables is)
  variables_have [] = none
  variables_have (i ∷ is) = more (var i) (variables_have is)

  pub index_has : (is : List ℕ) → exprs 0 (index is)
  index_has [] = more zero none
  index_has (i ∷ is) = variables_have (i ∷ is)

  -- ---- what is checked

  pub check_divisor_has : (l : Label) (d : t.BExpr) → expr 0 d → block 1 (check_divisor l d)
  check_divisor_has l d h = unless_has (is_divisor_literal d) (one_has (assert (binary h zero)))

  pub check_positive_has : (l : Label) (q : t.BExpr) → expr 0 q → block 1 (check_positive l q)
  check_positive_has l q h = unless_has (is_one q) (one_has (assert (binary h zero_real)))

  pub check_nonnegative_has : (l : Label) (q : t.BExpr) → expr 0 q → block 1 (check_nonnegative l q)
  check_nonnegative_has l q h = unless_has (is_amount_literal q) (one_has (assert (binary h zero_real)))

  pub read_checks_have : (p : Place) (f : ℕ) (part : Pos) (x : t.BExpr) → expr 0 x → block 2 (read_checks p f part x)
  read_checks_have p f part x h = more_in_block (first (assert (binary h null)) (one_has (assert (binary (at (more h none)) zero_real)))) (omega arith)

  -- ---- maps of a state of their own

  pub copies_have : (xs ys : List ℕ) (i : ℕ) → block 0 (copies xs ys i)
  copies_have [] ys i = skip
  copies_have (x ∷ xs) ys i = first (assign (var _)) (copies_have xs ys (i + 1))

  pub copy_state_has : (m l : Maps) → block 0 (copy_state m l)
  copy_state_has m l = joined (copies m.heap l.heap 0) _ (copies_have m.heap l.heap 0) (joined (copies m.mask l.mask 0) _ (copies_have m.mask l.mask 0)
      (joined (copies m.amount l.amount 0) _ (copies_have m.amount l.amount 0) (copies_have m.content l.content 0)))

  pub taking_has : (p : Place) (m : Maps) (sets : BStmts) (q : ℕ) (key : t.BExprs) (amount : t.BExpr) (from : ℕ) (part : Pos) → block 0 sets → exprs 0 key → expr 0 amount → block 2 (taking p m sets q key amount from part)
  taking_has p m sets q key amount from part s h i =
      joined (check_positive (label p part kind.Amount) amount) _ (more_in_block (check_positive_has (label p part kind.Amount) amount i) (omega arith))
      (more_in_block (first {k = 2} (assert (binary (at h) i)) (joined sets _ (more_in_block s (omega arith)) (more_in_block (first (put h (binary (at h) i)) (one_has (assign (at h)))) (omega arith)))) (omega arith))

  -- ---- filling

  pub scaled_has : (scale q : t.BExpr) → expr 0 scale → expr 0 q → expr 1 (scaled scale q)
  scaled_has scale q h i = by_literals (is_one scale) (is_one q)
    where
      by_literals : (p r : Bool) → expr 1 (if p then q else if r then scale else t.Bin op.Mul scale q)
      by_literals true r = more_in i (omega arith)
      by_literals false true = more_in h (omega arith)
      by_literals false false = binary h i

  if_positive_has : (k : ℕ) (q : t.BExpr) (xs ys : BStmts) → 1 ≤ k → expr 0 q → block k xs → block k ys → block (1 + k) (if_positive q xs ys)
  if_positive_has k q xs ys some h i j = by_literal (is_one q)
    where
      by_literal : (p : Bool) → block (1 + k) (if p then xs else one (s.If (t.Bin op.Gt q (t.Real (pos 0))) xs ys))
      by_literal true = more_in_block i (omega arith)
      by_literal false = more_in_block (one_has (branch (binary h zero_real) i j)) (omega (arith, some))

  pub add_to_has : (m : ℕ) (k : t.BExprs) (q : t.BExpr) → exprs 0 k → expr 1 q → block 2 (add_to m k q)
  add_to_has m k q h i = more_in_block (first (assume (binary (at h) zero_real)) (one_has (put h (binary (at h) i)))) (omega arith)

  set_value_has : (held m : ℕ) (k : t.BExprs) (v : ℕ) → exprs 0 k → block 3 (set_value held m k v)
  set_value_has held m k v h = more_in_block (first (assume (binary (binary (at h) zero_real) (binary (at h) (var v)))) (one_has (put h (var v)))) (omega arith)

  take_value_has : (u : Ty) (x : t.BExpr) (v from : ℕ) → expr 0 x → block 2 (take_value u x v from)
  take_value_has u x v from h = more_in_block (first (assume (binary h null)) (first (havoc v) (one_has (assume (binary (var from) (content u (var v))))))) (omega arith)

  pub fill_place_has : (p : Place) (scale : t.BExpr) (u : Ty) (f : ℕ) (x q : t.BExpr) (v from : ℕ) → expr 0 scale → expr 0 x → expr 0 q → block 3 (fill_place_code p scale u f x q v from)
  fill_place_has p scale u f x q v from h i j =
      let heap = number p.now.heap f in let mask = number p.now.mask f in
      let key : exprs 0 (t.more x t.none) = more i none in
      joined (take_value u x v from) _ (more_in_block (take_value_has u x v from i) (omega arith)) (joined (set_value mask heap (t.more x t.none) v) _ (set_value_has mask heap (t.more x t.none) v key)
      (joined (add_to mask (t.more x t.none) (scaled scale q)) _ (more_in_block (add_to_has mask (t.more x t.none) (scaled scale q) key (scaled_has scale q h j)) (omega arith))
      (more_in_block (one_has (assume (binary (at key) one_real))) (omega arith))))

  pub fill_instance_has : (p : Place) (scale : t.BExpr) (q : ℕ) (key : t.BExprs) (amount : t.BExpr) (from : ℕ) → expr 0 scale → exprs 0 key → expr 0 amount → block 3 (fill_instance_code p scale q key amount from)
  fill_instance_has p scale q key amount from h i j = joined (set_value (number p.now.amount q) (number p.now.content q) key from) _ (set_value_has (number p.now.amount q) (number p.now.content q) key from i)
      (more_in_block (add_to_has (number p.now.amount q) key (scaled scale amount) i (scaled_has scale amount h j)) (omega arith))

  pub only_unit_has : (from : ℕ) → block 1 (one (s.Assume (is_unit from)))
  only_unit_has from = one_has (assume (binary (var from) unit))

  pub fill_by_has : (p : Place) (part : Pos) (q : t.BExpr) (from : ℕ) (xs : BStmts) → expr 0 q → block 3 xs → block 4 (fill_by p part q from xs)
  fill_by_has p part q from xs h i = joined (check_nonnegative (label p part kind.Negative) q) _ (more_in_block (check_nonnegative_has (label p part kind.Negative) q h) (omega arith))
      (if_positive_has 3 q xs (one (s.Assume (is_unit from))) (omega arith) h i (more_in_block (only_unit_has from) (omega arith)))

  pub pair_code_has : (from l r : ℕ) → block 2 (pair_code from l r)
  pair_code_has from l r = more_in_block (first (havoc l) (first (havoc r) (one_has (assume (binary (var from) (pair (var l) (var r))))))) (omega arith)

  -- ---- by the ways of writing

  -- an atom, and the statements that set it
  pub record IsAtom (d : ℕ) (a : Atom) : Type 0 where
    pub expr : K.expr 0 a.expr
    pub sets : K.block d a.sets

  abbrev pub AreAll : ℕ → List Operand → Type 0
  AreAll d [] = ⊤
  AreAll d (x ∷ xs) = expr d x.expr × AreAll d xs

  -- The statements have the property, with at most so many brackets, and what is handed on has one of its own.
  pub record IsCode (top : ℕ) {X : Type 0} (P : X → Type 0) (m : Emitting X) : Type 0 where
    pub stmts : (n : ℕ) → K.block top (m n).stmts
    pub value : (n : ℕ) → P (m n).value

  pub higher : {k j : ℕ} {X : Type 0} {P : X → Type 0} {m : Emitting X} → k ≤ j → IsCode k P m → IsCode j P m
  higher few h = record { stmts = λ n. more_in_block (h.stmts n) few; value = h.value }

  module _ (top : ℕ) where
    pub gives_has : {X : Type 0} {P : X → Type 0} {x : X} → P x → IsCode top P (gives x)
    gives_has h = record { stmts = λ n. more_in_block skip (omega arith); value = λ n. h }

    pub then_has : {X Y : Type 0} {P : X → Type 0} {Q : Y → Type 0} {m : Emitting X} {go : X → Emitting Y} → IsCode top P m → ((x : X) → P x → IsCode top Q (go x)) → IsCode top Q (then_emit m go)
    then_has {m = m} {go = go} h g = record {
      stmts = λ n. joined (m n).stmts (go (m n).value (m n).next).stmts (h.stmts n) ((g (m n).value (h.value n)).stmts (m n).next);
      value = λ n. (g (m n).value (h.value n)).value (m n).next;
    }

    pub map_has : {X : Type 0} {P Q : X → Type 0} {m : Emitting X} → IsCode top P m → ((x : X) → P x → Q x) → IsCode top Q m
    map_has {m = m} h go = record { stmts = h.stmts; value = λ n. go (m n).value (h.value n) }

    pub declares_has : (u : BType) → IsCode top Any (declares u)
    declares_has u = record { stmts = λ n. more_in_block skip (omega arith); value = λ n. tt }

    pub declares_all_has : (us : List BType) → IsCode top Any (declares_all us)
    declares_all_has us = record { stmts = λ n. more_in_block skip (omega arith); value = λ n. tt }

    pub puts_has : (k : ℕ) (g : Guard) (xs : BStmts) → block k xs → 1 + k ≤ top → IsCode top Any (puts g xs)
    puts_has k g xs h few = record { stmts = λ n. more_in_block (guarded_has g xs h) few; value = λ n. tt }

    -- under no guard there is no bracket more
    pub bare_has : (xs : BStmts) → block top xs → IsCode top Any (puts None xs)
    bare_has xs h = record { stmts = λ n. h; value = λ n. tt }

    under_has : (d : ℕ) (g : Guard) (x : t.BExpr) → expr d x → 1 + d ≤ top → expr top (under g x)
    under_has d None x h few = more_in h (omega (arith, few))
    under_has d (Some g) x h few = more_in (binary (var g) h) (omega (arith, few))

    pub guards_has : (d : ℕ) (g : Guard) (x : t.BExpr) → expr d x → 1 + d ≤ top → IsCode top Any (guards g x)
    guards_has d g x h few = record { stmts = λ n. one_has (assign (under_has d g x h few)); value = λ n. tt }

    in_local_has : (d : ℕ) (x : Operand) → expr d x.expr → IsCode top (IsAtom d) (in_local x)
    in_local_has d x h = then_has (declares_has (plain_type x.base)) (λ i any. gives_has (record { expr = var i; sets = one_has (assign h) }))

    pub atomic_has : (d : ℕ) (x : Operand) → expr d x.expr → IsCode top (IsAtom d) (atomic x)
    atomic_has d x h = either (is_atom x.expr) refl
      where
        either : (q : Bool) → is_atom x.expr ≡ q → IsCode top (IsAtom d) (λ n. if q then gives (record { expr = x.expr; sets = s.skip }) n else in_local x n)
        either true is = gives_has (record { expr = atom is h; sets = more_in_block skip (omega arith) })
        either false is = in_local_has d x h

    located_from_has : (d : ℕ) (x : Operand) (a : t.BExpr) → expr d x.expr → IsCode top (λ (l : Located). block d l.sets) (located_from x a)
    located_from_has d x (t.Var i) h = gives_has (more_in_block skip (omega arith))
    located_from_has d x a h = new_local x h
      where
        new_local : (x : Operand) → expr d x.expr → IsCode top (λ (l : Located). block d l.sets) (then_emit (declares (plain_type x.base)) (λ i. gives (record { locals = i ∷ []; sets = s.first (s.Assign i x.expr) s.skip })))
        new_local x h = then_has (declares_has (plain_type x.base)) (λ i any. gives_has (one_has (assign h)))

    pub located_has : (d : ℕ) (xs : List Operand) → AreAll d xs → IsCode top (λ (l : Located). block d l.sets) (located xs)
    located_has d [] h = gives_has (more_in_block skip (omega arith))
    located_has d (x ∷ xs) h = then_has (located_from_has d x x.expr h.0) (λ a k. then_has (located_has d xs h.1) (λ l i. gives_has {x = record { locals = a.locals ++ l.locals; sets = join a.sets l.sets }} (joined a.sets l.sets k i)))
