-- Forms of expressions that may fail: divisions, and reading a field.
use Rattle.std.proofs.Common.{◌≡◌, ◌≤◌, ◌==◌, ℕ, ℤ, pos, Bool as Truth, true, false, not, List, [], ◌∷◌, Some, IfSome, slice_get, if◌then◌else◌, refl, sym, ap, subst, ◌∙◌, arith}
use Rattle.std.specs.Ordering.{int_eq, nat_cmp}
use Rattle.std.proofs.lemmas.Bool.{true≢false}
use Rattle.std.proofs.lemmas.Bool.Decides.{Decides-int_eq}
use Rattle.std.proofs.lemmas.Option.{same_Some}
use Rattle.sparse.specs.Map.{Map, get}
use Rattle.vb_base.specs.declared.labels.Kind.TheVariants as kind
use Rattle.vb_base.specs.declared.places.Pos.{Pos}
use Rattle.vb_value.specs.Bound.{Bound}
use Rattle.vb_value.specs.Fraction.{IsProperFraction, is_none}
use Rattle.vb_value.specs.Value.{type_of, IsProperValue}
use Rattle.vb_value.specs.declared.values.Ty.{Ty}
use Rattle.vb_value.specs.declared.values.Ty.TheVariants as ty
use Rattle.vb_value.specs.declared.values.Value.{Value}
use Rattle.vb_value.specs.declared.values.Value.TheVariants as v
use Rattle.viper_core.specs.declared.exprs.Op.{Op}
use Rattle.viper_core.specs.declared.exprs.Op.TheVariants as o
use Rattle.viper_core.specs.Typing.{Context, value_type}
use Rattle.viper_state.specs.Event.{Event}
use Rattle.viper_state.specs.State.{State, found_at, mask_at}
use Rattle.viper_state.specs.Run.{Scene}
use Rattle.viper_state.proofs.EachLaws.{mask_has}
use Rattle.viper_state.proofs.FitsLaws.{value_found}
use Rattle.viper_meaning.specs.Ends.{Evaluated, fails, then_with, found}
use Rattle.viper_meaning.specs.Kept.{Keeps}
use Rattle.viper_meaning.specs.Operators.{Division, class_of, ref_of, divided, in_class}
use Rattle.viper_meaning.specs.Places.{read_field}
use Rattle.viper_meaning.specs.Value.{as_ref}
use Rattle.viper_meaning.proofs.SignLaws.{any_value}
use Rattle.boogie_tree.specs.Expr as t
use Rattle.boogie_tree.specs.Program.{BType}
use Rattle.boogie_tree.specs.Stmt as stmt
use Rattle.boogie_tree.specs.Stmt.{BStmts}
use Rattle.boogie_tree.specs.Value as w
use Rattle.boogie_tree.specs.Value.{BChoice}
use Rattle.boogie_tree.specs.declared.exprs.BOp.TheVariants as op
use Rattle.boogie_meaning.specs.Ends as end
use Rattle.boogie_meaning.specs.Operators as m
use Rattle.boogie_meaning.specs.Quantified.{bvalue, bkey}
use Rattle.boogie_meaning.specs.Run.{Run, Done, Stops, Failed, brun}
use Rattle.moves.specs.Maps.{place_key}
use Rattle.enc_expr.specs.Place.{Place, number}
use Rattle.moves.specs.Scalars.{base_for}
use Rattle.enc_expr.specs.Kinds.{kinds_in, type_at}
use Rattle.enc_expr.specs.Code.{Emitting, join, gives, then_emit, Guard, guarded, puts}
use Rattle.enc_expr.specs.Pieces.{Operand, atomic, at_one, one, label, zero_real, check_divisor}
use Rattle.enc_expr.specs.Operators.{quotient_operand, division, in_class_code}
use Rattle.enc_expr.specs.Encoding.{read_checks, read_code}
use Rattle.enc_expr.specs.Coupling.{Env, MapKind, HasMap, heap_kind, mask_kind, IsReady, IsCoupled}
use Rattle.enc_expr.specs.Alike as a
use Rattle.enc_expr.specs.Alike.{Alike, Kept, Agree, IsValued}
use Rattle.enc_expr.proofs.Simulated.{IsCounted, Computes, value, over}
use Rattle.enc_expr.proofs.RunLaws.{join_skip, join_done, guarded_awake, assert_run, atom_value, atom_agrees}
use Rattle.enc_expr.proofs.AlikeLaws.{is_alike}
use Rattle.enc_expr.proofs.FrameLaws.{map_moved, coupled_kept, locals_first}
use Rattle.enc_expr.proofs.CodeLaws.{atomic_counted}
use Rattle.enc_expr.proofs.AtomLaws.{atomic_set}
use Rattle.enc_expr.proofs.MapLaws.{found_in_map, read_map}
use Rattle.enc_expr.proofs.OperatorLaws.{plain_value, division_computes}
use Rattle.enc_expr.proofs.AmountLaws.{then_again, some_test, divisor_check}
use Rattle.enc_expr.proofs.OpeningLaws.{after_nothing, alike_run, alike_of, found_alike, unless_alike, fails_alike}
use Rattle.enc_expr.proofs.UnfoldingLaws.{quiet_alike, atomic_quiet}
use Rattle.enc_expr.proofs.FormLaws.{HasValue, value_more, Reads, Goes, goes_then}

-- ---- values of a type

pub int_is : (z : Value) → type_of z ≡ ty.Int → (d : ℤ) × (z ≡ v.Int d)
int_is (v.Int d) typed = (d, refl)
int_is z typed = absurd cc

ref_alike : {b : Bound} {Y : Type 0} {Q : Y → Env → Type 0} {cs : List BChoice} {r : Run} (z : Value) (k : ℕ → Evaluated Y) → type_of z ≡ ty.Ref → ((q : ℕ) → z ≡ v.Ref q → Alike Q b (k q) cs r) → Alike Q b (then_with (ref_of z) k) cs r
ref_alike (v.Ref q) k typed h = alike_of (after_nothing (k q)) (h q refl)
ref_alike z k typed h = absurd cc

-- ---- divisions

-- by 0 each of them fails
pub division_fails : (b : Bound) (sc : Scene) (f : Op) (z : Value) (at : Pos) (u : Ty) → class_of f ≡ Division → value_type f (type_of z) ty.Int ≡ Some u → divided b sc f z (v.Int (pos 0)) at ≡ fails sc at kind.Div
division_fails b sc o.Divide (v.Int x) at u class typed = refl
division_fails b sc o.Divide (v.Perm q) at u class typed = refl
division_fails b sc o.IntDiv (v.Int x) at u class typed = refl
division_fails b sc o.IntMod (v.Int x) at u class typed = refl
division_fails b sc f z at u class typed = absurd cc

-- what is computed after new locals are set
computes_alike : {b : Bound} {K : Env → Type 0} {e : Evaluated Value} (z : Operand) (u : Ty) (n i : ℕ) (E F : Env) (cs : List BChoice) → Computes b u z K e → Kept n E F → ((G : Env) → Agree i F G → K G) → Alike (IsValued b n i z u E) b e cs (Done F cs)
computes_alike z u n i E F cs (value typed base h) kept k = is_alike (record { kept = kept; typed = typed; here = λ G agree. h G (k G agree) })
computes_alike z u n i E F cs (over bounded) kept k = a.over bounded (record { same = refl })

-- the value at a key of a map of Viper is that of its map of Boogie
pub found_value : {K V : Type 0} (k : MapKind K V) (b : Bound) (n x : ℕ) (maps : List (Map K V)) (i : ℕ) (E : Env) (j : K) (es : t.BExprs) (z : V) → HasMap k n x maps i E → k.Counts j → bkey b es E ≡ end.Is (k.key j) → found_at k.cmp maps i j ≡ Some z →
    bvalue b (t.At x es) E ≡ end.Is (k.code z)
found_value k b n x maps i E j es z h counts key there =
    read_map k b n x maps i E j es h counts key ∙ ap (λ z. end.Is (k.code z)) (same_Some _ _ (sym (found_in_map k n x maps i E j h) ∙ there))

pub place_index : (b : Bound) (x : t.BExpr) (r : ℕ) (E : Env) → bvalue b x E ≡ end.Is (w.Ref r) → bkey b (t.more x t.none) E ≡ end.Is (place_key r)
place_index b x r E h = λ j. end.then_with (h j) (λ q. end.then_with (m.part_of q) (λ p. end.Is (p ∷ [])))

module _ (ts : List BType) (b : Bound) (c : Context) (p : Place) (g : Guard) (s : State) (sc : Scene) where
  -- statements under the guard, the first of which set new locals
  put_run : (n : ℕ) (sets xs : BStmts) (E F : Env) (cs : List BChoice) → IsReady ts g n [] E → brun ts b sets E cs ≡ Done F cs → brun ts b (join (guarded g (join sets xs)) stmt.skip) E cs ≡ brun ts b xs F cs
  put_run n sets xs E F cs ready done =
      ap (λ ys. brun ts b ys E cs) (join_skip (guarded g (join sets xs))) ∙ guarded_awake ts b g n (join sets xs) E cs ready.awake ∙ join_done ts b sets xs E F cs cs done

  division_goes : (f : Op) (at : Pos) (x y : Operand) (z : Value) (d : ℤ) (l u : Ty) → class_of f ≡ Division → value_type f (type_of z) ty.Int ≡ Some u → IsProperValue b z → (n : ℕ) (E : Env) (cs : List BChoice) → IsCoupled b c n p s sc E →
      IsReady ts g n (division p g f at x y n).locals E → HasValue b n x l E z → HasValue b n y ty.Int E (v.Int d) → Goes ts b c n E (division p g f at x y) u (divided b sc f z (v.Int d) at) cs
  division_goes f at x y z d l u class typed proper n E cs coupled ready hx hy =
      let q = atomic y n in let i = q.next in let to = label p at kind.Div in
      let set = atomic_set ts b n E ready.full y (w.Int d) hy.held (locals_first ts n q.locals [] ready.locals) in
      let F = set.after in
      let low : n ≤ i = omega (arith, (atomic_counted y).next n) in
      let R : Value → Env → Type 0 = IsValued b n i (quotient_operand f x q.value.expr) u E in
      let run : brun ts b (join (guarded g (join q.value.sets (check_divisor to q.value.expr))) stmt.skip) E cs ≡ (if not (int_eq d (pos 0)) then Done F cs else Stops (Failed to) cs) =
      put_run n q.value.sets (check_divisor to q.value.expr) E F cs (record { awake = ready.awake; full = ready.full; locals = tt }) (set.sets.done cs) ∙ divisor_check ts b i to q.value.expr d F cs set.atom in
      let by_test : (t : Truth) → int_eq d (pos 0) ≡ t → Alike R b (divided b sc f z (v.Int d) at) cs (if not t then Done F cs else Stops (Failed to) cs) =
      λ t. elim t as (λ t. int_eq d (pos 0) ≡ t → Alike R b (divided b sc f z (v.Int d) at) cs (if not t then Done F cs else Stops (Failed to) cs)) [
        | true ↦ λ same. alike_of (ap (λ d. divided b sc f z (v.Int d) at) ((Decides-int_eq d (pos 0)).0 same) ∙ division_fails b sc f z at u class typed) (fails_alike p sc at kind.Div coupled.at)
        | false ↦ λ same. computes_alike (quotient_operand f x q.value.expr) u n i E F cs
            (division_computes b sc f x (record { expr = q.value.expr; base = y.base }) z d at u class typed (hx.base ∙ ap base_for (sym hx.typed)) hy.base proper (λ zero. absurd (true≢false (sym ((Decides-int_eq d (pos 0)).1 zero) ∙ same))))
            set.sets.kept
            (λ G agree. record { left = record { value = (value_more low set.sets.kept.same hx).held.value G agree }; right = record { value = atom_value b i G q.value.expr (w.Int d) (atom_agrees agree set.atom) } })
      ] in
      quiet_alike ts b (atomic y) (λ k. then_emit (puts g (join k.sets (check_divisor to k.expr))) (λ u. gives (quotient_operand f x k.expr))) n E cs (atomic_quiet y n) (alike_run run (by_test (int_eq d (pos 0)) refl))

  -- the dividend has to be proper
  pub division_reads : {W : Event → Type 0} (f : Op) (at : Pos) (left : Emitting Operand) (right : Guard → Emitting Operand) (e h : Evaluated Value) (l u : Ty) → class_of f ≡ Division → value_type f l ty.Int ≡ Some u → IsCounted left → IsCounted (right g) →
      ((n : ℕ) → (left n).value.base ≡ base_for l) → ((n : ℕ) → (right g n).value.base ≡ base_for ty.Int) → Reads ts b c p g s sc left e l → Keeps W (IsProperValue b) e → Reads ts b c p g s sc (right g) h ty.Int →
      Reads ts b c p g s sc (in_class_code Division p g f at left right) (in_class Division b sc f e h at) u
  division_reads f at left right e h l u class typed counted counted2 based based2 reads proper reads2 = record {
    alike = λ n E cs coupled ready.
        goes_then ts b c p g s sc left (λ x. then_emit (right g) (λ y. division p g f at x y)) e (λ z. then_with h (λ w. divided b sc f z w at)) l u counted based reads proper n E cs coupled ready (λ F z rest i.
        let x = (left n).value in let n1 = (left n).next in
        goes_then ts b c p g s sc (right g) (λ y. division p g f at x y) h (λ w. divided b sc f z w at) ty.Int u counted2 based2 reads2 (any_value h) n1 F rest i.coupled i.ready (λ G y last j.
        let d = int_is y j.has.typed in let n2 = (right g n1).next in
        alike_of (ap (λ y. divided b sc f z y at) d.1) (division_goes f at x (right g n1).value z d.0 l u class (ap (λ q. value_type f q ty.Int) i.has.typed ∙ typed) i.law n2 G last j.coupled j.ready (value_more j.more j.kept.same i.has)
        (subst (λ (k : Value). HasValue b n2 (right g n1).value ty.Int G k) d.1 j.has))));
  }

  -- ---- reading a field

  read_goes : (f : ℕ) (at : Pos) (u : Ty) (x : Operand) (r : ℕ) → slice_get c.program.layout.fields f ≡ Some u → (n : ℕ) (E : Env) (cs : List BChoice) → IsCoupled b c n p s sc E → IsReady ts g n (read_code (kinds_in c) p g f at x n).locals E →
      HasValue b n x ty.Ref E (v.Ref r) → Goes ts b c n E (read_code (kinds_in c) p g f at x) u (read_field sc s f at r) cs
  read_goes f at u x r there n E cs coupled ready hx =
      let q = atomic x n in let i = q.next in let y = q.value.expr in
      let set = atomic_set ts b n E ready.full x (w.Ref r) hx.held (locals_first ts n q.locals [] ready.locals) in
      let F = set.after in let kept = set.sets.kept in
      let low : n ≤ i = omega (arith, (atomic_counted x).next n) in
      let now = coupled_kept b c n i p s sc E F low kept coupled in
      let is_null = t.Bin op.Ne y t.Null in let is_held = t.Bin op.Ne (at_one (number p.now.mask f) y) zero_real in
      let heap = now.now.heap f u there in let mask = now.now.mask f u there in
      let here : bvalue b y F ≡ end.Is (w.Ref r) = atom_value b i F y (w.Ref r) set.atom in
      let held = get nat_cmp mask.m r in
      let held_there : mask_at s f r ≡ Some held = found_in_map mask_kind i (number p.now.mask f) s.mask f F r mask in
      let has : IfSome (mask_at s f r) (IsProperFraction b) = mask_has coupled.sound.proper f r in
      let proper : IsProperFraction b held = subst (λ o. IfSome o (IsProperFraction b)) held_there has in
      let null_test : bvalue b is_null F ≡ end.Is (w.Bool (not (r == 0))) = plain_value b op.Ne y t.Null (w.Ref r) (w.Ref 0) F refl here refl in
      let mask_value = found_value mask_kind b i (number p.now.mask f) s.mask f F r (t.more y t.none) held mask tt (place_index b y r F here) held_there in
      let held_test : bvalue b is_held F ≡ end.Is (w.Bool (not (is_none held))) = plain_value b op.Ne (at_one (number p.now.mask f) y) zero_real _ _ F refl mask_value refl ∙ some_test b held proper in
      let z = value_found coupled.sound.fits f r u there in
      let rest = one (stmt.Assert (label p at kind.Perm) is_held) in
      quiet_alike ts b {Y = Operand} (atomic x) (λ k. then_emit (puts g (join k.sets (read_checks p f at k.expr))) (λ o. gives (record { expr = at_one (number p.now.heap f) k.expr; base = base_for (type_at c.program.layout.fields f) }))) n E cs (atomic_quiet x n) (
      alike_run (put_run n q.value.sets (read_checks p f at y) E F cs (record { awake = ready.awake; full = ready.full; locals = tt }) (set.sets.done cs)) (
      unless_alike (r == 0)
      (λ null. alike_run (assert_run ts b (label p at kind.Null) is_null false rest F cs (null_test ∙ ap (λ (t : Truth). end.Is (w.Bool (not t))) null)) (fails_alike p sc at kind.Null coupled.at))
      (λ null. alike_run (assert_run ts b (label p at kind.Null) is_null true rest F cs (null_test ∙ ap (λ (t : Truth). end.Is (w.Bool (not t))) null)) (
      found_alike (mask_at s f r) held _ held_there (
      unless_alike (is_none held)
      (λ nothing. alike_run (assert_run ts b (label p at kind.Perm) is_held false stmt.skip F cs (held_test ∙ ap (λ (t : Truth). end.Is (w.Bool (not t))) nothing)) (fails_alike p sc at kind.Perm coupled.at))
      (λ nothing. alike_run (assert_run ts b (label p at kind.Perm) is_held true stmt.skip F cs (held_test ∙ ap (λ (t : Truth). end.Is (w.Bool (not t))) nothing)) (
      alike_of (ap found z.1.0) (is_alike (record {
        kept = kept;
        typed = z.1.1.typed;
        here = λ G agree. found_value (heap_kind u) b i (number p.now.heap f) s.heap f G r (t.more y t.none) z.0 (map_moved heap.below (agree _ heap.below) heap) tt
            (place_index b y r G (atom_value b i G y (w.Ref r) (atom_agrees agree set.atom))) z.1.0;
      })))))))))

  pub field_reads : (f : ℕ) (at : Pos) (u : Ty) (k : Emitting Operand) (e : Evaluated Value) → slice_get c.program.layout.fields f ≡ Some u → IsCounted k → ((n : ℕ) → (k n).value.base ≡ base_for ty.Ref) → Reads ts b c p g s sc k e ty.Ref →
      Reads ts b c p g s sc (then_emit k (read_code (kinds_in c) p g f at)) (then_with (as_ref e) (read_field sc s f at)) u
  field_reads f at u k e there counted based reads = record {
    alike = λ n E cs coupled ready.
        alike_of (then_again e ref_of (read_field sc s f at)) (
        goes_then ts b c p g s sc k (read_code (kinds_in c) p g f at) e (λ z. then_with (ref_of z) (read_field sc s f at)) ty.Ref u counted based reads (any_value e) n E cs coupled ready (λ F z rest i.
        ref_alike z (read_field sc s f at) i.has.typed (λ r same. read_goes f at u (k n).value r there (k n).next F rest i.coupled i.ready (subst (λ (y : Value). HasValue b (k n).next (k n).value ty.Ref F y) same i.has))));
  }
