-- The rows of producing a body from a content. What the parts are is given: expressions simulate, amounts are proper, and the
-- state after the row is sound (the laws of the meaning say so).
use Rattle.std.proofs.Common.{◌≡◌, ◌≢◌, ◌≤◌, ℕ, Bool as Truth, true, false, List, [], ◌∷◌, ◌++◌, All, Some, slice_get, refl, sym, ap, subst, ◌∙◌, arith, if◌then◌else◌}
use Rattle.std.proofs.lemmas.Option.{get_or_from_slice_get}
use Rattle.vb_base.specs.declared.places.Pos.{Pos}
use Rattle.vb_value.specs.Bound.{Bound}
use Rattle.vb_value.specs.Content.{Content}
use Rattle.vb_value.specs.Fraction.{Fraction, IsProperFraction}
use Rattle.vb_value.specs.declared.values.Ty.{Ty}
use Rattle.vb_value.specs.declared.values.Ty.TheVariants as ty
use Rattle.viper_core.specs.Expr as e
use Rattle.viper_core.specs.Typing.{Context}
use Rattle.viper_state.specs.Run.{Scene}
use Rattle.viper_state.specs.Event.{Event}
use Rattle.viper_meaning.specs.Kept.{Keeps, IsAny}
use Rattle.viper_meaning.specs.Value.{as_ref, value, values, amount_of, opened}
use Rattle.boogie_tree.specs.Expr as t
use Rattle.boogie_tree.specs.Program.{BType}
use Rattle.boogie_tree.specs.Stmt as stmt
use Rattle.boogie_tree.specs.Value as bv
use Rattle.boogie_tree.specs.Value.{BChoice, Real}
use Rattle.boogie_meaning.specs.Run.{Run, Done, brun}
use Rattle.vb_value.specs.Value.{type_of}
use Rattle.vb_value.specs.declared.values.Value.{Value}
use Rattle.vb_value.specs.declared.values.Value.TheVariants as v
use Rattle.viper_meaning.specs.Ends.{Evaluated, is, blocks, found, then_with}
use Rattle.viper_meaning.specs.Operators.{ref_of, truth_of}
use Rattle.viper_meaning.specs.Places.{key_of, in_front, unit_of, fill_place, fill_instance}
use Rattle.vb_value.specs.declared.keys.KeyPart.TheVariants as part
use Rattle.vb_value.specs.Content as content
use Rattle.viper_state.specs.Fits.{FitsKey}
use Rattle.viper_state.specs.State.{Key, State}
use Rattle.std.proofs.lemmas.List.Elements.{All-head, All-tail}
use Rattle.boogie_meaning.specs.Ends as end
use Rattle.boogie_meaning.specs.Quantified.{bvalue}
use Rattle.moves.specs.Scalars.{scalar, variable_type}
use Rattle.enc_expr.specs.Place.{Place}
use Rattle.enc_expr.specs.Kinds.{kinds_in, type_at}
use Rattle.enc_expr.specs.Code.{join, then_emit, declares, Guard, puts}
use Rattle.enc_expr.specs.Pieces.{Operand, Atom, atomic, Located, located, index, one}
use Rattle.enc_expr.specs.Encoding.{is_unit, code, codes, body_code, acc_code, instance_code, fill_by, fill_place_code, fill_instance_code}
use Rattle.enc_expr.specs.Coupling.{Env, IsSound, IsCoupled, AreLocals, IsReady, IsOwn}
use Rattle.enc_expr.specs.Alike.{Alike, Kept, IsValued, AreValues, AreValued, IsScale, IsFilled, IsSource}
use Rattle.enc_expr.specs.Alike as alike
use Rattle.enc_expr.proofs.Simulated.{Simulates, Fills}
use Rattle.enc_expr.proofs.RunLaws.{then_done, join_done, guarded_awake, assume_run, atom_agrees}
use Rattle.enc_expr.proofs.AlikeLaws.{is_alike, then_alike, weaken_alike, kept_alike}
use Rattle.enc_expr.proofs.FrameLaws.{kept_then, but_from, but_then, locals_first, locals_rest, coupled_kept, awake_kept, ready_rest}
use Rattle.enc_expr.proofs.CodeLaws.{code_counted, codes_counted, body_counted, located_counted, atomic_counted}
use Rattle.enc_expr.proofs.AtomLaws.{Holds, holds_more, atomic_set, located_more, located_set, values_more}
use Rattle.enc_expr.proofs.OpeningLaws.{alike_run, alike_of, found_alike}
use Rattle.enc_expr.proofs.AmountLaws.{then_again}
use Rattle.enc_expr.proofs.FormLaws.{truth_alike}
use Rattle.enc_expr.proofs.InsideLaws.{atom_more}
use Rattle.enc_expr.proofs.UnfoldingLaws.{emit_alike, quiet_alike, located_quiet, atomic_quiet, perm_alike}
use Rattle.enc_expr.proofs.ChoiceLaws.{source_kept, scale_kept}
use Rattle.enc_expr.proofs.FillLaws.{IsChanged, changed_coupled, stopped_first, unit_alike, fill_place_alike, fill_instance_alike}

abbrev AnyEvent : Event → Type 0
AnyEvent v = IsAny v

-- ---- references

ref_is : {b : Bound} (Q : Value → Env → Type 0) {E : Env} {cs : List BChoice} (w : Value) → type_of w ≡ ty.Ref → Q w E → Alike (λ r F. Q (v.Ref r) F) b (ref_of w) cs (Done E cs)
ref_is Q (v.Ref r) typed h = is_alike h
ref_is Q (v.Int n) typed h = absurd (cc)
ref_is Q (v.Bool q) typed h = absurd (cc)
ref_is Q (v.Perm q) typed h = absurd (cc)

pub ref_alike : {b : Bound} {Q : Value → Env → Type 0} {e : Evaluated Value} {cs : List BChoice} {r : Run} → ((w : Value) (E : Env) → Q w E → type_of w ≡ ty.Ref) → Alike Q b e cs r → Alike (λ q E. Q (v.Ref q) E) b (as_ref e) cs r
ref_alike {Q} {r = r} typed h = alike_run (sym (then_done r)) (then_alike h (λ w E rest q. ref_is Q w (typed w E q) q))

-- ---- what stays as locals are added

-- values of these types, none of them Perm, make a key
pub key_typed : {b : Bound} {n : ℕ} {E : Env} {xs : List Operand} {us : List Ty} {vs : List Value} → AreValues b n E xs us vs → All (λ u. u ≢ ty.Perm) us → (key : Key) × ((Some key ≡ key_of vs) × FitsKey us key)
key_typed alike.AreValues.none h = ([], (refl, tt))
key_typed (alike.AreValues.more {u} {us} {v = w} {vs} typed here rest) h =
    let ks = key_typed rest (All-tail (λ u. u ≢ ty.Perm) u us h) in in_front_typed u us w vs typed (All-head (λ u. u ≢ ty.Perm) u us h) ks.0 ks.1.0 ks.1.1
  where
    in_front_typed : (u : Ty) (us : List Ty) (w : Value) (vs : List Value) → type_of w ≡ u → u ≢ ty.Perm → (key : Key) → Some key ≡ key_of vs → FitsKey us key → (key : Key) × ((Some key ≡ key_of (w ∷ vs)) × FitsKey (u ∷ us) key)
    in_front_typed u us (v.Int n) vs typed h key is_key fits = (part.Int n ∷ key, (ap (in_front (Some (part.Int n))) is_key, (typed, fits)))
    in_front_typed u us (v.Bool q) vs typed h key is_key fits = (part.Bool q ∷ key, (ap (in_front (Some (part.Bool q))) is_key, (typed, fits)))
    in_front_typed u us (v.Ref r) vs typed h key is_key fits = (part.Ref r ∷ key, (ap (in_front (Some (part.Ref r))) is_key, (typed, fits)))
    in_front_typed u us (v.Perm q) vs typed h key is_key fits = absurd (h (sym typed))

unit_blocks : (d : Content) → blocks ≡ then_with (unit_of d) (λ u. blocks {X = State})
unit_blocks content.Unit = refl
unit_blocks (content.Leaf w) = refl
unit_blocks (content.Pair x y) = refl

changed_after : {c : Context} {p : Place} {n m l : ℕ} {E F G : Env} {t : State} → n ≤ m → Kept n E F → IsChanged c p m l F t G → IsChanged c p n l E t G
changed_after within kept h = record { kept = but_then within (but_from kept) h.kept; now = h.now }

module _ (ts : List BType) (b : Bound) (c : Context) (p : Place) (g : Guard) (s : State) (sc : Scene) (scale : t.BExpr) (k : Fraction) where
  -- an expression of this type, read in the state
  abbrev pub Reads : e.Expr → Ty → Type 0
  Reads a u = Simulates ts b c p g s sc (code (kinds_in c) p g a) (value b a s sc) (λ n m x E. IsValued b n m x u E)

  -- what the row does keeps states sound
  abbrev pub IsKept : e.Assertion → Content → Type 0
  IsKept a d = Keeps AnyEvent (IsSound b c.program.layout) (opened b a d s sc k)

  -- the state after the row is sound
  filled_alike : (e : Evaluated State) (n m : ℕ) (E : Env) (cs : List BChoice) (run : Run) → IsOwn c p → n ≤ m → IsCoupled b c n p s sc E → Keeps AnyEvent (IsSound b c.program.layout) e →
      Alike (IsChanged c p n m E) b e cs run → Alike (IsFilled b c n m p sc E) b e cs run
  filled_alike e n m E cs run own within coupled kept h =
      weaken_alike (λ t F z. record { kept = z.0.kept; coupled = changed_coupled b c n m p s sc E F own within coupled t z.1 z.0 }) (kept_alike kept h)

  module _ (f : ℕ) (at : Pos) (d : Content) (from : ℕ) (own : IsOwn c p) where
    abbrev u : Ty
    u = type_at c.program.layout.fields f

    acc_alike : (x q : Operand) (r : ℕ) (w : Fraction) (n : ℕ) (E : Env) (cs : List BChoice) → slice_get c.program.layout.fields f ≡ Some u → IsCoupled b c n p s sc E → IsSource b n E from d → IsScale b n E scale k →
        Holds b n x.expr E (bv.Ref r) → Holds b n q.expr E (Real w) → IsProperFraction b w → (let z = acc_code (kinds_in c) p g scale f at from x q n in
        IsReady ts g n z.locals E → Alike (IsChanged c p n z.next E) b (fill_place b sc k f r w d at s) cs (brun ts b z.stmts E cs))
    acc_alike x q r w n E cs there coupled source scales ref amount proper = λ ready.
        let a = atomic x n in let n1 = a.next in let o = atomic q n1 in let n2 = o.next in
        let own_type = variable_type u in
        let fills = λ (y : Atom) (z : Atom) (i : ℕ). fill_by p at z.expr from (fill_place_code p scale u f y.expr z.expr i from) in
        let last = λ (y : Atom) (z : Atom). then_emit (declares own_type) (λ i. puts g (join y.sets (join z.sets (fills y z i)))) in
        let low : n ≤ n1 = omega (arith, (atomic_counted x).next n) in let high : n1 ≤ n2 = omega (arith, (atomic_counted q).next n1) in
        let at_a : AreLocals ts n1 (o.locals ++ (own_type ∷ [])) = subst (λ i. AreLocals ts i (o.locals ++ (own_type ∷ []))) ((atomic_counted x).next n) (locals_rest ts n a.locals (o.locals ++ (own_type ∷ [])) ready.locals) in
        let at_o : AreLocals ts n2 (own_type ∷ []) = subst (λ i. AreLocals ts i (own_type ∷ [])) ((atomic_counted q).next n1) (locals_rest ts n1 o.locals (own_type ∷ []) at_a) in
        let set1 = atomic_set ts b n E ready.full x (bv.Ref r) ref (locals_first ts n a.locals (o.locals ++ (own_type ∷ [])) ready.locals) in
        let F = set1.after in let k1 = set1.sets.kept in
        let set2 = atomic_set ts b n1 F (k1.length ∙ ready.full) q (Real w) (holds_more low k1.same amount) (locals_first ts n1 o.locals (own_type ∷ []) at_a) in
        let G = set2.after in let k2 = set2.sets.kept in
        let kept : Kept n E G = kept_then low k1 k2 in
        let within : n ≤ n2 = omega (arith, low, high) in
        let fill = fills a.value o.value n2 in
        quiet_alike ts b (atomic x) (λ y. then_emit (atomic q) (λ z. last y z)) n E cs (atomic_quiet x n) (
        quiet_alike ts b (atomic q) (λ z. last a.value z) n1 E cs (atomic_quiet q n1) (
        alike_run (guarded_awake ts b g n (join a.value.sets (join o.value.sets fill)) E cs ready.awake ∙ join_done ts b a.value.sets (join o.value.sets fill) E F cs cs (set1.sets.done cs) ∙ join_done ts b o.value.sets fill F G cs cs (set2.sets.done cs))
        (weaken_alike (λ t H z. changed_after within kept z)
        (fill_place_alike ts b c p s sc own n2 G (coupled_kept b c n n2 p s sc E G within kept coupled) (kept.length ∙ ready.full) k scale (scale_kept within kept scales) at from d (source_kept within kept source) o.value.expr w set2.atom proper
        f r u a.value.expr there at_o.0 (atom_more high (atom_agrees k2.same set1.atom)) cs))))

  module _ (j : ℕ) (us : List Ty) (at : Pos) (d : Content) (from : ℕ) (own : IsOwn c p) (there : slice_get c.program.layout.keys j ≡ Some us) where
    instance_alike : (xs : List Operand) (q : Operand) (vs : List Value) (key : Key) (w : Fraction) (n : ℕ) (E : Env) (cs : List BChoice) → FitsKey us key → Some key ≡ key_of vs → IsCoupled b c n p s sc E →
        IsSource b n E from d → IsScale b n E scale k → AreValues b n E xs us vs → Holds b n q.expr E (Real w) → IsProperFraction b w → (let z = instance_code p g scale j at from xs q n in
        IsReady ts g n z.locals E → Alike (IsChanged c p n z.next E) b (fill_instance b sc k j key w d at s) cs (brun ts b z.stmts E cs))
    instance_alike xs q vs key w n E cs fits is_key coupled source scales are_values amount proper = λ ready.
        let l = located xs n in let n1 = l.next in let o = atomic q n1 in let n2 = o.next in
        let fills = λ (y : Located) (z : Atom). fill_by p at z.expr from (fill_instance_code p scale j (index y.locals) z.expr from) in
        let last = λ (y : Located) (z : Atom). puts g (join y.sets (join z.sets (fills y z))) in
        let low : n ≤ n1 = omega (arith, (located_counted xs).next n) in let high : n1 ≤ n2 = omega (arith, (atomic_counted q).next n1) in
        let at_l : AreLocals ts n1 (o.locals ++ []) = subst (λ i. AreLocals ts i (o.locals ++ [])) ((located_counted xs).next n) (locals_rest ts n l.locals (o.locals ++ []) ready.locals) in
        let set1 = located_set ts b n E xs us vs ready.full are_values (locals_first ts n l.locals (o.locals ++ []) ready.locals) in
        let F = set1.after in let k1 = set1.sets.kept in
        let set2 = atomic_set ts b n1 F (k1.length ∙ ready.full) q (Real w) (holds_more low k1.same amount) (locals_first ts n1 o.locals [] at_l) in
        let G = set2.after in let k2 = set2.sets.kept in
        let kept : Kept n E G = kept_then low k1 k2 in
        let within : n ≤ n2 = omega (arith, low, high) in
        let fill = fills l.value o.value in
        quiet_alike ts b (located xs) (λ y. then_emit (atomic q) (λ z. last y z)) n E cs (located_quiet xs n) (
        quiet_alike ts b (atomic q) (λ z. last l.value z) n1 E cs (atomic_quiet q n1) (
        alike_run (guarded_awake ts b g n (join l.value.sets (join o.value.sets fill)) E cs ready.awake ∙ join_done ts b l.value.sets (join o.value.sets fill) E F cs cs (set1.sets.done cs) ∙ join_done ts b o.value.sets fill F G cs cs (set2.sets.done cs))
        (weaken_alike (λ t H z. changed_after within kept z)
        (fill_instance_alike ts b c p s sc own n2 G (coupled_kept b c n n2 p s sc E G within kept coupled) (kept.length ∙ ready.full) k scale (scale_kept within kept scales) at from d (source_kept within kept source) o.value.expr w set2.atom proper
        j us key l.value.locals vs there fits (located_more high k2.same set1.located) is_key cs))))

  pub fact_fills : (a : e.Expr) (at : Pos) (d : Content) (from : ℕ) → Reads a ty.Bool → Fills ts b c p g s sc scale k from d (body_code (kinds_in c) p g scale (e.Fact a at) from) (opened b (e.Fact a at) d s sc k)
  fact_fills a at d from h = record {
    alike = λ n E cs coupled source scales ready.
        let first = code (kinds_in c) p g a in let x = first n in let n1 = x.next in
        let counted = code_counted (kinds_in c) p g a in
        let low : n ≤ n1 = omega (arith, counted.next n) in
        let tests = λ (x : Operand). stmt.first (stmt.Assume (is_unit from)) (one (stmt.Assume x.expr)) in
        let go = λ (holds : Truth). if holds then then_with (unit_of d) (λ u. is s) else blocks in
        alike_of (then_again (value b a s sc) truth_of go) (
        emit_alike ts b first (λ x. puts g (tests x)) n E cs (value b a s sc) (λ z. then_with (truth_of z) go)
        (h.alike n E cs coupled (record { awake = ready.awake; full = ready.full; locals = locals_first ts n x.locals [] ready.locals }))
        (λ z F rest o. truth_alike z go o.typed (λ q same.
        let value : bvalue b x.value.expr F ≡ end.Is (bv.Bool q) = o.here F (λ i below. refl) ∙ ap (λ z. end.Is (scalar z)) same in
        let here = (source_kept low o.kept source).here in
        let filled : IsFilled b c n n1 p sc E s F = record { kept = but_from o.kept; coupled = coupled_kept b c n n1 p s sc E F low o.kept coupled } in
        alike_run (guarded_awake ts b g n (tests x.value) F rest (awake_kept g {m = n} (omega arith) o.kept ready.awake)) (by_truth n n1 E F rest x.value.expr q here value filled))));
  }
    where
      by_truth : (n n1 : ℕ) (E F : Env) (cs : List BChoice) (x : t.BExpr) (q : Truth) → slice_get F from ≡ Some (bv.One (bv.Snap d)) → bvalue b x F ≡ end.Is (bv.Bool q) → IsFilled b c n n1 p sc E s F →
          Alike (IsFilled b c n n1 p sc E) b (if q then then_with (unit_of d) (λ u. is s) else blocks) cs (brun ts b (stmt.first (stmt.Assume (is_unit from)) (one (stmt.Assume x))) F cs)
      by_truth n n1 E F cs x true here value filled = unit_alike ts b from d (is s) (one (stmt.Assume x)) F cs here (λ unit. alike_run (assume_run ts b x true stmt.skip F cs value) (is_alike filled))
      by_truth n n1 E F cs x false here value filled =
          alike_of (unit_blocks d) (unit_alike ts b from d blocks (one (stmt.Assume x)) F cs here (λ unit. alike_run (assume_run ts b x false stmt.skip F cs value) (stopped_first cs)))

  pub acc_fills : (a m : e.Expr) (f : ℕ) (at : Pos) (u : Ty) (d : Content) (from : ℕ) → IsOwn c p → slice_get c.program.layout.fields f ≡ Some u → Reads a ty.Ref → Reads m ty.Perm →
      Keeps AnyEvent (IsProperFraction b) (amount_of b (e.Is m) s sc) → IsKept (e.Acc a f (e.Is m) at) d →
      Fills ts b c p g s sc scale k from d (body_code (kinds_in c) p g scale (e.Acc a f (e.Is m) at) from) (opened b (e.Acc a f (e.Is m) at) d s sc k)
  acc_fills a m f at u d from own there h i proper kept = record {
    alike = λ n E cs coupled source scales ready.
        let first = code (kinds_in c) p g a in let second = code (kinds_in c) p g m in
        let x = first n in let n1 = x.next in let y = second n1 in let n2 = y.next in
        let last = acc_code (kinds_in c) p g scale f at from x.value y.value n2 in
        let counted = code_counted (kinds_in c) p g a in let counted2 = code_counted (kinds_in c) p g m in
        let low : n ≤ n1 = omega (arith, counted.next n) in let high : n1 ≤ n2 = omega (arith, counted2.next n1) in
        let same_type : type_at c.program.layout.fields f ≡ u = get_or_from_slice_get c.program.layout.fields f u ty.Int there in
        let whole = body_counted (kinds_in c) p g scale (e.Acc a f (e.Is m) at) from in
        filled_alike _ n (body_code (kinds_in c) p g scale (e.Acc a f (e.Is m) at) from n).next E cs _ own (omega (arith, whole.next n)) coupled kept (
        emit_alike ts b first (λ x. then_emit second (acc_code (kinds_in c) p g scale f at from x)) n E cs _ _
        (ref_alike (λ w F z. z.typed) (h.alike n E cs coupled (record { awake = ready.awake; full = ready.full; locals = locals_first ts n x.locals (y.locals ++ last.locals) ready.locals })))
        (λ r F rest o.
        let ready1 = ready_rest ts g n n1 x.locals (y.locals ++ last.locals) E F (counted.next n) o.kept ready in
        let coupled1 = coupled_kept b c n n1 p s sc E F low o.kept coupled in
        emit_alike ts b second (acc_code (kinds_in c) p g scale f at from x.value) n1 F rest _ _
        (kept_alike proper (perm_alike (λ w G z. z.typed) (i.alike n1 F rest coupled1 (record { awake = ready1.awake; full = ready1.full; locals = locals_first ts n1 y.locals last.locals ready1.locals }))))
        (λ w G left z.
        let kept2 : Kept n E G = kept_then low o.kept z.0.kept in let within : n ≤ n2 = omega (arith, low, high) in
        weaken_alike (λ t H changed. changed_after within kept2 changed)
        (acc_alike f at d from own x.value y.value r w n2 G left (there ∙ ap Some (sym same_type)) (coupled_kept b c n n2 p s sc E G within kept2 coupled) (source_kept within kept2 source) (scale_kept within kept2 scales)
        (holds_more high z.0.kept.same (record { value = o.here })) (record { value = z.0.here }) z.1 (ready_rest ts g n1 n2 y.locals last.locals F G (counted2.next n1) z.0.kept ready1)))));
  }

  pub instance_fills : (xs : e.Exprs) (m : e.Expr) (q : ℕ) (at : Pos) (us : List Ty) (d : Content) (from : ℕ) → IsOwn c p → slice_get c.program.layout.keys q ≡ Some us → All (λ u. u ≢ ty.Perm) us →
      Simulates ts b c p g s sc (codes (kinds_in c) p g xs) (values b xs s sc) (λ n m ys E. AreValued b n m ys us E) → Reads m ty.Perm →
      Keeps AnyEvent (IsProperFraction b) (amount_of b (e.Is m) s sc) → IsKept (e.Inst q xs (e.Is m) at) d →
      Fills ts b c p g s sc scale k from d (body_code (kinds_in c) p g scale (e.Inst q xs (e.Is m) at) from) (opened b (e.Inst q xs (e.Is m) at) d s sc k)
  instance_fills xs m q at us d from own there no_perm h i proper kept = record {
    alike = λ n E cs coupled source scales ready.
        let first = codes (kinds_in c) p g xs in let second = code (kinds_in c) p g m in
        let x = first n in let n1 = x.next in let y = second n1 in let n2 = y.next in
        let last = instance_code p g scale q at from x.value y.value n2 in
        let counted = codes_counted (kinds_in c) p g xs in let counted2 = code_counted (kinds_in c) p g m in
        let low : n ≤ n1 = omega (arith, counted.next n) in let high : n1 ≤ n2 = omega (arith, counted2.next n1) in
        let whole = body_counted (kinds_in c) p g scale (e.Inst q xs (e.Is m) at) from in
        let go : Key → Evaluated State = λ key. then_with (amount_of b (e.Is m) s sc) (λ w. fill_instance b sc k q key w d at s) in
        filled_alike _ n (body_code (kinds_in c) p g scale (e.Inst q xs (e.Is m) at) from n).next E cs _ own (omega (arith, whole.next n)) coupled kept (
        alike_of (then_again (values b xs s sc) (λ vs. found (key_of vs)) go) (
        emit_alike ts b first (λ x. then_emit second (instance_code p g scale q at from x)) n E cs _ (λ vs. then_with (found (key_of vs)) go)
        (h.alike n E cs coupled (record { awake = ready.awake; full = ready.full; locals = locals_first ts n x.locals (y.locals ++ last.locals) ready.locals }))
        (λ vs F rest o.
        let ready1 = ready_rest ts g n n1 x.locals (y.locals ++ last.locals) E F (counted.next n) o.kept ready in
        let coupled1 = coupled_kept b c n n1 p s sc E F low o.kept coupled in
        let key = key_typed o.values no_perm in
        found_alike (key_of vs) key.0 go (sym key.1.0) (
        emit_alike ts b second (instance_code p g scale q at from x.value) n1 F rest _ _
        (kept_alike proper (perm_alike (λ w G z. z.typed) (i.alike n1 F rest coupled1 (record { awake = ready1.awake; full = ready1.full; locals = locals_first ts n1 y.locals last.locals ready1.locals }))))
        (λ w G left z.
        let kept2 : Kept n E G = kept_then low o.kept z.0.kept in let within : n ≤ n2 = omega (arith, low, high) in
        weaken_alike (λ t H changed. changed_after within kept2 changed)
        (instance_alike q us at d from own there x.value y.value vs key.0 w n2 G left key.1.1 key.1.0 (coupled_kept b c n n2 p s sc E G within kept2 coupled) (source_kept within kept2 source) (scale_kept within kept2 scales)
        (values_more high z.0.kept.same o.values) (record { value = z.0.here }) z.1 (ready_rest ts g n1 n2 y.locals last.locals F G (counted2.next n1) z.0.kept ready1)))))));
  }
