-- A field that gets a value, and permission that comes, goes or is asserted.
use Rattle.std.specs.Bool.{⊤}
use Rattle.std.proofs.Common.{◌≡◌, ◌≤◌, ◌==◌, Bool as Truth, true, false, not, ℕ, List, [], ◌∷◌, refl, sym, ap, ◌∙◌, Some, None, All, slice_get, slice_set, arith}
use Rattle.std.specs.Ordering.{nat_cmp}
use Rattle.std.proofs.lemmas.List.Elements.{All-nil, All-cons}
use Rattle.std.proofs.lemmas.Option.{slice_get_within}
use Rattle.lemmas.proofs.Tests.{false_from_not, true_from_not}
use Rattle.sparse.specs.Map.{get, set}
use Rattle.vb_base.specs.declared.labels.Kind.TheVariants as kind
use Rattle.vb_base.specs.declared.places.Pos.{Pos}
use Rattle.vb_value.specs.Bound.{Bound}
use Rattle.vb_value.specs.Fraction.{write}
use Rattle.vb_value.specs.Key.{key_cmp}
use Rattle.vb_value.specs.Value.{fraction_eq}
use Rattle.vb_value.specs.declared.values.Ty.{Ty}
use Rattle.vb_value.specs.declared.values.Ty.TheVariants as ty
use Rattle.vb_value.specs.declared.values.Value.{Value}
use Rattle.viper_core.specs.Expr as e
use Rattle.viper_core.specs.Formed.{IsFormed}
use Rattle.viper_core.specs.Typing.{HasType, IsAssertion}
use Rattle.viper_state.specs.State.{State, mask_at, with_value}
use Rattle.viper_state.proofs.EachLaws.{with_value_has, with_value_nonnegative}
use Rattle.viper_state.proofs.FitsLaws.{with_value_fits}
use Rattle.viper_meaning.specs.Assertions.{produce, consume}
use Rattle.viper_meaning.specs.Run.{Run, ended, goes, evaluating, then_do}
use Rattle.viper_meaning.specs.Statements.{Activation, Configuration, scene, with_state, field_written, exhale_all}
use Rattle.viper_meaning.specs.Value.{value, ref_in}
use Rattle.viper_meaning.proofs.ClauseLaws.{one_consumed}
use Rattle.boogie_tree.specs.Expr as t
use Rattle.boogie_tree.specs.Program.{BType}
use Rattle.boogie_tree.specs.Stmt as s
use Rattle.boogie_tree.specs.Value as bv
use Rattle.boogie_tree.specs.Value.{BChoice, Many, same_scalar}
use Rattle.boogie_tree.specs.declared.exprs.BOp.TheVariants as op
use Rattle.boogie_meaning.specs.Ends as end
use Rattle.boogie_meaning.specs.Quantified.{bvalue}
use Rattle.boogie_meaning.specs.Run.{brun}
use Rattle.moves.specs.Maps.{place_key}
use Rattle.moves.specs.Scalars.{scalar}
use Rattle.enc_expr.specs.Place.{number, Heap, IsLocalOf}
use Rattle.enc_expr.specs.Code.{Emitting, join, then_emit, puts}
use Rattle.enc_expr.specs.Pieces.{Operand, Atom, atomic, at_one, one, label, one_real}
use Rattle.enc_expr.specs.Encoding.{code}
use Rattle.enc_expr.specs.Coupling.{Env, IsSound, mask_kind}
use Rattle.enc_expr.specs.Alike.{Alike, HasAtom}
use Rattle.enc_expr.proofs.AlikeLaws.{is_alike}
use Rattle.enc_expr.proofs.AmountLaws.{put_run}
use Rattle.enc_expr.proofs.AtomLaws.{Holds, holds_more, atomic_set}
use Rattle.enc_expr.proofs.CodeLaws.{code_counted, atomic_counted}
use Rattle.enc_expr.proofs.FillLaws.{reference_key}
use Rattle.enc_expr.proofs.FrameLaws.{but_set}
use Rattle.enc_expr.proofs.MapLaws.{found_in_map, read_map, value_written}
use Rattle.enc_expr.proofs.OpeningLaws.{alike_run, found_alike, unless_alike, fails_alike}
use Rattle.enc_expr.proofs.OperatorLaws.{plain_value}
use Rattle.enc_expr.proofs.RunLaws.{assert_run, atom_value, join_done}
use Rattle.enc_expr.proofs.UnfoldingLaws.{atomic_quiet}
use Rattle.enc_assert.specs.Encoding.{produce_code}
use Rattle.enc_assert.proofs.AlongsideLaws.{run_alongside, same_alongside, ended_alongside}
use Rattle.enc_assert.proofs.GoingLaws.{quiet_first}
use Rattle.enc_block.specs.Encoding.{write_checks, write_code, exhale_code, assert_code}
use Rattle.enc_block.specs.Home.{Home, place, kinds_of, whole, IsHome, IsAt}
use Rattle.enc_block.specs.Runs.{Runs}
use Rattle.enc_block.proofs.GoingLaws.{then_goes}
use Rattle.enc_block.proofs.HomeLaws.{at_kept, at_maps}
use Rattle.enc_block.proofs.KindLaws.{IsFine, reduced_of}
use Rattle.enc_block.proofs.ReadLaws.{value_along, ref_along}
use Rattle.enc_block.proofs.RoomLaws.{room_first}
use Rattle.enc_block.proofs.StateLaws.{produced_along, asserted_along, exhaled_along}

module _ (ts : List BType) (b : Bound) (k : Activation) (h : Home) (home : IsHome ts k h) where
  module _ (n : ℕ) (d : Configuration) (E : Env) (it : IsAt ts b k h n d E) where
    -- a value is put at a place of the present state
    pub at_written : (f : ℕ) (u : Ty) (x : ℕ) (w : Value) (there : slice_get k.program.layout.fields f ≡ Some u) → IsFine b u w →
        IsAt ts b k h n (with_state d (with_value d.state f x w)) (slice_set E (number h.now.heap f) (Many (set key_cmp same_scalar (it.now.heap f u there).image (place_key x) (scalar w))))
    at_written f u x w there fine =
        let reduced = reduced_of b w fine.proper in
        let sound : IsSound b k.program.layout (with_value d.state f x w) = record {
          fits = with_value_fits it.sound.fits f x u w there (record { typed = fine.typed; reduced = reduced });
          proper = with_value_has it.sound.proper f x w fine.proper;
          nonnegative = with_value_nonnegative it.sound.nonnegative f x w;
        } in
        at_maps home (omega arith)
        (but_set {O = IsLocalOf k.program.layout h.now} n E (number h.now.heap f) _ (record { spot = Heap f; kind = tt; exists = slice_get_within k.program.layout.fields f u there; there = refl }))
        (value_written (whole k) n h.now d.state E home.now it.now f u x w there tt fine.typed reduced) sound it

    -- null is tested first, and then that the whole is held
    put_alike : (at name : Pos) (f : ℕ) (u : Ty) (x y : t.BExpr) (r : ℕ) (w : Value) → slice_get k.program.layout.fields f ≡ Some u → HasAtom n E x (bv.Ref r) → bvalue b y E ≡ end.Is (scalar w) → IsFine b u w → (cs : List BChoice) →
        Alike (λ s F. IsAt ts b k h n (with_state d s) F) b (field_written (scene k d at) d.state f name r w) cs
        (brun ts b (join (write_checks (place h at) f name x) (one (s.Put (number h.now.heap f) (t.more x t.none) y))) E cs)
    put_alike at name f u x y r w there atom value fine cs =
        let p = place h at in let heap = it.now.heap f u there in let mask = it.now.mask f u there in let held = get nat_cmp mask.m r in
        let is_null = t.Bin op.Ne x t.Null in let is_whole = t.Bin op.Eq (at_one (number h.now.mask f) x) one_real in
        let put = one (s.Put (number h.now.heap f) (t.more x t.none) y) in let rest = s.first (s.Assert (label p name kind.Perm) is_whole) put in
        let key = reference_key b n E x r atom in
        let held_there : mask_at d.state f r ≡ Some held = found_in_map mask_kind n (number h.now.mask f) d.state.mask f E r mask in
        let null_test : bvalue b is_null E ≡ end.Is (bv.Bool (not (r == 0))) = plain_value b op.Ne x t.Null (bv.Ref r) (bv.Ref 0) E refl (atom_value b n E x (bv.Ref r) atom) refl in
        let whole_test : bvalue b is_whole E ≡ end.Is (bv.Bool (fraction_eq held write)) =
        plain_value b op.Eq (at_one (number h.now.mask f) x) one_real _ _ E refl (read_map mask_kind b n (number h.now.mask f) d.state.mask f E r (t.more x t.none) mask tt key) refl in
        unless_alike (r == 0)
        (λ null. alike_run (assert_run ts b (label p name kind.Null) is_null false rest E cs (null_test ∙ ap (λ (q : Truth). end.Is (bv.Bool (not q))) null)) (fails_alike p (scene k d at) name kind.Null refl))
        (λ null. alike_run (assert_run ts b (label p name kind.Null) is_null true rest E cs (null_test ∙ ap (λ (q : Truth). end.Is (bv.Bool (not q))) null)) (
        found_alike (mask_at d.state f r) held _ held_there (
        unless_alike (not (fraction_eq held write))
        (λ some. alike_run (assert_run ts b (label p name kind.Perm) is_whole false put E cs (whole_test ∙ ap (λ (q : Truth). end.Is (bv.Bool q)) (false_from_not _ some))) (fails_alike p (scene k d at) name kind.Perm refl))
        (λ all. alike_run (assert_run ts b (label p name kind.Perm) is_whole true put E cs (whole_test ∙ ap (λ (q : Truth). end.Is (bv.Bool q)) (true_from_not _ all))
        ∙ put_run ts b (number h.now.heap f) (t.more x t.none) y (place_key r) heap.image (scalar w) s.skip E cs heap.here key value)
        (is_alike (at_written f u r w there fine))))))

  module _ (formed : IsFormed k.program) where
    -- a field gets the value of an expression
    pub write_runs : (at name : Pos) (a c : e.Expr) (f : ℕ) (u : Ty) → HasType (whole k) a ty.Ref → slice_get k.program.layout.fields f ≡ Some u → HasType (whole k) c u →
        Runs ts b k h (write_code (kinds_of k) (place h at) a f name c) (λ d. evaluating (ref_in b a d.state (scene k d at)) (λ r. evaluating (value b c d.state (scene k d at)) (λ w.
        evaluating (field_written (scene k d at) d.state f name r w) (λ s. goes (with_state d s)))))
    write_runs at name a c f u typed there typed_too = record {
      goes = λ n d E it room.
          let p = place h at in let one_code = code (kinds_of k) p None a in let two_code = code (kinds_of k) p None c in
          let last : Operand → Atom → Emitting ⊤ = λ y r. puts None (join r.sets (join (write_checks p f name r.expr) (one (s.Put (number p.now.heap f) (t.more r.expr t.none) y.expr)))) in
          let second : Operand → Operand → Emitting ⊤ = λ x y. then_emit (atomic x) (last y) in
          let first : Operand → Emitting ⊤ = λ x. then_emit two_code (second x) in
          ref_along ts b k h formed n d E it at a first room typed (λ r. evaluating (value b c d.state (scene k d at)) (λ w. evaluating (field_written (scene k d at) d.state f name r w) (λ s. goes (with_state d s)))) (λ r F read left.
          let n1 = (one_code n).next in let x = (one_code n).value in
          value_along ts b k h formed n1 d F read.at at c (second x) left u typed_too (λ w. evaluating (field_written (scene k d at) d.state f name r w) (λ s. goes (with_state d s))) (λ w G read2 left2.
          let n2 = (two_code n1).next in let y = (two_code n1).value in let q = atomic x n2 in
          let low : n1 ≤ n2 = omega (arith, (code_counted (kinds_of k) p None c).next n1) in
          let holds : Holds b n1 x.expr F (bv.Ref r) = record { value = read.valued.here } in
          let set = atomic_set ts b n2 G read2.at.full x (bv.Ref r) (holds_more low read2.valued.kept.same holds) (room_first q.locals (last y q.value q.next).locals left2).locals in
          let H = set.after in
          let it3 = at_kept (omega (arith, (atomic_counted x).next n2)) set.sets.kept read2.at in
          let put = join (write_checks p f name q.value.expr) (one (s.Put (number p.now.heap f) (t.more q.value.expr t.none) y.expr)) in
          quiet_first ⊥ ts b k.program.layout (atomic x) (last y) n2 G (atomic_quiet x n2)
          (run_alongside ⊥ b k.program.layout (λ cs. join_done ts b q.value.sets put G H cs cs (set.sets.done cs))
          (then_goes {v = ended (field_written (scene k d at) d.state f name r w)} (with_state d) (λ s I z. z)
          (ended_alongside ⊥ b k.program.layout (field_written (scene k d at) d.state f name r w) (put_alike q.next d H it3 at name f u q.value.expr y.expr r w there set.atom (read2.valued.here H set.sets.kept.same)
          (record { typed = read2.valued.typed; proper = read2.proper })))))));
    }

    -- ---- permission

    pub inhale_runs : (at : Pos) (a : e.Assertion) → IsAssertion (whole k) a →
        Runs ts b k h (produce_code (kinds_of k) (place h at) None one_real a) (λ d. then_do (produce b a (scene k d at) write d.state) (λ s. goes (with_state d s)))
    inhale_runs at a typed = record { goes = λ n d E it room. then_goes (with_state d) (λ s F z. z) (produced_along ts b k h home formed at n d E it a typed room) }

    pub exhale_runs : (at : Pos) (xs : List e.Assertion) → All (IsAssertion (whole k)) xs →
        Runs ts b k h (exhale_code (kinds_of k) h at xs) (λ d. then_do (exhale_all b k.program xs d.state (scene k d at)) (λ s. goes (with_state d s)))
    exhale_runs at xs typed = record { goes = λ n d E it room. then_goes (with_state d) (λ s F z. z) (exhaled_along ts b k h home formed at n d E it xs typed room) }

    pub assert_runs : (at : Pos) (a : e.Assertion) → IsAssertion (whole k) a →
        Runs ts b k h (assert_code (kinds_of k) h at (a ∷ [])) (λ d. then_do (consume b a d.state (scene k d at) write d.state) (λ left. goes d))
    assert_runs at a typed = record {
      goes = λ n d E it room.
          same_alongside ⊥ b k.program.layout (ap (λ (v : Run State). then_do v (λ left. goes d)) (sym (one_consumed b a d.state (scene k d at) d.state)))
          (then_goes (λ left. d) (λ s F z. z) (asserted_along ts b k h home formed at n d E it (a ∷ []) (All-cons (IsAssertion (whole k)) a [] typed (All-nil (IsAssertion (whole k)))) room));
    }
