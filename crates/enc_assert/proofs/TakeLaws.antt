-- Rows of consuming an amount: the code ends as the meaning does.
use Rattle.std.proofs.Common.{◌≡◌, ℕ, Bool as Truth, true, false, not, List, slice_set, if◌then◌else◌, refl, sym, ap, ◌∙◌}
use Rattle.std.specs.Ordering.{is_lt}
use Rattle.sparse.specs.Map.{set}
use Rattle.vb_base.specs.declared.labels.Kind.TheVariants as kind
use Rattle.vb_base.specs.declared.places.Pos.{Pos}
use Rattle.vb_value.specs.Bound.{Bound}
use Rattle.vb_value.specs.Fraction.{Fraction, IsReduced, IsProperFraction, is_none, is_negative, product, difference, order, fits_product, fits_difference, fits_order}
use Rattle.vb_value.specs.Key.{key_cmp}
use Rattle.vb_value.proofs.ProperLaws.{proper_product, IsReduced-difference}
use Rattle.viper_core.specs.Typing.{Context}
use Rattle.viper_state.specs.State.{State}
use Rattle.viper_state.specs.Run.{Scene}
use Rattle.viper_meaning.specs.Assertions as meaning
use Rattle.viper_meaning.specs.Ends.{Evaluated, is as is_end, blocks, fails, then_with, unless, fitting}
use Rattle.viper_meaning.specs.Resource.{Resource, held_at, with_held}
use Rattle.boogie_tree.specs.Expr as t
use Rattle.boogie_tree.specs.Stmt as stmt
use Rattle.boogie_tree.specs.Program.{BType}
use Rattle.boogie_tree.specs.Value as bv
use Rattle.boogie_tree.specs.Value.{BScalar, Many, Real, BChoice, same_scalar}
use Rattle.boogie_tree.specs.declared.exprs.BOp.TheVariants as op
use Rattle.boogie_meaning.specs.Ends as end
use Rattle.boogie_meaning.specs.Operators as calculus
use Rattle.boogie_meaning.specs.Quantified.{bvalue}
use Rattle.boogie_meaning.specs.Run as r
use Rattle.boogie_meaning.specs.Run.{Done, Stops, brun}
use Rattle.enc_expr.specs.Place.{Place, Maps}
use Rattle.enc_expr.specs.Code.{join}
use Rattle.enc_expr.specs.Pieces.{one, label, zero_real, scaled, check_nonnegative}
use Rattle.enc_expr.specs.Encoding.{held_check, taken_amount}
use Rattle.enc_expr.specs.Coupling.{Env}
use Rattle.enc_expr.specs.Alike.{Alike, HasAtom, IsScale}
use Rattle.enc_expr.proofs.RunLaws.{join_done, assert_run, assume_run}
use Rattle.enc_expr.proofs.AlikeLaws.{is_alike}
use Rattle.enc_expr.proofs.FrameLaws.{but_set}
use Rattle.enc_expr.proofs.AmountLaws as laws
use Rattle.enc_expr.proofs.AmountLaws.{fits_is, some_test, enough_test, scaled_value, put_run, at_value, check_nonnegative_run, then_again}
use Rattle.enc_expr.proofs.OperatorLaws.{plain_value}
use Rattle.enc_expr.proofs.OpeningLaws.{alike_run, alike_of, found_alike, fitting_alike, unless_alike, fails_alike, stops_first}
use Rattle.enc_expr.proofs.FillLaws.{stopped_first, unless_then_alike}
use Rattle.enc_assert.specs.Target.{AccessTarget, held_in, key_of}
use Rattle.enc_assert.specs.Encoding.{takes_code}
use Rattle.enc_assert.proofs.TargetLaws.{IsHere}
use Rattle.enc_assert.proofs.GiveLaws.{IsGrown}

module _ (ts : List BType) (b : Bound) (c : Context) (p : Place) (left : Maps) (n m : ℕ) (u : State) (sc : Scene) (E : Env) (same_at : p.at ≡ sc.at) (at : Pos) {y : AccessTarget} {x : Resource} (h : IsHere b c.program.layout m left u E y x) where
  abbrev held : t.BExpr
  held = t.At (held_in left y) (key_of y)

  held_value : bvalue b held E ≡ end.Is (Real h.held)
  held_value = at_value b (held_in left y) (key_of y) h.index h.image E h.there h.index_is ∙ ap (λ (z : BScalar). end.Is z) h.value

  abbrev less_env : Fraction → Env
  less_env rest = slice_set E (held_in left y) (Many (set key_cmp same_scalar h.image h.index (Real rest)))

  -- so much is taken, where the difference is within the bound
  subtract_alike : (q : t.BExpr) (w : Fraction) → IsReduced w → bvalue b q E ≡ end.Is (Real w) → (cs : List BChoice) →
      Alike (IsGrown c left n m E) b (then_with (fitting b (fits_difference h.held w) at (difference h.held w)) (λ rest. is_end (with_held u x rest))) cs (brun ts b (taken_amount (held_in left y) (key_of y) q) E cs)
  subtract_alike q w reduced value cs =
      let rest = difference h.held w in
      let minus : bvalue b (t.Bin op.Sub held q) E ≡ end.fitting b (fits_difference h.held w) (Real rest) = λ k. calculus.binary b op.Sub (held_value k) (value k) in
      fitting_alike b (fits_difference h.held w) at rest _ (Real rest) _ minus (λ fits.
      alike_run (put_run ts b (held_in left y) (key_of y) (t.Bin op.Sub held q) h.index h.image (Real rest) stmt.skip E cs h.there h.index_is fits)
      (is_alike (record { kept = but_set n E (held_in left y) _ h.local; maps = h.written rest (IsReduced-difference h.held w h.proper.reduced reduced) })))

  -- an amount that is written: a negative one fails, and so does more than is held
  pub taken_alike : (k : Fraction) (scale : t.BExpr) → IsScale b n E scale k → (q : t.BExpr) (w : Fraction) → HasAtom n E q (Real w) → IsProperFraction b w → (cs : List BChoice) →
      Alike (IsGrown c left n m E) b (meaning.taken_from b sc k x at u w) cs (brun ts b (takes_code p left scale at y q) E cs)
  taken_alike k scale scales q w atom proper cs =
      let negative = label p at kind.Negative in let missing = label p at kind.Perm in
      let some = product k w in let amount = scaled scale q in
      let rest = taken_amount (held_in left y) (key_of y) amount in
      let tests = join (held_check missing (held_in left y) (key_of y) amount) rest in
      let check = check_nonnegative_run ts b n negative q w E cs atom proper in
      let enough = t.Bin op.Ge held amount in
      let last : Fraction → Evaluated State = λ (rest : Fraction). is_end (with_held u x rest) in
      unless_alike (is_negative w)
      (λ below. alike_run (stops_first ts b (check_nonnegative negative q) tests E (r.Failed negative) cs cs (check.1 below)) (fails_alike p sc at kind.Negative same_at))
      (λ sign. alike_run (join_done ts b (check_nonnegative negative q) tests E E cs cs (check.0 sign)) (
      found_alike (held_at u x) h.held _ h.is_held (
      laws.fitting_alike b (fits_product k w) at some _ cs _ (λ fits.
      let value : bvalue b amount E ≡ end.Is (Real some) = scaled_value b n E scale q k w scales.atom atom scales.proper proper (fits_is b (fits_product k w) (Real some) fits) in
      let some_proper = proper_product b k w scales.proper proper fits in
      let asked : bvalue b enough E ≡ end.fitting b (fits_order h.held some) (bv.Bool (not (is_lt (order h.held some)))) = (λ k. calculus.binary b op.Ge (held_value k) (value k)) ∙ enough_test b h.held some in
      alike_of (then_again (fitting b (fits_order h.held some) at (is_lt (order h.held some))) (λ less. unless less (fails sc at kind.Perm) (fitting b (fits_difference h.held some) at (difference h.held some))) last) (
      fitting_alike b (fits_order h.held some) at (is_lt (order h.held some)) _ (bv.Bool (not (is_lt (order h.held some)))) (bvalue b enough E) asked (λ is_asked.
      unless_then_alike (fails sc at kind.Perm) (fitting b (fits_difference h.held some) at (difference h.held some)) last (is_lt (order h.held some))
      (λ less. alike_run (assert_run ts b missing enough false rest E cs (is_asked ∙ ap (λ z. end.Is (bv.Bool (not z))) less)) (fails_alike p sc at kind.Perm same_at))
      (λ less. alike_run (assert_run ts b missing enough true rest E cs (is_asked ∙ ap (λ z. end.Is (bv.Bool (not z))) less)) (subtract_alike amount some some_proper.reduced value cs))))))))

  -- ---- an amount that is chosen

  abbrev is_some : t.BExpr
  is_some = t.Bin op.Ne held zero_real

  -- something has to be held
  pub something_alike : (cs : List BChoice) → Alike (λ w F. (w ≡ h.held) × (F ≡ E)) b (meaning.something_held sc x at u) cs (brun ts b (one (stmt.Assert (label p at kind.Perm) is_some)) E cs)
  something_alike cs =
      let asked : bvalue b is_some E ≡ end.Is (bv.Bool (not (is_none h.held))) = plain_value b op.Ne held zero_real _ _ E refl held_value refl ∙ some_test b h.held h.proper in
      let run = assert_run ts b (label p at kind.Perm) is_some (not (is_none h.held)) stmt.skip E cs asked in
      found_alike (held_at u x) h.held _ h.is_held (
      unless_alike (is_none h.held)
      (λ no. alike_run (run ∙ ap (λ (z : Truth). if not z then Done E cs else Stops (r.Failed (label p at kind.Perm)) cs) no) (fails_alike p sc at kind.Perm same_at))
      (λ yes. alike_run (run ∙ ap (λ (z : Truth). if not z then Done E cs else Stops (r.Failed (label p at kind.Perm)) cs) yes) (is_alike (refl, refl))))

-- less than is held
module _ (ts : List BType) (b : Bound) (c : Context) (left : Maps) (n m : ℕ) (u : State) (E : Env) (at : Pos) {y : AccessTarget} {x : Resource} (h : IsHere b c.program.layout m left u E y x) where
  pub part_alike : (q : t.BExpr) (w : Fraction) → IsProperFraction b w → bvalue b q E ≡ end.Is (Real w) → (cs : List BChoice) →
      Alike (IsGrown c left n m E) b
      (then_with (fitting b (fits_order w h.held) at (is_lt (order w h.held))) (λ less. unless (not less) blocks (then_with (fitting b (fits_difference h.held w) at (difference h.held w)) (λ rest. is_end (with_held u x rest))))) cs
      (brun ts b (stmt.first (stmt.Assume (t.Bin op.Lt q (t.At (held_in left y) (key_of y)))) (taken_amount (held_in left y) (key_of y) q)) E cs)
  part_alike q w proper value cs =
      let held = t.At (held_in left y) (key_of y) in let test = t.Bin op.Lt q held in
      let rest = taken_amount (held_in left y) (key_of y) q in
      let there : bvalue b held E ≡ end.Is (Real h.held) = at_value b (held_in left y) (key_of y) h.index h.image E h.there h.index_is ∙ ap (λ (z : BScalar). end.Is z) h.value in
      let asked : bvalue b test E ≡ end.fitting b (fits_order w h.held) (bv.Bool (is_lt (order w h.held))) = λ k. calculus.binary b op.Lt (value k) (there k) in
      let minus : bvalue b (t.Bin op.Sub held q) E ≡ end.fitting b (fits_difference h.held w) (Real (difference h.held w)) = λ k. calculus.binary b op.Sub (there k) (value k) in
      fitting_alike b (fits_order w h.held) at (is_lt (order w h.held)) _ (bv.Bool (is_lt (order w h.held))) (bvalue b test E) asked (λ is_asked.
      unless_alike (not (is_lt (order w h.held)))
      (λ no. alike_run (assume_run ts b test (is_lt (order w h.held)) rest E cs is_asked ∙ ap (λ (z : Truth). if z then brun ts b rest E cs else Stops r.Blocked cs) (is_false _ no)) (stopped_first cs))
      (λ yes. alike_run (assume_run ts b test (is_lt (order w h.held)) rest E cs is_asked ∙ ap (λ (z : Truth). if z then brun ts b rest E cs else Stops r.Blocked cs) (is_true _ yes)) (
      fitting_alike b (fits_difference h.held w) at (difference h.held w) _ (Real (difference h.held w)) _ minus (λ fits.
      alike_run (put_run ts b (held_in left y) (key_of y) (t.Bin op.Sub held q) h.index h.image (Real (difference h.held w)) stmt.skip E cs h.there h.index_is fits)
      (is_alike (record { kept = but_set n E (held_in left y) _ h.local; maps = h.written (difference h.held w) (IsReduced-difference h.held w h.proper.reduced proper.reduced) }))))))
    where
      is_false : (z : Truth) → not z ≡ true → z ≡ false
      is_false true e = sym e
      is_false false e = refl

      is_true : (z : Truth) → not z ≡ false → z ≡ true
      is_true true e = refl
      is_true false e = sym e
