-- Rows of producing an amount: the code ends as the meaning does.
use Rattle.std.proofs.Common.{◌≡◌, ◌*◌, ◌==◌, ℕ, ℤ, pos, negsuc, suc, neg_ℤ, ◌+ℤ◌, ◌*ℤ◌, Bool as Truth, true, false, not, List, Some, slice_get, slice_set, if◌then◌else◌, refl, sym, ap, subst, ◌∙◌, arith}
use Rattle.std.proofs.lemmas.Int.{ints}
use Rattle.std.proofs.Math.IntN.{*ℤ_comm}
use Rattle.std.proofs.lemmas.Option.{slice_get_within}
use Rattle.std.proofs.lemmas.Bool.{and_from as both}
use Rattle.viper_meaning.proofs.PartLaws.{is_none_itself}
use Rattle.sparse.proofs.MapLaws.{get-set_same}
use Rattle.boogie_meaning.proofs.ValueLaws.{exact}
use Rattle.sparse.specs.Map.{set}
use Rattle.vb_base.specs.declared.places.Pos.{Pos}
use Rattle.vb_value.specs.Bound.{Bound, Bounded, Unbounded, IfBounded, IsWithin}
use Rattle.vb_value.specs.Fraction.{Fraction, IsReduced, IsProperFraction, IsWithinFraction, none, is_none, is_negative, is_positive, is_above_one, sum, product, fits_product, fits_sum}
use Rattle.vb_value.specs.Key.{key_cmp}
use Rattle.vb_value.proofs.IntLaws.{*ℤ_one}
use Rattle.vb_value.proofs.RepresentableLaws.{is_within_from}
use Rattle.vb_value.proofs.OperationLaws.{sum-zero, product-zero, product_comm}
use Rattle.vb_value.proofs.ProperLaws.{proper_sum, proper_product}
use Rattle.viper_core.specs.Typing.{Context}
use Rattle.viper_state.specs.State.{Key, State}
use Rattle.viper_meaning.specs.Assertions as meaning
use Rattle.viper_meaning.specs.Ends.{Evaluated, is as is_end}
use Rattle.viper_meaning.specs.Resource as resource
use Rattle.viper_meaning.specs.Resource.{Resource, held_at, with_held}
use Rattle.boogie_tree.specs.Expr as t
use Rattle.boogie_tree.specs.Stmt as stmt
use Rattle.boogie_tree.specs.Stmt.{BStmts}
use Rattle.boogie_tree.specs.Program.{BType}
use Rattle.boogie_tree.specs.Value as bv
use Rattle.boogie_tree.specs.Value.{BScalar, Many, Real, BChoice, same_scalar}
use Rattle.boogie_tree.specs.declared.exprs.BOp.TheVariants as op
use Rattle.boogie_meaning.specs.Ends as end
use Rattle.boogie_meaning.specs.Quantified.{bvalue, bkey}
use Rattle.boogie_meaning.specs.Run.{Done, Stops, Blocked, brun}
use Rattle.boogie_meaning.proofs.PatternLaws.{set_here}
use Rattle.enc_expr.specs.Place.{Maps, number}
use Rattle.enc_expr.specs.Code.{join}
use Rattle.enc_expr.specs.Pieces.{at_one, one, zero_real, one_real, is_one, scaled, add_to}
use Rattle.enc_expr.specs.Coupling.{Env, HasMaps, IsSound}
use Rattle.enc_expr.specs.Alike.{Alike, KeptBut, HasAtom, IsScale}
use Rattle.enc_expr.proofs.RunLaws.{join_done, assume_run, atom_value}
use Rattle.enc_expr.proofs.AlikeLaws.{is_alike}
use Rattle.enc_expr.proofs.FrameLaws.{but_set}
use Rattle.enc_expr.proofs.AmountLaws.{fits_is, positive_test, one_is, one_test, scaled_value, added_alike, add_to_run, at_value}
use Rattle.enc_expr.proofs.OperatorLaws.{plain_value}
use Rattle.enc_expr.proofs.OpeningLaws.{alike_run, found_alike, unless_alike}
use Rattle.enc_expr.proofs.FillLaws.{atom_put, stopped_first, positive_unless_none, implies_value, reference_key}
use Rattle.enc_assert.specs.Target as target
use Rattle.enc_assert.specs.Target.{AccessTarget, held_in, key_of}
use Rattle.enc_assert.specs.Encoding.{where_positive, more_held}
use Rattle.enc_assert.specs.Held.{IsHeldLocalOf}
use Rattle.enc_assert.proofs.TargetLaws.{IsHere}

-- ---- an amount of none

-- it adds nothing
nothing_more : (k w held : Fraction) → IsReduced k → IsReduced w → IsReduced held → is_none w ≡ true → sum held (product k w) ≡ held
nothing_more k w held ik iw ih e = ap (sum held) (ap (product k) (is_none_itself w iw e) ∙ product_comm k none ∙ product-zero k ik.positive) ∙ sum-zero held ih

pub record IsGrown (c : Context) (l : Maps) (n m : ℕ) (E : Env) (s : State) (F : Env) : Type 0 where
  pub kept : KeptBut (IsHeldLocalOf c.program.layout l) n E F
  pub maps : HasMaps c.program.layout m l s F

-- ---- what always fits

times_zero : (z : ℤ) → z *ℤ pos 0 ≡ pos 0
times_zero z = *ℤ_comm z (pos 0) ∙ zero_times z
  where
    neg_zero : (n : ℕ) → n ≡ 0 → neg_ℤ (pos n) ≡ pos 0
    neg_zero n e = ap (λ (n : ℕ). neg_ℤ (pos n)) e

    zero_times : (z : ℤ) → pos 0 *ℤ z ≡ pos 0
    zero_times (pos n) = ap pos (omega arith)
    zero_times (negsuc n) = neg_zero (0 * suc n) (omega arith)

product_none_fits : (k : Fraction) → IsWithinFraction k → fits_product k none ≡ true
product_none_fits k h =
    both _ _ (is_within_from (k.num *ℤ pos 0) (subst IsWithin (sym (times_zero k.num)) (omega arith))) (is_within_from (pos (k.den * 1)) (omega (arith, h.den)))

sum_none_fits : (q : Fraction) → IsWithinFraction q → fits_sum q none ≡ true
sum_none_fits q h =
    let first : IsWithin (q.num *ℤ pos 1) = subst IsWithin (sym (*ℤ_one q.num)) h.num in
    both _ _ (is_within_from (q.num *ℤ pos 1) first) (both _ _ (is_within_from (pos 0 *ℤ pos q.den) (omega arith)) (both _ _ (is_within_from (pos (q.den * 1)) (omega (arith, h.den)))
    (is_within_from (q.num *ℤ pos 1 +ℤ pos 0 *ℤ pos q.den) (subst IsWithin (sym (ap (λ z. z +ℤ pos 0 *ℤ pos q.den) (*ℤ_one q.num) ∙ ap (λ z. q.num +ℤ z) (zero_left q.den) ∙ plus_zero q.num)) h.num))))
  where
    zero_left : (d : ℕ) → pos 0 *ℤ pos d ≡ pos 0
    zero_left d = ap pos (omega arith)

    plus_zero : (z : ℤ) → z +ℤ pos 0 ≡ z
    plus_zero z = omega (arith, ints)

fits_nothing : (b : Bound) (k w held : Fraction) → IsProperFraction b k → IsProperFraction b w → IsProperFraction b held → is_none w ≡ true →
    IfBounded b (fits_product k w ≡ true) × IfBounded b (fits_sum held (product k w) ≡ true)
fits_nothing Unbounded k w held ik iw ih e = (tt, tt)
fits_nothing Bounded k w held ik iw ih e =
    let no : w ≡ none = is_none_itself w iw.reduced e in
    let zero : product k w ≡ none = ap (product k) no ∙ product_comm k none ∙ product-zero k ik.reduced.positive in
    (ap (fits_product k) no ∙ product_none_fits k ik.within, ap (fits_sum held) zero ∙ sum_none_fits held ih.within)

-- ---- so much more is held

module _ (ts : List BType) (b : Bound) (c : Context) (l : Maps) (n m : ℕ) (s : State) (E : Env) (maps : HasMaps c.program.layout m l s E) (sound : IsSound b c.program.layout s)
    (k : Fraction) (scale : t.BExpr) (scales : IsScale b n E scale k) (q : t.BExpr) (w : Fraction) (atom : HasAtom n E q (Real w)) (proper : IsProperFraction b w) (at : Pos) where
  -- what holds wherever the amount is positive
  positive_value : (y : t.BExpr) (z : Truth) (F : Env) → HasAtom n F q (Real w) → bvalue b y F ≡ end.Is (bv.Bool z) → bvalue b (where_positive q y) F ≡ end.Is (bv.Bool (if is_positive w then z else true))
  positive_value y z F amount h = by_literal (is_one q) refl
    where
      by_literal : (o : Truth) → is_one q ≡ o → bvalue b (if o then y else t.Bin op.Implies (t.Bin op.Gt q zero_real) y) F ≡ end.Is (bv.Bool (if is_positive w then z else true))
      by_literal true e = h ∙ ap (λ (r : Truth). end.Is (bv.Bool (if r then z else true))) (sym (ap is_positive (one_is amount e)))
      by_literal false e =
          implies_value b (is_positive w) z (bvalue b (t.Bin op.Gt q zero_real) F) (bvalue b y F) (plain_value b op.Gt q zero_real _ _ F refl (atom_value b n F q (Real w) amount) refl ∙ positive_test b w proper) h

  module _ {y : AccessTarget} {x : Resource} (h : IsHere b c.program.layout m l s E y x) where
    abbrev all : Fraction
    all = sum h.held (product k w)

    abbrev grown_env : Env
    grown_env = slice_set E (held_in l y) (Many (set key_cmp same_scalar h.image h.index (Real all)))

    add_run : (cs : List BChoice) → IfBounded b (fits_product k w ≡ true) → IfBounded b (fits_sum h.held (product k w) ≡ true) →
        brun ts b (add_to (held_in l y) (key_of y) (scaled scale q)) E cs ≡ Done grown_env cs
    add_run cs fits_more fits_all =
        add_to_run ts b (held_in l y) (key_of y) (scaled scale q) h.index h.image h.held (product k w) E cs h.there h.index_is h.value
        (scaled_value b n E scale q k w scales.atom atom scales.proper proper (fits_is b (fits_product k w) (Real (product k w)) fits_more)) h.proper h.sign fits_all

    proper_all : IfBounded b (fits_product k w ≡ true) → IfBounded b (fits_sum h.held (product k w) ≡ true) → IsProperFraction b all
    proper_all fits_more fits_all = proper_sum b h.held (product k w) h.proper (proper_product b k w scales.proper proper fits_more) fits_all

    is_grown : IsReduced all → IsGrown c l n m E (with_held s x all) grown_env
    is_grown reduced = record { kept = but_set n E (held_in l y) _ h.local; maps = h.written all reduced }

    -- nothing more leaves the state as it is
    none_grown : is_none w ≡ true → IsGrown c l n m E s grown_env
    none_grown e =
        let same : all ≡ h.held = nothing_more k w h.held scales.proper.reduced proper.reduced h.proper.reduced e in
        subst (λ u. IsGrown c l n m E u grown_env) (ap (with_held s x) same ∙ h.unchanged) (is_grown (subst IsReduced (sym same) h.proper.reduced))

  -- what the meaning does with an amount that is not negative
  abbrev giving : Resource → Evaluated State
  giving x = if is_none w then is_end s else meaning.more_held b k x at s w

  -- of an instance
  pub instance_given : {p : ℕ} {is : List ℕ} {key : Key} (h : IsHere b c.program.layout m l s E (target.Instance p is) (resource.Instance p key)) (cs : List BChoice) →
      Alike (IsGrown c l n m E) b (giving (resource.Instance p key)) cs (brun ts b (more_held l scale (target.Instance p is) q) E cs)
  instance_given {p} {is} {key} h cs = by_none (is_none w) refl
    where
      by_none : (z : Truth) → is_none w ≡ z → Alike (IsGrown c l n m E) b (if z then is_end s else meaning.more_held b k (resource.Instance p key) at s w) cs (brun ts b (more_held l scale (target.Instance p is) q) E cs)
      by_none true e =
          let fits = fits_nothing b k w h.held scales.proper proper h.proper e in
          alike_run (add_run h cs fits.0 fits.1) (is_alike (none_grown h e))
      by_none false e =
          found_alike (held_at s (resource.Instance p key)) h.held _ h.is_held (added_alike b h.held k w at _ cs _ (λ fits_more fits_all.
          alike_run (add_run h cs fits_more fits_all) (is_alike (is_grown h (proper_all h fits_more fits_all).reduced))))

  -- of a place, of which at most 1 is held, and nothing of null
  module _ {f r : ℕ} {y : t.BExpr} (ref : HasAtom n E y (bv.Ref r)) (h : IsHere b c.program.layout m l s E (target.Field f y) (resource.Place f r)) where
    abbrev not_null : t.BExpr
    not_null = where_positive q (t.Bin op.Ne y t.Null)

    abbrev at_most_one : t.BExpr
    at_most_one = where_positive q (t.Bin op.Le (at_one (number l.mask f) y) one_real)

    abbrev adding : BStmts
    adding = join (add_to (number l.mask f) (t.more y t.none) (scaled scale q)) (one (stmt.Assume at_most_one))

    null_asked : (cs : List BChoice) → brun ts b (more_held l scale (target.Field f y) q) E cs ≡ (if (if is_positive w then not (r == 0) else true) then brun ts b adding E cs else Stops Blocked cs)
    null_asked cs =
        assume_run ts b not_null (if is_positive w then not (r == 0) else true) adding E cs
        (positive_value (t.Bin op.Ne y t.Null) (not (r == 0)) E atom (plain_value b op.Ne y t.Null (bv.Ref r) (bv.Ref 0) E refl (atom_value b n E y (bv.Ref r) ref) refl))

    added_run : (cs : List BChoice) → IfBounded b (fits_product k w ≡ true) → IfBounded b (fits_sum h.held (product k w) ≡ true) →
        brun ts b adding E cs ≡ (if (if is_positive w then not (is_above_one (all h)) else true) then Done (grown_env h) cs else Stops Blocked cs)
    added_run cs fits_more fits_all =
        let F = grown_env h in let image = set key_cmp same_scalar h.image h.index (Real (all h)) in let mask = number l.mask f in let es = t.more y t.none in
        let there : slice_get F mask ≡ Some (Many image) = set_here E mask (Many image) (slice_get_within E mask (Many h.image) h.there) in
        let ref_later : HasAtom n F y (bv.Ref r) = atom_put mask h.image _ h.there ref in
        let index : bkey b es F ≡ end.Is h.index = reference_key b n F y r ref_later ∙ sym (reference_key b n E y r ref) ∙ h.index_is in
        let value : bvalue b (at_one mask y) F ≡ end.Is (Real (all h)) = at_value b mask es h.index image F there index ∙ ap (λ (z : BScalar). end.Is z) (get-set_same exact h.image h.tidy h.index (Real (all h))) in
        join_done ts b (add_to mask es (scaled scale q)) (one (stmt.Assume at_most_one)) E F cs cs (add_run h cs fits_more fits_all)
        ∙ assume_run ts b at_most_one (if is_positive w then not (is_above_one (all h)) else true) stmt.skip F cs
        (positive_value (t.Bin op.Le (at_one mask y) one_real) (not (is_above_one (all h))) F (atom_put mask h.image _ h.there atom)
        (plain_value b op.Le (at_one mask y) one_real _ _ F refl value refl ∙ one_test b (all h) (proper_all h fits_more fits_all)))

    pub place_given : (cs : List BChoice) → is_negative w ≡ false → Alike (IsGrown c l n m E) b (giving (resource.Place f r)) cs (brun ts b (more_held l scale (target.Field f y) q) E cs)
    place_given cs sign = by_none (is_none w) refl
      where
        by_none : (z : Truth) → is_none w ≡ z → Alike (IsGrown c l n m E) b (if z then is_end s else meaning.more_held b k (resource.Place f r) at s w) cs (brun ts b (more_held l scale (target.Field f y) q) E cs)
        by_none true e =
            let no : is_positive w ≡ false = positive_unless_none w sign ∙ ap not e in
            let fits = fits_nothing b k w h.held scales.proper proper h.proper e in
            alike_run (null_asked cs ∙ ap (λ (p : Truth). if (if p then not (r == 0) else true) then brun ts b adding E cs else Stops Blocked cs) no ∙ added_run cs fits.0 fits.1
            ∙ ap (λ (p : Truth). if (if p then not (is_above_one (all h)) else true) then Done (grown_env h) cs else Stops Blocked cs) no) (is_alike (none_grown h e))
        by_none false e =
            let yes : is_positive w ≡ true = positive_unless_none w sign ∙ ap not e in
            let asked : brun ts b (more_held l scale (target.Field f y) q) E cs ≡ (if not (r == 0) then brun ts b adding E cs else Stops Blocked cs) =
            null_asked cs ∙ ap (λ (p : Truth). if (if p then not (r == 0) else true) then brun ts b adding E cs else Stops Blocked cs) yes in
            unless_alike (r == 0)
            (λ null. alike_run (asked ∙ ap (λ (p : Truth). if not p then brun ts b adding E cs else Stops Blocked cs) null) (stopped_first cs))
            (λ null. alike_run (asked ∙ ap (λ (p : Truth). if not p then brun ts b adding E cs else Stops Blocked cs) null) (
            found_alike (held_at s (resource.Place f r)) h.held _ h.is_held (added_alike b h.held k w at _ cs _ (λ fits_more fits_all.
            let run : brun ts b adding E cs ≡ (if not (is_above_one (all h)) then Done (grown_env h) cs else Stops Blocked cs) =
            added_run cs fits_more fits_all ∙ ap (λ (p : Truth). if (if p then not (is_above_one (all h)) else true) then Done (grown_env h) cs else Stops Blocked cs) yes in
            unless_alike (is_above_one (all h))
            (λ above. alike_run (run ∙ ap (λ (p : Truth). if not p then Done (grown_env h) cs else Stops Blocked cs) above) (stopped_first cs))
            (λ above. alike_run (run ∙ ap (λ (p : Truth). if not p then Done (grown_env h) cs else Stops Blocked cs) above) (is_alike (is_grown h (proper_all h fits_more fits_all).reduced)))))))
