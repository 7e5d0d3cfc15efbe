-- The three moves of the frame. What a state gave up goes to a state in which nothing else is held, while what is left of it stays
-- with the rest; this begins again each time; and at the end the rest gives back what was left.
use Rattle.std.proofs.Common.{◌≡◌, refl, sym, ap, ◌∙◌, subst, ℕ, Bool, true, false, Option, Some, None, List, [], All}
use Rattle.std.specs.Option.{option_map}
use Rattle.std.specs.Ordering.{nat_cmp}
use Rattle.vb_value.specs.Fraction.{Fraction, none, sum, is_none}
use Rattle.vb_value.specs.Key.{key_cmp}
use Rattle.vb_value.specs.Layout.{Layout}
use Rattle.vb_value.proofs.OperationLaws.{sum_comm, sum_assoc}
use Rattle.viper_state.specs.Fits.{FitsMemo, FitsState}
use Rattle.viper_state.specs.State.{Key, Memo, State, empty_state, found_at, value_at, mask_at, content_at, amount_at}
use Rattle.viper_state.proofs.FitsLaws.{memo_fits, empty_state_fits}
use Rattle.viper_state.proofs.EachLaws.{empty_state_nonnegative}
use Rattle.viper_meaning.specs.Forgotten.{forgotten, with_memo}
use Rattle.viper_meaning.specs.Resource.{Resource, Place, Instance, held_at}
use Rattle.viper_meaning.specs.Sat.{Share, total_from, memo_of_state}
use Rattle.viper_meaning.proofs.ArriveLaws.{total_amount}
use Rattle.viper_meaning.proofs.HeldLaws.{held_amount, empty_holds_none}
use Rattle.viper_meaning.proofs.MoreLaws.{full_where_fits}
use Rattle.viper_meaning.proofs.NearLaws.{IsFull}
use Rattle.viper_meaning.proofs.PartLaws.{IsAmount, IsPartOf, part_sum, part_trans, part_some}
use Rattle.viper_meaning.proofs.SatLaws.{held_there}
use Rattle.viper_meaning.proofs.UnderLaws.{Rest, Owes, Under, FramedPart, IsAmountShare}
use Rattle.viper_exec_meaning.proofs.LeftLaws.{after_fits, value_new, value_own, content_new, content_own}
use Rattle.viper_exec_meaning.proofs.OwedLaws.{part_beside}
use Rattle.viper_exec_meaning.proofs.Shares.{total_from_none}
use Rattle.viper_exec_meaning.proofs.Under.{Gives, or_none, amount_or_none, besides}

-- ---- sums

-- an amount and shares of it beside a rest, or the shares alone beside the rest and the amount
regrouped : (x : Resource) (f r : Fraction) (xs : List Share) → IsAmount f → IsAmount r → All IsAmountShare xs → sum f (total_from x r xs) ≡ sum (sum f r) (total_from x none xs)
regrouped x f r xs a b h = ap (sum f) (total_from_none x r xs b h) ∙ sym (sum_assoc f r (total_from x none xs) a.reduced.positive b.reduced.positive (total_amount x xs h).reduced.positive)

-- the shares alone are a part
shares_part : (x : Resource) (r : Fraction) (xs : List Share) → IsAmount r → All IsAmountShare xs → IsPartOf (total_from x none xs) (total_from x r xs)
shares_part x r xs b h = subst (IsPartOf (total_from x none xs)) (sum_comm (total_from x none xs) r ∙ sym (total_from_none x r xs b h)) (part_sum (total_amount x xs h) b)

-- ---- states in which nothing is held

-- nothing is held of just what can be held in another state of the program
emptied_at : (l : Layout) (s : State) (m : Memo) → FitsState l s → FitsMemo l m → (x : Resource) → held_at (empty_state l m) x ≡ option_map (λ q. none) (held_at s x)
emptied_at l s m h g x = by (held_at (empty_state l m) x) refl (held_at s x) refl
  where
    start : FitsState l (empty_state l m)
    start = empty_state_fits l m g

    by : (o : Option Fraction) → held_at (empty_state l m) x ≡ o → (p : Option Fraction) → held_at s x ≡ p → o ≡ option_map (λ q. none) p
    by (Some z) e (Some q) f = ap Some (empty_holds_none l m x z e)
    by None e None f = refl
    by (Some z) e None f =
        let there = held_there start h x z e in
        let no : None ≡ Some there.0 = sym f ∙ there.1 in cc
    by None e (Some q) f =
        let there = held_there h start x q f in
        let no : None ≡ Some there.0 = sym e ∙ there.1 in cc

emptied_full : (l : Layout) (m : Memo) → FitsMemo l m → IsFull (empty_state l m)
emptied_full l m h = full_where_fits (empty_state_fits l m h) (empty_state_nonnegative l m)

-- ---- what a state gave up is owed to an empty one, and what is left of it stays with the rest

pub starts : (l : Layout) {F : Rest} {xs : List Share} {s rest w : State} → Under F s w → FitsState l s → (g : Gives xs s rest) → Owes (besides F rest g.full w) xs (empty_state l (memo_of_state s)) w
starts l {F} {xs} {s} {rest} {w} h fits g = record {
  less = emptied_full l (memo_of_state s) (memo_fits l s fits);
  more = h.more;
  values = h.values;
  contents = h.contents;
  held = λ x. subst (λ o. FramedPart x (sum (F.held x) (or_none (held_at rest x))) xs o (held_at w x)) (sym (emptied_at l s (memo_of_state s) fits (memo_fits l s fits) x ∙ ap (option_map (λ q. none)) (g.grown x)))
      (by x (held_at rest x) (held_at w x) (held_amount g.full.whole x) (subst (λ o. FramedPart x (F.held x) [] o (held_at w x)) (g.grown x) (h.held x)));
  amounts = g.amounts;
  kept_values = λ f r e. refl;
  kept_contents = λ p k e. refl;
}
  where
    by : (x : Resource) (o p : Option Fraction) → ((q : Fraction) → o ≡ Some q → IsAmount q) → FramedPart x (F.held x) [] (option_map (λ z. total_from x z xs) o) p → FramedPart x (sum (F.held x) (or_none o)) xs (option_map (λ q. none) (option_map (λ z. total_from x z xs) o)) p
    by x (Some r) (Some b) own i = subst (λ z. IsPartOf z b) (regrouped x (F.held x) r xs (F.amounts x) (own r refl) g.amounts) i
    by x None None own i = tt
    by x (Some r) None own i = absurd i
    by x None (Some b) own i = absurd i

-- ---- again: only what is given up is kept

pub begins_again : (l : Layout) {F : Rest} {ys : List Share} {u rest w : State} → Under F u w → FitsState l u → Gives ys u rest → Owes F ys (empty_state l (memo_of_state u)) w
begins_again l {F} {ys} {u} {rest} {w} h fits g = record {
  less = emptied_full l (memo_of_state u) (memo_fits l u fits);
  more = h.more;
  values = h.values;
  contents = h.contents;
  held = λ x. subst (λ o. FramedPart x (F.held x) ys o (held_at w x)) (sym (emptied_at l u (memo_of_state u) fits (memo_fits l u fits) x ∙ ap (option_map (λ q. none)) (g.grown x)))
      (by x (held_at rest x) (held_at w x) (held_amount g.full.whole x) (subst (λ o. FramedPart x (F.held x) [] o (held_at w x)) (g.grown x) (h.held x)));
  amounts = g.amounts;
  kept_values = h.kept_values;
  kept_contents = h.kept_contents;
}
  where
    by : (x : Resource) (o p : Option Fraction) → ((q : Fraction) → o ≡ Some q → IsAmount q) → FramedPart x (F.held x) [] (option_map (λ z. total_from x z ys) o) p → FramedPart x (F.held x) ys (option_map (λ q. none) (option_map (λ z. total_from x z ys) o)) p
    by x (Some r) (Some b) own i = part_trans (part_beside (F.held x) (F.amounts x) (shares_part x r ys (own r refl) g.amounts)) i
    by x None None own i = tt
    by x (Some r) None own i = absurd i
    by x None (Some b) own i = absurd i

-- ---- back: what was left, with the heap and contents that there now are

held_with_memo : (s : State) (m : Memo) (x : Resource) → held_at (with_memo s m) x ≡ held_at s x
held_with_memo s m (Place f r) = refl
held_with_memo s m (Instance p k) = refl

module _ (l : Layout) {F : Rest} {xs ys : List Share} {s rest w v : State} {m : Memo} (h : Under F s w) (fits : FitsState l rest) (memo : FitsMemo l m) (g : Gives xs s rest) (i : Owes (besides F rest g.full w) ys (empty_state l m) v) where
  left_amount : (x : Resource) → IsAmount (or_none (held_at rest x))
  left_amount x = amount_or_none (held_at rest x) (held_amount g.full.whole x)

  -- what the rest held, and what was left, is held beside
  rest_beside : (x : Resource) → is_none (F.held x) ≡ false → is_none (sum (F.held x) (or_none (held_at rest x))) ≡ false
  rest_beside x e = part_some (part_sum (F.amounts x) (left_amount x)) e

  left_beside : (x : Resource) → is_none (or_none (held_at rest x)) ≡ false → is_none (sum (F.held x) (or_none (held_at rest x))) ≡ false
  left_beside x some = part_some (subst (IsPartOf (or_none (held_at rest x))) (sum_comm (or_none (held_at rest x)) (F.held x)) (part_sum (left_amount x) (F.amounts x))) some

  back : State
  back = with_memo rest (forgotten rest m)

  back_values : (f r : ℕ) → value_at back f r ≡ value_at v f r
  unfolding back
  back_values f r = by (is_none (or_none (mask_at rest f r))) refl
    where
      by : (b : Bool) → is_none (or_none (mask_at rest f r)) ≡ b → value_at (with_memo rest (forgotten rest m)) f r ≡ value_at v f r
      by true e = value_new l rest m fits memo f r (λ q there. sym (ap (λ o. is_none (or_none o)) there) ∙ e) ∙ i.values f r
      by false e =
          value_own l rest m fits memo f r (λ q there. sym (ap (λ o. is_none (or_none o)) there) ∙ e) ∙ ap (λ maps. found_at nat_cmp maps f r) g.heap ∙ h.values f r ∙ sym (i.kept_values f r (left_beside (Place f r) e))

  back_contents : (p : ℕ) (k : Key) → content_at back p k ≡ content_at v p k
  unfolding back
  back_contents p k = by (is_none (or_none (amount_at rest p k))) refl
    where
      by : (b : Bool) → is_none (or_none (amount_at rest p k)) ≡ b → content_at (with_memo rest (forgotten rest m)) p k ≡ content_at v p k
      by true e = content_new l rest m fits memo p k (λ q there. sym (ap (λ o. is_none (or_none o)) there) ∙ e) ∙ i.contents p k
      by false e =
          content_own l rest m fits memo p k (λ q there. sym (ap (λ o. is_none (or_none o)) there) ∙ e) ∙ ap (λ maps. found_at key_cmp maps p k) g.content ∙ h.contents p k ∙ sym (i.kept_contents p k (left_beside (Instance p k) e))

  back_held : (x : Resource) → FramedPart x (F.held x) ys (held_at back x) (held_at v x)
  unfolding back
  back_held x =
      subst (λ o. FramedPart x (F.held x) ys o (held_at v x)) (sym (held_with_memo rest (forgotten rest m) x))
      (by (held_at rest x) (held_at v x) (held_amount g.full.whole x) (subst (λ o. FramedPart x (sum (F.held x) (or_none (held_at rest x))) ys o (held_at v x)) (emptied_at l rest m fits memo x) (i.held x)))
    where
      by : (o p : Option Fraction) → ((q : Fraction) → o ≡ Some q → IsAmount q) → FramedPart x (sum (F.held x) (or_none o)) ys (option_map (λ q. none) o) p → FramedPart x (F.held x) ys o p
      by (Some r) (Some b) own j = subst (λ z. IsPartOf z b) (sym (regrouped x (F.held x) r ys (F.amounts x) (own r refl) i.amounts)) j
      by None None own j = tt
      by (Some r) None own j = absurd j
      by None (Some b) own j = absurd j

  pub comes_back : Owes F ys (with_memo rest (forgotten rest m)) v
  unfolding back
  comes_back = record {
    less = full_where_fits (after_fits l rest m fits memo) (record { mask = g.full.whole.nonnegative.mask; amount = g.full.whole.nonnegative.amount });
    more = i.more;
    values = back_values;
    contents = back_contents;
    held = back_held;
    amounts = i.amounts;
    kept_values = λ f r e. i.kept_values f r (rest_beside (Place f r) e) ∙ h.kept_values f r e;
    kept_contents = λ p k e. i.kept_contents p k (rest_beside (Instance p k) e) ∙ h.kept_contents p k e;
  }
