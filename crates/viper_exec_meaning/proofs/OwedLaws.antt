-- A state to which shares are owed: it lies under the whole state without them, and what the whole state can hold.
use Rattle.std.proofs.Common.{◌≡◌, refl, sym, ap, ◌∙◌, subst, ℕ, Bool, true, false, Option, Some, None, IfSome, List, []}
use Rattle.std.proofs.lemmas.Bool.{true≢false}
use Rattle.std.proofs.lemmas.Bool.Decides.{Decides-eqb}
use Rattle.std.proofs.lemmas.List.Elements.{All-nil}
use Rattle.std.specs.Option.{option_map}
use Rattle.std.specs.Ordering.{nat_cmp}
use Rattle.sparse.specs.Map.{Map, get}
use Rattle.vb_value.specs.Fraction.{Fraction, none, write, sum, difference, is_none, is_above_one}
use Rattle.vb_value.proofs.OperationLaws.{sum_comm, sum-zero, difference-sum, sum-difference, difference_self}
use Rattle.viper_state.specs.State.{State, mask_at}
use Rattle.viper_state.proofs.Paired.{All-found}
use Rattle.viper_meaning.specs.HeldWhole.{CanBeMask, HoldsAtMostWhole}
use Rattle.viper_meaning.specs.Resource.{Resource, Place, Instance, held_at, is_null, is_too_much}
use Rattle.viper_meaning.specs.Sat.{Share}
use Rattle.viper_meaning.proofs.ArriveLaws.{part_total}
use Rattle.viper_meaning.proofs.HeldLaws.{held_amount}
use Rattle.viper_meaning.proofs.PartLaws.{is_none_itself, IsAmount, IsPartOf, amount_write, part_sum, part_added, part_trans, part_taken, part_some, part_from_enough, enough_from_part, above_by_order, whole_amount}
use Rattle.viper_meaning.proofs.UnderLaws.{Rest, Owes, Under, FramedPart, IsAmountShare, Framed}

-- ---- without what is owed

pub part_beside : {p q : Fraction} (f : Fraction) → IsAmount f → IsPartOf p q → IsPartOf (sum f p) (sum f q)
part_beside {p} {q} f a h = subst (λ z. IsPartOf z (sum f q)) (sum_comm p f) (subst (IsPartOf (sum p f)) (sum_comm q f) (part_added f h a))

pub owes_under : {F : Rest} {xs : List Share} {s w : State} → Owes F xs s w → Under F s w
owes_under {F} {xs} {s} {w} h = record {
  less = h.less;
  more = h.more;
  values = h.values;
  contents = h.contents;
  held = λ x. by x (held_at s x) (held_at w x) (held_amount h.less.whole x) (h.held x);
  amounts = All-nil IsAmountShare;
  kept_values = h.kept_values;
  kept_contents = h.kept_contents;
}
  where
    by : (x : Resource) (o p : Option Fraction) → ((a : Fraction) → o ≡ Some a → IsAmount a) → FramedPart x (F.held x) xs o p → FramedPart x (F.held x) [] o p
    by x (Some a) (Some b) own g = part_trans (part_beside (F.held x) (F.amounts x) (part_total x a xs (own a refl) h.amounts)) g
    by x None None own g = tt
    by x (Some a) None own g = absurd g
    by x None (Some b) own g = absurd g

-- ---- of each place at most the whole is held

in_mask : (o : Option (Map ℕ Fraction)) (r : ℕ) (q : Fraction) → IfSome o CanBeMask → option_map (λ m. get nat_cmp m r) o ≡ Some q → (is_above_one q ≡ false) × (r ≡ 0 → is_none q ≡ true)
in_mask (Some m) r q i e =
    let there : Some (get nat_cmp m r) ≡ Some q = e in
    let same : get nat_cmp m r ≡ q = cc in
    (ap is_above_one (sym same) ∙ i.at_most_whole r, λ null. ap is_none (sym same) ∙ ap (λ n. is_none (get nat_cmp m n)) null ∙ i.nothing_of_null)
in_mask None r q i e = cc

module _ (w : State) (h : HoldsAtMostWhole w) where
  of_place : (f r : ℕ) (q : Fraction) → mask_at w f r ≡ Some q → (is_above_one q ≡ false) × (r ≡ 0 → is_none q ≡ true)
  of_place f r q e = in_mask _ r q (All-found CanBeMask w.mask f h) e

  pub not_too_much : (x : Resource) (q : Fraction) → held_at w x ≡ Some q → is_too_much x q ≡ false
  not_too_much (Place f r) q e = (of_place f r q e).0
  not_too_much (Instance p k) q e = refl

  pub nothing_of_null : (x : Resource) (q : Fraction) → held_at w x ≡ Some q → is_null x ≡ true → is_none q ≡ true
  nothing_of_null (Place f r) q e null = (of_place f r q e).1 ((Decides-eqb r 0).0 null)
  nothing_of_null (Instance p k) q e null = cc

-- where all is held, and no more than all can be, nobody else holds anything
pub record IsAlone (f b : Fraction) : Type 0 where
  pub rest : is_none f ≡ true
  pub all : b ≡ write

none_of_none : {p : Fraction} → IsPartOf p none → is_none p ≡ true
none_of_none {p} h = by (is_none p) refl
  where
    by : (b : Bool) → is_none p ≡ b → is_none p ≡ true
    by true e = e
    by false e = absurd (true≢false (part_some h e))

pub none_and_whole : sum none write ≡ write
none_and_whole = sum_comm none write ∙ sum-zero write amount_write.reduced

pub alone : {f b : Fraction} → Framed f write b → is_above_one b ≡ false → IsAlone f b
alone {f} {b} h e =
    let positive = amount_write.reduced.positive in
    let own : IsPartOf write (sum f write) = subst (IsPartOf write) (sum_comm write f) (part_sum amount_write h.rest) in
    let small : IsPartOf b write = part_from_enough (whole_amount h.all) amount_write (sym (above_by_order b) ∙ e) in
    let over : IsPartOf (difference b write) none = subst (IsPartOf (difference b write)) (difference_self write positive) (part_taken write small amount_write (enough_from_part (part_trans own h.all))) in
    let others : IsPartOf f (difference b write) = subst (λ z. IsPartOf z (difference b write)) (difference-sum f write h.rest.reduced positive) (part_taken write h.all amount_write (enough_from_part own)) in
    let nothing : difference b write ≡ none = is_none_itself (difference b write) over.part.reduced (none_of_none over) in
    record {
      rest = none_of_none (part_trans others over);
      all = sym (sum-difference b write small.part.reduced positive) ∙ ap (λ z. sum z write) nothing ∙ none_and_whole;
    }
