-- Sums of shares: in any order, beside an amount, and scaled; and states of which one is the other and some shares besides.
use Rattle.std.proofs.Common.{◌≡◌, refl, sym, ap, ◌∙◌, subst, Bool, true, false, Option, Some, None, List, [], ◌∷◌, ◌++◌, All, if◌then◌else◌}
use Rattle.std.proofs.lemmas.List.Elements.{All-nil, All-cons, All-head, All-tail, All-append}
use Rattle.std.specs.Option.{option_map}
use Rattle.std.specs.Ordering.{is_lt}
use Rattle.viper_meaning.proofs.SatProduceLaws.{total_append}
use Rattle.vb_value.specs.Fraction.{Fraction, none, write, sum, product, difference, order}
use Rattle.vb_value.proofs.OperationLaws.{sum_comm, sum_assoc, sum-zero, sum-difference, product-one}
use Rattle.viper_state.specs.State.{State}
use Rattle.viper_meaning.specs.Resource.{Resource, Place, Instance, held_at, with_held}
use Rattle.viper_meaning.specs.Sat.{Share, is_same, total_from}
use Rattle.viper_meaning.proofs.ArriveLaws.{total_amount}
use Rattle.viper_meaning.proofs.HeldLaws.{held_amount, held_with, option_same, same_resource}
use Rattle.viper_meaning.proofs.NearLaws.{IsFull, full_with_held}
use Rattle.viper_meaning.proofs.PartLaws.{IsAmount, amount_none, amount_sum, amount_product, part_self, part_taken}
use Rattle.viper_meaning.proofs.UnderLaws.{IsAmountShare}
use Rattle.viper_exec_meaning.proofs.Under.{Gives, scaled_share, scaled}

-- ---- sums

module _ (x : Resource) (f : Fraction) (a : IsAmount f) where
  step_beside : (b : Bool) (h q : Fraction) → IsAmount h → IsAmount q → (if b then sum (sum f h) q else sum f h) ≡ sum f (if b then sum h q else h)
  step_beside true h q c d = sum_assoc f h q a.reduced.positive c.reduced.positive d.reduced.positive
  step_beside false h q c d = refl

  amount_step : (b : Bool) (h q : Fraction) → IsAmount h → IsAmount q → IsAmount (if b then sum h q else h)
  amount_step true h q c d = amount_sum c d
  amount_step false h q c d = c

  -- an amount beside
  pub total_beside : (h : Fraction) (xs : List Share) → IsAmount h → All IsAmountShare xs → total_from x (sum f h) xs ≡ sum f (total_from x h xs)
  total_beside h [] c g = refl
  total_beside h (share ∷ xs) c g =
      let one = All-head IsAmountShare share xs g in
      let same = is_same x share.of in
      ap (λ z. total_from x z xs) (step_beside same h share.amount c one) ∙ total_beside (if same then sum h share.amount else h) xs (amount_step same h share.amount c one) (All-tail IsAmountShare share xs g)

-- from nothing
pub total_from_none : (x : Resource) (h : Fraction) (xs : List Share) → IsAmount h → All IsAmountShare xs → total_from x h xs ≡ sum h (total_from x none xs)
total_from_none x h xs a g = ap (λ z. total_from x z xs) (sym (sum-zero h a.reduced)) ∙ total_beside x h a none xs amount_none g

-- in the other order
pub total_swap : (x : Resource) (h : Fraction) (xs ys : List Share) → IsAmount h → All IsAmountShare xs → All IsAmountShare ys → total_from x (total_from x h xs) ys ≡ total_from x (total_from x h ys) xs
total_swap x h xs ys a f g =
    let first_sum = total_from x none xs in
    let in_first : IsAmount first_sum = total_amount x xs f in
    let later : total_from x (total_from x h xs) ys ≡ sum first_sum (total_from x h ys) =
    ap (λ z. total_from x z ys) (total_from_none x h xs a f ∙ sum_comm h first_sum) ∙ total_beside x first_sum in_first h ys a g in
    let earlier : total_from x (total_from x h ys) xs ≡ sum first_sum (total_from x h ys) =
    total_from_none x (total_from x h ys) xs (amount_total h ys a g) f ∙ sum_comm (total_from x h ys) first_sum in
    later ∙ sym earlier
  where
    amount_total : (h : Fraction) (ys : List Share) → IsAmount h → All IsAmountShare ys → IsAmount (total_from x h ys)
    amount_total h ys a g = subst IsAmount (sym (total_from_none x h ys a g)) (amount_sum a (total_amount x ys g))

-- ---- scales

pub scaled_amounts : (k : Fraction) (xs : List Share) → IsAmount k → All IsAmountShare xs → All IsAmountShare (scaled k xs)
scaled_amounts k [] a g = All-nil IsAmountShare
scaled_amounts k (share ∷ xs) a g =
    All-cons IsAmountShare (scaled_share k share) (scaled k xs) (amount_product a (All-head IsAmountShare share xs g)) (scaled_amounts k xs a (All-tail IsAmountShare share xs g))

-- times 1
pub scaled-one : (xs : List Share) → All IsAmountShare xs → scaled write xs ≡ xs
scaled-one [] g = refl
scaled-one (share ∷ xs) g =
    let same : product write share.amount ≡ share.amount = product-one share.amount (All-head IsAmountShare share xs g).reduced in
    λ i. record { of = share.of; amount = same i } ∷ scaled-one xs (All-tail IsAmountShare share xs g) i

-- ---- what is given up

pub gives_nothing : {s : State} → IsFull s → Gives [] s s
gives_nothing {s} h = record { full = h; heap = refl; content = refl; grown = λ x. sym (option_same (held_at s x)); amounts = All-nil IsAmountShare }

-- an amount that is taken
pub gives_one : {s : State} → IsFull s → (x : Resource) (held q : Fraction) → held_at s x ≡ Some held → IsAmount q → is_lt (order held q) ≡ false →
    Gives (record { of = x; amount = q } ∷ []) s (with_held s x (difference held q))
gives_one {s} h x held q e a enough = record {
  full = full_with_held h x left in_left;
  heap = same_heap x;
  content = same_content x;
  grown = λ y. at_resource y (held_at s y) (is_same y x) (λ same. ap (held_at s) (same_resource y x same) ∙ e) ∙ sym (ap (option_map (λ h. if is_same y x then sum h q else h)) (held_with h.whole x left y));
  amounts = All-cons IsAmountShare (record { of = x; amount = q }) [] a (All-nil IsAmountShare);
}
  where
    own : IsAmount held
    own = held_amount h.whole x held e

    left : Fraction
    left = difference held q

    in_left : IsAmount left
    in_left = (part_taken q (part_self own) a enough).part

    same_heap : (y : Resource) → (with_held s y left).heap ≡ s.heap
    same_heap (Place f r) = refl
    same_heap (Instance p k) = refl

    same_content : (y : Resource) → (with_held s y left).content ≡ s.content
    same_content (Place f r) = refl
    same_content (Instance p k) = refl

    at_resource : (y : Resource) (o : Option Fraction) (b : Bool) → (b ≡ true → o ≡ Some held) → o ≡ option_map (λ h. if b then sum h q else h) (option_map (λ h. if b then left else h) o)
    at_resource y None b g = refl
    at_resource y (Some h) false g = refl
    at_resource y (Some h) true g = g refl ∙ ap Some (sym (sum-difference held q own.reduced a.reduced.positive))

-- one after the other
pub gives_both : {s t u : State} {xs ys : List Share} → Gives xs s t → Gives ys t u → Gives (xs ++ ys) s u
gives_both {s} {t} {u} {xs} {ys} h g = record {
  full = g.full;
  heap = g.heap ∙ h.heap;
  content = g.content ∙ h.content;
  grown = λ x. h.grown x ∙ ap (option_map (λ z. total_from x z xs)) (g.grown x) ∙ by x (held_at u x) (held_amount g.full.whole x);
  amounts = All-append IsAmountShare xs ys h.amounts g.amounts;
}
  where
    by : (x : Resource) (o : Option Fraction) → ((q : Fraction) → o ≡ Some q → IsAmount q) → option_map (λ z. total_from x z xs) (option_map (λ z. total_from x z ys) o) ≡ option_map (λ z. total_from x z (xs ++ ys)) o
    by x None own = refl
    by x (Some q) own = ap Some (total_swap x q ys xs (own q refl) g.amounts h.amounts ∙ sym (total_append x q xs ys))
