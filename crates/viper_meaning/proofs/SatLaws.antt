-- The law of satisfaction from a state in which nothing is held, the other way round: what satisfies an assertion is reached.
use Rattle.std.proofs.Common.{◌≡◌, refl, sym, ap, ◌∙◌, subst, false, Option, Some, None, List, [], ◌++◌, map, All, append-nil}
use Rattle.std.specs.Option.{option_map}
use Rattle.std.specs.Ordering.{nat_cmp}
use Rattle.sparse.specs.Map.{IsReduced}
use Rattle.vb_value.specs.Bound.{Unbounded, Bounded}
use Rattle.vb_value.specs.Content.{same_content}
use Rattle.vb_value.specs.Fraction as fraction
use Rattle.vb_value.specs.Fraction.{Fraction, write}
use Rattle.vb_value.specs.Key.{key_cmp}
use Rattle.vb_value.specs.Layout.{Layout}
use Rattle.vb_value.specs.Value.{value_eq}
use Rattle.viper_core.specs.Expr as t
use Rattle.viper_core.specs.Literals.{IsProperAssertion}
use Rattle.viper_state.specs.Choice as choice
use Rattle.viper_state.specs.Choice.{Choice}
use Rattle.viper_state.specs.Fits.{FitsHeap, FitsContents, FitsMask, FitsAmounts, FitsState}
use Rattle.viper_state.specs.State.{State, empty_state}
use Rattle.viper_state.specs.Run.{Scene}
use Rattle.viper_state.specs.Within.{IsProperScene, IsNotNegative}
use Rattle.viper_state.proofs.FitsLaws.{empty_state_fits, memo_fits, mask_found, amount_found, field_of_mask, predicate_of_amount}
use Rattle.viper_state.proofs.Paired.{All-paired}
use Rattle.viper_state.proofs.ProperLaws.{memo_proper, state_proper}
use Rattle.viper_meaning.specs.Assertions.{produce}
use Rattle.viper_meaning.specs.ComparedRuns.{is_over}
use Rattle.viper_meaning.specs.Resource.{Resource, Place, Instance, held_at}
use Rattle.viper_meaning.specs.Run.{Goes, Fails, Blocked, Short, Over, Ran, ran, on}
use Rattle.viper_meaning.specs.Sat.{Share, total, total_from, Sat, Arrives, memo_of_state}
use Rattle.viper_meaning.proofs.ArriveLaws.{Before, amounts_of, total_amount, arrives, arrives_at, before_end}
use Rattle.viper_meaning.proofs.HeldLaws.{IsHeld, empty_whole, empty_holds_none}
use Rattle.viper_meaning.proofs.HeldSignLaws.{nonnegative_from_held}
use Rattle.viper_meaning.proofs.NearLaws.{IsFull}
use Rattle.viper_meaning.proofs.RunBoundLaws.{small_run, produce_bounded}
use Rattle.viper_meaning.proofs.UnderLaws.{IsAmountShare}

pub reduced_heap : (l : Layout) (s : State) → FitsState l s → All (IsReduced nat_cmp value_eq) s.heap
reduced_heap l s h = All-paired FitsHeap (IsReduced nat_cmp value_eq) (λ u m i. i.reduced) l.fields s.heap h.heap

pub reduced_content : (l : Layout) (s : State) → FitsState l s → All (IsReduced key_cmp same_content) s.content
reduced_content l s h = All-paired FitsContents (IsReduced key_cmp same_content) (λ us m i. i.reduced) l.keys s.content h.content

pub held_masks : (l : Layout) (s : State) → FitsState l s → All (IsHeld nat_cmp) s.mask
held_masks l s h = All-paired FitsMask (IsHeld nat_cmp) (λ u m i. record { default = i.default; reduced = i.reduced }) l.fields s.mask h.mask

pub held_amounts : (l : Layout) (s : State) → FitsState l s → All (IsHeld key_cmp) s.amount
held_amounts l s h = All-paired FitsAmounts (IsHeld key_cmp) (λ us m i. record { default = i.default; reduced = i.reduced }) l.keys s.amount h.amount

-- a state in which a sum of amounts is held of each resource
pub full_state : (l : Layout) (s : State) (shares : List Share) → FitsState l s → All IsAmountShare shares → ((x : Resource) (q : Fraction) → held_at s x ≡ Some q → q ≡ total x shares) → IsFull s
full_state l s shares h amounts held = record {
  whole = record {
    proper = state_proper l s h;
    nonnegative = nonnegative_from_held s (held_masks l s h) (held_amounts l s h) (λ x q e. subst IsNotNegative (sym (held x q e)) (total_amount x shares amounts).not_negative);
    mask = held_masks l s h;
    amount = held_amounts l s h;
  };
  heap = reduced_heap l s h;
  content = reduced_content l s h;
}

-- two states of one program hold amounts of the same resources
pub held_there : {l : Layout} {s w : State} → FitsState l s → FitsState l w → (x : Resource) (q : Fraction) → held_at s x ≡ Some q → (p : Fraction) × (held_at w x ≡ Some p)
held_there h g (Place f r) q e =
    let at = field_of_mask h f r q e in
    let there = mask_found g f r at.0 at.1.0 in
    (there.0, there.1.0)
held_there h g (Instance p k) q e =
    let at = predicate_of_amount h p k q e in
    let there = amount_found g p k at.0 at.1.0 in
    (there.0, there.1.0)

-- from a state in which nothing is held, all shares are still to come
module _ (l : Layout) (u : State) (fits : FitsState l u) where
  starts : (shares : List Share) → ((x : Resource) (q : Fraction) → held_at u x ≡ Some q → q ≡ total x shares) → (x : Resource) → held_at u x ≡ option_map (λ h. total_from x h shares) (held_at (empty_state l (memo_of_state u)) x)
  starts shares held x = by_option (held_at u x) refl (held_at (empty_state l (memo_of_state u)) x) refl
    where
      in_start : FitsState l (empty_state l (memo_of_state u))
      in_start = empty_state_fits l (memo_of_state u) (memo_fits l u fits)

      by_option : (o : Option Fraction) → held_at u x ≡ o → (p : Option Fraction) → held_at (empty_state l (memo_of_state u)) x ≡ p → o ≡ option_map (λ h. total_from x h shares) p
      by_option (Some q) e (Some z) g = ap Some (held x q e ∙ ap (λ h. total_from x h shares) (sym (empty_holds_none l (memo_of_state u) x z g)))
      by_option None e None g = refl
      by_option (Some q) e None g =
          let there = held_there fits in_start x q e in
          let no : None ≡ Some there.0 = sym g ∙ there.1 in cc
      by_option None e (Some z) g =
          let there = held_there in_start fits x z g in
          let no : None ≡ Some there.0 = sym e ∙ there.1 in cc

pub satisfied_is_reached : (l : Layout) (a : t.Assertion) (sc : Scene) (u : State) (qs : List Fraction) (left : List Choice) → IsProperAssertion Unbounded a → IsProperScene Unbounded sc → FitsState l u →
    All fraction.IsReduced qs → Sat a u sc qs → Arrives (λ s. s ≡ u) left (on (produce Unbounded a sc write (empty_state l (memo_of_state u))) (map choice.Amount qs ++ left))
satisfied_is_reached l a sc u qs left i in_sc fits reduced s =
    let amounts = amounts_of u (state_proper l u fits) sc in_sc s.denoted i reduced in
    let full = full_state l u s.shares fits amounts s.held in
    let start = empty_state l (memo_of_state u) in
    let first : Before u start s.shares = record {
      full = record { whole = empty_whole l (memo_of_state u) (memo_proper l (memo_of_state u) (memo_fits l u fits)); heap = reduced_heap l u fits; content = reduced_content l u fits };
      heap = refl;
      content = refl;
      grown = starts l u fits s.shares s.held;
      amounts = amounts;
    } in
    arrives_at (λ t. Before u t []) (λ t. t ≡ u) left (λ t. before_end full) (on (produce Unbounded a sc write start) (map choice.Amount qs ++ left))
    (arrives u full s.at_most_one sc in_sc s.denoted i reduced start [] left (subst (Before u start) (sym (append-nil s.shares)) first))

-- and with the bound, where it may be Over
bounded_arrives : {X : Type 0} (P : X → Type 0) (left : List Choice) (r v : Ran X) → (is_over r ≡ false → r ≡ v) → Arrives P left v → Arrives P left r
bounded_arrives P left (ran es (Goes x) rest) v h g = subst (Arrives P left) (sym (h refl)) g
bounded_arrives P left (ran es (Fails f) rest) v h g = tt
bounded_arrives P left (ran es Blocked rest) v h g = subst (Arrives P left) (sym (h refl)) g
bounded_arrives P left (ran es Short rest) v h g = subst (Arrives P left) (sym (h refl)) g
bounded_arrives P left (ran es (Over at) rest) v h g = tt

pub bounded_is_reached : (l : Layout) (a : t.Assertion) (sc : Scene) (u : State) (qs : List Fraction) (left : List Choice) → IsProperAssertion Unbounded a → IsProperScene Unbounded sc → FitsState l u →
    All fraction.IsReduced qs → Sat a u sc qs → Arrives (λ s. s ≡ u) left (on (produce Bounded a sc write (empty_state l (memo_of_state u))) (map choice.Amount qs ++ left))
bounded_is_reached l a sc u qs left i in_sc fits reduced s =
    let choices = map choice.Amount qs ++ left in
    let start = empty_state l (memo_of_state u) in
    bounded_arrives (λ t. t ≡ u) left (on (produce Bounded a sc write start) choices) (on (produce Unbounded a sc write start) choices) (small_run (produce_bounded a sc write start) choices)
    (satisfied_is_reached l a sc u qs left i in_sc fits reduced s)
