-- Consuming in two states, of which one lies under the other: the small one fails, or gives up just the shares that the whole one
-- asks for.
use Rattle.std.proofs.Common.{◌≡◌, refl, sym, ◌∙◌, subst, Bool, true, false, Some, List, [], ◌∷◌, ◌++◌, All, if◌then◌else◌}
use Rattle.std.proofs.lemmas.Bool.{true≢false}
use Rattle.std.proofs.lemmas.List.{map-append}
use Rattle.std.proofs.lemmas.List.Elements.{All-nil, All-cons, All-head, All-tail, All-append}
use Rattle.std.specs.Ordering.{is_lt}
use Rattle.vb_base.specs.declared.labels.Kind.TheVariants as kind
use Rattle.vb_base.specs.declared.places.Pos.{Pos}
use Rattle.vb_value.specs.Bound.{Unbounded}
use Rattle.vb_value.specs.Fraction.{Fraction, IsReduced, write, product, difference, order, is_negative}
use Rattle.vb_value.specs.declared.values.Ty.TheVariants as ty
use Rattle.viper_core.specs.Expr as t
use Rattle.viper_core.specs.Formed.{IsTypedProgram}
use Rattle.viper_core.specs.Typing as typing
use Rattle.viper_core.specs.Typing.{Context, HasType, IsAssertion}
use Rattle.viper_core.specs.Written.{HasNoWildcard}
use Rattle.viper_state.specs.Choice.{Choice}
use Rattle.viper_state.specs.Run.{Scene}
use Rattle.viper_state.specs.State.{State}
use Rattle.viper_meaning.specs.Assertions.{taken_from, consume_amount, consume}
use Rattle.viper_meaning.specs.Ends.{is, fails, after, then_with, unless}
use Rattle.viper_meaning.specs.Resource.{Resource, held_at, with_held}
use Rattle.viper_meaning.specs.Run.{goes}
use Rattle.viper_meaning.specs.Sat.{Has, Share}
use Rattle.viper_meaning.specs.Statements.{consume_all}
use Rattle.viper_meaning.specs.Value.{truth_in, perm_in}
use Rattle.viper_meaning.proofs.AgreeLaws.{failed, is_agrees, after_agrees, then_agrees}
use Rattle.viper_meaning.proofs.MoreLaws.{ScenesAgree}
use Rattle.viper_meaning.proofs.OpenedLaws.{AreClose, where_not}
use Rattle.viper_meaning.proofs.PartLaws.{IsAmount, amount_product, amount_write, part_enough}
use Rattle.viper_meaning.proofs.UnderLaws.{Rest, Under, IsAmountShare, own_part, framed_at, framed_taken, under_held}
use Rattle.viper_exec_meaning.proofs.KnownLaws.{then_known, then_both_know, evaluating_both_know}
use Rattle.viper_exec_meaning.proofs.SafeLaws.{Leads, together, goes_leads, then_leads, weaker_leads}
use Rattle.viper_exec_meaning.proofs.Shares.{gives_nothing, gives_one, gives_both, scaled-one}
use Rattle.viper_exec_meaning.proofs.TwoLaws.{found_two, truth_two, perm_two, place_two, instance_two, perm_reduced}
use Rattle.viper_exec_meaning.proofs.Under as under
use Rattle.viper_exec_meaning.proofs.Under.{Gives, Asks, GivesUp, GivesUpAll, scaled_share}

-- ---- one amount

module _ (F : Rest) (sc sd : Scene) (k : Fraction) (scale : IsAmount k) (x : Resource) (at : Pos) (q : Fraction) (reduced : IsReduced q) (l m : State) (h : Under F l m) (P : State → State → Type 0)
    (go : is_negative q ≡ false → (u v : State) → Gives (record { of = x; amount = product k q } ∷ []) l u → Under F u v → P u v) where
  left_two : (sign : is_negative q ≡ false) (a b : Fraction) → held_at l x ≡ Some a → held_at m x ≡ Some b → (c d : Bool) → is_lt (order a (product k q)) ≡ c → is_lt (order b (product k q)) ≡ d →
      AreClose P (then_with (after [] (unless c (fails sc at kind.Perm) (is (difference a (product k q))))) (λ rest. is (with_held l x rest))) (then_with (after [] (unless d (fails sd at kind.Perm) (is (difference b (product k q))))) (λ rest. is (with_held m x rest)))
  left_two sign a b e g true d i j = failed
  left_two sign a b e g false true i j =
      let framed = framed_at h x a b e g in
      absurd (true≢false (sym j ∙ part_enough (product k q) (own_part framed) (amount_product scale (record { reduced = reduced; not_negative = sign })) i))
  left_two sign a b e g false false i j =
      let amount : IsAmount (product k q) = amount_product scale (record { reduced = reduced; not_negative = sign }) in
      is_agrees (go sign (with_held l x (difference a (product k q))) (with_held m x (difference b (product k q))) (gives_one h.less x a (product k q) e amount i)
      (under_held h x (difference a (product k q)) (difference b (product k q)) (framed_taken (product k q) (framed_at h x a b e g) amount i)))

  taken_from_two : AreClose P (taken_from Unbounded sc k x at l q) (taken_from Unbounded sd k x at m q)
  taken_from_two =
      where_not (is_negative q) failed (λ sign. then_agrees (found_two x h) (λ a b there. after_agrees [] [] (left_two sign a b there.0 there.1 (is_lt (order a (product k q))) (is_lt (order b (product k q))) refl refl)))

-- ---- assertions

module _ (F : Rest) (c : Context) (typed : IsTypedProgram c.program) (s w : State) (sc sd : Scene) (h : Under F s w) (g : ScenesAgree c sc sd) where
  module _ (k : Fraction) (scale : IsAmount k) where
    gives_up_nothing : {a : t.Assertion} {l m : State} → Asks w sd a [] → Under F l m → GivesUp F w sd a k l l m
    gives_up_nothing asks u = record { shares = []; amounts = All-nil IsAmountShare; asked = asks; given = gives_nothing u.less; under = u }

    amount_two : {C : Choice → Type 0} {a : t.Assertion} {m : t.Expr} (at : Pos) (x : Resource) (l n : State) → HasType c m ty.Perm → Under F l n → ((q : Fraction) → Has q (perm_in Unbounded m w sd) → is_negative q ≡ false → Asks w sd a (record { of = x; amount = q } ∷ [])) →
        Leads C (GivesUp F w sd a k l) (consume_amount Unbounded (t.Is m) s sc k at l x) (consume_amount Unbounded (t.Is m) w sd k at n x)
    amount_two {a = a} {m = m} at x l n i u asks =
        together (then_known IsReduced (perm_two F c typed s w sc sd h g i) (perm_reduced F c typed s w sc sd h g i) (λ q reduced has.
        taken_from_two F sc sd k scale x at q reduced l n u (GivesUp F w sd a k l) (λ sign y z given v. record {
          shares = record { of = x; amount = q } ∷ [];
          amounts = All-cons IsAmountShare (record { of = x; amount = q }) [] (record { reduced = reduced; not_negative = sign }) (All-nil IsAmountShare);
          asked = asks q has sign;
          given = given;
          under = v;
        })))

    both_given : {a b : t.Assertion} {l u v y z : State} → GivesUp F w sd a k l u v → GivesUp F w sd b k u y z → GivesUp F w sd (t.And a b) k l y z
    both_given {l = l} {y = y} r q = record {
      shares = r.shares ++ q.shares;
      amounts = All-append IsAmountShare r.shares q.shares r.amounts q.amounts;
      asked = under.both r.asked q.asked;
      given = subst (λ xs. Gives xs l y) (sym (map-append (scaled_share k) r.shares q.shares)) (gives_both r.given q.given);
      under = q.under;
    }

    -- other shares of the same
    asked_as : {a b : t.Assertion} {l : State} → ((xs : List Share) → Asks w sd a xs → Asks w sd b xs) → (u v : State) → GivesUp F w sd a k l u v → GivesUp F w sd b k l u v
    asked_as go u v r = record { shares = r.shares; amounts = r.amounts; asked = go r.shares r.asked; given = r.given; under = r.under }

    pub consume_one : {C : Choice → Type 0} {a : t.Assertion} → IsAssertion c a → HasNoWildcard a → (l m : State) → Under F l m → Leads C (GivesUp F w sd a k l) (consume Unbounded a s sc k l) (consume Unbounded a w sd k m)
    consume_one (typing.fact {a = e} {at = at} i) n l m u = together (then_both_know (truth_two F c typed s w sc sd h g i) by)
      where
        by : (b : Bool) → Has b (truth_in Unbounded e w sd) → AreClose (GivesUp F w sd (t.Fact e at) k l) (if b then is l else fails sc at kind.Fact) (if b then is m else fails sd at kind.Fact)
        by true has = is_agrees (gives_up_nothing (under.fact has) u)
        by false has = failed
    consume_one (typing.access {f = f} {at = at} i there (typing.amount j)) n l m u = evaluating_both_know (place_two F c typed s w sc sd h g f i) (λ x has. amount_two at x l m j u (λ q of sign. under.place has of sign))
    consume_one (typing.access i there (typing.wildcard outside)) n l m u = absurd n
    consume_one (typing.instance {p = p} {at = at} d there i (typing.amount j)) n l m u = evaluating_both_know (instance_two F c typed s w sc sd h g p i) (λ x has. amount_two at x l m j u (λ q of sign. under.instance has of sign))
    consume_one (typing.instance d there i (typing.wildcard outside)) n l m u = absurd n
    consume_one (typing.both i j) n l m u = then_leads (consume_one i n.0 l m u) (λ x y r. weaker_leads (λ v z q. both_given r q) (consume_one j n.1 x y r.under))
    consume_one {C = C} (typing.implied {a = e} {b = a} i j) n l m u = evaluating_both_know (truth_two F c typed s w sc sd h g i) (by (consume_one j n l m u))
      where
        by : Leads C (GivesUp F w sd a k l) (consume Unbounded a s sc k l) (consume Unbounded a w sd k m) → (b : Bool) → Has b (truth_in Unbounded e w sd) → Leads C (GivesUp F w sd (t.Implies e a) k l) (if b then consume Unbounded a s sc k l else goes l) (if b then consume Unbounded a w sd k m else goes m)
        by go true has = weaker_leads (asked_as (λ xs asks. under.counts has asks)) go
        by go false has = goes_leads (gives_up_nothing (under.does_not_count has) u)
    consume_one {C = C} (typing.chosen {a = e} {b = a} {d = d} i j p) n l m u = evaluating_both_know (truth_two F c typed s w sc sd h g i) (by (consume_one j n.0 l m u) (consume_one p n.1 l m u))
      where
        by : Leads C (GivesUp F w sd a k l) (consume Unbounded a s sc k l) (consume Unbounded a w sd k m) → Leads C (GivesUp F w sd d k l) (consume Unbounded d s sc k l) (consume Unbounded d w sd k m) → (b : Bool) → Has b (truth_in Unbounded e w sd) →
            Leads C (GivesUp F w sd (t.ChooseAssertion e a d) k l) (if b then consume Unbounded a s sc k l else consume Unbounded d s sc k l) (if b then consume Unbounded a w sd k m else consume Unbounded d w sd k m)
        by go other true has = weaker_leads (asked_as (λ xs asks. under.first has asks)) go
        by go other false has = weaker_leads (asked_as (λ xs asks. under.second has asks)) other

  -- ---- clauses

  all_given : {a : t.Assertion} {rest : List t.Assertion} {l u v y z : State} → GivesUp F w sd a write l u v → GivesUpAll F w sd rest u y z → GivesUpAll F w sd (a ∷ rest) l y z
  all_given {l = l} {u = u} r q = record {
    shares = r.shares ++ q.shares;
    asked = under.clause r.asked q.asked;
    given = gives_both (subst (λ xs. Gives xs l u) (scaled-one r.shares r.amounts) r.given) q.given;
    under = q.under;
  }

  pub consume_each : {C : Choice → Type 0} (clauses : List t.Assertion) → All (IsAssertion c) clauses → All HasNoWildcard clauses → (l m : State) → Under F l m → Leads C (GivesUpAll F w sd clauses l) (consume_all Unbounded clauses s sc l) (consume_all Unbounded clauses w sd m)
  consume_each [] i n l m u = goes_leads (record { shares = []; asked = under.no_clause; given = gives_nothing u.less; under = u })
  consume_each (a ∷ rest) i n l m u =
      then_leads (consume_one write amount_write (All-head (IsAssertion c) a rest i) (All-head HasNoWildcard a rest n) l m u) (λ x y r.
      weaker_leads (λ v z q. all_given r q) (consume_each rest (All-tail (IsAssertion c) a rest i) (All-tail HasNoWildcard a rest n) x y r.under))

  -- from the states themselves
  pub consume_two : {C : Choice → Type 0} (clauses : List t.Assertion) → All (IsAssertion c) clauses → All HasNoWildcard clauses → Leads C (GivesUpAll F w sd clauses s) (consume_all Unbounded clauses s sc s) (consume_all Unbounded clauses w sd w)
  consume_two clauses i n = consume_each clauses i n s w h
