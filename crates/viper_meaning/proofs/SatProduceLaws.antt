-- What producing an assertion without `unfolding` reaches satisfies it.
use Rattle.std.proofs.Common.{◌≡◌, refl, sym, ap, ◌∙◌, subst, Bool, true, false, Option, Some, None, List, [], ◌∷◌, ◌++◌, map, All, if◌then◌else◌}
use Rattle.std.proofs.lemmas.Bool.{true≢false}
use Rattle.std.proofs.lemmas.List.{map-append}
use Rattle.std.specs.Option.{option_map}
use Rattle.vb_base.specs.declared.labels.Kind.TheVariants as kind
use Rattle.vb_base.specs.declared.places.Pos.{Pos}
use Rattle.vb_value.specs.Bound.{Unbounded, Bounded}
use Rattle.vb_value.specs.Fraction.{Fraction, IsReduced, IsProperFraction, none, write, sum, product, is_negative, is_positive, is_none}
use Rattle.vb_value.specs.Layout.{Layout}
use Rattle.vb_value.proofs.OperationLaws.{product-one, sum-zero}
use Rattle.viper_core.specs.Expr as t
use Rattle.viper_core.specs.Literals.{IsProperExpr, IsProperAmount, IsProperAssertion}
use Rattle.viper_core.specs.Plain.{OpensNothing, AmountOpensNothing, AssertionOpensNothing}
use Rattle.viper_state.specs.Choice as choice
use Rattle.viper_state.specs.Choice.{Choice}
use Rattle.viper_state.specs.Event.{Event}
use Rattle.viper_state.specs.State.{State, Memo, empty_state}
use Rattle.viper_state.specs.Run.{Scene}
use Rattle.viper_state.specs.Within.{IsProperMemo, IsProperScene, IsProperChoice}
use Rattle.viper_meaning.specs.Assertions.{place_in, instance_in, more_held, given_to, some_given_to, produce_amount, produce}
use Rattle.viper_meaning.specs.Ends.{Evaluated, is, fails, blocks, unless}
use Rattle.viper_meaning.specs.Places.{added}
use Rattle.viper_meaning.specs.ComparedRuns.{is_over}
use Rattle.viper_meaning.specs.Resource.{Resource, Place, Instance, held_at, with_held, is_null, is_too_much}
use Rattle.viper_meaning.specs.Run.{ended, goes, Goes, ran, on}
use Rattle.viper_meaning.specs.Sat as sat
use Rattle.viper_meaning.specs.Sat.{Has, Share, is_same, total, total_from, CanBeHeld, DenotesAmount, Denotes, Sat}
use Rattle.viper_meaning.specs.Value.{truth_in, perm_in}
use Rattle.viper_meaning.proofs.AgreeLaws.{truth_stays, perm_stays, place_stays, instance_stays}
use Rattle.viper_meaning.proofs.EveryLaws.{Every, kept_value, every_is, every_blocks, every_fails, every_evaluating, every_then_with, every_then_do, every_found, every_unless, every_where, every_if, every_if_ended, every_amount, every_weaker, every_on}
use Rattle.viper_meaning.proofs.HeldLaws.{IsWhole, Near, held_amount, held_with, with_held_whole, near_self, near_trans, near_grown, part_there, empty_whole, empty_holds_none, option_same, same_resource}
use Rattle.viper_meaning.proofs.ReadLaws.{perm_proper}
use Rattle.viper_meaning.proofs.PartLaws.{IsAmount, is_none_itself, amount_sum, some_from_positive}
use Rattle.viper_meaning.proofs.RunBoundLaws.{small_run, produce_bounded}
use Rattle.vb_value.proofs.SignLaws.{positive_not_negative}

-- of no place is more than 1 held
pub record IsCapped (s : State) : Type 0 where
  pub at_most_one : (x : Resource) (q : Fraction) → held_at s x ≡ Some q → is_too_much x q ≡ false

-- these shares were added to what is held
abbrev pub Grown : State → State → List Share → Type 0
Grown s u shares = (x : Resource) → held_at u x ≡ option_map (λ h. total_from x h shares) (held_at s x)

-- ---- shares

pub total_append : (x : Resource) (q : Fraction) (xs ys : List Share) → total_from x q (xs ++ ys) ≡ total_from x (total_from x q xs) ys
total_append x q [] ys = refl
total_append x q (share ∷ xs) ys = total_append x (if is_same x share.of then sum q share.amount else q) xs ys

option_twice : {X : Type 0} (f g : X → X) (o : Option X) → option_map g (option_map f o) ≡ option_map (λ x. g (f x)) o
option_twice f g (Some x) = refl
option_twice f g None = refl

option_alike : {X : Type 0} (f g : X → X) → ((x : X) → f x ≡ g x) → (o : Option X) → option_map f o ≡ option_map g o
option_alike f g h (Some x) = ap Some (h x)
option_alike f g h None = refl

grown_none : (s : State) → Grown s s []
grown_none s x = sym (option_same (held_at s x))

pub grown_append : (s t u : State) (xs ys : List Share) → Grown s t xs → Grown t u ys → Grown s u (xs ++ ys)
grown_append s t u xs ys h g x =
    g x ∙ ap (option_map (λ q. total_from x q ys)) (h x) ∙ option_twice (λ q. total_from x q xs) (λ q. total_from x q ys) (held_at s x) ∙
    option_alike _ (λ q. total_from x q (xs ++ ys)) (λ q. sym (total_append x q xs ys)) (held_at s x)

-- ---- what producing reaches

-- a state that is reached by some amounts, and what is denoted in it and wherever more is held
pub record Reaches (D : State → List Fraction → List Share → Type 0) (s : State) (taken : List Choice) (u : State) : Type 0 where
  pub amounts : List Fraction
  pub chosen : taken ≡ map choice.Amount amounts
  pub shares : List Share
  pub whole : IsWhole u
  pub capped : IsCapped u
  pub near : Near s u
  pub grown : Grown s u shares
  pub denoted : (w : State) → Near u w → D w amounts shares

-- by an assertion
abbrev pub Produced : t.Assertion → State → Scene → List Choice → State → Type 0
Produced a s sc = Reaches (λ w. Denotes w sc a) s

-- by an amount of a resource
abbrev pub Given : t.Amt → Resource → State → Scene → List Choice → State → Type 0
Given m x s sc = Reaches (λ w. DenotesAmount w sc x m) s

-- so much more is held
record More (x : Resource) (q : Fraction) (s : State) (taken : List Choice) (u : State) : Type 0 where
  nothing_taken : taken ≡ []
  whole : IsWhole u
  capped : IsCapped u
  near : Near s u
  grown : Grown s u (record { of = x; amount = q } ∷ [])
  holdable : (w : State) → Near u w → CanBeHeld w x

module _ {s : State} (h : IsWhole s) (capped : IsCapped s) (x : Resource) (at : Pos) (q : Fraction) (is_amount : IsAmount q) where
  grown_with : (held : Fraction) → held_at s x ≡ Some held → Grown s (with_held s x (sum held q)) (record { of = x; amount = q } ∷ [])
  grown_with held e y = held_with h x (sum held q) y ∙ at_resource (held_at s y) (is_same y x) (λ same. ap (held_at s) (same_resource y x same) ∙ e)
    where
      at_resource : (o : Option Fraction) (b : Bool) → (b ≡ true → o ≡ Some held) → option_map (λ p. if b then sum held q else p) o ≡ option_map (λ p. if b then sum p q else p) o
      at_resource None b g = refl
      at_resource (Some p) false g = refl
      at_resource (Some p) true g =
          let found : Some p ≡ Some held = g refl in
          let same : held ≡ p = cc in
          ap (λ z. Some (sum z q)) same

  capped_with : (held : Fraction) → held_at s x ≡ Some held → is_too_much x (sum held q) ≡ false → IsCapped (with_held s x (sum held q))
  capped_with held e small = record { at_most_one = λ y p g. at_resource y (held_at s y) p (is_same y x) refl (same_resource y x) (capped.at_most_one y) (sym (held_with h x (sum held q) y) ∙ g) }
    where
      at_resource : (y : Resource) (o : Option Fraction) (p : Fraction) (b : Bool) → is_same y x ≡ b → (is_same y x ≡ true → y ≡ x) → ((p : Fraction) → o ≡ Some p → is_too_much y p ≡ false) → option_map (λ z. if b then sum held q else z) o ≡ Some p → is_too_much y p ≡ false
      at_resource y None p b same equal before g = cc
      at_resource y (Some z) p false same equal before g = before p g
      at_resource y (Some z) p true same equal before g =
          let value : sum held q ≡ p = cc in
          subst (λ v. is_too_much y v ≡ false) value (subst (λ r. is_too_much r (sum held q) ≡ false) (sym (equal same)) small)

  more_with : (held all : Fraction) → is_null x ≡ false → held_at s x ≡ Some held → all ≡ sum held q → is_too_much x all ≡ false → More x q s [] (with_held s x all)
  more_with held all real e equal small =
      let near = near_grown h x held q e is_amount in
      subst (λ v. More x q s [] (with_held s x v)) (sym equal) (record {
        nothing_taken = refl;
        whole = with_held_whole h x (sum held q) (amount_sum (held_amount h x held e) is_amount);
        capped = capped_with held e (subst (λ v. is_too_much x v ≡ false) equal small);
        near = near;
        grown = grown_with held e;
        holdable = λ w g. record { no_field_of_null = real; there = part_there (held_at s x) (held_at w x) held ((near_trans near g).held x) e };
      })

  every_more : Every (More x q s) (ended (more_held Unbounded write x at s q))
  every_more =
      every_unless (More x q s) (is_null x) blocks _ (every_blocks (More x q s)) (λ real. every_found (More x q s) (held_at s x) _ (λ held e.
      every_then_with (More x q s) (added Unbounded held write q at) (λ all. unless (is_too_much x all) blocks (is (with_held s x all))) (λ all g.
      every_unless (More x q s) (is_too_much x all) blocks (is (with_held s x all)) (every_blocks (More x q s)) (λ small.
      every_is (More x q s) (with_held s x all) (more_with held all real e (let same : sum held (product write q) ≡ all = cc in sym same ∙ ap (sum held) (product-one q is_amount.reduced)) small)))))

-- ---- amounts

not_positive_none : (q : Fraction) → is_none q ≡ true → is_positive q ≡ true → ⊥
not_positive_none q e f = true≢false (sym e ∙ some_from_positive q f)

-- a share of nothing adds nothing
grown_nothing : {s : State} → IsWhole s → (x : Resource) (q : Fraction) → q ≡ none → Grown s s (record { of = x; amount = q } ∷ [])
grown_nothing {s} h x q e y = by_option (held_at s y) (is_same y x) (held_amount h y)
  where
    by_option : (o : Option Fraction) (b : Bool) → ((p : Fraction) → o ≡ Some p → IsAmount p) → o ≡ option_map (λ p. if b then sum p q else p) o
    by_option None b g = refl
    by_option (Some p) false g = refl
    by_option (Some p) true g = ap Some (sym (ap (sum p) e ∙ sum-zero p (g p refl).reduced))

module _ (sc : Scene) (in_sc : IsProperScene Unbounded sc) {s : State} (h : IsWhole s) (capped : IsCapped s) (x : Resource) (at : Pos) where
  reduced_read : (e : t.Expr) → IsProperExpr Unbounded e → (q : Fraction) → Has q (perm_in Unbounded e s sc) → IsReduced q
  reduced_read e i q has = (kept_value {P = IsProperFraction Unbounded} (perm_proper e s sc i h.proper in_sc) has).reduced

  exactly_some : (e : t.Expr) → OpensNothing e → (q : Fraction) → Has q (perm_in Unbounded e s sc) → is_negative q ≡ false → (cs : List Choice) (u : State) → More x q s cs u → Given (t.Is e) x s sc cs u
  exactly_some e opens q has sign cs u m = record {
    amounts = [];
    chosen = m.nothing_taken;
    shares = record { of = x; amount = q } ∷ [];
    whole = m.whole;
    capped = m.capped;
    near = m.near;
    grown = m.grown;
    denoted = λ w g. sat.exactly (perm_stays sc (near_trans m.near g) e q opens has) sign (λ p. m.holdable w g);
  }

  exactly_none : (e : t.Expr) → OpensNothing e → (q : Fraction) → Has q (perm_in Unbounded e s sc) → is_negative q ≡ false → is_none q ≡ true → IsReduced q → Given (t.Is e) x s sc [] s
  exactly_none e opens q has sign nothing reduced = record {
    amounts = [];
    chosen = refl;
    shares = record { of = x; amount = q } ∷ [];
    whole = h;
    capped = capped;
    near = near_self h;
    grown = grown_nothing h x q (is_none_itself q reduced nothing);
    denoted = λ w g. sat.exactly (perm_stays sc g e q opens has) sign (λ p. absurd (not_positive_none q nothing p));
  }

  something_more : (q : Fraction) → is_positive q ≡ true → (cs : List Choice) (u : State) → More x q s cs u → Given t.Wildcard x s sc (choice.Amount q ∷ cs) u
  something_more q sign cs u m = record {
    amounts = q ∷ [];
    chosen = ap (λ c. choice.Amount q ∷ c) m.nothing_taken;
    shares = record { of = x; amount = q } ∷ [];
    whole = m.whole;
    capped = m.capped;
    near = m.near;
    grown = m.grown;
    denoted = λ w g. sat.something sign (m.holdable w g);
  }

  every_given : (m : t.Amt) → AmountOpensNothing m → IsProperAmount Unbounded m → Every (Given m x s sc) (produce_amount Unbounded m sc write at s x)
  every_given (t.Is e) opens i =
      every_then_with (Given (t.Is e) x s sc) (perm_in Unbounded e s sc) (given_to Unbounded sc write x at s) (λ q has.
      every_unless (Given (t.Is e) x s sc) (is_negative q) (fails sc at kind.Negative) (if is_none q then is s else more_held Unbounded write x at s q) (every_fails (Given (t.Is e) x s sc) sc at kind.Negative) (λ sign.
      every_if_ended (Given (t.Is e) x s sc) (is_none q) (is s) (more_held Unbounded write x at s q)
      (λ nothing. every_is (Given (t.Is e) x s sc) s (exactly_none e opens q has sign nothing (reduced_read e i q has)))
      (λ some. every_weaker (More x q s) (Given (t.Is e) x s sc) (exactly_some e opens q has sign) (ended (more_held Unbounded write x at s q))
      (every_more h capped x at q (record { reduced = reduced_read e i q has; not_negative = sign })))))
  every_given t.Wildcard opens i =
      every_amount (Given t.Wildcard x s sc) (λ q. ended (some_given_to Unbounded write x at s q)) (λ q proper.
      every_where (λ cs u. Given t.Wildcard x s sc (choice.Amount q ∷ cs) u) (is_positive q) blocks (more_held Unbounded write x at s q) (every_blocks (λ cs u. Given t.Wildcard x s sc (choice.Amount q ∷ cs) u)) (λ sign.
      every_weaker (More x q s) (λ cs u. Given t.Wildcard x s sc (choice.Amount q ∷ cs) u) (something_more q sign) (ended (more_held Unbounded write x at s q))
      (every_more h capped x at q (record { reduced = proper.reduced; not_negative = positive_not_negative q sign }))))

-- ---- assertions

-- nothing is denoted
denotes_nothing : {a : t.Assertion} {s : State} {sc : Scene} → IsWhole s → IsCapped s → ((w : State) → Near s w → Denotes w sc a [] []) → Produced a s sc [] s
denotes_nothing {s = s} h capped denoted = record { amounts = []; chosen = refl; shares = []; whole = h; capped = capped; near = near_self h; grown = grown_none s; denoted = denoted }

denotes_both : {a b : t.Assertion} {s u v : State} {sc : Scene} (cs ds : List Choice) → Produced a s sc cs u → Produced b u sc ds v → Produced (t.And a b) s sc (cs ++ ds) v
denotes_both {s = s} {u = u} {v = v} cs ds p q = record {
  amounts = p.amounts ++ q.amounts;
  chosen = ap (λ x. x ++ ds) p.chosen ∙ ap (λ x. map choice.Amount p.amounts ++ x) q.chosen ∙ sym (map-append choice.Amount p.amounts q.amounts);
  shares = p.shares ++ q.shares;
  whole = q.whole;
  capped = q.capped;
  near = near_trans p.near q.near;
  grown = grown_append s u v p.shares q.shares p.grown q.grown;
  denoted = λ w g. sat.both (p.denoted w (near_trans q.near g)) (q.denoted w g);
}

-- what else is denoted
denotes_as : {D E : State → List Fraction → List Share → Type 0} {s u : State} {cs : List Choice} → ((w : State) (qs : List Fraction) (xs : List Share) → Near s w → D w qs xs → E w qs xs) → Reaches D s cs u → Reaches E s cs u
denotes_as go p = record {
  amounts = p.amounts;
  chosen = p.chosen;
  shares = p.shares;
  whole = p.whole;
  capped = p.capped;
  near = p.near;
  grown = p.grown;
  denoted = λ w g. go w p.amounts p.shares (near_trans p.near g) (p.denoted w g);
}

module _ (sc : Scene) (in_sc : IsProperScene Unbounded sc) where
  -- an expression whose truth is known
  known : (e : Evaluated Bool) {b c : Bool} → b ≡ c → Has b e → Has c e
  known e same has = subst (λ x. Has x e) same has

  every_produced : (a : t.Assertion) → AssertionOpensNothing a → IsProperAssertion Unbounded a → (s : State) → IsWhole s → IsCapped s → Every (Produced a s sc) (produce Unbounded a sc write s)
  every_produced (t.Fact e at) o i s h c =
      let P = Produced (t.Fact e at) s sc in
      every_then_with P (truth_in Unbounded e s sc) (λ holds. if holds then is s else blocks) (λ holds has. every_if_ended P holds (is s) blocks
      (λ yes. every_is P s (denotes_nothing h c (λ w g. sat.fact (truth_stays sc g e true o (known (truth_in Unbounded e s sc) yes has))))) (λ no. every_blocks P))
  every_produced (t.Acc e f m at) o i s h c =
      let P = Produced (t.Acc e f m at) s sc in
      every_evaluating P (place_in Unbounded e f s sc) (produce_amount Unbounded m sc write at s) (λ x has.
      every_weaker (Given m x s sc) P (λ cs u p. denotes_as (λ w qs xs g d. sat.place (place_stays sc g e f x o.0 has) d) p) (produce_amount Unbounded m sc write at s x)
      (every_given sc in_sc h c x at m o.1 i.1))
  every_produced (t.Inst p args m at) o i s h c =
      let P = Produced (t.Inst p args m at) s sc in
      every_evaluating P (instance_in Unbounded p args s sc) (produce_amount Unbounded m sc write at s) (λ x has.
      every_weaker (Given m x s sc) P (λ cs u q. denotes_as (λ w qs xs g d. sat.instance (instance_stays sc g p args x o.0 has) d) q) (produce_amount Unbounded m sc write at s x)
      (every_given sc in_sc h c x at m o.1 i.1))
  every_produced (t.And x y) o i s h c =
      let P = Produced (t.And x y) s sc in
      every_then_do (Produced x s sc) P (produce Unbounded x sc write s) (produce Unbounded y sc write) (every_produced x o.0 i.0 s h c) (λ cs u p.
      every_weaker (Produced y u sc) (λ ds v. P (cs ++ ds) v) (λ ds v q. denotes_both cs ds p q) (produce Unbounded y sc write u) (every_produced y o.1 i.1 u p.whole p.capped))
  every_produced (t.Implies e x) o i s h c =
      let P = Produced (t.Implies e x) s sc in
      every_evaluating P (truth_in Unbounded e s sc) (λ holds. if holds then produce Unbounded x sc write s else goes s) (λ holds has.
      every_if P holds (produce Unbounded x sc write s) (goes s)
      (λ yes. every_weaker (Produced x s sc) P (λ cs u p. denotes_as (λ w qs xs g d. sat.counts (truth_stays sc g e true o.0 (known (truth_in Unbounded e s sc) yes has)) d) p) (produce Unbounded x sc write s) (every_produced x o.1 i.1 s h c))
      (λ no. every_is P s (denotes_nothing h c (λ w g. sat.does_not_count (truth_stays sc g e false o.0 (known (truth_in Unbounded e s sc) no has))))))
  every_produced (t.ChooseAssertion e x y) o i s h c =
      let P = Produced (t.ChooseAssertion e x y) s sc in
      every_evaluating P (truth_in Unbounded e s sc) (λ holds. if holds then produce Unbounded x sc write s else produce Unbounded y sc write s) (λ holds has.
      every_if P holds (produce Unbounded x sc write s) (produce Unbounded y sc write s)
      (λ yes. every_weaker (Produced x s sc) P (λ cs u p. denotes_as (λ w qs xs g d. sat.first (truth_stays sc g e true o.0 (known (truth_in Unbounded e s sc) yes has)) d) p) (produce Unbounded x sc write s) (every_produced x o.1 i.1 s h c))
      (λ no. every_weaker (Produced y s sc) P (λ cs u p. denotes_as (λ w qs xs g d. sat.second (truth_stays sc g e false o.0 (known (truth_in Unbounded e s sc) no has)) d) p) (produce Unbounded y sc write s) (every_produced y o.2 i.2 s h c)))

-- ---- the law

empty_capped : (l : Layout) (m : Memo) → IsCapped (empty_state l m)
empty_capped l m = record { at_most_one = λ x q e. subst (λ p. is_too_much x p ≡ false) (sym (empty_holds_none l m x q e)) (none_fits x) }
  where
    none_fits : (x : Resource) → is_too_much x none ≡ false
    none_fits (Place f r) = refl
    none_fits (Instance p k) = refl

total_held : (l : Layout) (m : Memo) (u : State) (xs : List Share) → Grown (empty_state l m) u xs → (x : Resource) (q : Fraction) → held_at u x ≡ Some q → q ≡ total x xs
total_held l m u xs h x q e = by_option (held_at (empty_state l m) x) (empty_holds_none l m x) (sym (h x) ∙ e)
  where
    by_option : (o : Option Fraction) → ((p : Fraction) → o ≡ Some p → p ≡ none) → option_map (λ p. total_from x p xs) o ≡ Some q → q ≡ total x xs
    by_option None g f = cc
    by_option (Some p) g f =
        let all : total_from x p xs ≡ q = cc in
        sym all ∙ ap (λ z. total_from x z xs) (g p refl)

-- the amounts that were taken, with which it is satisfied
abbrev pub Reached : t.Assertion → Scene → State → List Choice → List Choice → Type 0
Reached a sc u choices left = (qs : List Fraction) × ((choices ≡ map choice.Amount qs ++ left) × Sat a u sc qs)

pub produced_satisfies : (l : Layout) (m : Memo) (a : t.Assertion) (sc : Scene) (choices : List Choice) (es : List Event) (u : State) (left : List Choice) →
    AssertionOpensNothing a → IsProperAssertion Unbounded a → IsProperMemo Unbounded m → IsProperScene Unbounded sc → All (IsProperChoice Unbounded) choices →
    on (produce Unbounded a sc write (empty_state l m)) choices ≡ ran es (Goes u) left → Reached a sc u choices left
produced_satisfies l m a sc choices es u left o i in_m in_sc in_choices e =
    let start = empty_state l m in
    let whole = empty_whole l m in_m in
    let took = every_on (Produced a start sc) (produce Unbounded a sc write start) choices es u left (every_produced sc in_sc a o i start whole (empty_capped l m)) in_choices e in
    let p = took.holds in
    (p.amounts, (took.split ∙ ap (λ cs. cs ++ left) p.chosen, record { shares = p.shares; denoted = p.denoted u (near_self p.whole); held = total_held l m u p.shares p.grown; at_most_one = p.capped.at_most_one }))

pub bounded_satisfies : (l : Layout) (m : Memo) (a : t.Assertion) (sc : Scene) (choices : List Choice) (es : List Event) (u : State) (left : List Choice) →
    AssertionOpensNothing a → IsProperAssertion Unbounded a → IsProperMemo Unbounded m → IsProperScene Unbounded sc → All (IsProperChoice Unbounded) choices →
    on (produce Bounded a sc write (empty_state l m)) choices ≡ ran es (Goes u) left → Reached a sc u choices left
bounded_satisfies l m a sc choices es u left o i in_m in_sc in_choices e =
    produced_satisfies l m a sc choices es u left o i in_m in_sc in_choices
    (sym (small_run (produce_bounded a sc write (empty_state l m)) choices (ap is_over e)) ∙ e)
