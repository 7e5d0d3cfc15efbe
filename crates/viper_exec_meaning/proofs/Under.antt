-- What is given up and asked for where the same clauses are read in two states, of which one lies under the other beside a
-- rest: the small state of a modular run, and the whole state of an execution.
use Rattle.std.proofs.Common.{◌≡◌, refl, ℕ, true, false, Option, Some, None, List, [], ◌∷◌, ◌++◌, map, All}
use Rattle.vb_base.specs.declared.places.Pos.{Pos}
use Rattle.vb_value.specs.Bound.{Unbounded}
use Rattle.vb_value.specs.Fraction.{Fraction, none, sum, product, is_negative}
use Rattle.viper_core.specs.Expr as t
use Rattle.viper_state.specs.Run.{Scene}
use Rattle.viper_state.specs.State.{State}
use Rattle.viper_meaning.specs.Assertions.{place_in, instance_in}
use Rattle.viper_meaning.specs.Resource.{Resource, held_at}
use Rattle.viper_meaning.specs.Sat.{Has, Share}
use Rattle.viper_meaning.specs.Value.{truth_in, perm_in}
use Rattle.viper_meaning.proofs.ArriveLaws.{Before}
use Rattle.viper_meaning.proofs.HeldLaws.{held_amount}
use Rattle.viper_meaning.proofs.NearLaws.{IsFull}
use Rattle.viper_meaning.proofs.PartLaws.{IsAmount, amount_none, amount_sum}
use Rattle.viper_meaning.proofs.UnderLaws.{Rest, IsAmountShare, Under}

-- ---- what is given up

-- the first state is the second and these shares besides: the heap and contents are the same
abbrev pub Gives : List Share → State → State → Type 0
Gives shares s t = Before s t shares

-- ---- a rest and a state beside it

abbrev pub or_none : Option Fraction → Fraction
or_none (Some q) = q
or_none None = none

pub amount_or_none : (o : Option Fraction) → ((q : Fraction) → o ≡ Some q → IsAmount q) → IsAmount (or_none o)
amount_or_none (Some q) h = h q refl
amount_or_none None h = amount_none

-- what the rest and this state hold together, where the whole state keeps what it now has
abbrev pub besides : (F : Rest) (rest : State) → IsFull rest → State → Rest
besides F rest full w = record {
  held = λ x. sum (F.held x) (or_none (held_at rest x));
  kept = w;
  amounts = λ x. amount_sum (F.amounts x) (amount_or_none (held_at rest x) (held_amount full.whole x));
}

-- ---- what is asked for

-- The shares that an assertion without `wildcard` speaks of in a state, in their order: every expression that counts has a
-- value there, every fact is true, and no amount is negative.
pub data Asks (w : State) (sc : Scene) : t.Assertion → List Share → Type 0 where
  fact : {e : t.Expr} {at : Pos} → Has true (truth_in Unbounded e w sc) → Asks w sc (t.Fact e at) []
  place : {e m : t.Expr} {f : ℕ} {at : Pos} {x : Resource} {q : Fraction} →
      Has x (place_in Unbounded e f w sc) → Has q (perm_in Unbounded m w sc) → is_negative q ≡ false → Asks w sc (t.Acc e f (t.Is m) at) (record { of = x; amount = q } ∷ [])
  instance : {p : ℕ} {args : t.Exprs} {m : t.Expr} {at : Pos} {x : Resource} {q : Fraction} →
      Has x (instance_in Unbounded p args w sc) → Has q (perm_in Unbounded m w sc) → is_negative q ≡ false → Asks w sc (t.Inst p args (t.Is m) at) (record { of = x; amount = q } ∷ [])
  both : {a b : t.Assertion} {xs ys : List Share} → Asks w sc a xs → Asks w sc b ys → Asks w sc (t.And a b) (xs ++ ys)
  counts : {e : t.Expr} {a : t.Assertion} {xs : List Share} → Has true (truth_in Unbounded e w sc) → Asks w sc a xs → Asks w sc (t.Implies e a) xs
  does_not_count : {e : t.Expr} {a : t.Assertion} → Has false (truth_in Unbounded e w sc) → Asks w sc (t.Implies e a) []
  first : {e : t.Expr} {a b : t.Assertion} {xs : List Share} → Has true (truth_in Unbounded e w sc) → Asks w sc a xs → Asks w sc (t.ChooseAssertion e a b) xs
  second : {e : t.Expr} {a b : t.Assertion} {xs : List Share} → Has false (truth_in Unbounded e w sc) → Asks w sc b xs → Asks w sc (t.ChooseAssertion e a b) xs

-- the shares of several clauses, in their order
pub data AskAll (w : State) (sc : Scene) : List t.Assertion → List Share → Type 0 where
  no_clause : AskAll w sc [] []
  clause : {a : t.Assertion} {rest : List t.Assertion} {xs ys : List Share} → Asks w sc a xs → AskAll w sc rest ys → AskAll w sc (a ∷ rest) (xs ++ ys)

-- each amount times a scale
abbrev pub scaled_share : Fraction → Share → Share
scaled_share k share = record { of = share.of; amount = product k share.amount }

abbrev pub scaled : Fraction → List Share → List Share
scaled k shares = map (scaled_share k) shares

-- ---- what consuming leaves

-- An assertion was given up on both sides, its amounts times a scale: the whole state asked for the shares, the small one gave
-- them up, and what is left of the one still lies under what is left of the other.
pub record GivesUp (F : Rest) (w : State) (sd : Scene) (a : t.Assertion) (k : Fraction) (before left now : State) : Type 0 where
  pub shares : List Share
  pub amounts : All IsAmountShare shares
  pub asked : Asks w sd a shares
  pub given : Gives (scaled k shares) before left
  pub under : Under F left now

-- the same of several clauses, their amounts as they are
pub record GivesUpAll (F : Rest) (w : State) (sd : Scene) (clauses : List t.Assertion) (before left now : State) : Type 0 where
  pub shares : List Share
  pub asked : AskAll w sd clauses shares
  pub given : Gives shares before left
  pub under : Under F left now
