-- What is within the bound stays within it in a run, and what is proper stays proper.
use Rattle.std.specs.Prelude.{⊤}
use Rattle.vb_value.specs.Bound.{Bound, Bounded}
use Rattle.vb_value.specs.Content.{IsWithinContent, IsProperContent}
use Rattle.vb_value.specs.Fraction.{Fraction, IsWithinFraction, IsReduced, IsProperFraction}
use Rattle.vb_value.specs.Layout.{Layout}
use Rattle.vb_value.specs.Key.{IsWithinKey, IsProperKey}
use Rattle.vb_value.specs.Value.{IsWithinValue, IsProperValue}
use Rattle.viper_core.specs.Expr as t
use Rattle.viper_core.specs.Literals.{IsWithinAssertion, IsProperAssertion}
use Rattle.viper_state.specs.State.{State}
use Rattle.viper_state.specs.Run.{Scene}
use Rattle.viper_state.specs.Within.{IsWithinChoice, IsWithinEvent, IsWithinState, IsWithinScene, IsProperChoice, IsProperEvent, IsProperState, IsProperScene}
use Rattle.viper_meaning.specs.Assertions.{produce, consume}
use Rattle.viper_meaning.specs.Forgotten.{forget}
use Rattle.viper_meaning.specs.KeptRuns.{KeepsRun}
use Rattle.viper_meaning.proofs.ClosedLaws.{within_closed, proper_closed}
use Rattle.viper_meaning.proofs.ForgetLaws.{forget_kept}
use Rattle.viper_meaning.proofs.RunKeptLaws.{produce_kept, consume_kept}

pub produce_within : (a : t.Assertion) (sc : Scene) (k : Fraction) (s : State) → IsWithinAssertion a → IsWithinState s → IsWithinScene sc → KeepsRun IsWithinEvent IsWithinChoice IsWithinState (produce Bounded a sc k s)
produce_within a sc k s w h g = produce_kept Bounded IsWithinFraction (λ q. ⊤) IsWithinValue IsWithinKey IsWithinContent within_closed a sc k s w h g tt

pub consume_within : (a : t.Assertion) (start : State) (sc : Scene) (k : Fraction) (left : State) → IsWithinAssertion a → IsWithinState start → IsWithinState left → IsWithinScene sc →
    KeepsRun IsWithinEvent IsWithinChoice IsWithinState (consume Bounded a start sc k left)
consume_within a start sc k left w f h g = consume_kept Bounded IsWithinFraction (λ q. ⊤) IsWithinValue IsWithinKey IsWithinContent within_closed a start sc k left w f h g tt

pub produce_proper : (b : Bound) (a : t.Assertion) (sc : Scene) (k : Fraction) (s : State) → IsProperAssertion b a → IsProperState b s → IsProperScene b sc → IsReduced k →
    KeepsRun (IsProperEvent b) (IsProperChoice b) (IsProperState b) (produce b a sc k s)
produce_proper b = produce_kept b (IsProperFraction b) IsReduced (IsProperValue b) (IsProperKey b) (IsProperContent b) (proper_closed b)

pub consume_proper : (b : Bound) (a : t.Assertion) (start : State) (sc : Scene) (k : Fraction) (left : State) → IsProperAssertion b a → IsProperState b start → IsProperState b left → IsProperScene b sc → IsReduced k →
    KeepsRun (IsProperEvent b) (IsProperChoice b) (IsProperState b) (consume b a start sc k left)
consume_proper b = consume_kept b (IsProperFraction b) IsReduced (IsProperValue b) (IsProperKey b) (IsProperContent b) (proper_closed b)

-- ---- forgetting

pub forget_within : (layout : Layout) (s : State) → IsWithinState s → KeepsRun IsWithinEvent IsWithinChoice IsWithinState (forget layout s)
forget_within = forget_kept IsWithinFraction IsWithinValue IsWithinKey IsWithinContent

pub forget_proper : (b : Bound) (layout : Layout) (s : State) → IsProperState b s → KeepsRun (IsProperEvent b) (IsProperChoice b) (IsProperState b) (forget layout s)
forget_proper b = forget_kept (IsProperFraction b) (IsProperValue b) (IsProperKey b) (IsProperContent b)
