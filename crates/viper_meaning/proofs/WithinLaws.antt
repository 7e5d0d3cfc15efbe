-- What is within the bound stays within it.
use Rattle.std.proofs.Common.{ℕ, List, All, IfSome}
use Rattle.std.specs.Prelude.{⊤}
use Rattle.vb_base.specs.declared.places.Pos.{Pos}
use Rattle.vb_value.specs.Bound.{Bounded}
use Rattle.vb_value.specs.Content.{Content, IsWithinContent}
use Rattle.vb_value.specs.Fraction.{Fraction, IsWithinFraction}
use Rattle.vb_value.specs.Key.{IsWithinKey}
use Rattle.vb_value.specs.Value.{IsWithinValue}
use Rattle.vb_value.specs.declared.values.Value.{Value}
use Rattle.viper_core.specs.Expr as t
use Rattle.viper_core.specs.Literals.{IsWithinExpr, AreWithinExprs, IsWithinAmount, IsWithinAssertion}
use Rattle.viper_state.specs.State.{Key, State, content_at}
use Rattle.viper_state.specs.Run.{Scene}
use Rattle.viper_state.specs.Within.{IsWithinEvent, IsWithinState, IsWithinScene}
use Rattle.viper_state.proofs.EachLaws.{content_has}
use Rattle.viper_meaning.specs.Kept.{Keeps}
use Rattle.viper_meaning.specs.Places.{key_of, taken, pair_of}
use Rattle.viper_meaning.specs.Value.{value, values, amount_of, opened}
use Rattle.viper_meaning.proofs.ClosedLaws.{within_closed}
use Rattle.viper_meaning.proofs.KeptLaws as kept

pub value_within : (e : t.Expr) (s : State) (sc : Scene) → IsWithinExpr e → IsWithinState s → IsWithinScene sc → Keeps IsWithinEvent IsWithinValue (value Bounded e s sc)
value_within = kept.value_kept Bounded IsWithinFraction (λ q. ⊤) IsWithinValue IsWithinKey IsWithinContent within_closed

pub values_within : (es : t.Exprs) (s : State) (sc : Scene) → AreWithinExprs es → IsWithinState s → IsWithinScene sc → Keeps IsWithinEvent (All IsWithinValue) (values Bounded es s sc)
values_within = kept.values_kept Bounded IsWithinFraction (λ q. ⊤) IsWithinValue IsWithinKey IsWithinContent within_closed

pub amount_within : (m : t.Amt) (s : State) (sc : Scene) → IsWithinAmount m → IsWithinState s → IsWithinScene sc → Keeps IsWithinEvent IsWithinFraction (amount_of Bounded m s sc)
amount_within = kept.amount_kept Bounded IsWithinFraction (λ q. ⊤) IsWithinValue IsWithinKey IsWithinContent within_closed

pub opened_within : (a : t.Assertion) (c : Content) (s : State) (sc : Scene) (k : Fraction) → IsWithinAssertion a → IsWithinContent c → IsWithinState s → IsWithinScene sc →
    Keeps IsWithinEvent IsWithinState (opened Bounded a c s sc k)
opened_within a c s sc k w i h g = kept.opened_kept Bounded IsWithinFraction (λ q. ⊤) IsWithinValue IsWithinKey IsWithinContent within_closed a c s sc k w i h g tt

pub taken_within : (sc : Scene) (s : State) (p : ℕ) (key : Key) (q : Fraction) (at : Pos) → IsWithinState s → IsWithinKey key → Keeps IsWithinEvent IsWithinState (taken Bounded sc s p key q at)
taken_within sc s p key q at h k = kept.taken_kept Bounded IsWithinFraction (λ q. ⊤) IsWithinValue IsWithinKey IsWithinContent within_closed sc s p key q at tt h k

pub pair_within : (c : Content) → IsWithinContent c → Keeps IsWithinEvent (λ p. IsWithinContent p.0 × IsWithinContent p.1) (pair_of c)
pair_within = kept.pair_kept Bounded IsWithinFraction (λ q. ⊤) IsWithinValue IsWithinKey IsWithinContent within_closed

pub key_within : (vs : List Value) → All IsWithinValue vs → IfSome (key_of vs) IsWithinKey
key_within = within_closed.key

pub content_at_within : (s : State) (p : ℕ) (key : Key) → IsWithinState s → IfSome (content_at s p key) IsWithinContent
content_at_within s p key h = content_has h p key
