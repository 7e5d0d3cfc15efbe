-- What is evaluated within the bound is within the bound.
use Rattle.std.proofs.Common.{◌≡◌, sym, ap, subst, arith, ℕ, zero, suc, ◌<◌, length, get_or, Option, Some, None, List, [], ◌∷◌, All, IfSome, Ok}
use Rattle.vb_base.specs.declared.places.Pos.{Pos}
use Rattle.vb_value.specs.Bound.{Bounded}
use Rattle.vb_value.specs.Content.{Content, IsWithinContent}
use Rattle.vb_value.specs.Fraction.{Fraction}
use Rattle.vb_value.specs.Key.{IsWithinKey}
use Rattle.vb_value.specs.Value.{IsWithinValue}
use Rattle.vb_value.specs.declared.values.Value.{Value}
use Rattle.viper_core.specs.Expr as t
use Rattle.viper_core.specs.Literals.{IsWithinExpr, AreWithinExprs, IsWithinAssertion}
use Rattle.viper_core.specs.View.{expr_of, exprs_of}
use Rattle.viper_core.specs.declared.exprs.Expr as expr
use Rattle.viper_state.specs.State.{Key, State, content_at}
use Rattle.viper_state.specs.Event.{Event}
use Rattle.viper_state.specs.Run.{Scene, with_variables}
use Rattle.viper_state.specs.Within.{IsWithinState, IsWithinScene}
use Rattle.viper_meaning.specs.Ends.{Evaluated, ends, Is, is, after, found}
use Rattle.viper_meaning.specs.Places.{key_of, taken, pair_of}
use Rattle.viper_meaning.specs.Value.{value, values, opened}
use Rattle.viper_meaning.specs.Kept as kept
use Rattle.viper_meaning.specs.Kept.{Keeps}
use Rattle.viper_meaning.proofs.WithinLaws as within
use Rattle.viper_meaning.proofs.WithinLaws.{key_within, content_at_within}
use Rattle.viper_eval.specs.Answers.{Answers}
use Rattle.viper_eval.proofs.AnswerLaws.{the_value}

kept_value : {X : Type 0} {E : Event → Type 0} {P : X → Type 0} (b m : List Event) (e : Evaluated X) (x : X) → Keeps E P e → after b e ≡ ends m (Is x) → P x
kept_value {P = P} b m _ x (kept.value {x = y} h p) e = let same : y ≡ x = cc in subst P same p
kept_value b m _ x (kept.failure h) e = cc
kept_value b m _ x (kept.blocked h) e = cc
kept_value b m _ x (kept.over h) e = cc

found_within : {X : Type 0} (P : X → Type 0) (o : Option X) (b m : List Event) (x : X) → IfSome o P → after b (found o) ≡ ends m (Is x) → P x
found_within P (Some y) b m x p e = let same : y ≡ x = cc in subst P same p
found_within P None b m x p e = cc

pub value_within : (e : t.Expr) (s : State) (sc : Scene) {b m : List Event} {v : Value} → IsWithinExpr e → IsWithinState s → IsWithinScene sc → Answers (λ v. v) b (value Bounded e s sc) m (Ok v) → IsWithinValue v
value_within e s sc w h g a = kept_value _ _ (value Bounded e s sc) _ (within.value_within e s sc w h g) (the_value a)

pub values_within : {X : Type 0} (view : X → List Value) (es : t.Exprs) (s : State) (sc : Scene) {b m : List Event} {x : X} → AreWithinExprs es → IsWithinState s → IsWithinScene sc → Answers view b (values Bounded es s sc) m (Ok x) → All IsWithinValue (view x)
values_within view es s sc w h g a = kept_value {P = All IsWithinValue} _ _ (values Bounded es s sc) _ (within.values_within es s sc w h g) (the_value a)

pub opened_within : {X : Type 0} (view : X → State) (a : t.Assertion) (c : Content) (s : State) (sc : Scene) (k : Fraction) {b m : List Event} {x : X} → IsWithinAssertion a → IsWithinContent c → IsWithinState s → IsWithinScene sc →
    Answers view b (opened Bounded a c s sc k) m (Ok x) → IsWithinState (view x)
opened_within view a c s sc k w i h g p = kept_value _ _ (opened Bounded a c s sc k) _ (within.opened_within a c s sc k w i h g) (the_value p)

pub halves_within : {X : Type 0} (view : X → Content × Content) (c : Content) {b m : List Event} {x : X} → IsWithinContent c → Answers view b (pair_of c) m (Ok x) → IsWithinContent (view x).0 × IsWithinContent (view x).1
halves_within view c h a = kept_value {P = λ p. IsWithinContent p.0 × IsWithinContent p.1} _ _ (pair_of c) _ (within.pair_within c h) (the_value a)

pub key_is_within : (vs : List Value) {b m : List Event} {key : Key} → All IsWithinValue vs → Answers (λ k. k) b (found (key_of vs)) m (Ok key) → IsWithinKey key
key_is_within vs h a = found_within IsWithinKey (key_of vs) _ _ _ (key_within vs h) (the_value a)

pub taken_within : {X : Type 0} (view : X → State) (sc : Scene) (s : State) (p : ℕ) (key : Key) (q : Fraction) (at : Pos) {b m : List Event} {x : X} → IsWithinState s → IsWithinKey key → Answers view b (taken Bounded sc s p key q at) m (Ok x) → IsWithinState (view x)
taken_within view sc s p key q at h k a = kept_value _ _ (taken Bounded sc s p key q at) _ (within.taken_within sc s p key q at h k) (the_value a)

pub scene_within : (vs : List Value) (sc : Scene) → All IsWithinValue vs → IsWithinScene sc → IsWithinScene (with_variables vs sc)
scene_within vs sc v g = record { store = v; old = g.old }

pub content_is_within : (s : State) (p : ℕ) (key : Key) {c : Content} → IsWithinState s → is c ≡ found (content_at s p key) → IsWithinContent c
content_is_within s p key h e = found_within IsWithinContent (content_at s p key) [] [] _ (content_at_within s p key h) (sym (ap (after []) e))

pub argument_within : (es : List expr.Expr) (i : ℕ) (d : expr.Expr) → i < length es → AreWithinExprs (exprs_of es) → IsWithinExpr (expr_of (get_or es i d))
argument_within [] i d lt h = absurd (omega arith)
argument_within (e ∷ es) zero d lt h = h.0
argument_within (e ∷ es) (suc i) d lt h = argument_within es i d (omega arith) h.1
