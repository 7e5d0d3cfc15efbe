-- Folding and unfolding in steps: what they are by their arguments, and with what was put together for a call.
use Rattle.std.proofs.Common.{◌≡◌, sym, ap, ℕ, Option, Some, None, List, Result}
use Rattle.vb_base.specs.declared.places.Pos.{Pos}
use Rattle.vb_value.specs.Bound.{Bounded}
use Rattle.vb_value.specs.Fraction.{Fraction, write}
use Rattle.viper_core.specs.Expr as t
use Rattle.viper_core.specs.Program.{Program}
use Rattle.viper_core.specs.View.{expr_of, exprs_of, fold_of}
use Rattle.viper_core.specs.declared.exprs.Expr.{Expr}
use Rattle.viper_core.specs.declared.stmts.FoldStmt.{FoldStmt}
use Rattle.viper_state.specs.Run.{Feed, Scene}
use Rattle.viper_state.specs.State.{Key, State}
use Rattle.viper_meaning.specs.Assertions.{consume}
use Rattle.viper_meaning.specs.Contents.{closed, content_in, is_small, fold_instance, unfold_instance}
use Rattle.viper_meaning.specs.Ends.{is, then_with, found, fitting}
use Rattle.viper_meaning.specs.Places.{fill_held}
use Rattle.viper_meaning.specs.Run.{ended, evaluating, then_do}
use Rattle.viper_meaning.specs.Value.{values, perm_in}
use Rattle.viper_eval.specs.declared.places.InstanceKey.{InstanceKey}
use Rattle.viper_eval.specs.declared.places.ScaledAmount.{ScaledAmount}
use Rattle.viper_eval.proofs.AnswerLaws.{then_then}
use Rattle.viper_inhale.specs.Answers.{Does}
use Rattle.viper_inhale.specs.declared.answers.StepHalt.{StepHalt}
use Rattle.viper_inhale.proofs.DoesLaws.{same_run}
use Rattle.viper_fold.specs.Steps.{small_content_in, folded_by, folded_at, unfolded_at}

-- ---- by the values of the arguments

module _ (program : Program) (f : FoldStmt) (s : State) (sc : Scene) {es : List Expr} (same : es ≡ f.args.items) where
  pub folds : fold_instance Bounded program (fold_of f) s sc ≡ evaluating (values Bounded (exprs_of es) s sc) (λ vs. evaluating (perm_in Bounded (expr_of f.amount) s sc) (λ q. folded_at program (fold_of f) vs q s sc))
  folds = ap (λ es. evaluating (values Bounded (exprs_of es) s sc) (λ vs. evaluating (perm_in Bounded (expr_of f.amount) s sc) (λ q. folded_at program (fold_of f) vs q s sc))) (sym same)

  pub unfolds : unfold_instance Bounded program (fold_of f) s sc ≡ then_with (values Bounded (exprs_of es) s sc) (λ vs. then_with (perm_in Bounded (expr_of f.amount) s sc) (λ q. unfolded_at program (fold_of f) vs q s sc))
  unfolds = ap (λ es. then_with (values Bounded (exprs_of es) s sc) (λ vs. then_with (perm_in Bounded (expr_of f.amount) s sc) (λ q. unfolded_at program (fold_of f) vs q s sc))) (sym same)

-- ---- what was found

pub found_is : {X : Type 0} (o : Option X) (x : X) → is x ≡ found o → o ≡ Some x
found_is (Some y) x h = let same : y ≡ x = cc in ap Some same
found_is None x h = cc

-- ---- with what was put together for the call

pub folded_as : {Z : Type 0} {u : Z → State} {f g : Feed} {r : Result Z StepHalt} {inside other : Scene} {p : ℕ} {key : Key} {q k : Fraction} {at : Pos} {i : InstanceKey} {share : ScaledAmount} (body : t.Assertion) (s : State) →
    inside ≡ other → i ≡ record { predicate = p; key = key } → share ≡ record { amount = q; scale = k; at = at } →
    Does u f (folded_by body inside i.predicate i.key share.amount share.at s) g r → Does u f (folded_by body other p key q at s) g r
folded_as body s same is so = same_run (λ j. folded_by body (sym same j) (sym is j).predicate (sym is j).key (sym so j).amount (sym so j).at s)

-- ---- the body's content, and then the instance

pub closes : (body : t.Assertion) (start : State) (sc : Scene) (p : ℕ) (key : Key) (q : Fraction) (at : Pos) (left : State) →
    closed Bounded body start sc p key q at left ≡ then_with (small_content_in body start sc at) (λ c. fill_held Bounded write p key q c at left)
closes body start sc p key q at left = sym (then_then (content_in Bounded body start sc) (λ c. fitting Bounded (is_small c) at c) (λ c. fill_held Bounded write p key q c at left))

-- ---- the state at the start, which was copied

pub from_copy : (body : t.Assertion) (inside : Scene) (p : ℕ) (key : Key) (q : Fraction) (at : Pos) {s start : State} → start ≡ s →
    folded_by body inside p key q at s ≡ then_do (consume Bounded body start inside q s) (λ left. ended (closed Bounded body start inside p key q at left))
from_copy body inside p key q at {s = s} same = ap (λ start. then_do (consume Bounded body start inside q s) (λ left. ended (closed Bounded body start inside p key q at left))) (sym same)
