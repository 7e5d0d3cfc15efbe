-- What `assume` of a quantifier tells: it goes on just where the body is true at each key.
use Rattle.std.proofs.Common.{◌≡◌, Bool as Truth, true, false, List, refl, ap}
use Rattle.vb_value.specs.Bound.{Bound}
use Rattle.boogie_tree.specs.Expr as t
use Rattle.boogie_tree.specs.Program.{BType}
use Rattle.boogie_tree.specs.Value.{Key, BValue, BChoice}
use Rattle.boogie_tree.specs.declared.exprs.BBase.{BBase}
use Rattle.boogie_meaning.specs.Ends.{End, Is, Over, Wrong}
use Rattle.boogie_meaning.specs.Operators.{as_bool}
use Rattle.boogie_tree.specs.Values.{FitsKey}
use Rattle.boogie_meaning.specs.Value.{body_at}
use Rattle.boogie_meaning.specs.Forall.{IsTruth, IsForall, over, wrong, fails, holds}
use Rattle.boogie_meaning.specs.Quantified.{quantified}
use Rattle.boogie_meaning.specs.Run.{Run, Done, Stops, Blocked, with_truth, assumed, brun_stmt}
use Rattle.boogie_meaning.specs.Patterns.{assume_all, GoesFrom, GoesOrBlocks, goes, blocks}
use Rattle.boogie_meaning.proofs.ForallLaws.{one_forall, forall_true, truth_not_over, truth_not_wrong}

pub done_is : {env env' : List BValue} {cs left : List BChoice} → Done env cs ≡ Done env' left → GoesFrom env cs env' left
done_is {env} {cs = cs} e = record { environment = ap (λ r. env-of env r) e; choices = ap (λ r. left-of cs r) e }
  where
    env-of : List BValue → Run → List BValue
    env-of d (Done env cs) = env
    env-of d (Stops why cs) = d

    left-of : List BChoice → Run → List BChoice
    left-of d (Done env cs) = cs
    left-of d (Stops why cs) = d

-- the step at an end
at_end : (e : End Truth) (env : List BValue) (cs : List BChoice) (env' : List BValue) (left : List BChoice) → with_truth (as_bool e) cs (assumed env cs) ≡ Done env' left →
    (e ≡ Is true) × GoesFrom env cs env' left
at_end (Is true) env cs env' left h = (refl, done_is h)
at_end (Is false) env cs env' left h = absurd (cc)
at_end Over env cs env' left h = absurd (cc)
at_end Wrong env cs env' left h = absurd (cc)

ends_at : {P : Key → Type 0} {body : Key → End Truth} {v : End Truth} (env : List BValue) (cs : List BChoice) → ((k : Key) → P k → IsTruth (body k)) → IsForall P body v →
    GoesOrBlocks env cs (with_truth (as_bool v) cs (assumed env cs))
ends_at env cs h (over k p e) = absurd (truth_not_over (h k p) e)
ends_at env cs h (wrong f k p e) = absurd (truth_not_wrong (h k p) e)
ends_at env cs h (fails f k p e) = blocks
ends_at env cs h (holds f) = goes

module _ (ls : List BType) (b : Bound) (us : List BBase) (a : t.BExpr) (env : List BValue) (cs : List BChoice) where
  pub assume_holds : ((k : Key) → FitsKey us k → body_at b a env k ≡ Is true) → brun_stmt ls b (assume_all us a) env cs ≡ Done env cs
  assume_holds h = ap (λ e. with_truth (as_bool e) cs (assumed env cs)) (one_forall (quantified b us a env).1 (holds h))

  pub assume_done : (env' : List BValue) (left : List BChoice) → brun_stmt ls b (assume_all us a) env cs ≡ Done env' left →
      ((k : Key) → FitsKey us k → body_at b a env k ≡ Is true) × GoesFrom env cs env' left
  assume_done env' left h =
      let p = at_end (quantified b us a env).0 env cs env' left h in
      (forall_true (rw (← p.0) (quantified b us a env).1), p.1)

  pub assume_blocked : ((k : Key) → FitsKey us k → IsTruth (body_at b a env k)) → (k : Key) → FitsKey us k → body_at b a env k ≡ Is false →
      brun_stmt ls b (assume_all us a) env cs ≡ Stops Blocked cs
  assume_blocked h k f e = ap (λ e. with_truth (as_bool e) cs (assumed env cs)) (one_forall (quantified b us a env).1 (fails h k f e))

  pub assume_ends : ((k : Key) → FitsKey us k → IsTruth (body_at b a env k)) → GoesOrBlocks env cs (brun_stmt ls b (assume_all us a) env cs)
  assume_ends h = ends_at env cs h (quantified b us a env).1
