-- What is left of a step is true where the steps hold and the literals of the clause are false.
use Rattle.std.proofs.Common.{◌≡◌, ◌⊎◌, ◌∙◌, inl, inr, Some, All, subst}
use Rattle.cert_terms.specs.Lawful.{types_of}
use Rattle.cert_terms.specs.Literals.{turned}
use Rattle.cert_terms.specs.declared.terms.ClauseLiteral.{ClauseLiteral}
use Rattle.cert_rules.specs.Refutes.{IsNoted}
use Rattle.cert_rules.proofs.RefuteLaws.{shown, narrowed}
use Rattle.cert_rules.proofs.refuting.refute.Goals as goal

pub loop-hint-init : goal.loop-hint-init
loop-hint-init c = λ values typed holds. c.in_ok-known.ensures values typed

pub returns-in-None : goal.returns-in-None
returns-in-None c =
    shown (types_of c.args.table.now) c.args.clauses.now c.args.clause.now c.loop-hint.known _ c.in_ok-step_at.field-0.now c.loop-hint.invariant c.in_ok-step_at.ensures
    (subst (λ o. All (λ l. IsNoted c.loop-hint.known l ⊎ (o ≡ Some l)) c.in_ok-step_at.field-0.now) c.in-None.is c.in_ok-remaining.ensures)

pub loop-hint-preserved : goal.loop-hint-preserved
loop-hint-preserved c =
    narrowed (types_of c.args.table.now) c.args.clauses.now c.args.clause.now c.loop-hint.known c.note_false.new.known _ c.in_ok-step_at.field-0.now c.in-Some.literal c.loop-hint.invariant
    c.in_ok-step_at.ensures (subst (λ o. All (λ l. IsNoted c.loop-hint.known l ⊎ (o ≡ Some l)) c.in_ok-step_at.field-0.now) c.in-Some.is c.in_ok-remaining.ensures)
    (λ m n. by c.in-Some.literal c.turned.ensures (c.in_ok-note_false-in-Some.ensures m n))
  where
    by : {X : Type 0} {m r : ClauseLiteral} (l : ClauseLiteral) → r ≡ turned l → X ⊎ (m ≡ r) → X ⊎ (m ≡ turned l)
    by l e (inl x) = inl x
    by l e (inr x) = inr (x ∙ e)
