use Rattle.std.proofs.Common.{refl, sym, ap, ◌∙◌}
use Rattle.viper_meaning.specs.Ends.{found}
use Rattle.viper_eval.proofs.AnswerLaws.{passed, calm_then, calm_stop, unless_not, unless_so, stops_with}
use Rattle.viper_inhale.proofs.resources.take.Goals as goal

pub returns-then-is_negative : goal.returns-then-is_negative
returns-then-is_negative c = unless_so _ _ _ (sym c.if-is_negative.ensures) (stops_with _ (rw c.failure.ensures refl))

pub returns-in_err-held : goal.returns-in_err-held
returns-in_err-held c =
    passed _ _ c.from_residual.ensures.1 (unless_not _ _ _ (sym c.if-is_negative.ensures) (calm_stop _ _ (c.in_err-held.ensures ∙ ap found c.held.ensures)))

pub returns-in_err-some : goal.returns-in_err-some
returns-in_err-some c =
    passed _ _ c.from_residual-in_err-some.ensures.1 (unless_not _ _ _ (sym c.if-is_negative.ensures) (calm_then _ (c.in_ok-held.ensures ∙ ap found c.held.ensures)
    (calm_stop _ _ (c.in_err-some.ensures _ _ c.mul.ensures))))

pub returns-in_err-rest : goal.returns-in_err-rest
returns-in_err-rest c =
    passed _ _ c.from_residual-in_err-rest.ensures.1 (unless_not _ _ _ (sym c.if-is_negative.ensures) (calm_then _ (c.in_ok-held.ensures ∙ ap found c.held.ensures)
    (calm_then _ (c.in_ok-some.ensures _ _ c.mul.ensures) (calm_stop _ _ c.in_err-rest.ensures))))

pub returns : goal.returns
returns c =
    unless_not _ _ _ (sym c.if-is_negative.ensures) (calm_then _ (c.in_ok-held.ensures ∙ ap found c.held.ensures)
    (calm_then _ (c.in_ok-some.ensures _ _ c.mul.ensures) (calm_then _ c.in_ok-rest.ensures c.hold.ensures)))
