use Rattle.std.proofs.Common.{refl, sym, ap, ◌∙◌}
use Rattle.viper_meaning.specs.Ends.{found}
use Rattle.viper_eval.proofs.AnswerLaws.{passed, calm_then, calm_stop, unless_not, unless_so, stops_with}
use Rattle.viper_inhale.proofs.resources.hold_more.Goals as goal

pub returns-then-is_null : goal.returns-then-is_null
returns-then-is_null c = unless_so _ _ _ (sym c.if-is_null.ensures) (stops_with _ refl)

pub returns-in_err-held : goal.returns-in_err-held
returns-in_err-held c = passed _ _ c.from_residual.ensures.1 (unless_not _ _ _ (sym c.if-is_null.ensures) (calm_stop _ _ (c.in_err-held.ensures ∙ ap found c.held.ensures)))

pub returns-in_err-all : goal.returns-in_err-all
returns-in_err-all c =
    passed _ _ c.from_residual-in_err-all.ensures.1 (unless_not _ _ _ (sym c.if-is_null.ensures) (calm_then _ (c.in_ok-held.ensures ∙ ap found c.held.ensures)
    (calm_stop _ _ c.in_err-all.ensures)))

pub returns-then-is_too_much : goal.returns-then-is_too_much
returns-then-is_too_much c =
    unless_not _ _ _ (sym c.if-is_null.ensures) (calm_then _ (c.in_ok-held.ensures ∙ ap found c.held.ensures)
    (calm_then _ c.in_ok-all.ensures (unless_so _ _ _ (sym c.if-is_too_much.ensures) (stops_with _ refl))))

pub returns : goal.returns
returns c =
    unless_not _ _ _ (sym c.if-is_null.ensures) (calm_then _ (c.in_ok-held.ensures ∙ ap found c.held.ensures)
    (calm_then _ c.in_ok-all.ensures (unless_not _ _ _ (sym c.if-is_too_much.ensures) c.hold.ensures)))
