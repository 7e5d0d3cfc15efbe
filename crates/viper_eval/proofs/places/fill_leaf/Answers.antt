use Rattle.std.proofs.Common.{refl, sym, ap, ◌∙◌}
use Rattle.viper_meaning.specs.Ends.{found}
use Rattle.viper_eval.proofs.AnswerLaws.{passed, goes_then, stops_then, calm_then, calm_stop, unless_not, unless_so, stops_with, ends_is}
use Rattle.viper_eval.specs.Answers.{no_memory}
use Rattle.viper_eval.proofs.places.fill_leaf.Goals as goal

pub returns-in_err-held : goal.returns-in_err-held
returns-in_err-held c = passed _ _ c.from_residual.ensures.1 (calm_stop _ _ (c.in_err-held.ensures ∙ ap found c.mask_at.ensures))

pub returns-in_err-write : goal.returns-in_err-write
returns-in_err-write c =
    passed _ _ c.from_residual-in_err-write.ensures.1 (calm_then _ (c.in_ok-held.ensures ∙ ap found c.mask_at.ensures) (stops_then _ c.in_err-write.ensures))

pub returns-in_err-all : goal.returns-in_err-all
returns-in_err-all c =
    passed _ _ c.from_residual-in_err-all.ensures.1 (calm_then _ (c.in_ok-held.ensures ∙ ap found c.mask_at.ensures) (goes_then _ c.in_ok-write.ensures
    (calm_stop _ _ c.in_err-all.ensures)))

pub returns-then-is_above_one : goal.returns-then-is_above_one
returns-then-is_above_one c =
    calm_then _ (c.in_ok-held.ensures ∙ ap found c.mask_at.ensures) (goes_then _ c.in_ok-write.ensures
    (calm_then _ c.in_ok-all.ensures (unless_so _ _ _ (sym c.if-is_above_one.ensures) (stops_with _ refl))))

pub returns-in_err-set_mask : goal.returns-in_err-set_mask
returns-in_err-set_mask c = passed _ _ c.from_residual-in_err-set_mask.ensures.1 no_memory

pub returns : goal.returns
returns c =
    calm_then _ (c.in_ok-held.ensures ∙ ap found c.mask_at.ensures) (goes_then _ c.in_ok-write.ensures
    (calm_then _ c.in_ok-all.ensures (unless_not _ _ _ (sym c.if-is_above_one.ensures) (ends_is _ _ c.in_ok-set_mask.ensures.changed))))
