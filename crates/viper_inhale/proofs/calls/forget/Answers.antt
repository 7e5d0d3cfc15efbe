use Rattle.viper_inhale.proofs.calls.forget.Goals as goal

pub returns : goal.returns
returns c = record { step = λ l s fit. c.step.ensures _ _ _ _ (c.forget_in.ensures l s fit) }
