use Rattle.enc_assert.proofs.ConsumeSimulation.{assertion_consumed}
use Rattle.enc_assert.proofs.laws.consuming_and_its_code_end_alike.Goals as goal

pub returns : goal.returns
returns call ts b c p left g s u sc n E scale k a formed coupled maps sound typed own fits scaled ready =
    (assertion_consumed ts b c formed p left own s sc fits scale k g u a typed).alongside n E (record { coupled = coupled; maps = maps; sound = sound; scales = scaled }) ready
