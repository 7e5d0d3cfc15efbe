use Rattle.enc_assert.proofs.ProduceSimulation.{assertion_produced}
use Rattle.enc_assert.proofs.laws.producing_and_its_code_end_alike.Goals as goal

pub returns : goal.returns
returns call ts b c p g s sc n E scale k a formed coupled typed own fits scaled ready =
    (assertion_produced ts b c formed p own sc fits scale k g s a typed).alongside n E (record { coupled = coupled; scales = scaled }) ready
