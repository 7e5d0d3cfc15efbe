use Rattle.enc_assert.proofs.ForgetSimulation.{forgotten_alongside}
use Rattle.enc_assert.proofs.laws.forgetting_and_its_code_end_alike.Goals as goal

pub returns : goal.returns
returns call ts b c p s sc n E coupled own full locals = forgotten_alongside ts b c p own s sc n E coupled full locals
