use Rattle.viper_meaning.specs.Units.{unit_run}
use Rattle.viper_meaning.proofs.AskedLaws.{unit_asks}
use Rattle.viper_meaning.proofs.TakenLaws.{asks_next}
use Rattle.viper_meaning.proofs.choice_laws.what_was_not_asked_for_blocks.Goals as goal

pub returns : goal.returns
returns c b program n o firsts events left same =
    let h = asks_next program.layout (unit_run b program n o) (unit_asks b program n o) firsts events left same in
    (h.asked, h.others)
