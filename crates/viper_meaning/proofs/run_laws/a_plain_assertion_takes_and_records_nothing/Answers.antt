use Rattle.viper_meaning.proofs.QuietLaws.{produce_quiet, consume_quiet, content_unrecorded}
use Rattle.viper_meaning.proofs.run_laws.a_plain_assertion_takes_and_records_nothing.Goals as goal

pub returns-clause-produce : goal.returns-clause-produce
returns-clause-produce c = produce_quiet

pub returns-clause-consume : goal.returns-clause-consume
returns-clause-consume c = consume_quiet

pub returns-clause-content : goal.returns-clause-content
returns-clause-content c = content_unrecorded
