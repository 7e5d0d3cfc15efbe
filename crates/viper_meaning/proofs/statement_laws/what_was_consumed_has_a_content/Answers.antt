use Rattle.viper_meaning.proofs.ContentLaws.{consumed_has_content}
use Rattle.viper_meaning.proofs.statement_laws.what_was_consumed_has_a_content.Goals as goal

pub returns : goal.returns
returns c b program start sc maps a k left w g = consumed_has_content b program.layout sc maps a k left w g
