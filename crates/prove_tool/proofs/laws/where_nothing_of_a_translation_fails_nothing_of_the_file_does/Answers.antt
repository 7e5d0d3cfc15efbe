use Rattle.prove_tool.proofs.TranslationLaws.{nothing_fails}
use Rattle.prove_tool.proofs.laws.where_nothing_of_a_translation_fails_nothing_of_the_file_does.Goals as goal

pub returns : goal.returns
returns c source program text accepted t nothing = nothing_fails program text t nothing source accepted
