use Rattle.enc_units.proofs.ProgramLaws as units
use Rattle.viper_file.proofs.Verdicts.{accepted_formed}
use Rattle.vb_tool.proofs.VerifiedLaws.{text_verified}
use Rattle.vb_tool.proofs.laws.each_accepted_file_has_a_translation.Goals as goal

pub returns-clause-translates : goal.returns-clause-translates
returns-clause-translates c bytes program accepted = units.translates program (accepted_formed accepted)

pub returns-clause-verified : goal.returns-clause-verified
returns-clause-verified c bytes program boogie accepted spelled nothing = text_verified program (accepted_formed accepted) boogie spelled nothing
