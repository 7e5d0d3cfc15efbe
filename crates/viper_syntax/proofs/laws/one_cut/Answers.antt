use Rattle.std.proofs.Common.{[]}
use Rattle.viper_syntax.proofs.LexLaws as lexed
use Rattle.viper_syntax.proofs.laws.one_cut.Goals as goal

pub returns : goal.returns
returns c bytes ts us h g = lexed.one_cut [] bytes ts us h g
