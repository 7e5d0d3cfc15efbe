use Rattle.std.proofs.Common.{◌∙◌, refl}
use Rattle.viper_syntax.proofs.WordLaws.{word_looked_up_from}
use Rattle.viper_syntax.proofs.words.word_of.Goals as goal

pub returns : goal.returns
returns c = word_looked_up_from c.args.name.now c.word_among.result (c.word_among.ensures ∙ rw (c.words_from.ensures, c.byte_at.ensures) refl)
