use Rattle.std.proofs.Common.{◌∙◌, refl}
use Rattle.viper_syntax.proofs.WordLaws.{refused_looked_up_from}
use Rattle.viper_syntax.proofs.words.is_refused_word.Goals as goal

pub returns : goal.returns
returns c =
    c.is_among.ensures ∙
    refused_looked_up_from (λ w. w.now) c.args.name.now c.refused_words_from.result.now (c.refused_words_from.ensures ∙ rw c.byte_at.ensures refl)
