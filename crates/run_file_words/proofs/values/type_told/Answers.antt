use Rattle.std.proofs.Common.{◌∙◌, sym}
use Rattle.run_file_words.proofs.TypeLaws.{told_by_first}
use Rattle.run_file_words.proofs.values.type_told.Goals as goal

pub returns-in-len1-up : goal.returns-in-len1-up
returns-in-len1-up c = c.first_type.ensures ∙ told_by_first c.args.word.now c.in-len1-up.len_at_least (sym c.has_slash.ensures ∙ c.if-has_slash.false)
