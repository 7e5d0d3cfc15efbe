use Rattle.std.proofs.Common.{rules}
use Rattle.run_file_words.specs.Reading.{keyword_from}
use Rattle.run_file_words.proofs.first_words.first_word.Goals as goal

pub returns : goal.returns
unfolding keyword_from
returns g c = search rules

pub returns-in_err-word : goal.returns-in_err-word
unfolding keyword_from
returns-in_err-word g c = search rules

pub returns-in_err-keyword_among : goal.returns-in_err-keyword_among
unfolding keyword_from
returns-in_err-keyword_among g c = search rules
