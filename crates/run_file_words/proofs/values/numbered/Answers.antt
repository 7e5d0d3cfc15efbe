use Rattle.std.proofs.Common.{◌∙◌, sym}
use Rattle.run_file_words.proofs.NumberLaws.{narrowed_reference, no_reference}
use Rattle.run_file_words.proofs.values.numbered.Goals as goal

pub returns-in_err-natural : goal.returns-in_err-natural
returns-in_err-natural c = c.from_residual.ensures ∙ sym (no_reference c.args.word.now c.in_err-natural.ensures)

pub returns : goal.returns
returns c = c.ok.ensures.value ∙ narrowed_reference c.args.word.now c.in_ok-natural.field-0 c.try_from.result c.in_ok-natural.ensures c.try_from.ensures
