use Rattle.std.proofs.Common.{◌∙◌, sym, ap, pos}
use Rattle.std.specs.Option.{option_map}
use Rattle.run_file_words.proofs.NumberLaws.{narrowed, no_magnitude}
use Rattle.run_file_words.proofs.values.magnitude.Goals as goal

pub returns-in_err-natural : goal.returns-in_err-natural
returns-in_err-natural c = c.from_residual.ensures ∙ sym (ap (option_map pos) (no_magnitude c.args.word.now c.in_err-natural.ensures))

pub returns : goal.returns
returns c = c.ok.ensures.value ∙ narrowed c.args.word.now c.in_ok-natural.field-0 c.try_from.result c.in_ok-natural.ensures c.try_from.ensures
