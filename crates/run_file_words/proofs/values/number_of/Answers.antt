use Rattle.std.proofs.Common.{◌∙◌}
use Rattle.run_file_words.proofs.NumberLaws.{parsed, digits_text}
use Rattle.run_file_words.proofs.values.number_of.Goals as goal

pub returns-in-Ok : goal.returns-in-Ok
returns-in-Ok c =
    c.ok.ensures.value ∙ parsed c.args.digits.now c.parse.result c.requires (rw c.in-Ok.ensures.cases.0 at c.parse.ensures.value.0)

pub returns-in-Err : goal.returns-in-Err
returns-in-Err c = absurd (c.in-Err.ensures.cases.0 (digits_text c.args.digits.now c.requires))
