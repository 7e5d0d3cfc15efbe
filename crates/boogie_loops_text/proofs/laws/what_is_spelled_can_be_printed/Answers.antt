use Rattle.boogie_loops_text.proofs.WideSpelledLaws.{wide_spelled}
use Rattle.boogie_loops_text.proofs.laws.what_is_spelled_can_be_printed.Goals as goal

pub returns : goal.returns
returns c = wide_spelled
