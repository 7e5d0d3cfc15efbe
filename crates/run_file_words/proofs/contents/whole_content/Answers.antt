use Rattle.std.proofs.Common.{sym, arith, []}
use Rattle.run_file_words.proofs.ContentLaws.{whole_none, whole_some, whole_more}
use Rattle.run_file_words.proofs.contents.whole_content.Goals as goal

pub returns-in_default : goal.returns-in_default
returns-in_default c =
    let none = rw c.in_default.is at c.in_ok-content.ensures in
    sym (whole_none _ (λ x h small. none x [] h small))

pub returns-in-Some-next_word : goal.returns-in-Some-next_word
returns-in-Some-next_word c =
    let found = rw c.in-Some.is at c.in_ok-content.ensures in
    sym (whole_more _ _ _ _ _ found.0 c.in-Some-next_word.ensures)

pub returns-in-None : goal.returns-in-None
returns-in-None c =
    let found = rw c.in-Some.is at c.in_ok-content.ensures in
    sym (whole_some _ _ _ found.0 c.in-None.ensures (omega (arith, found.1)))
