use Rattle.std.proofs.Common.{◌∙◌, ◌==◌, ap, not, take, drop}
use Rattle.std.proofs.lemmas.List.Sums.{prefix_len-le-length}
use Rattle.run_file_words.proofs.WordLaws.{last_line, line_and_more}
use Rattle.run_file_words.proofs.texts.next_line.Goals as goal

pub split_at-requires : goal.split_at-requires
split_at-requires c = rw c.line_len.ensures (prefix_len-le-length (λ b. not (b == 10)) c.args.text.now)

pub returns-in-empty : goal.returns-in-empty
returns-in-empty c =
    last_line c.args.text.now c.split_at.result.0.now c.split_at.result.1.now
    (c.split_at.ensures.front ∙ ap (λ n. take n c.args.text.now) c.line_len.ensures)
    (c.split_at.ensures.back ∙ ap (λ n. drop n c.args.text.now) c.line_len.ensures)
    c.in-empty.len_below

pub returns-in-len1-up : goal.returns-in-len1-up
returns-in-len1-up c =
    line_and_more c.args.text.now c.split_at.result.0.now c.split_at.result.1.now
    (c.split_at.ensures.front ∙ ap (λ n. take n c.args.text.now) c.line_len.ensures)
    (c.split_at.ensures.back ∙ ap (λ n. drop n c.args.text.now) c.line_len.ensures)
    c.in-len1-up.len_at_least
