use Rattle.std.proofs.Common.{◌≡◌, ◌≢◌, ◌∙◌, ◌==◌, sym, ap, length, drop, not}
use Rattle.std.specs.List.{prefix_len}
use Rattle.std.proofs.lemmas.List.Sums.{prefix_len-le-length}
use Rattle.std.proofs.lemmas.Bool.{eqb-true, eq-eqb, both_ways}
use Rattle.run_file_words.specs.Text.{is_blank}
use Rattle.run_file_words.proofs.WordLaws.{a_word, no_word}
use Rattle.run_file_words.proofs.texts.next_word.Goals as goal

pub split_at-requires : goal.split_at-requires
split_at-requires c = rw c.blank_len.ensures (prefix_len-le-length is_blank c.args.line.now)

pub split_at-requires-2 : goal.split_at-requires-2
split_at-requires-2 c = rw c.word_len.ensures (prefix_len-le-length (λ b. not (is_blank b)) c.split_at.result.1.now)

pub returns-then-is_empty : goal.returns-then-is_empty
returns-then-is_empty c =
    let words = c.split_at.result.1.now in
    let rest : words ≡ drop (prefix_len is_blank c.args.line.now) c.args.line.now = c.split_at.ensures.back ∙ ap (λ n. drop n c.args.line.now) c.blank_len.ensures in
    let none = eqb-true (length c.split_at-2.result.0.now) 0 (sym c.is_empty.ensures ∙ c.if-is_empty.true) in
    no_word c.args.line.now words rest (rw (c.split_at-2.ensures.front, c.word_len.ensures) at none)

pub returns : goal.returns
returns c =
    let words = c.split_at.result.1.now in
    let rest : words ≡ drop (prefix_len is_blank c.args.line.now) c.args.line.now = c.split_at.ensures.back ∙ ap (λ n. drop n c.args.line.now) c.blank_len.ensures in
    let some : length c.split_at-2.result.0.now ≢ 0 = λ e. both_ways (length c.split_at-2.result.0.now == 0) (sym c.is_empty.ensures ∙ c.if-is_empty.false) (eq-eqb _ 0 e) in
    rw (c.split_at-2.ensures.front, c.split_at-2.ensures.back, c.word_len.ensures) (a_word c.args.line.now words rest (rw (c.split_at-2.ensures.front, c.word_len.ensures) at some))
