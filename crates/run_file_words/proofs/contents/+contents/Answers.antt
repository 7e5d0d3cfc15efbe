use Rattle.std.proofs.Common.{◌≡◌, ◌∙◌, sym, arith, true}
use Rattle.std.specs.Prelude.{codes}
use Rattle.std.specs.Str.{bytes_eq}
use Rattle.std.proofs.lemmas.Slice.Eq.{bytes_eq-Decides}
use Rattle.run_file_words.specs.Text.{words_of}
use Rattle.run_file_words.proofs.ContentLaws.{unit_found, no_first_content, no_second_content, pair_found}
use Rattle.run_file_words.proofs.contents.+contents.Goals as goal

pub content-returns-then-is_word : goal.content-returns-then-is_word
content-returns-then-is_word t c =
    let same : bytes_eq c.in-Some.word.now c.as_slice.result.now ≡ true = sym c.is_word.ensures ∙ c.if-is_word.true in
    let named = (bytes_eq-Decides c.in-Some.word.now (codes "unit")).0 (rw c.as_slice.ensures at same) in
    (unit_found c.in-Some.ensures named, omega (arith, c.in-Some-checked_sub.ensures))

pub pair-returns-in_default-2 : goal.pair-returns-in_default-2
pair-returns-in_default-2 t c =
    no_first_content (words_of c.args.words.now) c.args.room c.in-Some.kept (omega (arith, c.in-Some.ensures)) (rw c.in_default-2.is at c.in_ok-left.ensures)

pub pair-returns-in_default-3 : goal.pair-returns-in_default-3
pair-returns-in_default-3 t c =
    let left = rw c.in-Some-2.is at c.in_ok-left.ensures in
    no_second_content c.args.room c.in-Some.kept c.in-Some-2.room (omega (arith, c.in-Some.ensures)) left.0 left.1 (rw c.in_default-3.is at c.in_ok-right.ensures)

pub pair-returns : goal.pair-returns
pair-returns t c =
    let left = rw c.in-Some-2.is at c.in_ok-left.ensures in
    let right = rw c.in-Some-3.is at c.in_ok-right.ensures in
    rw c.in_ok-paired.ensures (pair_found c.args.room c.in-Some.kept c.in-Some-2.room c.in-Some-3.room (omega (arith, c.in-Some.ensures)) left.0 left.1 right.0 right.1)
