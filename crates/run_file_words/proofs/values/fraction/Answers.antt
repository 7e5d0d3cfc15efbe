use Rattle.std.proofs.Common.{◌≡◌, ◌∙◌, ◌==◌, not, take, drop, sym, ap, arith, to_z, of_z}
use Rattle.std.specs.Int.{w128}
use Rattle.std.proofs.lemmas.Int.{to_z-of_z}
use Rattle.std.proofs.lemmas.List.Sums.{prefix_len-le-length}
use Rattle.run_file_words.proofs.ValueLaws.{fraction_is, no_fraction, fraction_made, fraction_failed}
use Rattle.run_file_words.proofs.values.fraction.Goals as goal

pub split_at-requires : goal.split_at-requires
split_at-requires c = rw c.len_before_slash.ensures (prefix_len-le-length (λ b. not (b == 47)) c.args.word.now)

pub returns-in_err-magnitude-in-len1-up : goal.returns-in_err-magnitude-in-len1-up
returns-in_err-magnitude-in-len1-up c =
    let word = c.args.word.now in
    let front = c.split_at.ensures.front ∙ ap (λ n. take n word) c.len_before_slash.ensures in
    let back = c.split_at.ensures.back ∙ ap (λ n. drop n word) c.len_before_slash.ensures in
    c.from_residual-in_err-magnitude-in-len1-up.ensures ∙ sym (fraction_is word _ _ front back ∙ fraction_failed _ _ c.in_err-magnitude-in-len1-up.ensures)

pub returns-in-empty : goal.returns-in-empty
returns-in-empty c =
    let word = c.args.word.now in
    let back = c.split_at.ensures.back ∙ ap (λ n. drop n word) c.len_before_slash.ensures in
    sym (no_fraction word _ back c.in-empty.len_below)

pub returns-in_ok-magnitude-in-len1-up : goal.returns-in_ok-magnitude-in-len1-up
returns-in_ok-magnitude-in-len1-up c =
    let word = c.args.word.now in
    let front = c.split_at.ensures.front ∙ ap (λ n. take n word) c.len_before_slash.ensures in
    let back = c.split_at.ensures.back ∙ ap (λ n. drop n word) c.len_before_slash.ensures in
    let num : to_z w128 (of_z w128 c.in_ok-integer-in-len1-up.field-0) ≡ c.in_ok-integer-in-len1-up.field-0 = grind (arith, to_z-of_z) in
    let den : to_z w128 (of_z w128 c.in_ok-magnitude-in-len1-up.field-0) ≡ c.in_ok-magnitude-in-len1-up.field-0 = grind (arith, to_z-of_z) in
    (rw (num, den) at c.make.ensures) ∙ sym (fraction_is word _ _ front back ∙ fraction_made _ _ _ _ c.in_ok-integer-in-len1-up.ensures c.in_ok-magnitude-in-len1-up.ensures)
