use Rattle.std.proofs.Common.{◌≡◌, ◌∙◌, true, sym, subst}
use Rattle.std.specs.Char.{is_ascii_digit}
use Rattle.std.specs.List.{list_all}
use Rattle.prove_tool.proofs.WordLaws.{parsed}
use Rattle.prove_tool.proofs.words.number_in.Goals as goal

pub returns-then-are_digits : goal.returns-then-are_digits
returns-then-are_digits c =
    let word = c.args.word.now in
    let all = subst (λ t. list_all is_ascii_digit t ≡ true) c.as_bytes.ensures.value (sym c.are_digits.ensures ∙ c.if-are_digits.true) in
    c.ok.ensures.value ∙ parsed word c.if-word-ge1.true c.if-word-le-MOST_DIGITS.true all c.parse.result c.parse.ensures.value.0
