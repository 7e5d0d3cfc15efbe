use Rattle.std.proofs.Common.{◌∙◌, sym, ap}
use Rattle.std.specs.List.{prefix_len}
use Rattle.std.proofs.lemmas.List.{take_rest}
use Rattle.boogie_grammar.specs.Pieces.{is_in_line}
use Rattle.boogie_grammar.proofs.PieceLaws.{comment_piece, no_sign, sign_piece}
use Rattle.boogie_grammar.proofs.pieces.other.Goals as goal

pub returns-then-starts_with : goal.returns-then-starts_with
returns-then-starts_with c =
    comment_piece c.args.text.now c.line_len.result (sym c.if-starts_with.ensures.value) (c.line_len.ensures.is ∙ ap (prefix_len is_in_line) (take_rest c.args.text.now 2))

pub returns-in_err-sign : goal.returns-in_err-sign
returns-in_err-sign c = rw c.from_residual.ensures (no_sign c.args.text.now (sym c.if-starts_with.ensures.value) (sym c.sign_at.ensures ∙ c.in_err-sign.was))

pub returns : goal.returns
returns c = sign_piece c.args.text.now c.sign_text.result.now c.in_ok-sign.sign (sym c.if-starts_with.ensures.value) (sym c.sign_at.ensures ∙ c.in_ok-sign.was) c.sign_text.ensures
