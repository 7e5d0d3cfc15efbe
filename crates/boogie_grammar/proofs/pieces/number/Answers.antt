use Rattle.std.proofs.Common.{◌≡◌, ◌∙◌, arith}
use Rattle.std.proofs.lemmas.Int.{to_z-of_z}
use Rattle.std.proofs.lemmas.List.{take_rest}
use mir.Val.{to_z, of_z}
use mir.Syntax.{w128}
use Rattle.boogie_grammar.proofs.PieceLaws.{front_digits, number_piece}
use Rattle.boogie_grammar.proofs.pieces.number.Goals as goal

pub decimal-requires : goal.decimal-requires
decimal-requires c = front_digits c.args.text.now c.digits_len-len.result c.digits_len-len.ensures

pub returns : goal.returns
returns c =
    let value = c.in_ok-value.value in
    let same : to_z w128 (of_z w128 value) ≡ value = grind (arith, to_z-of_z) in
    number_piece c.args.text.now _ c.digits_len-len.result (to_z w128 (of_z w128 value)) c.literal.result.0 c.literal.result.1 c.digits_len-len.ensures (take_rest c.args.text.now c.digits_len-len.result)
    (same ∙ c.in_ok-value.ensures.0, c.in_ok-value.ensures.1) c.literal.ensures.token c.literal.ensures.len
