use Rattle.std.proofs.Common.{◌<◌, arith, length}
use Rattle.boogie_grammar.specs.Step.{IsPiece}
use Rattle.boogie_grammar.proofs.LexLaws.{piece_some}
use Rattle.boogie_grammar.proofs.parts.begins_with_else.Goals as goal

pub split_at-requires : goal.split_at-requires
split_at-requires c =
    let h : IsPiece c.loop-found.rest.now c.in-Some.found c.in-Some.len = rw c.in-Some.is at c.in_ok-found.ensures in
    (piece_some c.loop-found.rest.now c.in-Some.found c.in-Some.len h).1

pub loop-found-smaller : goal.loop-found-smaller
loop-found-smaller c =
    let h : IsPiece c.loop-found.rest.now c.in-Some.found c.in-Some.len = rw c.in-Some.is at c.in_ok-found.ensures in
    let some = piece_some c.loop-found.rest.now c.in-Some.found c.in-Some.len h in
    let smaller : length c.split_at.result.1.now < length c.loop-found.rest.now = omega (arith, c.split_at.ensures.back_len, some.0, some.1) in
    smaller
