use Rattle.std.proofs.Common.{◌≡◌, ◌∙◌, ◌<◌, refl, ap, subst, arith, length, List, ℕ, true, false, [], ◌∷◌, ◌==◌, ◌++◌}
use Rattle.std.proofs.lemmas.Bool.Decides.{nat_tests}
use Rattle.vb_base.specs.Place.{IsPlaceAfter}
use Rattle.boogie_grammar.specs.Step.{IsPiece, NoPiece}
use Rattle.boogie_grammar.proofs.LexLaws.{IsReached, piece_some, reached_more, reached_end, reached_stop, reached_col}
use Rattle.boogie_grammar.proofs.lexer.cut.Goals as goal

not_empty : (bs : List ℕ) → false ≡ (length bs == 0) → bs ≡ [] → ⊥
not_empty bs h e = let f : false ≡ true = h ∙ ap (λ x. length x == 0) e in cc

empty : (bs : List ℕ) → true ≡ (length bs == 0) → bs ≡ []
empty [] h = refl
empty (b ∷ bs) h = absurd (grind (arith, nat_tests))

pub returns-in_default : goal.returns-in_default
returns-in_default c =
    let none : NoPiece c.loop-rest.rest.now = rw c.in_default.is at c.in_ok-tok.ensures in
    reached_stop c.loop-rest.at c.loop-rest.invariant refl refl (not_empty c.loop-rest.rest.now c.loop-rest-test.ensures) none

pub split_at-requires : goal.split_at-requires
split_at-requires c =
    let h : IsPiece c.loop-rest.rest.now c.in-Some.tok c.in-Some.len = rw c.in-Some.is at c.in_ok-tok.ensures in
    (piece_some c.loop-rest.rest.now c.in-Some.tok c.in-Some.len h).1

pub advance-at-requires-clause-col : goal.advance-at-requires-clause-col
advance-at-requires-clause-col c =
    let col = reached_col c.loop-rest.invariant in
    let h : IsPiece c.loop-rest.rest.now c.in-Some.tok c.in-Some.len = rw c.in-Some.is at c.in_ok-tok.ensures in
    let some = piece_some c.loop-rest.rest.now c.in-Some.tok c.in-Some.len h in
    omega (arith, col.1, some.1, c.requires.before, c.requires.bytes, c.split_at.ensures.front_len)

pub loop-rest-smaller : goal.loop-rest-smaller
loop-rest-smaller c =
    let h : IsPiece c.loop-rest.rest.now c.in-Some.tok c.in-Some.len = rw c.in-Some.is at c.in_ok-tok.ensures in
    let some = piece_some c.loop-rest.rest.now c.in-Some.tok c.in-Some.len h in
    let smaller : length c.split_at.result.1.now < length c.loop-rest.rest.now = omega (arith, c.split_at.ensures.back_len, some.0, some.1) in
    smaller

pub loop-rest-preserved : goal.loop-rest-preserved
loop-rest-preserved c =
    let h : IsPiece c.loop-rest.rest.now c.in-Some.tok c.in-Some.len = rw c.in-Some.is at c.in_ok-tok.ensures in
    reached_more c.in-Some.len c.in-Some.tok c.loop-rest.at c.advance-at.result c.loop-rest.invariant refl refl h
    (λ b place. subst (λ x. IsPlaceAfter (b ++ x) c.advance-at.result) c.split_at.ensures.front (c.advance-at.ensures b place)) c.split_at.ensures.back c.in_ok-push_at.ensures

pub returns : goal.returns
returns c = reached_end (subst (λ x. IsReached c.args.before.now c.args.bytes.now x c.loop-rest.at.line c.loop-rest.at.col c.loop-rest.tokens.items) (empty c.loop-rest.rest.now c.loop-rest-test.ensures) c.loop-rest.invariant)
