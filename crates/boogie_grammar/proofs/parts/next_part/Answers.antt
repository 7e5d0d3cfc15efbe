use Rattle.std.proofs.Common.{◌≡◌, ◌∙◌, ◌<◌, ◌≤◌, refl, sym, ap, subst, arith, ℕ, List, [], ◌∷◌, Some, None, length, ◌==◌, true, false, get_or}
use Rattle.std.proofs.lemmas.Bool.Decides.{nat_tests}
use Rattle.vb_base.specs.Limits.{max_unclosed_brackets}
use Rattle.boogie_grammar.specs.Depth.{unclosed_with}
use Rattle.boogie_grammar.specs.Step.{IsPiece}
use Rattle.boogie_grammar.proofs.PartLaws.{IsBegun, begun_blank, begun_token, begun_start, few, part, blank, empty}
use Rattle.boogie_grammar.proofs.LexLaws.{piece_some}
use Rattle.boogie_grammar.proofs.PieceLaws.{blank_piece}
use Rattle.boogie_grammar.specs.Pieces.{is_blank}
use Rattle.boogie_grammar.proofs.parts.next_part.Goals as goal

pub loop-rest-init : goal.loop-rest-init
loop-rest-init c = begun_start c.args.text.now c.requires c.clear.ensures.items

blank_here : (text : List ℕ) → false ≡ (length text == 0) → is_blank (get_or text 0 0) ≡ true → IsPiece text None 1
blank_here [] some h = absurd (grind (arith, nat_tests))
blank_here (b ∷ rest) some h = blank_piece (b ∷ rest) b rest refl h

pub loop-rest-preserved-then-is_blank : goal.loop-rest-preserved-then-is_blank
loop-rest-preserved-then-is_blank c =
    begun_blank 1 c.loop-rest.invariant (blank_here c.loop-rest.rest.now c.loop-rest-test.ensures (sym c.if-is_blank.ensures)) c.split_at.ensures.back

pub split_at-requires-in-loop-rest : goal.split_at-requires-in-loop-rest
split_at-requires-in-loop-rest c =
    let h : IsPiece c.loop-rest.rest.now c.in-Some.found c.in-Some.len = rw c.in-Some.is at c.in_ok-found.ensures in
    (piece_some c.loop-rest.rest.now c.in-Some.found c.in-Some.len h).1

pub loop-rest-smaller-in_default-found : goal.loop-rest-smaller-in_default-found
loop-rest-smaller-in_default-found c =
    let h : IsPiece c.loop-rest.rest.now c.in-Some.found c.in-Some.len = rw c.in-Some.is at c.in_ok-found.ensures in
    let some = piece_some c.loop-rest.rest.now c.in-Some.found c.in-Some.len h in
    let smaller : length c.split_at-in-loop-rest.result.1.now < length c.loop-rest.rest.now = omega (arith, c.split_at-in-loop-rest.ensures.back_len, some.0, some.1) in
    smaller

pub loop-rest-smaller : goal.loop-rest-smaller
loop-rest-smaller c =
    let h : IsPiece c.loop-rest.rest.now c.in-Some.found c.in-Some.len = rw c.in-Some.is at c.in_ok-found.ensures in
    let some = piece_some c.loop-rest.rest.now c.in-Some.found c.in-Some.len h in
    let smaller : length c.split_at-in-loop-rest.result.1.now < length c.loop-rest.rest.now = omega (arith, c.split_at-in-loop-rest.ensures.back_len, some.0, some.1) in
    smaller

pub loop-rest-preserved-in_default-found : goal.loop-rest-preserved-in_default-found
loop-rest-preserved-in_default-found c =
    let h : IsPiece c.loop-rest.rest.now None c.in-Some.len = rw (c.in-Some.is, c.in_default-found.is) at c.in_ok-found.ensures in
    begun_blank c.in-Some.len c.loop-rest.invariant h c.split_at-in-loop-rest.ensures.back

pub unclosed_with-count-requires : goal.unclosed_with-count-requires
unclosed_with-count-requires c = few c.loop-rest.invariant

pub loop-rest-preserved : goal.loop-rest-preserved
loop-rest-preserved c =
    let h : IsPiece c.loop-rest.rest.now (Some c.in-Some-found.tok) c.in-Some.len = rw (c.in-Some.is, c.in-Some-found.is) at c.in_ok-found.ensures in
    subst (λ n. IsBegun c.args.before c.args.text.now c.split_at-in-loop-rest.result.1.now n c.push_reserved.new.self.items) (sym c.unclosed_with-count.ensures)
    (begun_token _ c.in-Some.len c.loop-rest.invariant h c.split_at-in-loop-rest.ensures.back c.push_reserved.ensures.items c.in_ok-reserve.ensures.items
    (subst (λ n. n ≤ max_unclosed_brackets) c.unclosed_with-count.ensures c.if-count-gt-MAX_UNCLOSED_BRACKETS.false))

pub returns-then-ends : goal.returns-then-ends
returns-then-ends c =
    let h : IsPiece c.loop-rest.rest.now (Some c.in-Some-found.tok) c.in-Some.len = rw (c.in-Some.is, c.in-Some-found.is) at c.in_ok-found.ensures in
    let begun : IsBegun c.args.before c.args.text.now c.split_at-in-loop-rest.result.1.now (unclosed_with c.loop-rest.count c.in-Some-found.tok) c.push_reserved.new.self.items =
    begun_token _ c.in-Some.len c.loop-rest.invariant h c.split_at-in-loop-rest.ensures.back c.push_reserved.ensures.items c.in_ok-reserve.ensures.items
    (subst (λ n. n ≤ max_unclosed_brackets) c.unclosed_with-count.ensures c.if-count-gt-MAX_UNCLOSED_BRACKETS.false) in
    let some = piece_some c.loop-rest.rest.now (Some c.in-Some-found.tok) c.in-Some.len h in
    part (subst (λ n. IsBegun c.args.before c.args.text.now c.split_at-in-loop-rest.result.1.now n c.push_reserved.new.self.items) (sym c.unclosed_with-count.ensures) begun) (omega (arith, c.split_at-in-loop-rest.ensures.back_len, some.0, some.1))

pub returns-then-is_empty-2 : goal.returns-then-is_empty-2
returns-then-is_empty-2 c =
    blank (empty c.loop-rest.rest.now c.loop-rest-test.ensures) (empty c.loop-rest.tokens.items (c.if-is_empty-2.ensures ∙ ap (λ n. n == 0) c.loop-rest.tokens.ok.0)) c.loop-rest.invariant
