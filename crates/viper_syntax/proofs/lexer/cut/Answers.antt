use Rattle.std.proofs.Common.{◌≡◌, ◌∙◌, ◌<◌, ap, subst, sym, refl, arith, length, List, ℕ, None, true, false, [], ◌∷◌}
use Rattle.std.specs.Prelude.{◌==◌}
use Rattle.std.proofs.lemmas.Bool.Decides.{nat_tests}
use Rattle.std.proofs.lemmas.Result.{err_from_is_err_and}
use Rattle.viper_syntax.proofs.CutLaws.{IsReached, reached_line, reached_col, reached_taken, reached_skipped, reached_end, reached_step_fault, longest_some}
use Rattle.viper_syntax.proofs.LongestLaws.{blank_longest, begins_from_first}
use Rattle.viper_syntax.specs.Spelling.{is_blank}
use Rattle.viper_syntax.proofs.lexer.cut.Goals as goal
use Rattle.viper_syntax.proofs.lexer.cut.Goals.{in-Some+in_ok-push, in_default}

pub invariant_of-at : goal.invariant_of-at
invariant_of-at c =
    let line = reached_line c.loop-rest.invariant in
    let col = reached_col c.loop-rest.invariant in
    record { line_in_range = (line.0, omega (arith, line.1, c.requires)); col_in_range = (col.0, omega (arith, col.1, c.requires)) }

pub advance-at-requires-clause-col : goal.advance-at-requires-clause-col
advance-at-requires-clause-col c =
    let col = reached_col c.loop-rest.invariant in
    omega (arith, col.1, c.requires, c.split_at.ensures.front_len)

some : (bs : List ℕ) → false ≡ (length bs == 0) → 0 < length bs
some [] h = absurd (grind (arith, nat_tests))
some (b ∷ bs) h = omega arith

pub loop-rest-preserved-then-is_blank : goal.loop-rest-preserved-then-is_blank
loop-rest-preserved-then-is_blank c =
    let rest = c.loop-rest.rest.now in
    let longest = blank_longest rest (begins_from_first is_blank rest (some rest c.loop-rest-test.ensures) (sym c.if-is_blank.ensures)) in
    reached_skipped {o = None} _ _ c.loop-rest.invariant refl (longest, tt) refl refl c.advance-at.ensures c.split_at.ensures.front c.split_at.ensures.back refl

pub invariant_of-at-in-loop-rest : goal.invariant_of-at-in-loop-rest
invariant_of-at-in-loop-rest c =
    let line = reached_line c.loop-rest.invariant in
    let col = reached_col c.loop-rest.invariant in
    record { line_in_range = (line.0, omega (arith, line.1, c.requires)); col_in_range = (col.0, omega (arith, col.1, c.requires)) }

pub returns-in_err-tok : goal.returns-in_err-tok
returns-in_err-tok c =
    let p = err_from_is_err_and c.from_residual.result c.from_residual.ensures.1 in
    rw (p.1, p.2) (reached_step_fault _ _ c.loop-rest.invariant refl refl c.in_err-tok.ensures)

pub advance-at-requires-in-loop-rest-clause-col : goal.advance-at-requires-in-loop-rest-clause-col
advance-at-requires-in-loop-rest-clause-col c =
    let col = reached_col c.loop-rest.invariant in
    let within = c.in_ok-tok.ensures.0.within in
    elim c.match-tok.branch [
      | in-Some+in_ok-push w ↦ omega (arith, ap (λ p. p.1.0) w.at-is, col.1, within, c.requires, c.split_at-in-loop-rest.ensures.front_len)
      | in_default w ↦ omega (arith, ap (λ p. p.1.0) w.at-is, col.1, within, c.requires, c.split_at-in-loop-rest.ensures.front_len)
    ]

pub loop-rest-smaller : goal.loop-rest-smaller
loop-rest-smaller c =
    let some = longest_some c.in_ok-tok.ensures.0 in
    let smaller : length c.split_at-in-loop-rest.result.1.now < length c.loop-rest.rest.now = omega (arith, c.split_at-in-loop-rest.ensures.back_len, some, c.in_ok-tok.ensures.0.within) in
    smaller

pub loop-rest-preserved : goal.loop-rest-preserved
loop-rest-preserved c = elim c.match-tok.branch [
  | in-Some+in_ok-push w ↦
      reached_taken _ _ _ c.loop-rest.invariant w.in-Some.is c.in_ok-tok.ensures refl refl
      (ap (λ p. p.0) w.at-is) (ap (λ p. p.1.0) w.at-is) c.advance-at-in-loop-rest.ensures c.split_at-in-loop-rest.ensures.front c.split_at-in-loop-rest.ensures.back
      (ap (λ v. v.items) w.tokens-is ∙ w.in_ok-push.ensures.items)
  | in_default w ↦
      reached_skipped _ _ c.loop-rest.invariant w.in_default.is c.in_ok-tok.ensures
      (ap (λ p. p.0) w.at-is) (ap (λ p. p.1.0) w.at-is) c.advance-at-in-loop-rest.ensures c.split_at-in-loop-rest.ensures.front c.split_at-in-loop-rest.ensures.back
      (ap (λ v. v.items) w.tokens-is)
]

empty : (bs : List ℕ) → true ≡ (length bs == 0) → bs ≡ []
empty [] h = refl
empty (b ∷ bs) h = absurd (grind (arith, nat_tests))

pub returns : goal.returns
returns c = reached_end (subst (λ us. IsReached c.args.bytes.now us c.loop-rest.at.0 c.loop-rest.at.1.0 c.loop-rest.tokens.items) (empty _ c.loop-rest-test.ensures) c.loop-rest.invariant)
