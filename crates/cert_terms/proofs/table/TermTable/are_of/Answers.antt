use Rattle.std.proofs.Common.{◌+◌, false, drop, sym, ap, ◌∙◌, drop_of_length-le, arith}
use Rattle.boogie_formula.specs.Types.{fbases}
use Rattle.boogie_types.specs.Typed.{are_bases, is_index}
use Rattle.cert_terms.specs.Lawful.{types_of}
use Rattle.cert_terms.specs.Terms.{operands}
use Rattle.boogie_types.proofs.TypingLaws.{ended}
use Rattle.cert_terms.proofs.KindLaws.{step_fits, step_differs, step_over}
use Rattle.cert_terms.proofs.table.TermTable.are_of.Goals as goal

pub returns : goal.returns
returns c =
    sym (c.loop-key.invariant.same
    ∙ ap (λ ks. are_bases (fbases (types_of c.args.self.now) (operands ks)) (drop c.loop-key.count c.args.wanted.now)) (drop_of_length-le _ c.loop-key-test.false)
    ∙ ended _ _ c.loop-key.invariant.within)

pub returns-in_default : goal.returns-in_default
returns-in_default c = sym (c.loop-key.invariant.same ∙ step_over _ _ _ _ _ (record { name = 0; negated = false }) c.loop-key-test.true c.in_default.ensures.lookup.3)

pub returns-then-not-is_index : goal.returns-then-not-is_index
returns-then-not-is_index c =
    sym (c.loop-key.invariant.same
    ∙ step_differs _ _ _ _ _ _ c.loop-key-test.true c.in-Some.base.now c.in-Some.ensures.lookup.3.0 c.in-Some.ensures.lookup.1
    (ap (λ o. is_index o c.in-Some.base.now) (sym c.base.ensures) ∙ sym c.is_index.ensures ∙ c.if-not-is_index.true))

pub loop-key-preserved : goal.loop-key-preserved
loop-key-preserved c = record {
  place = ap (λ n. n + 1) c.loop-key.invariant.place;
  within = omega (arith, c.in-Some.ensures.lookup.3.0);
  same = c.loop-key.invariant.same
      ∙ step_fits _ _ _ _ _ _ c.loop-key-test.true c.in-Some.base.now c.in-Some.ensures.lookup.3.0 c.in-Some.ensures.lookup.1
      (ap (λ o. is_index o c.in-Some.base.now) (sym c.base.ensures) ∙ sym c.is_index.ensures ∙ c.if-not-is_index.false);
}
