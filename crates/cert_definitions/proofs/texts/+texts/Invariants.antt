-- What is left of the texts is said by what is left of the literals, and what falls at each call of the cycle.
use Rattle.std.proofs.Common.{◌≡◌, ◌+◌, ◌*◌, ◌≤◌, drop, length, max}
use Rattle.boogie_formula.proofs.formulas.FExpr.TheLaws.{the_size}
use Rattle.boogie_formula.specs.View.{fexprs_of}
use Rattle.cert_definitions.specs.Texts.{are_texts}
use Rattle.cert_definitions.specs.View.{told_of, keys_of}
use Rattle.cert_definitions.proofs.texts.+texts.Given as goal

abbrev pub invariant-are_texts-loop-e : goal.invariant-are_texts-loop-e
invariant-are_texts-loop-e l = record {
  place : l.count ≡ l.e-index;
  within : l.count ≤ length l.literals;
  same : are_texts (told_of l.table l.aliases (keys_of l.inside l.keys)) (fexprs_of l.es) l.literals ≡
      are_texts (told_of l.table l.aliases (keys_of l.inside l.keys)) (fexprs_of (drop l.e-index l.es)) (drop l.count l.literals);
}

abbrev pub decreases-is_text : goal.decreases-is_text
decreases-is_text l = 3 * goal.size-is_text l

abbrev pub decreases-one_text : goal.decreases-one_text
decreases-one_text l = 3 * goal.size-one_text l + 1

abbrev pub decreases-two_texts : goal.decreases-two_texts
decreases-two_texts l = 3 * max (the_size l.a.now) (the_size l.b.now) + 1

abbrev pub decreases-at_text : goal.decreases-at_text
decreases-at_text l = 3 * goal.size-at_text l + 2

abbrev pub decreases-are_texts : goal.decreases-are_texts
decreases-are_texts l = 3 * goal.size-are_texts l + 1
