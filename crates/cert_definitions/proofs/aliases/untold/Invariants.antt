-- No entry is a literal.
use Rattle.cert_definitions.proofs.ToldLaws.{AreUntold}
use Rattle.cert_definitions.proofs.aliases.untold.Given as goal

abbrev pub invariant-loop-var : goal.invariant-loop-var
invariant-loop-var l = AreUntold l.aliases.items

abbrev pub invariant-loop-definition : goal.invariant-loop-definition
invariant-loop-definition l = AreUntold l.aliases.items
