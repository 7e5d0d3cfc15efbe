-- What is left of the assertions makes of the chain what all make of the first one.
use Rattle.boogie_wp.specs.View.{chain_of}
use Rattle.boogie_wp.proofs.CodeLaws.{Unlinked}
use Rattle.boogie_wp.proofs.chain.Chain.link_all.Given as goal

abbrev pub invariant-loop-fail : goal.invariant-loop-fail
invariant-loop-fail l = Unlinked l.n l.label l.fails l.fail-index (chain_of l.initial.self) (chain_of l.self)
