use Rattle.std.proofs.Common.{◌≡◌, ◌++◌, [], drop}
use Rattle.boogie_grammar.specs.Printed.{bases_text}
use Rattle.boogie_print.proofs.put_heads.put_bases.Given as goal

abbrev pub invariant-loop-base : goal.invariant-loop-base
invariant-loop-base l = l.out.items ++ bases_text l.before (drop l.base-index l.bases) ≡ l.initial.out.items ++ bases_text [] l.bases
