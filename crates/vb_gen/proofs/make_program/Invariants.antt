-- The methods so far stand behind the field.
use Rattle.std.proofs.Common.{◌≡◌}
use Rattle.vb_gen.specs.Generated.{program_text}
use Rattle.vb_gen.proofs.make_program.Given as goal

abbrev pub invariant-loop-before : goal.invariant-loop-before
invariant-loop-before l = l.out.items ≡ program_text l.before
