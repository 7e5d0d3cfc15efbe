-- What is left of the block makes of the builder what all makes of the first one, and the names with which the branch began are the same.
use Rattle.std.proofs.Common.{◌≡◌}
use Rattle.boogie_wp.specs.View.{begun_of, builder_of}
use Rattle.boogie_wp.proofs.CodeLaws.{Left}
use Rattle.boogie_wp.proofs.build.+building.Given as goal

abbrev pub invariant-build-loop-stmt : goal.invariant-build-loop-stmt
invariant-build-loop-stmt l = Left l.n l.stmts l.stmt-index (builder_of l.initial.to) (builder_of l.to) × (begun_of l.to ≡ begun_of l.initial.to)
