use Rattle.boogie_cut.proofs.BoundLaws.{modular_bounded, turning_bounded}
use Rattle.boogie_cut.proofs.laws.the_bound_only_ends_runs.Goals as goal

pub returns-clause-modular : goal.returns-clause-modular
returns-clause-modular c = modular_bounded

pub returns-clause-turning : goal.returns-clause-turning
returns-clause-turning c = turning_bounded
