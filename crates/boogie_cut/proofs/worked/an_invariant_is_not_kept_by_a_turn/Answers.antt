use Rattle.std.proofs.Common.{refl}
use Rattle.boogie_cut.proofs.worked.an_invariant_is_not_kept_by_a_turn.Goals as goal

pub returns : goal.returns
returns c labels = refl
