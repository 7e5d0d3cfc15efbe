use Rattle.std.proofs.Common.{refl}
use Rattle.boogie_cut.proofs.worked.a_value_without_the_invariant_is_blocked.Goals as goal

pub returns : goal.returns
returns c labels = refl
