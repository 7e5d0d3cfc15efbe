use Rattle.run_file_boogie.proofs.BoogieMapLaws.{all_left}
use Rattle.run_file_boogie.proofs.boogie_reader.entries_of.Goals as goal

pub loop-key-init : goal.loop-key-init
loop-key-init c =
    rw c.in_ok-entries.ensures.items (all_left c.args.filled _ _ c.in_ok-pairs.ensures.entries c.into_iter-key-iterator.ensures.into_iter_gives.0)
