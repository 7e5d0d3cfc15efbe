use Rattle.vb_outer.proofs.SinkLaws.{appends_both, prefix_after}
use Rattle.vb_outer.proofs.sink.written_in_turn.Goals as goal

pub returns-clause-both : goal.returns-clause-both
returns-clause-both c = appends_both

pub returns-clause-front : goal.returns-clause-front
returns-clause-front c = prefix_after
