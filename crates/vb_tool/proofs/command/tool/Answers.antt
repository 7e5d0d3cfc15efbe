use Rattle.vb_tool.proofs.Answered.{usage_comes, missing_comes, refused_comes, does_comes, translation_comes, translation_verified, transfer_comes, frame_comes, cut_comes, statement_comes}
use Rattle.vb_tool.proofs.CallLaws.{done_cause, done_out, done_err}
use Rattle.vb_tool.proofs.command.tool.Goals as goal

pub returns-clause-usage : goal.returns-clause-usage
returns-clause-usage g c = rw (← c.deref.ensures.value) (usage_comes _ _ _ _ _ _ (done_cause _ _ _ _ _ _ _ _ _ _ _ _ _ c.done-answer.result c.ended.ensures c.done-answer.ensures.done c.done-answer.ensures.stops))

pub returns-clause-missing : goal.returns-clause-missing
returns-clause-missing g c = rw (← c.deref.ensures.value) (missing_comes _ _ _ _ _ _ (done_cause _ _ _ _ _ _ _ _ _ _ _ _ _ c.done-answer.result c.ended.ensures c.done-answer.ensures.done c.done-answer.ensures.stops))

pub returns-clause-refused : goal.returns-clause-refused
returns-clause-refused g c = rw (← c.deref.ensures.value) (refused_comes _ _ _ _ _ _ (done_cause _ _ _ _ _ _ _ _ _ _ _ _ _ c.done-answer.result c.ended.ensures c.done-answer.ensures.done c.done-answer.ensures.stops))

pub returns-clause-does : goal.returns-clause-does
returns-clause-does g c = rw (← c.deref.ensures.value) (does_comes _ _ _ _ _ _ (done_cause _ _ _ _ _ _ _ _ _ _ _ _ _ c.done-answer.result c.ended.ensures c.done-answer.ensures.done c.done-answer.ensures.stops) _ _ (done_out _ _ _ _ _ _ _ _ _ _ _ _ _ c.done-answer.result c.ended.ensures c.done-answer.ensures.done c.done-answer.ensures.stops))

pub returns-clause-translates : goal.returns-clause-translates
returns-clause-translates g c = rw (← c.deref.ensures.value) (translation_comes _ _ _ _ _ (done_out _ _ _ _ _ _ _ _ _ _ _ _ _ c.done-answer.result c.ended.ensures c.done-answer.ensures.done c.done-answer.ensures.stops))

pub returns-clause-verified : goal.returns-clause-verified
returns-clause-verified g c = rw (← c.deref.ensures.value) (translation_verified _ _ _ _ _ (done_out _ _ _ _ _ _ _ _ _ _ _ _ _ c.done-answer.result c.ended.ensures c.done-answer.ensures.done c.done-answer.ensures.stops))

pub returns-clause-frames : goal.returns-clause-frames
returns-clause-frames g c = rw (← c.deref.ensures.value) (frame_comes _ _ _ _ _ (done_out _ _ _ _ _ _ _ _ _ _ _ _ _ c.done-answer.result c.ended.ensures c.done-answer.ensures.done c.done-answer.ensures.stops))

pub returns-clause-transfers : goal.returns-clause-transfers
returns-clause-transfers g c = rw (← c.deref.ensures.value) (transfer_comes _ _ _ _ _ (done_out _ _ _ _ _ _ _ _ _ _ _ _ _ c.done-answer.result c.ended.ensures c.done-answer.ensures.done c.done-answer.ensures.stops))

pub returns-clause-cuts : goal.returns-clause-cuts
returns-clause-cuts g c = rw (← c.deref.ensures.value) (cut_comes _ _ _ _ _ (done_out _ _ _ _ _ _ _ _ _ _ _ _ _ c.done-answer.result c.ended.ensures c.done-answer.ensures.done c.done-answer.ensures.stops))

pub returns-clause-states : goal.returns-clause-states
returns-clause-states g c = rw (← c.deref.ensures.value) (statement_comes _ _ _ _ _ (done_out _ _ _ _ _ _ _ _ _ _ _ _ _ c.done-answer.result c.ended.ensures c.done-answer.ensures.done c.done-answer.ensures.stops))

pub returns-clause-causes : goal.returns-clause-causes
returns-clause-causes g c = rw (← c.deref.ensures.value) (done_cause _ _ _ _ _ _ _ _ _ _ _ _ _ c.done-answer.result c.ended.ensures c.done-answer.ensures.done c.done-answer.ensures.stops)

pub returns-clause-out : goal.returns-clause-out
returns-clause-out g c = rw (← c.deref.ensures.value) (done_out _ _ _ _ _ _ _ _ _ _ _ _ _ c.done-answer.result c.ended.ensures c.done-answer.ensures.done c.done-answer.ensures.stops)

pub returns-clause-err : goal.returns-clause-err
returns-clause-err g c = rw (← c.deref.ensures.value) (done_err _ _ _ _ _ _ _ _ _ _ _ _ _ c.done-answer.result c.ended.ensures c.done-answer.ensures.done c.done-answer.ensures.stops)
