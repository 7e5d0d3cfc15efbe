use Rattle.prove_tool.proofs.CallLaws.{end_cause, end_out, end_err, nothing_fails_then, usage_comes, missing_comes, refused_comes, uncertified_comes}
use Rattle.prove_tool.proofs.command.tool.Goals as goal

pub returns-clause-nothing_fails : goal.returns-clause-nothing_fails
returns-clause-nothing_fails g c = rw (← c.deref.ensures.value) (nothing_fails_then _ _ _ _ _ _ (end_cause _ _ _ _ _ _ _ _ _ _ _ _ _ c.answered-answer.result c.ended.ensures c.answered-answer.ensures.answers))

pub returns-clause-causes : goal.returns-clause-causes
returns-clause-causes g c = rw (← c.deref.ensures.value) (end_cause _ _ _ _ _ _ _ _ _ _ _ _ _ c.answered-answer.result c.ended.ensures c.answered-answer.ensures.answers)

pub returns-clause-usage : goal.returns-clause-usage
returns-clause-usage g c = rw (← c.deref.ensures.value) (usage_comes _ _ _ _ _ _ (end_cause _ _ _ _ _ _ _ _ _ _ _ _ _ c.answered-answer.result c.ended.ensures c.answered-answer.ensures.answers))

pub returns-clause-missing : goal.returns-clause-missing
returns-clause-missing g c = rw (← c.deref.ensures.value) (missing_comes _ _ _ _ _ _ (end_cause _ _ _ _ _ _ _ _ _ _ _ _ _ c.answered-answer.result c.ended.ensures c.answered-answer.ensures.answers))

pub returns-clause-refused : goal.returns-clause-refused
returns-clause-refused g c = rw (← c.deref.ensures.value) (refused_comes _ _ _ _ _ _ (end_cause _ _ _ _ _ _ _ _ _ _ _ _ _ c.answered-answer.result c.ended.ensures c.answered-answer.ensures.answers))

pub returns-clause-uncertified : goal.returns-clause-uncertified
returns-clause-uncertified g c = rw (← c.deref.ensures.value) (uncertified_comes _ _ _ _ _ _ (end_cause _ _ _ _ _ _ _ _ _ _ _ _ _ c.answered-answer.result c.ended.ensures c.answered-answer.ensures.answers))

pub returns-clause-out : goal.returns-clause-out
returns-clause-out g c = rw (← c.deref.ensures.value) (end_out _ _ _ _ _ _ _ _ _ _ _ _ _ c.answered-answer.result c.ended.ensures c.answered-answer.ensures.answers)

pub returns-clause-err : goal.returns-clause-err
returns-clause-err g c = rw (← c.deref.ensures.value) (end_err _ _ _ _ _ _ _ _ _ _ _ _ _ c.answered-answer.result c.ended.ensures c.answered-answer.ensures.answers)
