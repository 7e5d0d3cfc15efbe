use Rattle.tool_procedure.specs.Alone.{Replays}
use Rattle.vb_tool.proofs.BoogieStages.{replayed_is}
use Rattle.vb_tool.proofs.procedures.replayed.Goals as goal

pub returns-in_ok-told-in-Some-clause-told : goal.returns-in_ok-told-in-Some-clause-told
returns-in_ok-told-in-Some-clause-told c =
    let h : Replays c.args.bytes.now c.args.run_bytes.now c.in-Some.outcome = rw c.in-Some.is at c.in_ok-outcome.ensures in
    replayed_is _ _ c.requires.run_within h c.in_ok-told-in-Some.ensures.status c.in_ok-told-in-Some.ensures.text
