-- The outcome of a run of a procedure: the status of the call, and the line that is written.
use Rattle.std.specs.Prelude.{◌++◌, ℕ, List, codes}
use Rattle.vb_base.specs.Labels.{text_of}
use Rattle.boogie_run.specs.declared.replaying.BOutcome.{BOutcome}
use Rattle.boogie_run.specs.declared.replaying.BOutcome.TheVariants.{Done, Failed, Blocked, Short, Over}
use Rattle.vb_tool.specs.declared.status.Status.{Status}
use Rattle.vb_tool.specs.declared.status.Status.TheVariants as status

abbrev pub replay_status : BOutcome → Status
replay_status Done = status.Done
replay_status (Failed label) = status.Failed label
replay_status Blocked = status.Blocked
replay_status Short = status.Short
replay_status Over = status.Over

abbrev pub replay_text : BOutcome → List ℕ
replay_text Done = codes "// done\n"
replay_text (Failed label) = codes "// failed " ++ text_of label ++ codes "\n"
replay_text Blocked = codes "// blocked\n"
replay_text Short = codes "// short\n"
replay_text Over = codes "// over\n"
