use Rattle.std.proofs.Common.{sym, subst}
use Rattle.tool_common.proofs.EndLaws.{delivers_same}
use Rattle.vb_tool.specs.Parts.{Delivers, of_text, work_text, work_status}
use Rattle.vb_tool.proofs.command.deliver_work.Goals as goal

pub returns-in-Tell : goal.returns-in-Tell
returns-in-Tell g c =
    subst (λ w. Delivers (g.O.Sink.written c.args.out.now) (g.O.Sink.written c.deliver.new.sink) (g.O.Sink.faults c.args.out.now) (g.O.Sink.faults c.deliver.new.sink) (work_text w) (work_status w) c.deliver.result)
    (sym c.in-Tell.is) (of_text (delivers_same c.deref.ensures.value c.deliver.ensures))
