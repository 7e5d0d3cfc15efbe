use Rattle.std.proofs.Common.{◌≡◌, ℕ, Option, Result, refl, sym, subst}
use Rattle.vb_outer.specs.Shelf.{Files}
use Rattle.vb_tool.proofs.WorkLaws.{making_works}
use Rattle.vb_tool.specs.Parts.{command_of}
use Rattle.vb_tool.specs.Works.{Works}
use Rattle.vb_tool.specs.declared.outcome.Work.{Work}
use Rattle.vb_tool.specs.declared.trouble.Trouble.{Trouble}
use Rattle.vb_tool.specs.declared.words.Command.{Command}
use Rattle.vb_tool.proofs.works.work.Goals as goal

-- what becomes of a command, as that of the one that it is
works_as : {files now : Option Files} {first last : ℕ} {r : Result Work Trouble} (d : Command) {e : Command} → d ≡ e → Works files now first last (command_of e) r →
    Works files now first last (command_of d) r
works_as {files} {now} {first} {last} {r} d is w = subst (λ e. Works files now first last (command_of e) r) (sym is) w

pub returns-in-Translate : goal.returns-in-Translate
returns-in-Translate g c =
    let w = works_as c.args.command c.in-Translate.is c.translate.ensures in
    record { work = w.work; promises = w.promises; can_be_written = w.can_be_written; refused = w.refused; read = w.read; names = w.names; files = w.files }

pub returns-in-Run : goal.returns-in-Run
returns-in-Run g c =
    let w = works_as c.args.command c.in-Run.is c.run.ensures in
    record { work = w.work; promises = w.promises; can_be_written = w.can_be_written; refused = w.refused; read = w.read; names = w.names; files = w.files }

pub returns-in-Replay : goal.returns-in-Replay
returns-in-Replay g c =
    let w = works_as c.args.command c.in-Replay.is c.replay.ensures in
    record { work = w.work; promises = w.promises; can_be_written = w.can_be_written; refused = w.refused; read = w.read; names = w.names; files = w.files }

pub returns-in-Execute : goal.returns-in-Execute
returns-in-Execute g c =
    let w = works_as c.args.command c.in-Execute.is c.execute.ensures in
    record { work = w.work; promises = w.promises; can_be_written = w.can_be_written; refused = w.refused; read = w.read; names = w.names; files = w.files }

pub returns-in-Cut : goal.returns-in-Cut
returns-in-Cut g c =
    let w = works_as c.args.command c.in-Cut.is c.cut.ensures in
    record { work = w.work; promises = w.promises; can_be_written = w.can_be_written; refused = w.refused; read = w.read; names = w.names; files = w.files }

pub returns-in-Condition : goal.returns-in-Condition
returns-in-Condition g c =
    let w = works_as c.args.command c.in-Condition.is c.condition.ensures in
    record { work = w.work; promises = w.promises; can_be_written = w.can_be_written; refused = w.refused; read = w.read; names = w.names; files = w.files }

pub returns-in-Make : goal.returns-in-Make
returns-in-Make g c =
    let w = works_as c.args.command c.in-Make.is (making_works refl c.in-Make.count c.summary.result c.tell.ensures c.summary.ensures.told c.summary.ensures.refused c.summary.ensures.read) in
    record { work = w.work; promises = w.promises; can_be_written = w.can_be_written; refused = w.refused; read = w.read; names = w.names; files = w.files }
