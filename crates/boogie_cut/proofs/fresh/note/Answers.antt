use Rattle.std.proofs.Common.{◌∙◌, sym}
use Rattle.boogie_cut.proofs.PlaceLaws.{noted}
use Rattle.boogie_cut.proofs.fresh.note.Goals as goal

pub returns : goal.returns
returns c =
    noted c.args.name.now c.in_ok-copy.field-0 c.args.names.now.keys c.insert.new.self.keys (sym c.is_a.ensures ∙ c.if-not-is_a.false) c.in_ok-copy.ensures c.in_ok-insert.ensures.updates.0
