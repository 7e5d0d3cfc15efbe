use Rattle.std.proofs.Common.{◌∙◌, ◌-◌, ap, length, refl, sym}
use Rattle.boogie_loops.specs.declared.wide.WProc.{WProc}
use Rattle.boogie_loops.proofs.ProcsLaws.{numbers_next, numbers_done}
use Rattle.boogie_loops.proofs.procs.numbers_of.Goals as goal

pub loop-later-preserved : goal.loop-later-preserved
loop-later-preserved c =
    numbers_next c.args.all.now (length c.args.all.now - 1 - c.loop-later.later) c.loop-later.later c.index-all-number.result c.loop-later.numbers.entries
    c.insert.new.self.entries c.in_ok-copy.field-0 c.loop-later-test.true refl c.index-all-number.is (c.in_ok-copy.ensures ∙ sym (ap (λ (d : WProc). d.name) c.index-all-number.is)) c.loop-later.invariant c.in_ok-insert.ensures.updates.0

pub returns : goal.returns
returns c = numbers_done c.args.all.now c.loop-later.numbers.entries c.loop-later.later c.loop-later-test.false c.loop-later.invariant
