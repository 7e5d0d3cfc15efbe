use Rattle.std.proofs.Common.{take, ◌+◌, ◌∙◌, sym, ap, subst}
use Rattle.cert_check.specs.Ends.{AreAlone}
use Rattle.cert_check.proofs.EndLaws.{alone_kept, alone_noted}
use Rattle.cert_check.proofs.ends.units_of.Goals as goal
use Rattle.cert_check.proofs.ends.units_of.Goals.{in-Some+in_ok-note-in-Some, in-None}

pub loop-clause-preserved : goal.loop-clause-preserved
loop-clause-preserved c =
    let clauses = c.args.clauses.now in
    let i = c.loop-clause.clause-index in
    let clause = c.clause-item.result in
    elim c.match-alone.branch [
      | in-Some+in_ok-note-in-Some w ↦
          subst (λ units. AreAlone units (take (i + 1) clauses)) (sym w.units-is)
          (alone_noted clauses i clause c.loop-clause.units w.note.new.units w.in-Some.literal c.loop-clause-test.true c.loop-clause.invariant
          (ap (λ v. v.items) (sym c.clause-item.is) ∙ sym c.deref.ensures.value ∙ w.in-Some.ensures) w.in_ok-note-in-Some.ensures)
      | in-None w ↦
          subst (λ units. AreAlone units (take (i + 1) clauses)) (sym w.units-is)
          (alone_kept clauses i clause c.loop-clause.units c.loop-clause-test.true c.loop-clause.invariant)
    ]
