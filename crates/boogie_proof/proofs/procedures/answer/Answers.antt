use Rattle.boogie_proof.proofs.procedures.answer.Goals as goal

pub returns-in-Ok-told-clause-shown : goal.returns-in-Ok-told-clause-shown
returns-in-Ok-told-clause-shown g c flag label fails = c.in-Ok-told.ensures.shown flag label ((c.in-Ok.ensures.exact label).0 fails)
