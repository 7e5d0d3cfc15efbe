use Rattle.enc_text.proofs.NameLaws.{locals_fit, locals_differ, locals_unbound}
use Rattle.enc_text.proofs.laws.locals_can_be_printed.Goals as goal

pub returns-clause-fit : goal.returns-clause-fit
returns-clause-fit call = locals_fit

pub returns-clause-differ : goal.returns-clause-differ
returns-clause-differ call = locals_differ

pub returns-clause-unbound : goal.returns-clause-unbound
returns-clause-unbound call = locals_unbound
