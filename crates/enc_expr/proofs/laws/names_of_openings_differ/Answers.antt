use Rattle.enc_expr.proofs.FrontLaws.{front}
use Rattle.enc_expr.proofs.FrontValues.{front_fits}
use Rattle.enc_expr.proofs.laws.names_of_openings_differ.Goals as goal

pub returns-clause-names : goal.returns-clause-names
returns-clause-names call = front

pub returns-clause-values : goal.returns-clause-values
returns-clause-values call = front_fits
