use Rattle.enc_units.proofs.ExactLaws.{unit_exact, unit_transfers}
use Rattle.enc_units.proofs.laws.procedures_fail_exactly_where_their_units_do.Goals as goal

pub returns-clause-exact : goal.returns-clause-exact
returns-clause-exact call p n u formed there = unit_exact p formed u n there

pub returns-clause-transfers : goal.returns-clause-transfers
returns-clause-transfers call p n u formed there = unit_transfers p formed u n there
