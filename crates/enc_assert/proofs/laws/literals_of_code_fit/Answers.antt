use Rattle.boogie_tree.specs.Literals.{AreBound}
use Rattle.enc_assert.proofs.LiteralAssertions.{produce_fits, consume_fits, forget_fits, keys_bound}
use Rattle.enc_assert.proofs.laws.literals_of_code_fit.Goals as goal

pub returns-clause-produce : goal.returns-clause-produce
returns-clause-produce call k p g scale a n l h = (produce_fits AreBound k p g scale a l h).stmts n

pub returns-clause-consume : goal.returns-clause-consume
returns-clause-consume call k p left g scale a n l h = (consume_fits AreBound k p left g scale a l h).stmts n

pub returns-clause-forget : goal.returns-clause-forget
returns-clause-forget call layout m n = (forget_fits AreBound layout m (keys_bound layout.keys)).stmts n
