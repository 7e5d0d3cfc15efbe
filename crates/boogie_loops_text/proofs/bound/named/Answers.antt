use Rattle.boogie_loops_text.proofs.ClauseLaws.{binds_none, binds_name}
use Rattle.boogie_loops_text.proofs.bound.named.Goals as goal

pub returns-in_err-eat_sign-in-Name : goal.returns-in_err-eat_sign-in-Name
returns-in_err-eat_sign-in-Name c = rw c.from_residual.ensures (binds_none c.args.token.now.tok c.in-Name.name c.args.rest.now c.in-Name.is c.in_err-eat_sign-in-Name.ensures.eats)

pub returns-in_ok-eat_sign-in-Name : goal.returns-in_ok-eat_sign-in-Name
returns-in_ok-eat_sign-in-Name c = binds_name c.args.token.now.tok c.in-Name.name c.args.rest.now c.in-Name.is c.in_ok-eat_sign-in-Name.ensures.eats
