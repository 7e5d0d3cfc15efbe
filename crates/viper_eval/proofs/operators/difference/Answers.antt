-- What fits, at both sides.
use Rattle.viper_eval.proofs.operators.difference.Goals as goal

pub returns-in-Perm-right : goal.returns-in-Perm-right
returns-in-Perm-right c = rw (c.in-Perm.is, c.in-Perm-right.is) (c.perm_value.ensures _ _ c.sub.ensures)
