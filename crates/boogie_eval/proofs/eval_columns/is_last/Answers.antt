use Rattle.std.proofs.Common.{sym}
use Rattle.std.proofs.lemmas.Bool.{eqb-true}
use Rattle.boogie_eval.proofs.eval_columns.is_last.Goals as goal

pub returns-in-Some : goal.returns-in-Some
returns-in-Some c = λ same. (_, c.in-Some.column.now, sym c.in-Some.ensures.value, eqb-true c.in-Some.column.now.number c.args.number same)
