use Rattle.boogie_loops_text.proofs.WideWhole.{whole_error, left_over, whole_read}
use Rattle.boogie_loops_text.proofs.program.all_procedures.Goals as goal

pub returns-in_err-procs : goal.returns-in_err-procs
returns-in_err-procs c = whole_error c.args.tokens.now _ _ c.from_residual.ensures.1 c.in_err-procs.ensures.reads

pub returns-then-not-is_empty : goal.returns-then-not-is_empty
returns-then-not-is_empty c = left_over c.in_ok-procs.ensures.reads c.if-not-is_empty.ensures

pub returns : goal.returns
returns c = whole_read c.in_ok-procs.ensures.reads c.if-not-is_empty.ensures
