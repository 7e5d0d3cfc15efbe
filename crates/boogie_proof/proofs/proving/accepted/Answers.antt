use Rattle.std.proofs.Common.{refl, arith}
use Rattle.tool_common.proofs.FileLaws.{error_is}
use Rattle.boogie_proof.proofs.AnswerLaws.{size_refused, text_refused}
use Rattle.boogie_proof.proofs.proving.accepted.Goals as goal

pub returns-then-source-gt-MAX_BOOGIE_BYTES-clause-refused : goal.returns-then-source-gt-MAX_BOOGIE_BYTES-clause-refused
returns-then-source-gt-MAX_BOOGIE_BYTES-clause-refused c r is_r = size_refused c.args.source.now r (omega arith) (error_is refl is_r)

pub returns-clause-refused : goal.returns-clause-refused
returns-clause-refused c r is_r = text_refused c.args.source.now r (omega arith) (c.boogie_program.ensures.refused r is_r)
