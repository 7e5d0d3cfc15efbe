use Rattle.std.proofs.Common.{arith}
use Rattle.enc_expr.proofs.ShallowCode.{brackets}
use Rattle.enc_block.proofs.PropertyStatements.{block_has}
use Rattle.enc_block.proofs.ShallowParts.{top, shallow_parts}
use Rattle.enc_block.proofs.laws.code_is_shallow.Goals as goal

pub returns : goal.returns
returns call m h n sc xs formed typed few = (block_has brackets top (omega arith) shallow_parts m h formed xs typed few).stmts n
