-- The copies so far, and then those that are left.
use Rattle.std.proofs.Common.{◌≡◌, drop}
use Rattle.boogie_tree.specs.Whole.{stmts_of}
use Rattle.enc_expr.specs.Code.{join}
use Rattle.enc_expr.specs.Encoding.{copies}
use Rattle.enc_expr.proofs.openings.copies.Given as goal

abbrev pub invariant-loop-i : goal.invariant-loop-i
invariant-loop-i l = join (stmts_of l.fn.block.items) (copies l.own l.from 0) ≡ join (stmts_of l.block.items) (copies (drop l.i l.own) l.from l.i)
