-- The tests so far, and then those of the variables that are left.
use Rattle.std.proofs.Common.{◌≡◌, drop}
use Rattle.boogie_tree.specs.Whole.{stmts_of}
use Rattle.enc_expr.specs.Code.{join}
use Rattle.enc_block.specs.Encoding.{unnamed_code}
use Rattle.enc_block.specs.View.{home_of}
use Rattle.enc_block.proofs.creations.unnamed.Given as goal

abbrev pub invariant-loop-variable : goal.invariant-loop-variable
invariant-loop-variable l =
    join (stmts_of l.block.items) (unnamed_code (home_of l.home) l.reference (drop l.variable-index l.refs)) ≡ join (stmts_of l.fn.block.items) (unnamed_code (home_of l.fn.home) l.fn.reference l.fn.refs)
