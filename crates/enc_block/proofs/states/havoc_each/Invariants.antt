-- The statements so far, and then those of the variables that are left.
use Rattle.std.proofs.Common.{◌≡◌, drop}
use Rattle.boogie_tree.specs.Whole.{stmts_of}
use Rattle.enc_expr.specs.Code.{join}
use Rattle.enc_block.specs.Encoding.{havoc_code}
use Rattle.enc_block.specs.View.{home_of}
use Rattle.enc_block.proofs.states.havoc_each.Given as goal

abbrev pub invariant-loop-target : goal.invariant-loop-target
invariant-loop-target l = join (stmts_of l.block.items) (havoc_code (home_of l.home) (drop l.target-index l.targets)) ≡ havoc_code (home_of l.fn.home) l.fn.targets
