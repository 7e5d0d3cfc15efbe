-- The defaults so far, and then those of the variables that are left.
use Rattle.std.proofs.Common.{◌≡◌, drop}
use Rattle.boogie_tree.specs.Whole.{stmts_of}
use Rattle.enc_expr.specs.Code.{join}
use Rattle.enc_units.specs.Units.{defaults_code}
use Rattle.enc_units.proofs.units.defaults.Given as goal

abbrev pub invariant-loop-ty : goal.invariant-loop-ty
invariant-loop-ty l =
    join (stmts_of l.block.items) (defaults_code l.numbers.next (drop l.ty-index l.types)) ≡ join (stmts_of l.fn.block.items) (defaults_code l.fn.numbers.next l.fn.types)
