-- The zero maps so far, and then those of the predicates that are left.
use Rattle.std.proofs.Common.{◌≡◌, ◌+◌, drop, map}
use Rattle.boogie_tree.specs.Whole.{stmts_of}
use Rattle.enc_expr.specs.Code.{join}
use Rattle.enc_units.specs.Units.{zeros_code}
use Rattle.enc_units.proofs.units.zeros.Given as goal

abbrev pub invariant-loop-params : goal.invariant-loop-params
invariant-loop-params l = record {
  block : join (stmts_of l.block.items) (zeros_code l.numbers.next (map (λ us. us.items) (drop l.params-index l.keys))) ≡ join (stmts_of l.fn.block.items) (zeros_code l.fn.numbers.next (map (λ us. us.items) l.fn.keys));
  next : l.numbers.next ≡ l.fn.numbers.next + l.params-index;
}
