use Rattle.std.proofs.Common.{pos, arith}
use Rattle.vb_value.proofs.FractionLaws.{IsReduced-whole}
use Rattle.vb_value.proofs.fractions.Frac.none.Goals as goal

pub invariant_of-result : goal.invariant_of-result
invariant_of-result c = record { reduced = IsReduced-whole (pos 0); within = record { num = omega arith; den = omega arith } }
