use Rattle.boogie_loops_types.proofs.MarkLaws.{clear_are_new}
use Rattle.std.proofs.Common.{refl}
use Rattle.boogie_loops_types.proofs.marks.mark.Goals as goal

pub loop-number-init : goal.loop-number-init
loop-number-init c = record {
  place = refl;
  so_far = clear_are_new c.args.marks.now c.requires c.args.numbers.now;
  among = λ k is_marked. let clear = c.requires k in absurd (cc);
}
