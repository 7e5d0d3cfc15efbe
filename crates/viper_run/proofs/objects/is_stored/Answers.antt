use Rattle.std.proofs.Common.{arith, ◌≤◌, min, length, sym, ◌∙◌}
use Rattle.viper_run.proofs.ObjectLaws.{stored_above, stored_nowhere}
use Rattle.viper_run.proofs.objects.is_stored.Goals as goal

pub returns : goal.returns
returns c =
    let hs = c.args.heaps.now in
    let ms = c.args.masks.now in
    let all : min (length hs) (length ms) ≤ c.loop-field.field = omega arith in
    sym (stored_nowhere c.args.reference hs ms c.loop-field.field all) ∙ c.loop-field.invariant

pub returns-then-reference-greatest : goal.returns-then-reference-greatest
returns-then-reference-greatest c = sym (stored_above c.args.reference c.args.greatest c.if-reference-greatest.true c.args.heaps.now c.args.masks.now c.requires)
