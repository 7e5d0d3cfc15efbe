use Rattle.std.proofs.Common.{sym, ◌∙◌}
use Rattle.boogie_tree.proofs.BaseLaws.{short_key, full_key}
use Rattle.boogie_tree.proofs.bases.fits_key.Goals as goal

pub returns-in_default : goal.returns-in_default
returns-in_default c =
    short_key c.args.bases.now c.args.parts.now c.loop-base.base-index c.loop-base.count c.loop-base-test.true c.in_default.ensures.lookup.3 ∙ sym c.loop-base.invariant.so_far

pub returns : goal.returns
returns c =
    full_key c.args.bases.now c.args.parts.now c.loop-base.base-index c.loop-base.count c.loop-base-test.false c.loop-base.invariant.below ∙ sym c.loop-base.invariant.so_far
