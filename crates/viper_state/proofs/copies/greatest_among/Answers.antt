use Rattle.std.proofs.Common.{arith}
use Rattle.lemmas.proofs.Lists.{all_taken}
use Rattle.viper_state.proofs.GreatestLaws.{HasAtMost, one_more_entry, values_at_most}
use Rattle.viper_state.proofs.copies.greatest_among.Goals as goal

pub loop-entry-preserved : goal.loop-entry-preserved
loop-entry-preserved c =
    let so_far = c.loop-entry.invariant in (
      one_more_entry c.loop-entry.greatest c.raise.new.greatest c.raise.ensures.least c.args.entries.now c.loop-entry.entry-index c.entry-item.result c.loop-entry-test.true c.entry-item.is so_far.0 c.raise.ensures.within,
      omega (arith, so_far.1, c.raise.ensures.least),
    )

pub returns-clause-within : goal.returns-clause-within
returns-clause-within c =
    let greatest = c.loop-entry.greatest in
    values_at_most greatest c.args.entries.now (all_taken (HasAtMost greatest) c.args.entries.now _ c.loop-entry-test.false c.loop-entry.invariant.0)

pub returns-clause-least : goal.returns-clause-least
returns-clause-least c = c.loop-entry.invariant.1
