use Rattle.std.proofs.Common.{◌∙◌, ◌-◌, length, sym, arith}
use Rattle.boogie_cut.specs.View.{a_names}
use Rattle.boogie_cut.proofs.PlaceLaws.{number_free, taken_end, taken_next}
use Rattle.boogie_cut.proofs.fresh.free_number.Goals as goal

pub loop-preserved : goal.loop-preserved
loop-preserved c =
    taken_next c.loop.counter (length (a_names c.args.taken.now.locals.now)) c.loop.number c.in_ok-number.number _ (a_names c.args.taken.now.locals.now) (omega (arith, c.loop-test.true, c.len-end.ensures))
    (sym c.in_ok-is_taken.ensures ∙ c.if-not-branch.false) c.in_ok-number.ensures c.loop.invariant

pub returns-then-not-branch : goal.returns-then-not-branch
returns-then-not-branch c =
    sym (number_free (length (a_names c.args.taken.now.locals.now) - c.loop.counter) c.loop.number (a_names c.args.taken.now.locals.now) (sym c.in_ok-is_taken.ensures ∙ c.if-not-branch.true)) ∙ c.loop.invariant

pub returns : goal.returns
returns c =
    taken_end c.loop.counter (length (a_names c.args.taken.now.locals.now)) c.loop.number _ (a_names c.args.taken.now.locals.now) (omega (arith, c.loop-test.false, c.len-end.ensures)) c.loop.invariant
