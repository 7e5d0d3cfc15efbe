use Rattle.std.proofs.Common.{◌≡◌, refl, subst, IfOk}
use Rattle.boogie_grammar.proofs.NamingLaws.{stops_on_way, ends_on_way, goes_on_way}
use Rattle.boogie_grammar.proofs.naming.free_name.Goals as goal

pub returns-then-not-is_either : goal.returns-then-not-is_either
returns-then-not-is_either c =
    stops_on_way c.args.taken.now c.args.chosen.now c.loop-n.n c.in_ok-name.name c.loop-n-test.true c.loop-n.invariant c.in_ok-name.ensures c.if-not-is_either.ensures

pub loop-n-preserved : goal.loop-n-preserved
loop-n-preserved c =
    goes_on_way c.args.taken.now c.args.chosen.now c.loop-n.n c.in_ok-name.name c.loop-n.invariant c.in_ok-name.ensures c.if-not-is_either.ensures

pub returns : goal.returns
returns c =
    subst (λ x. IfOk c.bound_name-2.result (λ name. name ≡ x))
    (ends_on_way c.args.taken.now c.args.chosen.now c.loop-n.n _ c.loop-n-test.false c.loop-n.auto.n-end c.loop-n.invariant refl)
    c.bound_name-2.ensures
