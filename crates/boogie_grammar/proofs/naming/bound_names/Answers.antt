use Rattle.std.proofs.Common.{◌≡◌, ◌++◌, subst}
use Rattle.boogie_grammar.specs.Printed.{free_name}
use Rattle.boogie_grammar.proofs.NamingLaws.{more_bound}
use Rattle.boogie_grammar.proofs.naming.bound_names.Goals as goal

pub loop-preserved : goal.loop-preserved
loop-preserved c =
    more_bound c.args.taken.now c.loop.chosen.items c.push.new.self.items c.in_ok-name.name c.args.types.now c.loop.index _ c.loop-test.true c.in_ok-push.ensures.items
    (subst (λ x. c.in_ok-name.name ≡ free_name (c.args.taken.now ++ x)) c.deref.ensures.value c.in_ok-name.ensures) c.loop.invariant
