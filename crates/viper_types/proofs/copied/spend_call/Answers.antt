use Rattle.std.proofs.Common.{ap, sym}
use Rattle.viper_core.proofs.BudgetLaws.{leaves_at}
use Rattle.viper_scope.specs.Answers.{world_of}
use Rattle.viper_types.specs.Answers.{optional_bodies_of}
use Rattle.viper_types.specs.Copied.{copied_all}
use Rattle.viper_types.proofs.CallLaws.{call_terms}
use Rattle.viper_types.proofs.copied.spend_call.Goals as goal

pub returns : goal.returns
returns c =
    leaves_at c.spend_terms.result c.args.budget _ _
    (sym (ap (copied_all (world_of c.args.world.now) (optional_bodies_of c.args.bodies.now)) (call_terms _ c.args.call.now.args.items c.deref.ensures.value))) c.spend_terms.ensures
