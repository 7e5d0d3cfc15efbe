use Rattle.viper_scope.proofs.ArgumentLaws.{as_many-length}
use Rattle.viper_scope.proofs.arguments.as_many.Goals as goal

pub returns : goal.returns
returns g c = as_many-length c.args.xs.now c.args.ys.now
