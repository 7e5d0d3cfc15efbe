use Rattle.viper_scope.specs.Answers.{world_of}
use Rattle.viper_scope.proofs.NamingLaws.{predicate_declared}
use Rattle.viper_scope.proofs.context.World.declare.Goals as goal

pub returns-in-Predicate : goal.returns-in-Predicate
returns-in-Predicate c =
    let p = c.in-Predicate in
    predicate_declared c.add_predicate.result (world_of c.args.self.now) (world_of c.add_predicate.new.self) c.args.decl.now p.field-0 p.name p.params c.deref.result.now p.body p.is c.deref.ensures.value c.add_predicate.ensures
