use Rattle.viper_exec.proofs.MachineLaws.{pushed}
use Rattle.viper_exec.proofs.frames.add_frame.Goals as goal

pub returns : goal.returns
returns c = pushed c.args.frames.now.items c.push.new.self.items c.args.frame c.in_ok-push.ensures.items
