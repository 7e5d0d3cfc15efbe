use Rattle.std.proofs.Common.{refl}
use Rattle.boogie_cut.proofs.WriteLaws.{one_pushed}
use Rattle.boogie_cut.proofs.statements.write_havoc.Goals as goal

pub returns : goal.returns
returns c = one_pushed c.args.out.now.items c.push.new.self.items _ _ c.in_ok-push.ensures.items refl
