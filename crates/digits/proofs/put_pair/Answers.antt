use Rattle.std.proofs.Common.{arith}
use Rattle.digits.proofs.Pairs.{pair_written}
use Rattle.digits.proofs.put_pair.Goals as goal

pub returns : goal.returns
returns c = pair_written c.args.bytes.now c.args.place c.args.number (omega arith) c.requires.below
