use Rattle.std.proofs.Common.{arith}
use Rattle.run_file.proofs.PrintLaws.{instances_more, all_instances}
use Rattle.run_file.proofs.printer.put_instances.Goals as goal

pub loop-i-preserved : goal.loop-i-preserved
loop-i-preserved c =
    instances_more c.args.name.now c.args.contents.now c.loop-i.i c.key_at-key.result.now c.get.result.now _ _ _ c.loop-i.invariant c.key_at-key.ensures.key c.get.ensures.value c.in_ok-put_instance.ensures

pub returns : goal.returns
returns c =
    all_instances c.args.name.now c.args.contents.now c.loop-i.i _ _ (omega (arith, c.loop-i-test.false, c.len-i-end.ensures.len)) c.loop-i.invariant
