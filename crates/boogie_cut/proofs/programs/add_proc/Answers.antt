use Rattle.std.proofs.Common.{map}
use Rattle.boogie_loops.specs.View.{wproc_of}
use Rattle.boogie_cut.proofs.WriteLaws.{with_body}
use Rattle.boogie_cut.proofs.programs.add_proc.Goals as goal

pub returns : goal.returns
returns c =
    with_body (map wproc_of c.args.procs.now.all.now) c.args.proc.now c.in-Some.body c.args.out.now.items c.push.new.self.items c.in_ok-cut_proc.field-0 c.deref.result.now c.in-Some.is c.deref.ensures.value
    c.in_ok-cut_proc.ensures c.in_ok-push.ensures.items
