use Rattle.std.proofs.Common.{map}
use Rattle.boogie_tree.specs.Whole.{locals_of, stmts_of}
use Rattle.boogie_loops.specs.View.{wproc_of, wstmts_of}
use Rattle.boogie_cut.specs.View.{types_of_all}
use Rattle.boogie_cut.proofs.WriteLaws.{proc_written}
use Rattle.boogie_cut.proofs.programs.cut_proc.Goals as goal

pub returns : goal.returns
returns c =
    proc_written (map wproc_of c.args.procs.now.all.now) c.args.proc.now c.deref.result.now (wstmts_of c.args.body.now) c.in_ok-name.name (locals_of c.in_ok-locals.locals.items) (stmts_of c.in_ok-body.body.items)
    (types_of_all c.cut_body.new.types.items) c.in_ok-name.ensures c.deref.ensures.value c.in_ok-body.ensures c.in_ok-locals.ensures
