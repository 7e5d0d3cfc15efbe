use Rattle.std.proofs.Common.{◌∙◌, ap, map}
use Rattle.boogie_tree.specs.Whole.{stmts_of}
use Rattle.boogie_loops.specs.View.{wproc_of, wstmts_of}
use Rattle.boogie_cut.specs.Cut.{assumes, join, renamed_clauses}
use Rattle.boogie_cut.specs.View.{clauses_of, types_of_all}
use Rattle.boogie_cut.proofs.WriteLaws.{body_written}
use Rattle.boogie_cut.proofs.programs.cut_body.Goals as goal

pub returns : goal.returns
returns c =
    body_written (map wproc_of c.args.procs.now.all.now) c.args.proc.now c.deref-2.result.now c.deref.result.now c.deref-3.result.now (wstmts_of c.args.body.now) (types_of_all c.args.types.now.items)
    (types_of_all c.cut_block.new.types.items) (stmts_of c.write_assumes.new.out.items) (stmts_of c.cut_block.new.out.items) (stmts_of c.write_asserts.new.out.items) c.deref-2.ensures.value c.deref.ensures.value
    c.deref-3.ensures.value (ap types_of_all c.requires)
    (c.in_ok-write_assumes.ensures ∙ ap (λ xs. join (stmts_of xs) (assumes (renamed_clauses (λ i. i) (clauses_of c.deref.result.now)))) c.new-out.ensures.items)
    c.in_ok-cut_block.ensures c.in_ok-write_asserts.ensures
