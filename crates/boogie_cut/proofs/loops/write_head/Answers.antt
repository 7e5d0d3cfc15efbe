use Rattle.std.proofs.Common.{◌∙◌, ap}
use Rattle.std.proofs.lemmas.Result.{on_ok_weaker}
use Rattle.boogie_tree.specs.Whole.{stmts_of}
use Rattle.boogie_cut.specs.Cut.{join, havocs}
use Rattle.boogie_cut.specs.View.{clauses_of}
use Rattle.boogie_cut.proofs.WriteLaws.{own_asserts, own_assumes, three_joined}
use Rattle.boogie_cut.proofs.loops.write_head.Goals as goal

pub returns : goal.returns
returns c =
    let cs = clauses_of c.args.invariants.now in
    let b0 = stmts_of c.args.out.now.items in
    let b1 = stmts_of c.write_asserts.new.out.items in
    let b2 = stmts_of c.write_havocs.new.out.items in
    let b3 = stmts_of c.write_assumes.new.out.items in
    on_ok_weaker c.write_assumes.result (λ made.
    three_joined b0 b1 b2 b3 _ _ _ (own_asserts cs b0 b1 c.in_ok-write_asserts.ensures)
    (c.in_ok-write_havocs.ensures ∙ ap (λ is. join b1 (havocs is)) (c.deref.ensures.value ∙ c.in_ok-targets.ensures))
    (own_assumes cs b2 b3 made)) c.write_assumes.ensures
