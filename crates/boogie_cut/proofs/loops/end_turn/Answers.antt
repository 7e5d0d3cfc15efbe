use Rattle.std.proofs.Common.{refl}
use Rattle.boogie_tree.specs.Whole.{stmts_of}
use Rattle.boogie_cut.specs.View.{clauses_of}
use Rattle.boogie_cut.proofs.WriteLaws.{own_asserts, two_joined, one_pushed}
use Rattle.boogie_cut.proofs.loops.end_turn.Goals as goal

pub returns : goal.returns
returns c =
    let b0 = stmts_of c.args.turn.now.items in
    let b1 = stmts_of c.write_asserts.new.out.items in
    two_joined b0 b1 (stmts_of c.push.new.self.items) _ _ (own_asserts (clauses_of c.args.invariants.now) b0 b1 c.in_ok-write_asserts.ensures)
    (one_pushed c.write_asserts.new.out.items c.push.new.self.items _ _ c.in_ok-push.ensures.items refl)
