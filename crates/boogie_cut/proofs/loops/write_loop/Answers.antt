use Rattle.std.specs.Option.{option_map}
use Rattle.std.proofs.lemmas.Result.{on_ok_weaker}
use Rattle.boogie_tree.specs.Whole.{expr_of, stmts_of}
use Rattle.boogie_loops.specs.View.{wstmts_of}
use Rattle.boogie_cut.specs.View.{clauses_of}
use Rattle.boogie_cut.proofs.WriteLaws.{loop_joined}
use Rattle.boogie_cut.proofs.loops.write_loop.Goals as goal

pub returns : goal.returns
returns c = on_ok_weaker c.write_guard.result (λ made.
    loop_joined c.args.own.now (option_map expr_of c.args.guard.now) (clauses_of c.args.invariants.now) (wstmts_of c.args.body.now) (stmts_of c.args.turn.items) (stmts_of c.end_turn.new.turn.items)
    (stmts_of c.args.out.now.items) (stmts_of c.write_head.new.out.items) (stmts_of c.write_guard.new.out.items) c.in_ok-end_turn.ensures c.in_ok-write_head.ensures made) c.write_guard.ensures
