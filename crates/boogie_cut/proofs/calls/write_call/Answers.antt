use Rattle.std.proofs.lemmas.Result.{on_ok_weaker}
use Rattle.boogie_tree.specs.Whole.{stmts_of}
use Rattle.boogie_cut.proofs.WriteLaws.{call_joined}
use Rattle.boogie_cut.proofs.calls.write_call.Goals as goal

pub returns : goal.returns
returns c = on_ok_weaker c.write_assumes.result (λ made.
    call_joined c.args.targets.now c.args.arguments.now c.args.n c.args.callee.now c.in_ok-numbers.numbers.items c.deref.result.now c.deref-2.result.now c.deref-3.result.now (stmts_of c.args.out.now.items)
    (stmts_of c.write_assigns.new.out.items) (stmts_of c.write_asserts.new.out.items) (stmts_of c.write_havocs.new.out.items) (stmts_of c.write_assumes.new.out.items) c.in_ok-numbers.ensures
    c.deref.ensures.value c.deref-2.ensures.value c.deref-3.ensures.value c.in_ok-write_assigns.ensures c.in_ok-write_asserts.ensures c.in_ok-write_havocs.ensures made) c.write_assumes.ensures
