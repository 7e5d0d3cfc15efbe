use Rattle.boogie_text.specs.ReadExpr.{scope_before}
use Rattle.boogie_text.proofs.BexprLaws.{reads_as, gives_expr, gives_expr_fault}
use Rattle.boogie_text.proofs.KnownLaws.{names_of}
use Rattle.boogie_text.proofs.single_expr.read_bexpr.Goals as goal

pub returns-clause-only_expr : goal.returns-clause-only_expr
returns-clause-only_expr c = λ e next h.
    gives_expr (scope_before (names_of c.args.locals.now.items) c.args.known) c.args.tokens.now.items c.args.from c.args.end e next c.read_before.result
    (reads_as c.deref-2.result.now c.args.locals.now.items c.args.known c.deref.result.now c.args.tokens.now.items c.args.from c.args.end c.read_before.result c.deref-2.ensures.value c.deref.ensures.value c.read_before.ensures) h

pub returns-clause-only_fault : goal.returns-clause-only_fault
returns-clause-only_fault c = λ f h.
    gives_expr_fault (scope_before (names_of c.args.locals.now.items) c.args.known) c.args.tokens.now.items c.args.from c.args.end f c.read_before.result
    (reads_as c.deref-2.result.now c.args.locals.now.items c.args.known c.deref.result.now c.args.tokens.now.items c.args.from c.args.end c.read_before.result c.deref-2.ensures.value c.deref.ensures.value c.read_before.ensures) h
