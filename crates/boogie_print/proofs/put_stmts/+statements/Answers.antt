use Rattle.std.proofs.Common.{◌≡◌, ◌∙◌, ◌++◌, codes, OnOk, ap, sym, subst, arith}
use Rattle.std.proofs.lemmas.Grind.{common_steps}
use Rattle.std.specs.declared.alloc.Global.{Global}
use Rattle.std.specs.declared.vec.Vec.{Vec}
use Rattle.boogie_tree.specs.declared.stmts.BStmt as s
use Rattle.boogie_tree.specs.Whole.{expr_of, stmt_of, stmts_of}
use Rattle.boogie_tree.proofs.WholeLaws.{stmt_of-If, stmt_of-Either}
use Rattle.boogie_grammar.specs.Naming.{naming_of}
use Rattle.boogie_grammar.specs.Printed as text
use Rattle.boogie_grammar.specs.Printed.{expr_text, stmt_text, stmts_text}
use Rattle.boogie_print.proofs.put_stmts.+statements.Goals as goal

if_text : (x : text.Naming) (st : s.BStmt) (e : _) (a b : Vec s.BStmt Global) → st ≡ s.If e a b →
    stmt_text x (stmt_of st) ≡ codes "if (" ++ expr_text x (expr_of e) ++ codes ") {\n" ++ stmts_text x (stmts_of a.items) ++ codes "} else {\n" ++ stmts_text x (stmts_of b.items) ++ codes "}\n"
if_text x st e a b h = ap (λ y. stmt_text x (stmt_of y)) h ∙ ap (stmt_text x) (stmt_of-If e a b)

either_text : (x : text.Naming) (st : s.BStmt) (a b : Vec s.BStmt Global) → st ≡ s.Either a b →
    stmt_text x (stmt_of st) ≡ codes "if (*) {\n" ++ stmts_text x (stmts_of a.items) ++ codes "} else {\n" ++ stmts_text x (stmts_of b.items) ++ codes "}\n"
either_text x st a b h = ap (λ y. stmt_text x (stmt_of y)) h ∙ ap (stmt_text x) (stmt_of-Either a b)

pub put_statement-returns-in_ok-put_statements-in-If-2 : goal.put_statement-returns-in_ok-put_statements-in-If-2
put_statement-returns-in_ok-put_statements-in-If-2 t c =
    subst (λ y. OnOk c.put_end.result (c.put_end.new.out.items ≡ c.args.out.now.items ++ y))
    (sym (if_text (naming_of c.args.names.now) c.args.stmt.now c.in-If.truth c.in-If.a c.in-If.b c.in-If.is)) (grind (arith, common_steps))

pub put_statement-returns-in_ok-put_statements-in-Either-2 : goal.put_statement-returns-in_ok-put_statements-in-Either-2
put_statement-returns-in_ok-put_statements-in-Either-2 t c =
    subst (λ y. OnOk c.put_end-in-Either.result (c.put_end-in-Either.new.out.items ≡ c.args.out.now.items ++ y))
    (sym (either_text (naming_of c.args.names.now) c.args.stmt.now c.in-Either.a c.in-Either.b c.in-Either.is)) (grind (arith, common_steps))
