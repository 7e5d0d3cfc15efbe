use Rattle.std.proofs.Common.{◌≡◌, ◌∙◌, ◌+◌, ◌-◌, ◌^◌, min, ℕ, ap, arith}
use Rattle.std.specs.declared.alloc.Global.{Global}
use Rattle.std.specs.declared.vec.Vec.{Vec}
use Rattle.boogie_tree.specs.declared.stmts.BStmt as s
use Rattle.boogie_tree.specs.Whole.{stmt_of, stmts_of}
use Rattle.boogie_tree.proofs.WholeLaws.{stmt_of-If, stmt_of-Either}
use Rattle.boogie_print.specs.Asserts.{asserts_at, asserts_in}
use Rattle.boogie_print.proofs.asserts.+asserts.Goals as goal

if_asserts : (st : s.BStmt) (e : _) (a b : Vec s.BStmt Global) → st ≡ s.If e a b → asserts_at (stmt_of st) ≡ asserts_in (stmts_of a.items) + asserts_in (stmts_of b.items)
if_asserts st e a b h = ap (λ y. asserts_at (stmt_of y)) h ∙ ap asserts_at (stmt_of-If e a b)

either_asserts : (st : s.BStmt) (a b : Vec s.BStmt Global) → st ≡ s.Either a b → asserts_at (stmt_of st) ≡ asserts_in (stmts_of a.items) + asserts_in (stmts_of b.items)
either_asserts st a b h = ap (λ y. asserts_at (stmt_of y)) h ∙ ap asserts_at (stmt_of-Either a b)

-- one count after another
counted : (n a b both x y : ℕ) → x ≡ min (n + a) (2 ^ 64 - 1) → y ≡ min (x + b) (2 ^ 64 - 1) → both ≡ a + b → y ≡ min (n + both) (2 ^ 64 - 1)
counted n a b both x y h i e = omega (arith, h, i, e)

pub count_statement-returns-in-If : goal.count_statement-returns-in-If
count_statement-returns-in-If t c =
    counted c.args.before (asserts_in (stmts_of c.in-If.a.items)) (asserts_in (stmts_of c.in-If.b.items)) (asserts_at (stmt_of c.args.stmt.now)) c.count_asserts.result c.count_asserts-in-If.result
    (c.count_asserts.ensures ∙ ap (λ xs. min (c.args.before + asserts_in (stmts_of xs)) (2 ^ 64 - 1)) c.deref-in-If.ensures.value)
    (c.count_asserts-in-If.ensures ∙ ap (λ xs. min (c.count_asserts.result + asserts_in (stmts_of xs)) (2 ^ 64 - 1)) c.deref.ensures.value)
    (if_asserts c.args.stmt.now c.in-If.field-0 c.in-If.a c.in-If.b c.in-If.is)

pub count_statement-returns-in-Either : goal.count_statement-returns-in-Either
count_statement-returns-in-Either t c =
    counted c.args.before (asserts_in (stmts_of c.in-Either.a.items)) (asserts_in (stmts_of c.in-Either.b.items)) (asserts_at (stmt_of c.args.stmt.now)) c.count_asserts-in-Either.result c.count_asserts-in-Either-2.result
    (c.count_asserts-in-Either.ensures ∙ ap (λ xs. min (c.args.before + asserts_in (stmts_of xs)) (2 ^ 64 - 1)) c.deref-in-Either-2.ensures.value)
    (c.count_asserts-in-Either-2.ensures ∙ ap (λ xs. min (c.count_asserts-in-Either.result + asserts_in (stmts_of xs)) (2 ^ 64 - 1)) c.deref-in-Either.ensures.value)
    (either_asserts c.args.stmt.now c.in-Either.a c.in-Either.b c.in-Either.is)
