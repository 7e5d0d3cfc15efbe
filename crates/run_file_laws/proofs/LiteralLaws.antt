-- A program of Boogie that is read, or can be printed, has no literal outside the bound of runs.
use Rattle.std.specs.Prelude.{⊤}
use Rattle.std.proofs.Common.{ℕ, ℤ, List, length, arith}
use Rattle.std.proofs.lemmas.Int.{ints}
use Rattle.lemmas.proofs.Lists.{at_item}
use Rattle.vb_value.specs.Bound.{IsWithin}
use Rattle.boogie_tree.specs.Program.{BProgram}
use Rattle.boogie_tree.specs.Stmt as s
use Rattle.boogie_tree.specs.Literals.{IsLiteral, AreBound}
use Rattle.boogie_tree.specs.Fits.{FitsStmt, FitStmts}
use Rattle.boogie_tree.proofs.LiteralLaws.{stmt_has, block_has, stmt_literals_fit, block_literals_fit}
use Rattle.boogie_print.specs.Read.{IsRead}
use Rattle.boogie_print.specs.Printable.{FitsProc, IsPrintable}
use Rattle.boogie_print.proofs.SpelledLaws.{spelled_printable}
use Rattle.boogie_run.specs.Start.{IsWithinProgram}
use Rattle.boogie_eval.specs.Within.{IsWithinExpr, AreWithinExprs, IsWithinStmt, AreWithinStmts}

literal_within : {n : ℤ} → IsLiteral n → IsWithin n
literal_within {n} h = omega (arith, ints, h.is, h.within)

pub stmt_within : (n : ℕ) (x : s.BStmt) → FitsStmt n x → IsWithinStmt x
stmt_within n x h = stmt_has IsLiteral IsWithin AreBound (λ us. ⊤) (λ k l. literal_within l) (λ us l. tt) x (stmt_literals_fit n x h)

stmts_within : (n : ℕ) (xs : s.BStmts) → FitStmts n xs → AreWithinStmts xs
stmts_within n xs h = block_has IsLiteral IsWithin AreBound (λ us. ⊤) (λ k l. literal_within l) (λ us l. tt) xs (block_literals_fit n xs h)

pub printable_within : (q : BProgram) → IsPrintable q → IsWithinProgram q
printable_within q h n d there =
    let fits = at_item FitsProc q.procs h.procs n d there in
    stmts_within (length d.locals) d.body fits.body

pub program_within : (bytes : List ℕ) (q : BProgram) → IsRead bytes q → IsWithinProgram q
program_within bytes q h = printable_within q (spelled_printable bytes q h.spelled)
