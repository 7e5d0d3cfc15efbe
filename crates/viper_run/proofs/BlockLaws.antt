-- The statements of a block, and what is within the bound of them.
use Rattle.std.proofs.Common.{arith, ℕ, zero, suc, ◌<◌, length, get_or, List, [], ◌∷◌}
use Rattle.viper_core.specs.View.{stmt_of, stmts_of}
use Rattle.viper_core.specs.declared.stmts.Stmt as stmt
use Rattle.viper_meaning.specs.StatementLiterals.{IsWithinStmt, AreWithinStmts}

pub stmt_within : (xs : List stmt.Stmt) (i : ℕ) (d : stmt.Stmt) → i < length xs → AreWithinStmts (stmts_of xs) → IsWithinStmt (stmt_of (get_or xs i d))
stmt_within [] i d lt h = absurd (omega arith)
stmt_within (x ∷ xs) zero d lt h = h.0
stmt_within (x ∷ xs) (suc i) d lt h = stmt_within xs i d (omega arith) h.1
