-- What contracts of the reader see.
use Rattle.std.specs.Prelude.{◌≡◌, true, ℕ, List, map, Option, Result, Ok, Err}
use Rattle.std.specs.Borrow.{Bor}
use Rattle.std.specs.declared.alloc.Global.{Global}
use Rattle.std.specs.declared.vec.Vec.{Vec}
use Rattle.vb_base.specs.declared.labels.Label.{Label}
use Rattle.grammar.specs.declared.stop.Stop.{Stop}
use Rattle.grammar.specs.Rules.{give, when, read}
use Rattle.grammar.specs.Wider.{old, new, more}
use Rattle.boogie_tree.specs.Expr as t
use Rattle.boogie_tree.specs.declared.exprs.BExpr.{BExpr}
use Rattle.boogie_grammar.specs.declared.tokens.BSign.TheVariants as sign
use Rattle.boogie_grammar.specs.declared.tokens.PlacedLexeme.{PlacedLexeme}
use Rattle.boogie_grammar.specs.Tests as v
use Rattle.boogie_grammar.specs.Tests.{some_free, a_variable}
use Rattle.boogie_grammar.specs.Greedy as narrow
use Rattle.boogie_grammar.specs.ReadView.{all_exprs_of}
use Rattle.boogie_loops.specs.Wide as w
use Rattle.boogie_loops.specs.View.{clause_of, wstmt_of, wstmts_of, wproc_of}
use Rattle.boogie_loops.specs.declared.wide.Clause.{Clause}
use Rattle.boogie_loops.specs.declared.wide.WStmt.{WStmt}
use Rattle.boogie_loops.specs.declared.wide.WProc.{WProc}
use Rattle.boogie_loops_grammar.specs.Grammar as g
use Rattle.boogie_loops_grammar.specs.Grammar.{Rule, Arguments, after_sign, an_expr, a_clause, marked, where_true, branches, assignment, conditional, changes}
use Rattle.boogie_loops_text.specs.Greedy.{WKind, Goes, Refuses}

abbrev pub all_clauses_of : Vec Clause Global → List w.Clause
all_clauses_of v = map clause_of v.items

abbrev pub all_wstmts_of : Vec WStmt Global → List w.WStmt
all_wstmts_of v = map wstmt_of v.items

abbrev pub block_of : Vec WStmt Global → w.WStmts
block_of v = wstmts_of v.items

abbrev pub all_wprocs_of : Vec WProc Global → List w.WProc
all_wprocs_of v = map wproc_of v.items

abbrev pub numbers_of : Vec ℕ Global → List ℕ
numbers_of v = v.items

-- what a function answers that reads the beginning of a rule, whatever follows it

abbrev pub ReadsMark : List PlacedLexeme → Result (Label × Bor (List PlacedLexeme)) (Stop PlacedLexeme) → Type 0
ReadsMark ts (Ok r) = (s : WKind) (go : Label → Rule s) → Goes (marked go) ts (go r.0) r.1.now
ReadsMark ts (Err e) = (s : WKind) (go : Label → Rule s) → Refuses (marked go) ts e

abbrev pub ReadsClause : List (List ℕ) → List PlacedLexeme → Result (Clause × Bor (List PlacedLexeme)) (Stop PlacedLexeme) → Type 0
ReadsClause ls ts (Ok r) = (s : WKind) (go : w.Clause → Rule s) → Goes (a_clause ls go) ts (go (clause_of r.0)) r.1.now
ReadsClause ls ts (Err e) = (s : WKind) (go : w.Clause → Rule s) → Refuses (a_clause ls go) ts e

-- statements

-- bexpr ";", after "assume", and a clause after "assert"
abbrev pub assuming : List (List ℕ) → Rule (new g.stmt)
assuming ls = an_expr ls (λ e. after_sign sign.Semicolon (give (w.Assume e)))

abbrev pub asserting : List (List ℕ) → Rule (new g.stmt)
asserting ls = a_clause ls (λ c. give (w.Assert c.label c.e))

-- what may stand in the place of "assume" and "assert", and behind "havoc" too
abbrev pub changing : List (List ℕ) → Rule (new g.stmt)
changing ls = where_true (some_free ls) (λ some. changes ls some) (conditional ls)

abbrev pub storing : List (List ℕ) → Rule (new g.stmt)
storing ls = where_true (some_free ls) (λ some. when {b = true} {r = old (old v.variable)} (a_variable ls some) (λ i. assignment ls i) (conditional ls)) (conditional ls)

-- a variable, which must be next
abbrev pub TakesVariable : List (List ℕ) → List PlacedLexeme → Result (ℕ × Bor (List PlacedLexeme)) (Stop PlacedLexeme) → Type 0
TakesVariable ls ts result = (some : some_free ls ≡ true) → narrow.Takes (a_variable ls some) ts result

-- bexpr ")" block [ "else" block ], after "if" "("
abbrev pub picked : List (List ℕ) → Rule (new g.stmt)
picked ls = an_expr ls (λ e. branches ls (w.If e))

-- what follows a "(" in a call
abbrev pub giving : List (List ℕ) → List ℕ → List ℕ → Rule (new g.stmt)
giving ls targets name = read (more (Arguments ls)) (λ es. after_sign sign.Semicolon (give (w.Call targets name (t.exprs es))))

abbrev pub call_of : List ℕ → List ℕ → Vec BExpr Global → w.WStmt
call_of targets name es = w.Call targets name (t.exprs (all_exprs_of es))

abbrev pub loop_of : Option t.BExpr → Vec Clause Global × Vec WStmt Global → w.WStmt
loop_of guard parts = w.While guard (all_clauses_of parts.0) (block_of parts.1)
