-- What contracts of the reader of statements see.
use Rattle.std.specs.Prelude.{◌≡◌, ◌⊎◌, true, false, ℕ, List, map, Option, Some, None, Result, Ok, Err}
use Rattle.std.specs.Borrow.{Bor}
use Rattle.std.specs.declared.alloc.Global.{Global}
use Rattle.std.specs.declared.vec.Vec.{Vec}
use Rattle.grammar.specs.declared.stop.Stop.{Stop}
use Rattle.grammar.specs.declared.stop.Stop.TheVariants as stop
use Rattle.boogie_tree.specs.Stmt as s
use Rattle.boogie_tree.specs.Program as p
use Rattle.boogie_tree.specs.Whole.{stmt_of, stmts_of, proc_of}
use Rattle.boogie_tree.specs.declared.programs.Proc as declared
use Rattle.boogie_tree.specs.declared.stmts.BStmt.{BStmt}
use Rattle.boogie_grammar.specs.declared.tokens.BSign.TheVariants as sign
use Rattle.boogie_grammar.specs.declared.tokens.PlacedLexeme.{PlacedLexeme}
use Rattle.boogie_grammar.specs.declared.tokens.BoogieWord.TheVariants as w
use Rattle.boogie_grammar.specs.Tests as v
use Rattle.boogie_grammar.specs.Tests.{some_free, a_variable, a_label, the_word}
use Rattle.boogie_grammar.specs.Greedy.{IsNot, Starts}
use Rattle.boogie_grammar.specs.ReadView.{ReadsVariable, NoVariable}
use Rattle.boogie_grammar.specs.Grammar as g
use Rattle.boogie_grammar.specs.Grammar.{Rule, give, need, when, read, after_sign, after_word, where_true}

-- the scope of what stands in no `forall`
abbrev pub no_bound : List (List ℕ) → g.ExprScope
no_bound ls = g.outside ls

-- bexpr ";", after "assume"
abbrev pub assuming : List (List ℕ) → Rule v.stmt
assuming ls = read (g.Expr (no_bound ls)) (λ e. after_sign sign.Semicolon (give (s.Assume e)))

-- "{" ":" "msg" string "}" bexpr ";", after "assert"
abbrev pub asserting : List (List ℕ) → Rule v.stmt
asserting ls = after_sign sign.OpenBrace (after_sign sign.Colon (after_word w.Msg (need a_label (λ l. after_sign sign.CloseBrace
    (read (g.Expr (no_bound ls)) (λ e. after_sign sign.Semicolon (give (s.Assert l e))))))))

-- what may stand in the place of "assume" and "assert", and behind "havoc" too
abbrev pub changing : List (List ℕ) → Rule v.stmt
changing ls = where_true (some_free ls) (λ some. g.changes ls some) (g.conditional ls)

abbrev pub storing : List (List ℕ) → Rule v.stmt
storing ls = where_true (some_free ls) (λ some. when (a_variable ls some) (λ i. g.assignment ls i) (g.conditional ls)) (g.conditional ls)

-- ")" bblock [ "else" bblock ], after "*"
abbrev pub unpicked : List (List ℕ) → Rule v.stmt
unpicked ls = after_sign sign.CloseParen (read (g.Block ls) (λ a. read (g.Else ls) (λ b. give (s.Either a b))))

-- bexpr ")" bblock [ "else" bblock ], after "if" "("
abbrev pub picked : List (List ℕ) → Rule v.stmt
picked ls = read (g.Expr (no_bound ls)) (λ e. after_sign sign.CloseParen (read (g.Block ls) (λ a. read (g.Else ls) (λ b. give (s.If e a b)))))

abbrev pub all_stmts_of : Vec BStmt Global → List s.BStmt
all_stmts_of v = map stmt_of v.items

abbrev pub all_procs_of : Vec declared.Proc Global → List p.Proc
all_procs_of v = map proc_of v.items

abbrev pub block_of : Vec BStmt Global → s.BStmts
block_of v = stmts_of v.items

-- the word `havoc` stands here, and no variable behind it: it goes wrong there, or at the word where no variable can be named
abbrev pub HavocAlone : List (List ℕ) → List PlacedLexeme → List PlacedLexeme → List PlacedLexeme → Type 0
HavocAlone ls ts us r = ((some_free ls ≡ true) × NoVariable ls us × (r ≡ us)) ⊎ ((some_free ls ≡ false) × (r ≡ ts))

-- a `havoc` with its variable, or none
abbrev pub EatsHavoc : List (List ℕ) → List PlacedLexeme → Result (Option (ℕ × Bor (List PlacedLexeme))) (Stop PlacedLexeme) → Type 0
EatsHavoc ls ts (Ok None) = IsNot (the_word w.Havoc) ts
EatsHavoc ls ts (Ok (Some p)) = (us : List PlacedLexeme) × Starts (the_word w.Havoc) ts tt us × ReadsVariable ls us p.0 p.1.now
EatsHavoc ls ts (Err stop.Memory) = Unit {0}
EatsHavoc ls ts (Err (stop.Before r)) = (us : List PlacedLexeme) × Starts (the_word w.Havoc) ts tt us × HavocAlone ls ts us r.now
