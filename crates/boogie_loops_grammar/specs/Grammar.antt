-- The grammar of Boogie with loops, calls and contracts, after the prelude: the expressions and types are those of the other
-- programs, in scopes where further words are reserved. `[x]` is x or nothing, and `{x}` is x any number of times.
use Rattle.std.specs.Prelude.{◌≡◌, refl, ℕ, Bool, true, false, List, [], ◌∷◌, ◌++◌, Option, Some, None}
use Rattle.grammar.specs.Rules as grammar
use Rattle.grammar.specs.Rules.{Alphabet, Rules, give, need, when, read}
use Rattle.grammar.specs.Wider.{Kinds, old, new, was, more, wider, all_rules}
use Rattle.boogie_loops_grammar.specs.Noting.{Notes, noting, noted, noted_rules}
use Rattle.vb_base.specs.declared.labels.Label.{Label}
use Rattle.boogie_tree.specs.Expr as t
use Rattle.boogie_tree.specs.Program.{Local}
use Rattle.boogie_grammar.specs.declared.tokens.BSign.{BSign}
use Rattle.boogie_grammar.specs.declared.tokens.BSign.TheVariants as sign
use Rattle.boogie_grammar.specs.declared.tokens.BoogieWord.{BoogieWord}
use Rattle.boogie_grammar.specs.declared.tokens.BoogieWord.TheVariants as w
use Rattle.boogie_grammar.specs.Tests as v
use Rattle.boogie_grammar.specs.Tests.{the_sign, the_word, the_name, a_new_name, a_variable, a_label, a_base, some_free}
use Rattle.boogie_grammar.specs.Grammar as g
use Rattle.boogie_grammar.specs.Grammar.{boogie, local_names}
use Rattle.boogie_loops.specs.Wide as wide
use Rattle.boogie_loops.specs.Wide.{Clause, WStmt, WStmts, WProc}
use Rattle.boogie_loops_grammar.specs.Words.{wide_words, has_no_word, while_word, call_word, invariant_word, requires_word, ensures_word, returns_word}
use Rattle.boogie_loops_grammar.specs.Trees.{Contract, no_clauses, requiring, ensuring, block_of, plain_local, procedure, procedure_names, name_at}

-- the names that are new are noted
abbrev pub new_names : Notes boogie (List ℕ)
new_names b _ (a_new_name taken) x = x ∷ []
new_names b _ _ x = []

-- the grammar of the other programs, where the second form of a symbol tells which new names are in what it spells
abbrev pub telling : Alphabet
telling = noted boogie (List ℕ)

pub data Kind : Type 0 where
  clause : Kind
  clauses : Kind
  bound_clause : Kind
  contract : Kind
  numbers : Kind
  stmt : Kind
  stmts : Kind
  block : Kind
  proc : Kind
  procs : Kind

abbrev pub Value : Kind → Type 0
Value clause = Clause
Value clauses = List Clause
Value bound_clause = Clause × List (List ℕ)
Value contract = Contract
Value numbers = List ℕ
Value stmt = WStmt
Value stmts = List WStmt
Value block = WStmts
Value proc = WProc
Value procs = List WProc

-- A symbol carries the names in scope, and that of a list what the list has so far.
pub data Symbol : Kinds telling Kind → Type 0 where
  Programs : List WProc → Symbol (new procs)
  Procedure : List (List ℕ) → Symbol (new proc)
  Parameters : Symbol (old (old v.locals))
  Params : List Local → Symbol (old (old v.locals))
  Clauses : List (List ℕ) → Contract → Symbol (new contract)
  BoundClause : List (List ℕ) → Symbol (new bound_clause)
  Vars : List (List ℕ) → List Local → Symbol (old (old v.locals))
  Statements : List (List ℕ) → List WStmt → Symbol (new stmts)
  Statement : List (List ℕ) → Symbol (new stmt)
  Block : List (List ℕ) → Symbol (new block)
  Else : List (List ℕ) → Symbol (new block)
  Invariants : List (List ℕ) → List Clause → Symbol (new clauses)
  Targets : List (List ℕ) → List ℕ → Symbol (new numbers)
  Arguments : List (List ℕ) → Symbol (old (old v.exprs))
  MoreArguments : List (List ℕ) → List t.BExpr → Symbol (old (old v.exprs))

-- what the grammar is made of
abbrev pub wider_boogie : Alphabet
wider_boogie = wider telling Kind Value Symbol

abbrev pub Rule : Kinds telling Kind → Type 0
Rule s = grammar.Rule wider_boogie s

-- what the other programs have: a sign, a word, an expression, and an expression with the names that are bound in it

abbrev pub after_sign : {s : Kinds telling Kind} → BSign → Rule s → Rule s
after_sign o rest = need {r = old (old v.nothing)} (the_sign o) (λ _. rest)

abbrev pub after_word : {s : Kinds telling Kind} → BoogieWord → Rule s → Rule s
after_word x rest = need {r = old (old v.nothing)} (the_word x) (λ _. rest)

abbrev pub at_sign : {s : Kinds telling Kind} → BSign → Rule s → Rule s → Rule s
at_sign o first other = when {b = true} {r = old (old v.nothing)} (the_sign o) (λ _. first) other

abbrev pub at_word : {s : Kinds telling Kind} → BoogieWord → Rule s → Rule s → Rule s
at_word x first other = when {b = true} {r = old (old v.nothing)} (the_word x) (λ _. first) other

abbrev pub at_name : {s : Kinds telling Kind} → List ℕ → Rule s → Rule s → Rule s
at_name x first other = when {b = true} {r = old (old v.nothing)} (the_name x) (λ _. first) other

-- a name that is not reserved, and none of these
abbrev pub a_name : {s : Kinds telling Kind} → List (List ℕ) → (List ℕ → Rule s) → Rule s
a_name taken go = need {r = old (old v.name)} (a_new_name (taken ++ wide_words)) go

-- where the test is true, the first rule, which may rest on that
abbrev pub where_true : {s : Kinds telling Kind} (b : Bool) → (b ≡ true → Rule s) → Rule s → Rule s
where_true true some other = some refl
where_true false some other = other

-- the scope of an expression
abbrev pub scope : List (List ℕ) → g.ExprScope
scope ls = record { locals = ls; others = wide_words; bound = [] }

abbrev pub an_expr : {s : Kinds telling Kind} → List (List ℕ) → (t.BExpr → Rule s) → Rule s
an_expr ls go = read {r = old (old v.expr)} (was (was (g.Expr (scope ls)))) go

abbrev pub a_binding_expr : {s : Kinds telling Kind} → List (List ℕ) → (t.BExpr × List (List ℕ) → Rule s) → Rule s
a_binding_expr ls go = read {r = old (new v.expr)} (was (more (noting (g.Expr (scope ls))))) go

-- "{" ":" "msg" string "}"
abbrev pub marked : {s : Kinds telling Kind} → (Label → Rule s) → Rule s
marked go = after_sign sign.OpenBrace (after_sign sign.Colon (after_word w.Msg (need {r = old (old v.label)} a_label (λ l. after_sign sign.CloseBrace (go l)))))

-- mark bexpr ";"
abbrev pub a_clause : {s : Kinds telling Kind} → List (List ℕ) → (Clause → Rule s) → Rule s
a_clause ls go = marked (λ l. an_expr ls (λ e. after_sign sign.Semicolon (go (record { label = l; e = e }))))

-- declarations

-- ";" { clause } | { clause } "{" { "var" name ":" btype ";" } { wstmt } "}", after these parameters, and these with the returns
abbrev pub rest_of : List ℕ → List Local → List Local → Rule (new proc)
rest_of x params head =
    at_sign sign.Semicolon
    (read (more (Clauses (local_names head) no_clauses)) (λ c. give (procedure x params head head c None)))
    (read (more (Clauses (local_names head) no_clauses)) (λ c. after_sign sign.OpenBrace (read (more (Vars c.bound head)) (λ ls.
    read (more (Statements (local_names ls) [])) (λ xs. give (procedure x params head ls c (Some (block_of xs))))))))

-- name "(" [ params ] ")" [ "returns" "(" params ")" ] ..
abbrev pub headed : List (List ℕ) → Rule (new proc)
headed taken =
    a_name taken (λ x. after_sign sign.OpenParen (read (more Parameters) (λ params.
    at_name returns_word (after_sign sign.OpenParen (read (more (Params params)) (λ head. rest_of x params head)))
    (rest_of x params params))))

-- statements

abbrev pub assignment : List (List ℕ) → ℕ → Rule (new stmt)
assignment ls i =
    at_sign sign.OpenBracket
    (read {r = old (old v.exprs)} (was (was (g.Exprs (scope ls)))) (λ es. after_sign sign.Assign (an_expr ls (λ e. after_sign sign.Semicolon (give (wide.Put i (t.exprs es) e))))))
    (after_sign sign.Assign (an_expr ls (λ e. after_sign sign.Semicolon (give (wide.Assign i e)))))

-- "if" "(" ( bexpr | "*" ) ")" block [ "else" block ]
abbrev pub branches : List (List ℕ) → (WStmts → WStmts → WStmt) → Rule (new stmt)
branches ls make = after_sign sign.CloseParen (read (more (Block ls)) (λ a. read (more (Else ls)) (λ b. give (make a b))))

abbrev pub conditional : List (List ℕ) → Rule (new stmt)
conditional ls = after_word w.If (after_sign sign.OpenParen
    (at_sign sign.Star (branches ls wide.Either) (an_expr ls (λ e. branches ls (wide.If e)))))

-- "assume" bexpr ";" | "assert" mark bexpr ";"
abbrev pub checks : List (List ℕ) → Rule (new stmt) → Rule (new stmt)
checks ls others =
    at_word w.Assume (an_expr ls (λ e. after_sign sign.Semicolon (give (wide.Assume e))))
    (at_word w.Assert (a_clause ls (λ c. give (wide.Assert c.label c.e)))
    others)

-- "havoc" name ";" | name [ "[" bexpr { "," bexpr } "]" ] ":=" bexpr ";", or a conditional
abbrev pub changes : (ls : List (List ℕ)) → some_free ls ≡ true → Rule (new stmt)
changes ls some =
    at_word w.Havoc (need {r = old (old v.variable)} (a_variable ls some) (λ i. after_sign sign.Semicolon (give (wide.Havoc i))))
    (when {b = true} {r = old (old v.variable)} (a_variable ls some) (λ i. assignment ls i) (conditional ls))

-- what begins with no word of loops and calls
abbrev pub simple : List (List ℕ) → Rule (new stmt)
simple ls = checks ls (where_true (some_free ls) (λ some. changes ls some) (conditional ls))

-- ")" { "invariant" mark bexpr ";" } block, after the guard of a `while`
abbrev pub looping : List (List ℕ) → Option t.BExpr → Rule (new stmt)
looping ls guard = after_sign sign.CloseParen (read (more (Invariants ls [])) (λ invariants. read (more (Block ls)) (λ body. give (wide.While guard invariants body))))

-- "(" ( bexpr | "*" ) .., after "while"
abbrev pub loop : List (List ℕ) → Rule (new stmt)
loop ls = after_sign sign.OpenParen (at_sign sign.Star (looping ls None) (an_expr ls (λ e. looping ls (Some e))))

-- "(" [ bexpr { "," bexpr } ] ")" ";", after the name of the procedure that is called
abbrev pub called : List (List ℕ) → List ℕ → List ℕ → Rule (new stmt)
called ls targets name = after_sign sign.OpenParen (read (more (Arguments ls)) (λ es. after_sign sign.Semicolon (give (wide.Call targets name (t.exprs es)))))

-- a variable after "call": before a "(" the name of a procedure, else the first target
abbrev pub targeted : List (List ℕ) → ℕ → Rule (new stmt)
targeted ls i =
    at_sign sign.OpenParen
    (read (more (Arguments ls)) (λ es. after_sign sign.Semicolon (give (wide.Call [] (name_at ls i) (t.exprs es)))))
    (read (more (Targets ls (i ∷ []))) (λ targets. a_name [] (λ f. called ls targets f)))

-- [ name { "," name } ":=" ] name .., after "call"
abbrev pub call : List (List ℕ) → Rule (new stmt)
call ls =
    where_true (some_free ls) (λ some. when {b = true} {r = old (old v.variable)} (a_variable ls some) (λ i. targeted ls i) (a_name ls (λ f. called ls [] f)))
    (a_name ls (λ f. called ls [] f))

-- "," name .. | ":=", after a target
abbrev pub more_targets : (ls : List (List ℕ)) → List ℕ → some_free ls ≡ true → Rule (new numbers)
more_targets ls is some =
    at_sign sign.Comma (need {r = old (old v.variable)} (a_variable ls some) (λ i. read (more (Targets ls (is ++ (i ∷ [])))) give))
    (after_sign sign.Assign (give is))

-- wstmt, where no variable has one of the words as its name
abbrev pub worded : List (List ℕ) → Rule (new stmt)
worded ls = at_name while_word (loop ls) (at_name call_word (call ls) (simple ls))

abbrev pub more_rule : {s : Kinds telling Kind} → Symbol s → Rule s
-- wide = { "procedure" name .. }, where the names differ
more_rule (Programs ps) = at_word w.Procedure (read (more (Procedure (procedure_names ps))) (λ p. read (more (Programs (ps ++ (p ∷ [])))) give)) (give ps)
more_rule (Procedure taken) = headed taken
more_rule Parameters = at_sign sign.CloseParen (give []) (read (more (Params [])) give)
-- params = name ":" base { "," name ":" base }, with the ")"
more_rule (Params ls) =
    a_name (local_names ls) (λ x. after_sign sign.Colon (need {r = old (old v.base_type)} a_base (λ u.
    at_sign sign.Comma (read (more (Params (ls ++ (plain_local x u ∷ [])))) give)
    (after_sign sign.CloseParen (give (ls ++ (plain_local x u ∷ [])))))))
-- clause = ("requires" | "ensures") mark bexpr ";"
more_rule (Clauses ls c) =
    at_name requires_word (read (more (BoundClause ls)) (λ m. read (more (Clauses ls (requiring c m.0 m.1))) give))
    (at_name ensures_word (read (more (BoundClause ls)) (λ m. read (more (Clauses ls (ensuring c m.0 m.1))) give))
    (give c))
more_rule (BoundClause ls) = marked (λ l. a_binding_expr ls (λ e. after_sign sign.Semicolon (give (record { label = l; e = e.0 }, e.1))))
-- { "var" name ":" btype ";" }, whose names differ from each other, from the parameters and returns, and from what the clauses bind
more_rule (Vars bound ls) =
    at_word w.Var (a_name (local_names ls ++ bound) (λ x. after_sign sign.Colon (read {r = old (old v.a_type)} (was (was g.TypeOf)) (λ u. after_sign sign.Semicolon
    (read (more (Vars bound (ls ++ (record { name = x; ty = u } ∷ [])))) give)))))
    (give ls)
-- { wstmt } "}"
more_rule (Statements ls xs) = at_sign sign.CloseBrace (give xs) (read (more (Statement ls)) (λ x. read (more (Statements ls (xs ++ (x ∷ [])))) give))
-- wstmt; no variable has one of the words as its name, so that the words tell the statements that begin with them
more_rule (Statement ls) = where_true (has_no_word ls) (λ _. worded ls) (simple ls)
-- block = "{" { wstmt } "}"
more_rule (Block ls) = after_sign sign.OpenBrace (read (more (Statements ls [])) (λ xs. give (block_of xs)))
more_rule (Else ls) = at_word w.Else (read (more (Block ls)) give) (give wide.skip)
more_rule (Invariants ls cs) = at_name invariant_word (a_clause ls (λ c. read (more (Invariants ls (cs ++ (c ∷ [])))) give)) (give cs)
-- { "," name } ":="
more_rule (Targets ls is) = where_true (some_free ls) (λ some. more_targets ls is some) (after_sign sign.Assign (give is))
-- [ bexpr { "," bexpr } ] ")"
more_rule (Arguments ls) = at_sign sign.CloseParen (give []) (read (more (MoreArguments ls [])) give)
more_rule (MoreArguments ls es) =
    an_expr ls (λ e. at_sign sign.Comma (read (more (MoreArguments ls (es ++ (e ∷ [])))) give) (after_sign sign.CloseParen (give (es ++ (e ∷ [])))))

abbrev pub rules : Rules wider_boogie
rules = all_rules (noted_rules new_names g.rules) (λ s a. more_rule a)

abbrev pub rule : {s : Kinds telling Kind} → Symbol s → Rule s
rule a = more_rule a
