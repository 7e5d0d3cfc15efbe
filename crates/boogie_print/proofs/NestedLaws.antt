-- The tokens of a program have no more brackets unclosed at once than the program is nested: each rule of the grammar closes
-- what it opens, and what it gives is nested at least as deep as its parts.
use Rattle.std.proofs.Common.{◌≡◌, refl, not, ◌&&◌, sym, subst, arith, ℕ, zero, suc, ◌+◌, ◌-◌, ◌≤◌, max, Bool as Truth, true, false, List, [], ◌∷◌, ◌++◌, take}
use Rattle.std.specs.Prelude.{⊤, fold}
use Rattle.vb_base.specs.Limits.{max_unclosed_brackets}
use Rattle.grammar.specs.Rules.{Starts}
use Rattle.grammar.specs.Spells.{Derives, given, needed, taken, passed, called}
use Rattle.boogie_tree.specs.Expr as t
use Rattle.boogie_tree.specs.Stmt as s
use Rattle.boogie_tree.specs.Program.{Proc, BProgram}
use Rattle.boogie_tree.specs.Nested.{expr_depth, exprs_depth, stmt_depth, stmts_depth, proc_depth, procs_depth, program_depth}
use Rattle.boogie_tree.specs.declared.exprs.BOp.{BOp}
use Rattle.boogie_tree.specs.declared.exprs.BOp.TheVariants as op
use Rattle.boogie_grammar.specs.declared.tokens.BSign.{BSign}
use Rattle.boogie_grammar.specs.declared.tokens.BSign.TheVariants as sign
use Rattle.boogie_grammar.specs.declared.tokens.Lexeme.TheVariants as tok
use Rattle.boogie_grammar.specs.declared.tokens.PlacedLexeme.{PlacedLexeme}
use Rattle.boogie_grammar.specs.declared.tokens.BoogieWord.TheVariants as w
use Rattle.boogie_grammar.specs.Words.{operator_tok, is_reserved, is_among}
use Rattle.boogie_grammar.specs.Tests as v
use Rattle.boogie_grammar.specs.Tests.{Kind, Value, Test, Passes, some_free}
use Rattle.boogie_grammar.specs.Grammar as g
use Rattle.boogie_grammar.specs.Grammar.{Symbol, Rule, give, need, when, read, boogie, rule, rules, where_true, unless_bound}
use Rattle.boogie_grammar.specs.Depth.{unclosed_with, unclosed, IsShallow}
use Rattle.boogie_grammar.specs.Spells.{Spells}

-- ---- tokens

-- from n unclosed brackets on, these tokens leave m, and never more than b
data Runs (b : ℕ) : ℕ → List PlacedLexeme → ℕ → Type 0 where
  end : {n : ℕ} → n ≤ b → Runs b n [] n
  step : {n m : ℕ} {k : PlacedLexeme} {ts : List PlacedLexeme} → n ≤ b → Runs b (unclosed_with n k.tok) ts m → Runs b n (k ∷ ts) m

both : {b n m k : ℕ} {ts us : List PlacedLexeme} → Runs b n ts m → Runs b m us k → Runs b n (ts ++ us) k
both (end le) h = h
both (step le h) i = step le (both h i)

within : {b n m : ℕ} {ts : List PlacedLexeme} → Runs b n ts m → (i : ℕ) → fold (λ n (k : PlacedLexeme). unclosed_with n k.tok) n (take i ts) ≤ b
within (end le) zero = le
within (end le) (suc i) = le
within (step le h) zero = le
within (step le h) (suc i) = within h i

-- what a token does that passes a test: it opens a bracket, closes one, or neither
data Does : Type 0 where
  Opens Closes Neither : Does

abbrev sign_does : BSign → Does
sign_does sign.OpenParen = Opens
sign_does sign.OpenBracket = Opens
sign_does sign.OpenBrace = Opens
sign_does sign.CloseParen = Closes
sign_does sign.CloseBracket = Closes
sign_does sign.CloseBrace = Closes
sign_does _ = Neither

abbrev does : {b : Truth} {r : Kind} → Test b r → Does
does (v.the_sign o) = sign_does o
does _ = Neither

abbrev after : Does → ℕ → ℕ
after Opens j = 1 + j
after Closes j = j - 1
after Neither j = j

-- there is one to close
abbrev Can : Does → ℕ → Type 0
Can Opens j = ⊤
Can Closes j = 1 ≤ j
Can Neither j = ⊤

sign_after : (o : BSign) (n j : ℕ) → Can (sign_does o) j → unclosed_with (n + j) (tok.Sign o) ≡ n + after (sign_does o) j
sign_after sign.OpenParen n j can = omega arith
sign_after sign.OpenBracket n j can = omega arith
sign_after sign.OpenBrace n j can = omega arith
sign_after sign.CloseParen n j can = omega (arith, can)
sign_after sign.CloseBracket n j can = omega (arith, can)
sign_after sign.CloseBrace n j can = omega (arith, can)
sign_after sign.Comma n j can = refl
sign_after sign.Semicolon n j can = refl
sign_after sign.Colon n j can = refl
sign_after sign.Bounds n j can = refl
sign_after sign.Assign n j can = refl
sign_after sign.Iff n j can = refl
sign_after sign.Implies n j can = refl
sign_after sign.Or n j can = refl
sign_after sign.And n j can = refl
sign_after sign.Equal n j can = refl
sign_after sign.NotEqual n j can = refl
sign_after sign.AtMost n j can = refl
sign_after sign.AtLeast n j can = refl
sign_after sign.Less n j can = refl
sign_after sign.Greater n j can = refl
sign_after sign.Plus n j can = refl
sign_after sign.Minus n j can = refl
sign_after sign.Star n j can = refl
sign_after sign.Slash n j can = refl
sign_after sign.Not n j can = refl

operator_after : (o : BOp) (n : ℕ) → unclosed_with n (operator_tok o) ≡ n
operator_after op.Iff n = refl
operator_after op.Implies n = refl
operator_after op.Or n = refl
operator_after op.And n = refl
operator_after op.Eq n = refl
operator_after op.Ne n = refl
operator_after op.Lt n = refl
operator_after op.Le n = refl
operator_after op.Gt n = refl
operator_after op.Ge n = refl
operator_after op.Add n = refl
operator_after op.Sub n = refl
operator_after op.Mul n = refl
operator_after op.Divide n = refl
operator_after op.IntDiv n = refl
operator_after op.IntMod n = refl

token_after : {b : Truth} {r : Kind} (c : Test b r) (k : PlacedLexeme) (x : Value r) (n j : ℕ) → Passes c k x → Can (does c) j → unclosed_with (n + j) k.tok ≡ n + after (does c) j
token_after (v.the_sign o) k x n j p can = rw p (sign_after o n j can)
token_after (v.the_word w) k x n j p can = rw p refl
token_after (v.the_name y) k x n j p can = rw p refl
token_after (v.a_new_name names) k x n j p can = rw p.0 refl
token_after (v.a_variable names some) k x n j p can = rw p.is refl
token_after v.a_number k x n j p can = rw p refl
token_after v.a_real k x n j p can = rw p refl
token_after v.a_label k x n j p can = rw p refl
token_after v.a_base k x n j p can = rw p refl
token_after v.a_key k x n j p can = rw p.0 refl
token_after v.an_operator k x n j p can = rw p (operator_after x (n + j))

-- ---- symbols

-- how many brackets more are unclosed before what a symbol spells than after it
abbrev closes : {k : Kind} → Symbol k → ℕ
closes (g.MoreKeys ks) = 1
closes (g.Statements ls ss) = 1
closes (g.InParens x) = 1
closes (g.Indices x i) = 1
closes (g.BoundRest qs) = 1
closes (g.Exprs x) = 1
closes (g.MoreExprs x es) = 1
closes _ = 0

-- how many are unclosed at most where a symbol spells this, besides those that are so after it
abbrev deep : {k : Kind} → Symbol k → Value k → ℕ
deep (g.Program ps) x = procs_depth x
deep (g.Procedure names) x = proc_depth x
deep (g.Locals ls) x = 1
deep g.TypeOf x = 1
deep (g.MoreKeys ks) x = 1
deep (g.Statements ls ss) x = 1 + stmts_depth (s.stmts x)
deep (g.Statement ls) x = stmt_depth x
deep (g.Block ls) x = 1 + stmts_depth x
deep (g.Else ls) x = 1 + stmts_depth x
deep (g.Expr y) x = expr_depth x
deep (g.InParens y) x = expr_depth x
deep (g.Binders y b) x = 0
deep (g.Indices y i) x = expr_depth x
deep (g.BoundRest qs) x = 1
deep (g.Exprs y) x = 1 + exprs_depth (t.exprs x)
deep (g.MoreExprs y es) x = 1 + exprs_depth (t.exprs x)

-- what a list has so far is nested no deeper than the whole, and what ends with a bracket began with one
abbrev Grows : {k : Kind} → Symbol k → Value k → Type 0
Grows (g.Program ps) x = procs_depth ps ≤ procs_depth x
Grows (g.Statements ls ss) x = stmts_depth (s.stmts ss) ≤ stmts_depth (s.stmts x)
Grows (g.MoreExprs y es) x = exprs_depth (t.exprs es) ≤ exprs_depth (t.exprs x)
Grows (g.InParens y) x = 1 ≤ expr_depth x
Grows (g.Indices y i) x = 1 ≤ expr_depth x
Grows _ x = ⊤

-- ---- rules

-- Where j brackets are unclosed, and up to d were, the rule closes all of them, and gives something that is nested so deep.
abbrev Fits : {k : Kind} → (Value k → ℕ) → (Value k → Type 0) → ℕ → ℕ → Rule k → Type 0
Fits depth grown j d (give x) = (j ≡ 0) × (d ≤ depth x) × grown x
Fits depth grown j d (need c go) = Can (does c) j × ((x : _) → Fits depth grown (after (does c) j) (max d (after (does c) j)) (go x))
Fits depth grown j d (when c go other) = (Can (does c) j × ((x : _) → Fits depth grown (after (does c) j) (max d (after (does c) j)) (go x))) × Fits depth grown j d other
Fits depth grown j d (read a go) = (closes a ≤ j) × ((y : _) → Grows a y → Fits depth grown (j - closes a) (max d ((j - closes a) + deep a y)) (go y))

-- ---- the rules of the grammar

-- one more at the end of a list

stmts_more : (ss : List s.BStmt) (a : s.BStmt) → stmts_depth (s.stmts (ss ++ a ∷ [])) ≡ max (stmts_depth (s.stmts ss)) (stmt_depth a)
stmts_more [] a = omega arith
stmts_more (x ∷ ss) a = let rest = stmts_more ss a in omega (arith, rest)

exprs_more : (es : List t.BExpr) (a : t.BExpr) → exprs_depth (t.exprs (es ++ a ∷ [])) ≡ max (exprs_depth (t.exprs es)) (expr_depth a)
exprs_more [] a = omega arith
exprs_more (x ∷ es) a = let rest = exprs_more es a in omega (arith, rest)

procs_more : (ps : List Proc) (p : Proc) → procs_depth (ps ++ p ∷ []) ≡ max (procs_depth ps) (proc_depth p)
procs_more [] p = omega arith
procs_more (x ∷ ps) p = let rest = procs_more ps p in omega (arith, rest)

fits_where : {k : Kind} (depth : Value k → ℕ) (grown : Value k → Type 0) (j d : ℕ) (b : Truth) (first : b ≡ true → Rule k) (other : Rule k) →
    ((h : b ≡ true) → Fits depth grown j d (first h)) → Fits depth grown j d other → Fits depth grown j d (where_true b first other)
fits_where depth grown j d true first other f h = f refl
fits_where depth grown j d false first other f h = h

abbrev any_expr : t.BExpr → Type 0
any_expr x = ⊤

-- an expression that ends with a bracket
abbrev ends_in_one : t.BExpr → Type 0
ends_in_one x = 1 ≤ expr_depth x

abbrev any_stmt : s.BStmt → Type 0
any_stmt x = ⊤

fits_unless : (names : List (List ℕ)) (first other : Rule v.expr) → Fits expr_depth ends_in_one 1 1 first → Fits expr_depth ends_in_one 1 1 other →
    Fits expr_depth ends_in_one 1 1 (unless_bound names first other)
fits_unless [] first other f h = f
fits_unless (x ∷ xs) first other f h = h

fits_wrapped : (y : g.ExprScope) (make : t.BExpr → t.BExpr) → ((a : t.BExpr) → expr_depth (make a) ≡ 1 + expr_depth a) → Fits expr_depth any_expr 0 0 (g.wrapped y make)
fits_wrapped y make deeper = (tt, λ _. (omega arith, λ a _. (omega arith, λ _. (refl, let e = deeper a in omega (arith, e), tt))))

fits_paired : (y : g.ExprScope) → Fits expr_depth any_expr 0 0 (g.paired y)
fits_paired y = (tt, λ _. (omega arith, λ a _. (tt, λ _. (omega arith, λ b _. (omega arith, λ _. (refl, omega arith, tt))))))

fits_in_parens : (y : g.ExprScope) → Fits expr_depth any_expr 0 0 (g.in_parens y)
fits_in_parens y = (tt, λ _. (omega arith, λ a ends. (refl, omega (arith, ends), tt)))

fits_named : (y : g.ExprScope) (i : ℕ) → Fits expr_depth any_expr 0 0 (g.named y i)
fits_named y i = ((tt, λ _. (omega arith, λ a ends. (refl, omega (arith, ends), tt))), (refl, omega arith, tt))

fits_wraps : (y : g.ExprScope) (others : Rule v.expr) → Fits expr_depth any_expr 0 0 others → Fits expr_depth any_expr 0 0 (g.wraps y others)
fits_wraps y others h = (
  (tt, λ _. fits_wrapped y (λ a. t.ToReal a) (λ a. refl)),
  (
    (tt, λ _. fits_wrapped y (λ a. t.SInt a) (λ a. refl)),
    (
      (tt, λ _. fits_wrapped y (λ a. t.SBool a) (λ a. refl)),
      ((tt, λ _. fits_wrapped y (λ a. t.SRef a) (λ a. refl)), ((tt, λ _. fits_wrapped y (λ a. t.SPerm a) (λ a. refl)), h)),
    ),
  ),
)

fits_leaves : (others : Rule v.expr) → Fits expr_depth any_expr 0 0 others → Fits expr_depth any_expr 0 0 (g.leaves others)
fits_leaves others h = (
  (tt, λ _. (refl, omega arith, tt)),
  (
    (tt, λ _. (refl, omega arith, tt)),
    (
      (tt, λ _. (refl, omega arith, tt)),
      ((tt, λ _. (refl, omega arith, tt)), ((tt, λ _. (refl, omega arith, tt)), ((tt, λ _. (refl, omega arith, tt)), h))),
    ),
  ),
)

fits_simple : (y : g.ExprScope) (others : Rule v.expr) → Fits expr_depth any_expr 0 0 others → Fits expr_depth any_expr 0 0 (g.simple y others)
fits_simple y others h =
    let rest : Rule v.expr = when (v.the_word w.SPair) (λ _. g.paired y) others in
    fits_leaves (g.wraps y rest) (fits_wraps y rest ((tt, λ _. fits_paired y), h))

fits_variable : (y : g.ExprScope) (some : some_free y.locals ≡ true) → Fits expr_depth any_expr 0 0 (when (v.a_variable y.locals some) (λ i. g.named y i) (g.in_parens y))
fits_variable y some = ((tt, λ i. fits_named y i), fits_in_parens y)

fits_expr : (y : g.ExprScope) → Fits expr_depth any_expr 0 0 (rule (g.Expr y))
fits_expr y =
    let variable : some_free y.locals ≡ true → Rule v.expr = λ some. when (v.a_variable y.locals some) (λ i. g.named y i) (g.in_parens y) in
    fits_simple y (where_true (some_free y.locals) variable (g.in_parens y))
    (fits_where expr_depth any_expr 0 0 (some_free y.locals) variable (g.in_parens y) (fits_variable y) (fits_in_parens y))

fits_binary : (y : g.ExprScope) → Fits expr_depth ends_in_one 1 1 (g.binary y)
fits_binary y = (omega arith, λ a _. (tt, λ o. (omega arith, λ b _. (omega arith, λ _. (refl, omega arith, omega arith)))))

fits_forall : (y : g.ExprScope) → Fits expr_depth ends_in_one 1 1 (when (v.the_word w.Forall) (λ _. read (g.Binders y g.no_binding) (λ b. g.quantified y b)) (g.binary y))
fits_forall y = ((tt, λ _. (omega arith, λ b _. (tt, λ _. (omega arith, λ a _. (omega arith, λ _. (refl, omega arith, omega arith)))))), fits_binary y)

fits_prefixed : (y : g.ExprScope) (others : Rule v.expr) → Fits expr_depth ends_in_one 1 1 others → Fits expr_depth ends_in_one 1 1 (g.prefixed y others)
fits_prefixed y others h = (
  (tt, λ _. (omega arith, λ a _. (omega arith, λ _. (refl, omega arith, omega arith)))),
  (
    (tt, λ _. (omega arith, λ a _. (omega arith, λ _. (refl, omega arith, omega arith)))),
    ((tt, λ _. (omega arith, λ a _. (tt, λ _. (omega arith, λ b _. (tt, λ _. (omega arith, λ c _. (omega arith, λ _. (refl, omega arith, omega arith)))))))), h),
  ),
)

fits_inside : (y : g.ExprScope) → Fits expr_depth ends_in_one 1 1 (rule (g.InParens y))
fits_inside y =
    let quantifier : Rule v.expr = when (v.the_word w.Forall) (λ _. read (g.Binders y g.no_binding) (λ b. g.quantified y b)) (g.binary y) in
    fits_prefixed y (unless_bound y.bound quantifier (g.binary y)) (fits_unless y.bound quantifier (g.binary y) (fits_forall y) (fits_binary y))

fits_at : (y : g.ExprScope) (i : ℕ) → Fits expr_depth ends_in_one 1 1 (g.at_indices y i)
fits_at y i = (omega arith, λ es _. (refl, omega arith, omega arith))

fits_at_bound : (y : g.ExprScope) (i : ℕ) (q : List ℕ) (qs : List (List ℕ)) →
    Fits expr_depth ends_in_one 1 1 (when (v.the_name q) (λ _. read (g.BoundRest qs) (λ _. give (t.AtBound i))) (g.at_indices y i))
fits_at_bound y i q qs = ((tt, λ _. (omega arith, λ _ _. (refl, omega arith, omega arith))), fits_at y i)

fits_indices : (y : g.ExprScope) (i : ℕ) (names : List (List ℕ)) → Fits expr_depth ends_in_one 1 1 (g.indices y i names)
fits_indices y i [] = fits_at y i
fits_indices y i (q ∷ qs) =
    fits_where expr_depth ends_in_one 1 1 (not (is_reserved q) && not (is_among q y.locals))
    (λ _. when (v.the_name q) (λ _. read (g.BoundRest qs) (λ _. give (t.AtBound i))) (g.at_indices y i)) (g.at_indices y i) (λ _. fits_at_bound y i q qs) (fits_at y i)

fits_conditional : (ls : List (List ℕ)) → Fits stmt_depth any_stmt 0 0 (g.conditional ls)
fits_conditional ls = (
  tt,
  λ _. (
    tt,
    λ _. (
      (tt, λ _. (omega arith, λ _. (omega arith, λ a _. (omega arith, λ b _. (refl, omega arith, tt))))),
      (omega arith, λ e _. (omega arith, λ _. (omega arith, λ a _. (omega arith, λ b _. (refl, omega arith, tt))))),
    ),
  ),
)

fits_assignment : (ls : List (List ℕ)) (i : ℕ) → Fits stmt_depth any_stmt 0 0 (g.assignment ls i)
fits_assignment ls i = (
  (tt, λ _. (omega arith, λ es _. (tt, λ _. (omega arith, λ e _. (tt, λ _. (refl, omega arith, tt)))))),
  (tt, λ _. (omega arith, λ e _. (tt, λ _. (refl, omega arith, tt)))),
)

fits_changes : (ls : List (List ℕ)) (some : some_free ls ≡ true) → Fits stmt_depth any_stmt 0 0 (g.changes ls some)
fits_changes ls some = (
  (tt, λ _. (tt, λ i. (tt, λ _. (refl, omega arith, tt)))),
  (
    (tt, λ i. fits_assignment ls i),
    fits_conditional ls,
  ),
)

fits_checks : (ls : List (List ℕ)) (others : Rule v.stmt) → Fits stmt_depth any_stmt 0 0 others → Fits stmt_depth any_stmt 0 0 (g.checks ls others)
fits_checks ls others h = (
  (tt, λ _. (omega arith, λ e _. (tt, λ _. (refl, omega arith, tt)))),
  ((tt, λ _. (tt, λ _. (tt, λ _. (tt, λ _. (tt, λ l. (omega arith, λ _. (omega arith, λ e _. (tt, λ _. (refl, omega arith, tt))))))))), h),
)

fits_statement : (ls : List (List ℕ)) → Fits stmt_depth any_stmt 0 0 (rule (g.Statement ls))
fits_statement ls =
    fits_checks ls (where_true (some_free ls) (g.changes ls) (g.conditional ls))
    (fits_where stmt_depth any_stmt 0 0 (some_free ls) (g.changes ls) (g.conditional ls) (fits_changes ls) (fits_conditional ls))

all_fit : {k : Kind} (a : Symbol k) → Fits (deep a) (Grows a) (closes a) (closes a) (rule a)
all_fit (g.Program ps) =
    ((tt, λ _. (omega arith, λ p _. (omega arith, λ x grows. let more = procs_more ps p in (refl, omega (arith, more, grows), omega (arith, more, grows))))), (refl, omega arith, omega arith))
all_fit (g.Procedure names) =
    (tt, λ x. (tt, λ _. (omega arith, λ _. (tt, λ _. (omega arith, λ ls _. (omega arith, λ ss _. (refl, omega arith, tt)))))))
all_fit (g.Locals ls) = (
  (tt, λ _. (tt, λ x. (tt, λ _. (omega arith, λ u _. (tt, λ _. (omega arith, λ y _. (refl, omega arith, tt))))))),
  (refl, omega arith, tt),
)
all_fit g.TypeOf =
    ((tt, λ _. (tt, λ k. (omega arith, λ ks _. (tt, λ u. (refl, omega arith, tt))))), (tt, λ u. (refl, omega arith, tt)))
all_fit (g.MoreKeys ks) =
    ((tt, λ _. (tt, λ k. (omega arith, λ x _. (refl, omega arith, tt)))), (omega arith, λ _. (refl, omega arith, tt)))
all_fit (g.Statements ls ss) = (
  (omega arith, λ _. (refl, omega arith, omega arith)),
  (omega arith, λ a _. (omega arith, λ x grows. let more = stmts_more ss a in (refl, omega (arith, more, grows), omega (arith, more, grows)))),
)
all_fit (g.Statement ls) = fits_statement ls
all_fit (g.Block ls) = (tt, λ _. (omega arith, λ ss _. (refl, omega arith, tt)))
all_fit (g.Else ls) = ((tt, λ _. (omega arith, λ ss _. (refl, omega arith, tt))), (refl, omega arith, tt))
all_fit (g.Expr y) = fits_expr y
all_fit (g.InParens y) = fits_inside y
all_fit (g.Binders y b) =
    (tt, λ q. (tt, λ _. (tt, λ u. ((tt, λ _. (omega arith, λ x _. (refl, omega arith, tt))), (refl, omega arith, tt)))))
all_fit (g.Indices y i) = fits_indices y i y.bound
all_fit (g.BoundRest []) = (omega arith, λ _. (refl, omega arith, tt))
all_fit (g.BoundRest (q ∷ qs)) = (tt, λ _. (tt, λ _. (omega arith, λ x _. (refl, omega arith, tt))))
all_fit (g.Exprs y) = (omega arith, λ a _. (omega arith, λ es grows. (refl, omega (arith, grows), tt)))
all_fit (g.MoreExprs y es) = (
  (tt, λ _. (omega arith, λ a _. (omega arith, λ x grows. let more = exprs_more es a in (refl, omega (arith, more, grows), omega (arith, more, grows))))),
  (omega arith, λ _. (refl, omega arith, omega arith)),
)

-- ---- derivations

-- what follows for the tokens that are derived from a rule
record Nests (k : Kind) (depth : Value k → ℕ) (grown : Value k → Type 0) (j d : ℕ) (ts : List PlacedLexeme) (x : Value k) : Type 0 where
  within : d ≤ depth x
  grows : grown x
  runs : (n b : ℕ) → n + depth x ≤ b → Runs b (n + j) ts n

first_token : {p : Truth} {r : Kind} {c : Test p r} {ts us : List PlacedLexeme} {x : Value r} (h : Starts boogie c ts x us) (b n j m : ℕ) → Can (does c) j → n + j ≤ b →
    Runs b (n + after (does c) j) us m → Runs b (n + j) ts m
first_token {c = c} {us = us} {x = x} h b n j m can le r =
    subst (λ l. Runs b (n + j) l m) (sym h.is) (step le (subst (λ i. Runs b i us m) (sym (token_after c h.token x n j h.passes can)) r))

nothing : (b n j : ℕ) → j ≡ 0 → n ≤ b → Runs b (n + j) [] n
nothing b n j none le = let same : n ≡ n + j = omega (arith, none) in subst (λ m. Runs b m [] n) same (end le)

from_there : {b n : ℕ} {ts : List PlacedLexeme} (i j : ℕ) → i ≡ j → Runs b i ts n → Runs b j ts n
from_there {b = b} {n = n} {ts = ts} i j same h = subst (λ m. Runs b m ts n) same h

nests : {k : Kind} {a : Rule k} {ts : List PlacedLexeme} {x : Value k} (depth : Value k → ℕ) (grown : Value k → Type 0) (j d : ℕ) → j ≤ d → Derives rules k a ts x →
    Fits depth grown j d a → Nests k depth grown j d ts x
nests depth grown j d le given fits = record { within = fits.1; grows = fits.2; runs = λ n b room. nothing b n j fits.0 (omega (arith, room)) }
nests depth grown j d le (needed {c = c} {v = v} h e) fits =
    let i = after (does c) j in
    let r = nests depth grown i (max d i) (omega arith) e (fits.1 v) in
    record { within = omega (arith, r.within); grows = r.grows; runs = λ n b room. first_token h b n j n fits.0 (omega (arith, room, r.within, le)) (r.runs n b room) }
nests depth grown j d le (taken {c = c} {v = v} h e) fits =
    let i = after (does c) j in
    let r = nests depth grown i (max d i) (omega arith) e (fits.0.1 v) in
    record { within = omega (arith, r.within); grows = r.grows; runs = λ n b room. first_token h b n j n fits.0.0 (omega (arith, room, r.within, le)) (r.runs n b room) }
nests depth grown j d le (passed e) fits = nests depth grown j d le e fits.1
nests depth grown j d le (called {a = a} {y = y} e f) fits =
    let part = nests (deep a) (Grows a) (closes a) (closes a) (omega arith) e (all_fit a) in
    let i = j - closes a in
    let r = nests depth grown i (max d (i + deep a y)) (omega arith) f (fits.1 y part.grows) in
    record {
      within = omega (arith, r.within);
      grows = r.grows;
      runs = λ n b room. both (from_there (n + i + closes a) (n + j) (omega (arith, fits.0)) (part.runs (n + i) b (omega (arith, room, r.within)))) (r.runs n b room);
    }

pub nested : (ts : List PlacedLexeme) (p : BProgram) → Spells ts p → (n : ℕ) → unclosed (take n ts) ≤ program_depth p
nested ts p h n =
    let whole = nests procs_depth (λ x. procs_depth [] ≤ procs_depth x) 0 0 (omega arith) h (all_fit (g.Program [])) in
    within (whole.runs 0 (program_depth p) (omega arith)) n

-- so those of a program that is not nested too deep are not unclosed too deep
pub shallow : (ts : List PlacedLexeme) (p : BProgram) → Spells ts p → program_depth p ≤ max_unclosed_brackets → IsShallow ts
shallow ts p h small n = let le = nested ts p h n in omega (arith, le, small)
