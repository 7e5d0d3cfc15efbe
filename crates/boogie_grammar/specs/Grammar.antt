-- The grammar of Boogie after the prelude (Leino, This is Boogie 2, with the attributes and real literals of the later
-- tool). `Symbol` names what can be spelled, and `rule` says how each is, and what was spelled. A symbol carries the names
-- in scope, and that of a list what the list has so far. `[x]` is x or nothing, and `{x}` is x any number of times.
use Rattle.std.specs.Prelude.{◌≡◌, refl, ℕ, Bool, true, false, not, ◌&&◌, List, [], ◌∷◌, ◌++◌, map}
use Rattle.grammar.specs.Rules as grammar
use Rattle.grammar.specs.Rules.{Alphabet, Rules}
pub use Rattle.grammar.specs.Rules.{give, need, when, read}
use Rattle.boogie_tree.specs.Expr as t
use Rattle.boogie_tree.specs.Stmt as s
use Rattle.boogie_tree.specs.Program.{Local, Proc}
use Rattle.boogie_tree.specs.declared.exprs.BBase.{BBase}
use Rattle.boogie_grammar.specs.declared.tokens.BSign.{BSign}
use Rattle.boogie_grammar.specs.declared.tokens.BSign.TheVariants as sign
use Rattle.boogie_grammar.specs.declared.tokens.PlacedLexeme.{PlacedLexeme}
use Rattle.boogie_grammar.specs.declared.tokens.BoogieWord.{BoogieWord}
use Rattle.boogie_grammar.specs.declared.tokens.BoogieWord.TheVariants as w
use Rattle.boogie_grammar.specs.Words.{is_among, is_reserved}
use Rattle.boogie_grammar.specs.Tests as v
use Rattle.boogie_grammar.specs.Tests.{Binding, Kind, Value, Test, Passes, the_sign, the_word, the_name, a_new_name, a_variable, a_number, a_real, a_label, a_base, a_key, an_operator, some_free}

-- The names of the locals, further names that a bound variable is not to have, though no variable is called by them, and the
-- names that the `forall` around binds, or none.
pub record ExprScope : Type 0 where
  pub locals : List (List ℕ)
  pub others : List (List ℕ)
  pub bound : List (List ℕ)

-- the scope of what stands in no `forall`, where the names of the locals alone are taken
abbrev pub outside : List (List ℕ) → ExprScope
outside ls = record { locals = ls; others = []; bound = [] }

-- the names that a bound variable is not to have, where these are bound already
abbrev pub taken_by : ExprScope → List (List ℕ) → List (List ℕ)
taken_by x bound = (x.locals ++ x.others) ++ bound

-- the same under a `forall` that binds these
abbrev pub binding_in : ExprScope → List (List ℕ) → ExprScope
binding_in x bound = record { locals = x.locals; others = x.others; bound = bound }

pub data Symbol : Kind → Type 0 where
  Program : List Proc → Symbol v.procs
  Procedure : List (List ℕ) → Symbol v.proc
  Locals : List Local → Symbol v.locals
  TypeOf : Symbol v.a_type
  MoreKeys : List BBase → Symbol v.bases
  Statements : List (List ℕ) → List s.BStmt → Symbol v.stmts
  Statement : List (List ℕ) → Symbol v.stmt
  Block : List (List ℕ) → Symbol v.block
  Else : List (List ℕ) → Symbol v.block
  Expr : ExprScope → Symbol v.expr
  InParens : ExprScope → Symbol v.expr
  Binders : ExprScope → Binding → Symbol v.binding
  Indices : ExprScope → ℕ → Symbol v.expr
  BoundRest : List (List ℕ) → Symbol v.nothing
  Exprs : ExprScope → Symbol v.exprs
  MoreExprs : ExprScope → List t.BExpr → Symbol v.exprs

-- what the grammar is made of
abbrev pub boogie : Alphabet
boogie = record {
  Token = PlacedLexeme;
  Kind = Kind;
  Value = Value;
  Test = Test;
  Passes = λ b r c k v. Passes c k v;
  Symbol = Symbol;
}

abbrev pub Rule : Kind → Type 0
Rule s = grammar.Rule boogie s

-- a sign or a word, and then the rest
abbrev pub after_sign : {s : Kind} → BSign → Rule s → Rule s
after_sign o rest = need (the_sign o) (λ _. rest)

abbrev pub after_word : {s : Kind} → BoogieWord → Rule s → Rule s
after_word w rest = need (the_word w) (λ _. rest)

-- where the test is true, the first rule, which may rest on that
abbrev pub where_true : {s : Kind} (b : Bool) → (b ≡ true → Rule s) → Rule s → Rule s
where_true true then_rule other = then_rule refl
where_true false then_rule other = other

abbrev pub local_names : List Local → List (List ℕ)
local_names ls = map (λ (l : Local). l.name) ls

abbrev pub proc_names : List Proc → List (List ℕ)
proc_names ps = map (λ (p : Proc). p.name) ps

abbrev pub bind : Binding → List ℕ → BBase → Binding
bind b x u = record { names = b.names ++ x ∷ []; types = b.types ++ u ∷ [] }

-- "if" "(" ( bexpr | "*" ) ")" bblock [ "else" bblock ]
abbrev pub conditional : List (List ℕ) → Rule v.stmt
conditional ls = need (the_word w.If) (λ _. after_sign sign.OpenParen
    (when (the_sign sign.Star) (λ _. after_sign sign.CloseParen (read (Block ls) (λ a. read (Else ls) (λ b. give (s.Either a b)))))
    (read (Expr (outside ls)) (λ e. after_sign sign.CloseParen (read (Block ls) (λ a. read (Else ls) (λ b. give (s.If e a b))))))))

-- [ "[" bexpr { "," bexpr } "]" ] ":=" bexpr ";", after a name
abbrev pub assignment : List (List ℕ) → ℕ → Rule v.stmt
assignment ls i =
    when (the_sign sign.OpenBracket) (λ _. read (Exprs (outside ls)) (λ es. after_sign sign.Assign
    (read (Expr (outside ls)) (λ e. after_sign sign.Semicolon (give (s.Put i (t.exprs es) e))))))
    (after_sign sign.Assign (read (Expr (outside ls)) (λ e. after_sign sign.Semicolon (give (s.Assign i e)))))

-- "assume" bexpr ";" | "assert" "{" ":" "msg" string "}" bexpr ";"
abbrev pub checks : List (List ℕ) → Rule v.stmt → Rule v.stmt
checks ls others =
    when (the_word w.Assume) (λ _. read (Expr (outside ls)) (λ e. after_sign sign.Semicolon (give (s.Assume e))))
    (when (the_word w.Assert) (λ _. after_sign sign.OpenBrace (after_sign sign.Colon (after_word w.Msg (need a_label (λ l. after_sign sign.CloseBrace
    (read (Expr (outside ls)) (λ e. after_sign sign.Semicolon (give (s.Assert l e)))))))))
    others)

-- "havoc" name ";" | name [ "[" bexpr { "," bexpr } "]" ] ":=" bexpr ";", or a conditional
abbrev pub changes : (ls : List (List ℕ)) → some_free ls ≡ true → Rule v.stmt
changes ls some =
    when (the_word w.Havoc) (λ _. need (a_variable ls some) (λ i. after_sign sign.Semicolon (give (s.Havoc i))))
    (when (a_variable ls some) (λ i. assignment ls i)
    (conditional ls))

-- "(" bexpr ")", after a word
abbrev pub wrapped : ExprScope → (t.BExpr → t.BExpr) → Rule v.expr
wrapped x make = after_sign sign.OpenParen (read (Expr x) (λ a. after_sign sign.CloseParen (give (make a))))

-- [ "[" .. "]" ], after a name
abbrev pub named : ExprScope → ℕ → Rule v.expr
named x i = when (the_sign sign.OpenBracket) (λ _. read (Indices x i) give) (give (t.Var i))

-- number | real literal | "true" | "false" | "null" | "sUnit"
abbrev pub leaves : Rule v.expr → Rule v.expr
leaves others =
    when a_number (λ n. give (t.Int n))
    (when a_real (λ n. give (t.Real n))
    (when (the_word w.True) (λ _. give (t.Bool true))
    (when (the_word w.False) (λ _. give (t.Bool false))
    (when (the_word w.Null) (λ _. give t.Null)
    (when (the_word w.SUnit) (λ _. give t.Unit)
    others)))))

-- "real" "(" bexpr ")" | "sInt" "(" bexpr ")" | ..
abbrev pub wraps : ExprScope → Rule v.expr → Rule v.expr
wraps x others =
    when (the_word w.Real) (λ _. wrapped x t.ToReal)
    (when (the_word w.SInt) (λ _. wrapped x t.SInt)
    (when (the_word w.SBool) (λ _. wrapped x t.SBool)
    (when (the_word w.SRef) (λ _. wrapped x t.SRef)
    (when (the_word w.SPerm) (λ _. wrapped x t.SPerm)
    others))))

-- "(" bexpr "," bexpr ")", after "sPair"
abbrev pub paired : ExprScope → Rule v.expr
paired x = after_sign sign.OpenParen (read (Expr x) (λ a. after_sign sign.Comma (read (Expr x) (λ b. after_sign sign.CloseParen (give (t.Pair a b))))))

-- these, and "sPair" "(" bexpr "," bexpr ")"
abbrev pub simple : ExprScope → Rule v.expr → Rule v.expr
simple x others = leaves (wraps x (when (the_word w.SPair) (λ _. paired x) others))

abbrev pub in_parens : ExprScope → Rule v.expr
in_parens x = after_sign sign.OpenParen (read (InParens x) give)

-- "-" bexpr ")" | "!" bexpr ")" | "if" bexpr "then" bexpr "else" bexpr ")", after "("
abbrev pub prefixed : ExprScope → Rule v.expr → Rule v.expr
prefixed x others =
    when (the_sign sign.Minus) (λ _. read (Expr x) (λ a. after_sign sign.CloseParen (give (t.Neg a))))
    (when (the_sign sign.Not) (λ _. read (Expr x) (λ a. after_sign sign.CloseParen (give (t.Not a))))
    (when (the_word w.If) (λ _. read (Expr x) (λ a. after_word w.Then (read (Expr x) (λ b. after_word w.Else (read (Expr x) (λ c. after_sign sign.CloseParen (give (t.If a b c))))))))
    others))

-- bexpr bop bexpr ")", after "("
abbrev pub binary : ExprScope → Rule v.expr
binary x = read (Expr x) (λ a. need an_operator (λ o. read (Expr x) (λ b. after_sign sign.CloseParen (give (t.Bin o a b)))))

abbrev pub no_binding : Binding
no_binding = record { names = []; types = [] }

-- "::" bexpr ")", after what a `forall` binds
abbrev pub quantified : ExprScope → Binding → Rule v.expr
quantified x b = after_sign sign.Bounds (read (Expr (binding_in x b.names)) (λ a. after_sign sign.CloseParen (give (t.Forall b.types a))))

-- no `forall` stands in another
abbrev pub unless_bound : List (List ℕ) → Rule v.expr → Rule v.expr → Rule v.expr
unless_bound [] first other = first
unless_bound (x ∷ xs) first other = other

-- the bound names as the index list of the map of this number, or other indices
abbrev pub at_indices : ExprScope → ℕ → Rule v.expr
at_indices x i = read (Exprs x) (λ es. give (t.At i (t.exprs es)))

abbrev pub indices : ExprScope → ℕ → List (List ℕ) → Rule v.expr
indices x i [] = at_indices x i
indices x i (q ∷ qs) =
    where_true (not (is_reserved q) && not (is_among q x.locals))
    (λ _. when (the_name q) (λ _. read (BoundRest qs) (λ _. give (t.AtBound i))) (at_indices x i))
    (at_indices x i)

abbrev pub rule : {s : Kind} → Symbol s → Rule s
-- rest = { "procedure" name "(" ")" "{" { "var" name ":" btype ";" } { bstmt } "}" }, where the names differ
rule (Program ps) = when (the_word w.Procedure) (λ _. read (Procedure (proc_names ps)) (λ p. read (Program (ps ++ (p ∷ []))) give)) (give ps)
rule (Procedure taken) =
    need (a_new_name taken) (λ x. after_sign sign.OpenParen (after_sign sign.CloseParen (after_sign sign.OpenBrace
    (read (Locals []) (λ ls. read (Statements (local_names ls) []) (λ ss. give (record { name = x; locals = ls; body = s.stmts ss })))))))
rule (Locals ls) =
    when (the_word w.Var) (λ _. need (a_new_name (local_names ls)) (λ x. after_sign sign.Colon (read TypeOf (λ u. after_sign sign.Semicolon
    (read (Locals (ls ++ (record { name = x; ty = u } ∷ []))) give)))))
    (give ls)
-- btype = base | "[" key { "," key } "]" base
rule TypeOf =
    when (the_sign sign.OpenBracket) (λ _. need a_key (λ k. read (MoreKeys (k ∷ [])) (λ ks. need a_base (λ u. give (record { keys = ks; base = u })))))
    (need a_base (λ u. give (record { keys = []; base = u })))
rule (MoreKeys ks) =
    when (the_sign sign.Comma) (λ _. need a_key (λ k. read (MoreKeys (ks ++ (k ∷ []))) give))
    (after_sign sign.CloseBracket (give ks))
-- { bstmt } "}"
rule (Statements ls ss) =
    when (the_sign sign.CloseBrace) (λ _. give ss)
    (read (Statement ls) (λ a. read (Statements ls (ss ++ (a ∷ []))) give))
-- bstmt; what begins with a variable, and `havoc`, only where there is one
rule (Statement ls) =
    checks ls (where_true (some_free ls) (λ some. changes ls some) (conditional ls))
-- bblock = "{" { bstmt } "}"
rule (Block ls) = after_sign sign.OpenBrace (read (Statements ls []) (λ ss. give (s.stmts ss)))
rule (Else ls) =
    when (the_word w.Else) (λ _. read (Block ls) give)
    (give s.skip)
-- bexpr
rule (Expr x) = simple x (where_true (some_free x.locals) (λ some. when (a_variable x.locals some) (λ i. named x i) (in_parens x)) (in_parens x))
-- what follows a "(", with its ")"
rule (InParens x) = prefixed x (unless_bound x.bound (when (the_word w.Forall) (λ _. read (Binders x no_binding) (λ b. quantified x b)) (binary x)) (binary x))
-- name ":" key { "," name ":" key }, whose names differ from each other, from the locals and from the further names
rule (Binders x b) =
    need (a_new_name (taken_by x b.names)) (λ q. after_sign sign.Colon (need a_key (λ u.
    when (the_sign sign.Comma) (λ _. read (Binders x (bind b q u)) give)
    (give (bind b q u)))))
-- what follows a name and "[", with the "]"
rule (Indices x i) = indices x i x.bound
rule (BoundRest []) = after_sign sign.CloseBracket (give tt)
rule (BoundRest (q ∷ qs)) = after_sign sign.Comma (need (the_name q) (λ _. read (BoundRest qs) give))
rule (Exprs x) = read (Expr x) (λ a. read (MoreExprs x (a ∷ [])) give)
rule (MoreExprs x es) =
    when (the_sign sign.Comma) (λ _. read (Expr x) (λ a. read (MoreExprs x (es ++ (a ∷ []))) give))
    (after_sign sign.CloseBracket (give es))

abbrev pub rules : Rules boogie
rules = λ s a. rule a
