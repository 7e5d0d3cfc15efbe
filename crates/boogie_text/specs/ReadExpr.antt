-- Which expression begins a list of tokens: a token is here what one that was handed out stands for, or none.
use Rattle.std.specs.Prelude.{◌≡◌, ◌++◌, ◌+◌, ◌⊎◌, ℕ, zero, suc, List, [], ◌∷◌, Option, Some, None, map, length, take, drop, Result, Ok, Err}
use Rattle.vb_base.specs.declared.places.Pos.{Pos}
use Rattle.vb_base.specs.Place.{IsPlace}
use Rattle.grammar.specs.Spells.{Derives}
use Rattle.boogie_tree.specs.Expr as t
use Rattle.boogie_tree.specs.Whole.{expr_of}
use Rattle.boogie_grammar.specs.declared.faults.BoogieFault.{BoogieFault}
use Rattle.boogie_grammar.specs.declared.faults.BoogieFault.TheVariants as fault
use Rattle.boogie_grammar.specs.declared.tokens.BSign.TheVariants as sign
use Rattle.boogie_grammar.specs.declared.tokens.Lexeme.TheVariants as tok
use Rattle.boogie_grammar.specs.declared.tokens.PlacedLexeme.{PlacedLexeme}
use Rattle.boogie_grammar.specs.Grammar.{ExprScope, Expr, rule, rules}
use Rattle.boogie_text.specs.declared.public_tokens.BToken as handed
use Rattle.boogie_text.specs.declared.single_expr.ReadExpr.{ReadExpr}
use Rattle.boogie_text.specs.PublicTokens.{token_of}

-- the scope in which the first of these names are the variables, and a bound variable has none of all these names
abbrev pub scope_before : List (List ℕ) → ℕ → ExprScope
scope_before names known = record { locals = take known names; others = drop known names; bound = [] }

-- each of these is a token, and they spell the expression
pub record SpellsExpr (x : ExprScope) (os : List (Option PlacedLexeme)) (e : t.BExpr) : Type 0 where
  pub tokens : List PlacedLexeme
  pub all : os ≡ map Some tokens
  pub spells : Derives rules _ (rule (Expr x)) tokens e

-- they spell some expression
abbrev pub IsExpr : ExprScope → List (Option PlacedLexeme) → Type 0
IsExpr x os = (e : t.BExpr) × SpellsExpr x os e

-- a `[` is next
pub record StartsIndex (os : List (Option PlacedLexeme)) : Type 0 where
  pub token : PlacedLexeme
  pub rest : List (Option PlacedLexeme)
  pub is : os ≡ Some token ∷ rest
  pub bracket : token.tok ≡ tok.Sign sign.OpenBracket

-- so many of them spell the expression, from the first one on, and no `[` is next
pub record BeginsExpr (x : ExprScope) (os : List (Option PlacedLexeme)) (n : ℕ) (e : t.BExpr) : Type 0 where
  pub front : List (Option PlacedLexeme)
  pub rest : List (Option PlacedLexeme)
  pub whole : os ≡ front ++ rest
  pub size : n ≡ length front
  pub spells : SpellsExpr x front e
  pub ends : StartsIndex rest → ⊥

-- that is so of no expression; the number of the first one through which they begin none, or that of all of them
pub record BeginsNone (x : ExprScope) (os : List (Option PlacedLexeme)) (i : ℕ) : Type 0 where
  pub none : (n : ℕ) (e : t.BExpr) → BeginsExpr x os n e → ⊥
  pub place : IsPlace (IsExpr x) os i

-- what is found: an expression and how many tokens it has, or that there is none and where
abbrev pub Finds : ExprScope → List (Option PlacedLexeme) → Option t.BExpr → ℕ → Type 0
Finds x os (Some e) n = BeginsExpr x os n e
Finds x os None n = BeginsNone x os n

-- the expression begins at the token of this number, and what follows it at that of the other
pub record IsReadExpr (x : ExprScope) (ts : List handed.BToken) (from : ℕ) (e : t.BExpr) (next : ℕ) : Type 0 where
  pub size : ℕ
  pub end : next ≡ from + size
  pub begins : BeginsExpr x (map token_of (drop from ts)) size e

-- the place of the token of this number, or the end where there is none
abbrev pub place_in : List handed.BToken → ℕ → Pos → Pos
place_in [] i end = end
place_in (k ∷ ts) zero end = k.pos
place_in (k ∷ ts) (suc i) end = place_in ts i end

-- no expression begins at the token of this number
pub data IsExprFault (x : ExprScope) (ts : List handed.BToken) (from : ℕ) (end : Pos) : BoogieFault → Type 0 where
  no_expr : {i : ℕ} → BeginsNone x (map token_of (drop from ts)) i → IsExprFault x ts from end (fault.Syntax (place_in (drop from ts) i end))

-- the answer is this expression and this number, unless memory was refused
abbrev pub GivesExpr : t.BExpr → ℕ → Result ReadExpr BoogieFault → Type 0
GivesExpr e next (Ok r) = (expr_of r.e ≡ e) × (r.next ≡ next)
GivesExpr e next (Err fault.Memory) = Unit {0}
GivesExpr e next (Err (fault.Prelude at)) = ⊥
GivesExpr e next (Err (fault.Syntax at)) = ⊥
GivesExpr e next (Err (fault.Deep at)) = ⊥

-- the answer is this fault, unless memory was refused
abbrev pub GivesExprFault : BoogieFault → Result ReadExpr BoogieFault → Type 0
GivesExprFault f (Ok r) = ⊥
GivesExprFault f (Err e) = (e ≡ f) ⊎ (e ≡ fault.Memory)
