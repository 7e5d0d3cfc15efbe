-- What contracts of the reader of expressions see.
use Rattle.std.specs.Prelude.{◌≡◌, ◌++◌, ◌-◌, ◌≤◌, List, [], ◌∷◌, Option, Some, None, map, length, Result, Ok, Err}
use Rattle.std.specs.Borrow.{Bor}
use Rattle.std.specs.Option.{option_map}
use Rattle.std.specs.declared.alloc.Global.{Global}
use Rattle.std.specs.declared.boxed.Box.{Box}
use Rattle.grammar.specs.declared.stop.Stop.{Stop}
use Rattle.grammar.specs.declared.stop.Stop.TheVariants as stop
use Rattle.boogie_tree.specs.Expr as t
use Rattle.boogie_tree.specs.declared.exprs.BExpr.{BExpr}
use Rattle.boogie_grammar.specs.declared.tokens.PlacedLexeme.{PlacedLexeme}
use Rattle.boogie_grammar.specs.Grammar.{ExprScope}
use Rattle.boogie_grammar.specs.ReadView.{boxed_of}
use Rattle.boogie_text.specs.ReadExpr.{BeginsExpr, BeginsNone}

-- no token is next
pub data NoToken : List (Option PlacedLexeme) → Type 0 where
  ended : NoToken []
  broken : {os : List (Option PlacedLexeme)} → NoToken (None ∷ os)

-- up to the first that is none, the tokens are these
pub record IsFront (os : List (Option PlacedLexeme)) (ts : List PlacedLexeme) : Type 0 where
  pub rest : List (Option PlacedLexeme)
  pub whole : os ≡ map Some ts ++ rest
  pub ends : NoToken rest

-- what these tokens begin with, where no token comes behind them, from what is read and what is left
abbrev pub ReadsAlone : ExprScope → List PlacedLexeme → Result (Box BExpr Global × Bor (List PlacedLexeme)) (Stop PlacedLexeme) → Type 0
ReadsAlone x ts (Ok r) = (length r.1.now ≤ length ts) × ((os : List (Option PlacedLexeme)) → NoToken os → BeginsExpr x (map Some ts ++ os) (length ts - length r.1.now) (boxed_of r.0))
ReadsAlone x ts (Err stop.Memory) = Unit {0}
ReadsAlone x ts (Err (stop.Before r)) = (length r.now ≤ length ts) × ((os : List (Option PlacedLexeme)) → NoToken os → BeginsNone x (map Some ts ++ os) (length ts - length r.now))

-- the tree that was found
abbrev pub found_of : Option (Box BExpr Global) → Option t.BExpr
found_of o = option_map boxed_of o
