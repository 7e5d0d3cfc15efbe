-- What pieces build, one after the other: the statements of a block so far, and each `if` that stands around it. A block that ends
-- becomes part of a statement of the block around.
use Rattle.std.specs.Prelude.{List, [], ◌∷◌, Option, Some, None, map, reverse}
use Rattle.std.specs.declared.alloc.Global.{Global}
use Rattle.std.specs.declared.boxed.Box.{Box}
use Rattle.boogie_print.specs.Pieces as piece
use Rattle.boogie_print.specs.Pieces.{Piece}
use Rattle.boogie_tree.specs.Expr as t
use Rattle.boogie_tree.specs.Stmt as s
use Rattle.boogie_tree.specs.Stmt.{BStmts}
use Rattle.boogie_tree.specs.Whole.{expr_of, stmts_of}
use Rattle.boogie_tree.specs.declared.exprs.BExpr.{BExpr}
use Rattle.boogie_tree.specs.declared.stmts.BStmt as declared
use Rattle.enc_expr.specs.Code.{join}
use Rattle.enc_expr.specs.Pieces.{one}
use Rattle.enc_stmt.specs.declared.building.Branch.{Branch}

-- an `if` of which a block is open: its condition, which is none for `*`, the statements before it, and its first block, if it is the
-- second that is open
pub record Around : Type 0 where
  pub condition : Option t.BExpr
  pub before : BStmts
  pub first : BStmts

-- the statements of the innermost block, and the `if`s around it from the inside out
pub record Built : Type 0 where
  pub block : BStmts
  pub around : List Around

-- an `if` of this condition, or of `*` where there is none
abbrev pub if_code : Option t.BExpr → BStmts → BStmts → s.BStmt
if_code None xs ys = s.Either xs ys
if_code (Some c) xs ys = s.If c xs ys

abbrev pub opened : Option t.BExpr → Built → Built
opened c x = record { block = s.skip; around = record { condition = c; before = x.block; first = s.skip } ∷ x.around }

-- behind the first block, and behind the second; where no `if` is open nothing happens
abbrev pub turned : BStmts → List Around → Built
turned xs [] = record { block = xs; around = [] }
turned xs (o ∷ os) = record { block = s.skip; around = record { condition = o.condition; before = o.before; first = xs } ∷ os }

abbrev pub closed : BStmts → List Around → Built
closed xs [] = record { block = xs; around = [] }
closed xs (o ∷ os) = record { block = join o.before (one (if_code o.condition o.first xs)); around = os }

-- one more piece
abbrev pub with_piece : Piece → Built → Built
with_piece (piece.Code xs) x = record { block = join x.block xs; around = x.around }
with_piece (piece.If c) x = opened (Some c) x
with_piece piece.Either x = opened None x
with_piece piece.Else x = turned x.block x.around
with_piece piece.End x = closed x.block x.around

abbrev pub with_pieces : List Piece → Built → Built
with_pieces [] x = x
with_pieces (p ∷ ps) x = with_pieces ps (with_piece p x)

-- ---- what contracts see of it

abbrev pub condition_of : Option (Box BExpr Global) → Option t.BExpr
condition_of None = None
condition_of (Some c) = Some (expr_of c.value)

abbrev pub branch_of : Branch → Around
branch_of x = record { condition = condition_of x.condition; before = stmts_of x.before.items; first = stmts_of x.first.items }

-- the innermost one stands last
abbrev pub around_of : List Branch → List Around
around_of xs = reverse (map branch_of xs)

abbrev pub built_of : List Branch → List declared.BStmt → Built
built_of branches block = record { block = stmts_of block; around = around_of branches }
